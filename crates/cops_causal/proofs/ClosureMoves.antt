-- The calls of carriers and the collections keep that with each record its past is in the data centre.
use Rattle.std.proofs.Common.{◌≡◌, ℕ, ◌+◌, ◌*◌, ◌<◌, ◌/◌, true, List, [], ◌∷◌, ◌++◌, map, ◌⊎◌, inl, inr, sym, ◌∙◌, ap, subst}
use Rattle.std.specs.List.{AllByRecursion}
use Rattle.std.proofs.lemmas.Bool.Decides.{eqb_tells}
use Rattle.std.proofs.lemmas.List.{map-append}
use Rattle.std.proofs.lemmas.Nat.{div-mul-add}
use Rattle.cops_types.specs.declared.pairs.Pair.{Pair}
use Rattle.cops_types.specs.declared.records.EntryParts.{EntryParts as Entry}
use Rattle.cops_types.specs.Key.{shard_of}
use Rattle.cops_types.specs.TenantConfig.{TenantConfig}
use Rattle.cops_model.specs.declared.calls.NodeCall.{NodeCall}
use Rattle.cops_model.specs.declared.calls.NodeId.{NodeId}
use Rattle.cops_model.specs.declared.calls.NodeReply.{NodeReply}
use Rattle.cops_model.specs.declared.calls.NodeReply.TheVariants.{Found, Checked}
use Rattle.cops_model.specs.Log.{LogStep}
use Rattle.cops_model.specs.Place.{node_number, place_of}
use Rattle.cops_model.specs.Carrier.{pair_of_entry, Stream, check}
use Rattle.cops_model.specs.Request.{Action, Write, Fetch}
use Rattle.cops_model.specs.Transaction.{ReadRequest, gets}
use Rattle.cops_model.specs.Causal.{Traced, past_of_put}
use Rattle.cops_model.specs.Cluster.{SoloCluster, Actor, OfSession, OfCarrier}
use Rattle.cops_causal.proofs.Closure.{IsHere, IsFoundHere, RepliesAreHere, IsActorAtHome, IsClosed, past-here, PastsAreHere}
use Rattle.cops_types.proofs.Elements.{Among, Among-left, Among-cases, Every-at}
use Rattle.cops_node.proofs.NodeTurns.{entries, Change, IsRefused, Answers, Joined, Taken, Stores}
use Rattle.cops_causal.proofs.NodeEffects.{node_of, Called, entries_grow}
use Rattle.cops_causal.proofs.Provenance.{IsTraced, IsPutEntry}
use Rattle.cops_session.proofs.RequestReplies.{replies_in}
use Rattle.cops_types.proofs.Zipped.{Zipped}
use Rattle.cops_causal.proofs.StreamNodes.{IsStreamed}
use Rattle.cops_causal.proofs.Streams.{Delivered}

-- ---- more entries take nothing away

module _ (config : TenantConfig) (c after : SoloCluster) (grows : (n : ℕ) → (more : List Entry) × (entries (node_of config after n) ≡ entries (node_of config c n) ++ more)) where
  pub here-grown : (dc : ℕ) (q : Pair) → IsHere config c dc q → IsHere config after dc q
  here-grown dc q at =
      let n = dc * config.shards + shard_of q.key config.shards in
      let grown = grows n in
      subst (Among q) (sym (ap (map pair_of_entry) grown.1 ∙ map-append pair_of_entry (entries (node_of config c n)) grown.0)) (Among-left q (map pair_of_entry (entries (node_of config c n))) (map pair_of_entry grown.0) at)

  pub found-grown : (dc : ℕ) (a : ReadRequest) (reply : NodeReply) → IsFoundHere config c dc a reply → IsFoundHere config after dc a reply
  found-grown dc a (Found f) is = here-grown dc (record { key = a.key; version = f.version }) is
  found-grown dc a reply is = tt

  zipped-grown : (dc : ℕ) (asked : List ReadRequest) (rs : List NodeReply) → Zipped (IsFoundHere config c dc) asked rs → Zipped (IsFoundHere config after dc) asked rs
  zipped-grown dc [] rs z = tt
  zipped-grown dc (a ∷ asked) [] z = tt
  zipped-grown dc (a ∷ asked) (r ∷ rs) z = (found-grown dc a r z.0, zipped-grown dc asked rs z.1)

  replies-grown : (dc : ℕ) (action : Action) (log : List LogStep) → RepliesAreHere config c dc action log → RepliesAreHere config after dc action log
  replies-grown dc (Write key value) log are = tt
  replies-grown dc (Fetch keys) log are = zipped-grown dc (gets keys (replies_in keys log)) (replies_in keys log) are

  pub at_home-grown : (ts : List Traced) (name : List ℕ) (a : Actor) → IsActorAtHome config c.nodes ts name a → IsActorAtHome config after.nodes ts name a
  at_home-grown ts name (OfSession s) is =
      record {
        contexts_here = λ x among q at. here-grown s.dc q (is.contexts_here x among q at);
        replies_here = λ running runs. replies-grown s.dc running.action running.log (is.replies_here running runs);
      }
  at_home-grown ts name (OfCarrier k) is = tt

-- ---- one call

module _ {config : TenantConfig} {c after : SoloCluster} {id : NodeId} {call : NodeCall} {reply : NodeReply} (called : Called config c id call reply after) where
  -- an entry of a node was there before, or is the one that the call stored
  pub entry_cases : (n : ℕ) (e : Entry) → Among e (entries (node_of config after n)) →
      Among e (entries (node_of config c n)) ⊎ ((n ≡ node_number config.shards id) × Stores (place_of config id) call (node_of config c (node_number config.shards id)) reply e)
  entry_cases n e at =
      elim (eqb_tells n (node_number config.shards id)) [
        | inr other ↦ inl (subst (λ solo. Among e (entries solo)) (called.others n other.1) at)
        | inl here ↦ by_change here.1 called.change (subst (λ m. Among e (entries (node_of config after m))) here.1 at)
      ]
    where
      number : ℕ
      number = node_number config.shards id

      before : n ≡ number → Among e (entries (node_of config c number)) → Among e (entries (node_of config c n)) ⊎ ((n ≡ number) × Stores (place_of config id) call (node_of config c number) reply e)
      before same at = inl (subst (λ m. Among e (entries (node_of config c m))) (sym same) at)

      by_change : n ≡ number → Change (place_of config id) call (node_of config c number) reply (node_of config after number) → Among e (entries (node_of config after number)) →
          Among e (entries (node_of config c n)) ⊎ ((n ≡ number) × Stores (place_of config id) call (node_of config c number) reply e)
      by_change here (IsRefused same acked is) at = before here (subst (Among e) same at)
      by_change here (Answers same acked is) at = before here (subst (Among e) same at)
      by_change here (Joined f more acked is) at =
          elim (Among-cases e (entries (node_of config c number)) (f ∷ []) (subst (Among e) more at)) [
            | inl old ↦ before here old
            | inr now ↦ elim now [ inl same ↦ inr (here, subst (Stores (place_of config id) call (node_of config c number) reply) same is) | inr never ↦ absurd never ]
          ]
      by_change here (Taken same is) at = before here (subst (Among e) same at)

  -- a call keeps that pasts are here if what it stores has its past in the data centre of the node
  pub pasts_called : (ts : List Traced) → PastsAreHere config c.nodes ts → id.shard < config.shards →
      ((e : Entry) → Stores (place_of config id) call (node_of config c (node_number config.shards id)) reply e → (q : Pair) → Among q (past_of_put ts (pair_of_entry e)) → IsHere config c id.dc q) →
      PastsAreHere config after.nodes ts
  pasts_called ts pasts below stored = λ dc shard in_shards e at q past. here-grown config c after (entries_grow called) dc q (by_case dc shard in_shards e q past (entry_cases (dc * config.shards + shard) e at))
    where
      by_case : (dc shard : ℕ) → shard < config.shards → (e : Entry) (q : Pair) → Among q (past_of_put ts (pair_of_entry e)) →
          Among e (entries (node_of config c (dc * config.shards + shard))) ⊎ ((dc * config.shards + shard ≡ node_number config.shards id) × Stores (place_of config id) call (node_of config c (node_number config.shards id)) reply e) →
          IsHere config c dc q
      by_case dc shard in_shards e q past (inl old) = pasts dc shard in_shards e old q past
      by_case dc shard in_shards e q past (inr now) =
          let dcs : dc ≡ id.dc = sym (div-mul-add dc config.shards shard in_shards) ∙ ap (λ n. n / config.shards) now.0 ∙ div-mul-add id.dc config.shards id.shard below in
          subst (λ d. IsHere config c d q) (sym dcs) (stored e now.1 q past)

-- what a carrier commits has its past in the data centre to which it goes
pub committing-closed : (config : TenantConfig) (c : SoloCluster) (ts : List Traced) → IsTraced config c ts → IsStreamed config c → IsClosed config c ts → 0 < config.shards → (stream : Stream) (e : Entry) → IsPutEntry ts e →
    AllByRecursion (λ near. Delivered config c stream (check config.shards stream near) (Checked true)) e.near → (q : Pair) → Among q (past_of_put ts (pair_of_entry e)) → IsHere config c stream.to_dc q
committing-closed config c ts traced streamed closed some stream e put checks q at =
    past-here config c ts traced streamed closed some stream.to_dc e put
    (λ n among. Every-at (λ (near : Pair). Delivered config c stream (check config.shards stream near) (Checked true)) n e.near checks among) q at
