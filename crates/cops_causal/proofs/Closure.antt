-- If a record was committed, its past was: the words of that invariant, and the meaning of a carrier's checks.
use Rattle.std.proofs.Common.{◌≡◌, ℕ, ◌+◌, ◌*◌, ◌<◌, ◌≤◌, true, List, [], ◌∷◌, ◌++◌, map, length, ◌⊎◌, inl, inr, sym, ◌∙◌, ap, subst, arith, true≢false}
use Rattle.std.specs.Prelude.{Some, zero, suc, slice_get, ◌==◌, sum}
use Rattle.std.proofs.lemmas.Bool.Decides.{leb_tells}
use Rattle.std.proofs.Math.Nat.{mod-lt}
use Rattle.cops_types.specs.declared.pairs.Pair.{Pair}
use Rattle.cops_types.specs.declared.records.EntryParts.{EntryParts as Entry}
use Rattle.cops_types.specs.Key.{shard_of}
use Rattle.cops_types.specs.TenantConfig.{TenantConfig}
use Rattle.cops_types.specs.Version.{Timestamp, no_version, version_le, version_lt}
use Rattle.cops_types.proofs.VersionOrder.{version_lt-irrefl, version_le-lt_trans}
use Rattle.cops_model.specs.declared.calls.NodeReply.{NodeReply}
use Rattle.cops_model.specs.declared.calls.NodeReply.TheVariants.{Found}
use Rattle.cops_model.specs.Log.{LogStep}
use Rattle.cops_model.specs.Step.{was_committed}
use Rattle.cops_model.specs.Carrier.{pair_of_entry}
use Rattle.cops_model.specs.Request.{Action, Write, Fetch}
use Rattle.cops_model.specs.Session.{Session, Running, OpenContext}
use Rattle.cops_model.specs.Transaction.{ReadRequest, gets}
use Rattle.cops_model.specs.Causal.{Traced, put_by, past_of_put}
use Rattle.cops_model.specs.Cluster.{SoloCluster, Actor, OfSession, OfCarrier}
use Rattle.cops_node.proofs.Chains.{IsChain, last_version, chain-above, chain-greatest, chain-left, mark-is, IsFront, front-get}
use Rattle.cops_types.proofs.Elements.{slice_get-Among, Among, Among-filter, Among-map, map-Among}
use Rattle.cops_causal.proofs.Convergence.{Among-place, in_held}
use Rattle.cops_causal.proofs.Histories.{puts_of, past_in, past_of_put-Among, Among-flat_map}
use Rattle.cops_node.proofs.NodeTurns.{entries}
use Rattle.cops_causal.proofs.NodeEffects.{node_of}
use Rattle.cops_types.proofs.PairSets.{at, holds-Among}
use Rattle.cops_causal.proofs.Provenance.{IsTraced, IsPutEntry}
use Rattle.cops_session.proofs.RequestReplies.{replies_in}
use Rattle.cops_types.proofs.Zipped.{Zipped}
use Rattle.cops_causal.proofs.StreamNodes.{held, IsStreamed}
use Rattle.cops_model.specs.SoloNode.{SoloNode}
use Rattle.cops_causal.proofs.ActorsKeep.{Stands, bare}

-- the node of a data centre on which a key is placed
abbrev pub home_in : TenantConfig → ℕ → List ℕ → ℕ
home_in config dc key = dc * config.shards + shard_of key config.shards

-- the pair was committed in the data centre
abbrev pub IsHere : TenantConfig → SoloCluster → ℕ → Pair → Type 0
IsHere config c dc pair = Among pair (map pair_of_entry (entries (node_of config c (home_in config dc pair.key))))

-- what a transaction found is in its data centre
abbrev pub IsFoundHere : TenantConfig → SoloCluster → ℕ → ReadRequest → NodeReply → Type 0
IsFoundHere config c dc q (Found f) = IsHere config c dc (at q.key f.version)
IsFoundHere config c dc q reply = Unit {0}

abbrev pub RepliesAreHere : TenantConfig → SoloCluster → ℕ → Action → List LogStep → Type 0
RepliesAreHere config c dc (Write key value) log = Unit {0}
RepliesAreHere config c dc (Fetch keys) log = Zipped (IsFoundHere config c dc) (gets keys (replies_in keys log)) (replies_in keys log)

-- what a session's contexts and its transaction have seen is in its data centre
pub record IsAtHome (config : TenantConfig) (c : SoloCluster) (ts : List Traced) (name : List ℕ) (s : Session) : Type 0 where
  pub contexts_here : (x : OpenContext) → Among x s.contexts → (q : Pair) → Among q (past_in ts name x.number) → IsHere config c s.dc q
  pub replies_here : (running : Running) → s.running ≡ Some running → RepliesAreHere config c s.dc running.action running.log

abbrev pub IsActorAtHome : TenantConfig → List SoloNode → List Traced → List ℕ → Actor → Type 0
IsActorAtHome config nodes ts name (OfSession s) = IsAtHome config (bare nodes) ts name s
IsActorAtHome config nodes ts name (OfCarrier k) = Unit {0}

-- with each record its past is in the data centre
abbrev pub PastsAreHere : TenantConfig → List SoloNode → List Traced → Type 0
PastsAreHere config nodes ts =
    (dc shard : ℕ) → shard < config.shards → (e : Entry) → Among e (entries (node_of config (bare nodes) (dc * config.shards + shard))) → (q : Pair) → Among q (past_of_put ts (pair_of_entry e)) → IsHere config (bare nodes) dc q

-- the invariant: so it is, and with each session what it has seen
abbrev pub IsClosed : TenantConfig → SoloCluster → List Traced → Type 0
IsClosed config = Stands (PastsAreHere config) (IsActorAtHome config)

-- ---- a check that was answered by yes

chain-rest : (last : Timestamp) (es rest : List Entry) → IsChain last (es ++ rest) → IsChain (last_version last es) rest
chain-rest last [] rest chain = chain
chain-rest last (e ∷ es) rest chain = chain-rest e.version es rest chain.2

get-right : (front rest : List Entry) (i : ℕ) (e : Entry) → slice_get (front ++ rest) i ≡ Some e → length front ≤ i → (j : ℕ) × (slice_get rest j ≡ Some e)
get-right [] rest i e there past = (i, there)
get-right (f ∷ front) rest zero e there past = absurd (omega arith)
get-right (f ∷ front) rest (suc i) e there past = get-right front rest i e there (omega arith)

module _ (config : TenantConfig) (c : SoloCluster) (ts : List Traced) (traced : IsTraced config c ts) (streamed : IsStreamed config c) where
  -- a put version that the mark of its origin has reached was committed at the node
  pub committed-here : (n : ℕ) (p : Pair) → Among p (puts_of ts) → was_committed p.version (node_of config c n) ≡ true → Among p (map pair_of_entry (entries (node_of config c n)))
  committed-here n p put was = by_place (elim (leb_tells (length (held config c n m)) place.0) [ inl past ↦ inl past.1 | inr within ↦ inr within.1 ])
    where
      m : ℕ
      m = p.version.node

      from : (e : Entry) × Among e (entries (node_of config c m)) × (pair_of_entry e ≡ p)
      from = map-Among pair_of_entry p (entries (node_of config c m)) (traced.puts_are p put)

      version-is : from.0.version ≡ p.version
      version-is = ap (λ (q : Pair). q.version) from.2

      place : (i : ℕ) × (slice_get (held config c m m) i ≡ Some from.0)
      place = Among-place (held config c m m) from.0 (subst (λ k. Among from.0 (held config c m k)) (ap (λ (v : Timestamp). v.node) version-is) (in_held (node_of config c m) from.0 from.1))

      front : IsFront (held config c n m) (held config c m m)
      front = streamed.fronts n m

      whole : IsChain no_version (held config c n m ++ front.rest)
      whole = subst (IsChain no_version) front.whole_is (streamed.chained m)

      by_place : (length (held config c n m) ≤ place.0) ⊎ (place.0 < length (held config c n m)) → Among p (map pair_of_entry (entries (node_of config c n)))
      by_place (inr within) =
          let there = slice_get-Among (held config c n m) place.0 from.0 (front-get (held config c n m) (held config c m m) place.0 from.0 front place.1 within) in
          subst (λ q. Among q (map pair_of_entry (entries (node_of config c n)))) from.2
          (Among-map pair_of_entry from.0 (entries (node_of config c n)) (Among-filter (λ (e : Entry). e.version.node == m) from.0 (entries (node_of config c n)) there).0)
      by_place (inl past) =
          let last = last_version no_version (held config c n m) in
          let rest = get-right (held config c n m) front.rest place.0 from.0 (subst (λ es. slice_get es place.0 ≡ Some from.0) front.whole_is place.1) past in
          let above = chain-above last front.rest rest.0 from.0 (chain-rest no_version (held config c n m) front.rest whole) rest.1 in
          let below : version_le p.version last ≡ true = ap (version_le p.version) (sym (mark-is m (node_of config c n) ∙ chain-greatest (held config c n m) (chain-left no_version (held config c n m) front.rest whole))) ∙ was in
          absurd (true≢false (sym (version_le-lt_trans p.version last p.version below (ap (version_lt last) (sym version-is) ∙ above)) ∙ version_lt-irrefl p.version))

  -- if all near pairs of an entry were committed, all of its past was
  pub past-here : IsClosed config c ts → 0 < config.shards → (dc : ℕ) (e : Entry) → IsPutEntry ts e → ((n : Pair) → Among n e.near → was_committed n.version (node_of config c (home_in config dc n.key)) ≡ true) →
      (q : Pair) → Among q (past_of_put ts (pair_of_entry e)) → IsHere config c dc q
  past-here closed some dc e is checked q at_q =
      let cover = is.covered q at_q in
      let n = cover.0 in
      elim cover.2 [
        | inl same ↦
            let by = past_of_put-Among ts (pair_of_entry e) q at_q in
            let put = traced.history.pasts_put by.0 by.1 q by.3 in
            committed-here (home_in config dc q.key) q put (subst (λ p. was_committed p.version (node_of config c (home_in config dc p.key)) ≡ true) same (checked n cover.1))
        | inr before ↦
            let by = past_of_put-Among ts n q before in
            let put = Among-flat_map (λ (t : Traced). put_by t.operation.effect) ts n by.0 by.1 (holds-Among (put_by by.0.operation.effect) n by.2) in
            let there = map-Among pair_of_entry n (entries (node_of config c (home_in config dc n.key))) (committed-here (home_in config dc n.key) n put (checked n cover.1)) in
            closed.nodes dc (shard_of n.key config.shards) (mod-lt (sum n.key) some) there.0 there.1 q (subst (λ p. Among q (past_of_put ts p)) (sym there.2) before)
      ]
