-- The steps of a session's request leave what it has seen in its data centre.
use Rattle.std.proofs.Common.{◌≡◌, ℕ, ◌+◌, ◌*◌, ◌/◌, ◌<◌, true, cond, List, [], ◌∷◌, ◌++◌, map, ◌⊎◌, inl, inr, refl, sym, ◌∙◌, ap, subst}
use Rattle.std.specs.Prelude.{Option, Some, None, is_some}
use Rattle.std.specs.List.{AllByRecursion}
use Rattle.std.proofs.lemmas.Nat.{div-mul-add}
use Rattle.std.proofs.Math.Nat.{mod-lt}
use Rattle.std.specs.Prelude.{sum}
use Rattle.cops_types.specs.declared.contexts.ReadParts.{ReadParts as Read}
use Rattle.cops_types.specs.declared.pairs.Pair.{Pair}
use Rattle.cops_types.specs.declared.records.EntryParts.{EntryParts as Entry}
use Rattle.cops_types.specs.Context.{Put as PutPair, all_of, observations_of}
use Rattle.cops_types.specs.TenantConfig.{TenantConfig}
use Rattle.cops_types.specs.Version.{Timestamp}
use Rattle.cops_model.specs.declared.calls.NodeId.{NodeId}
use Rattle.cops_model.specs.declared.calls.NodeReply.{NodeReply}
use Rattle.cops_model.specs.declared.calls.NodeReply.TheVariants.{Found}
use Rattle.cops_model.specs.Log.{LogStep, Replied}
use Rattle.cops_model.specs.Place.{node_number, place_of}
use Rattle.cops_model.specs.SoloNode.{SoloNode}
use Rattle.cops_model.specs.Carrier.{pair_of_entry}
use Rattle.cops_model.specs.declared.requests.Answer.TheVariants as answer_is
use Rattle.cops_model.specs.declared.requests.Progress.TheVariants as session_progress
use Rattle.cops_model.specs.Request.{Fetch, Write, key_home}
use Rattle.cops_model.specs.Session.{Session, Running, is_open, obs_of, session_after, context_extended}
use Rattle.cops_model.specs.Transaction.{ReadRequest, gets, read_of}
use Rattle.cops_model.specs.Causal.{Traced, Wrote, Returned, returned_by}
use Rattle.cops_model.specs.Cluster.{SoloCluster}
use Rattle.cops_causal.proofs.Closure.{IsHere, IsFoundHere, RepliesAreHere, IsActorAtHome, IsAtHome, PastsAreHere}
use Rattle.cops_causal.proofs.ClosureMoves.{entry_cases}
use Rattle.cops_causal.proofs.ClosureSteps.{operation_home, numbers-extended}
use Rattle.cops_causal.proofs.Histories.{pair_read, puts_of, past_in, flat_map-Among}
use Rattle.cops_types.proofs.Elements.{Among, Among-right, Every-at, Among-map}
use Rattle.cops_node.proofs.NodeTurns.{entries, Stores}
use Rattle.cops_causal.proofs.NodeEffects.{node_of, Called}
use Rattle.cops_types.proofs.PairSets.{at}
use Rattle.cops_causal.proofs.Provenance.{IsTraced, IsPutEntry}
use Rattle.cops_session.proofs.RequestReplies.{replies_in}
use Rattle.cops_types.proofs.Zipped.{Zipped}
use Rattle.cops_session.proofs.ReplyRounds.{Every-final_reads}
use Rattle.cops_causal.proofs.TracedCalls.{unput}
use Rattle.cops_causal.proofs.RequestSteps.{StepLeaves, get_leaves, joining, none_runs, only_runs, put_leaves, put_sent, run}
use Rattle.cops_causal.proofs.ActorMoves.{Leaves, as_before}
use Rattle.cops_causal.proofs.ActorsKeep.{bare}

-- what was read is in the data centre
abbrev IsValueHere : TenantConfig → SoloCluster → ℕ → Pair → Option (List ℕ) → Type 0
IsValueHere config c dc pair None = Unit {0}
IsValueHere config c dc pair (Some value) = IsHere config c dc pair

abbrev IsReadHere : TenantConfig → SoloCluster → ℕ → Read → Type 0
IsReadHere config c dc read = IsValueHere config c dc (at read.key read.version) read.value

module _ (config : TenantConfig) (some : 0 < config.shards) (c : SoloCluster) (ts : List Traced) (pasts : PastsAreHere config c.nodes ts) (name : List ℕ) (s : Session) (home : IsAtHome config (bare c.nodes) ts name s) where
  read_here : (q : ReadRequest) (reply : NodeReply) → IsFoundHere config c s.dc q reply → IsReadHere config c s.dc (read_of q.key reply)
  read_here q (Found f) is = is
  read_here q reply is = tt

  returned_here : (reads : List Read) → AllByRecursion (IsReadHere config c s.dc) reads → (p : Pair) → Among p (returned_by (Returned reads)) → IsHere config c s.dc p
  returned_here reads are p there =
      let by = flat_map-Among pair_read reads p there in
      by_value by.0.key by.0.version by.0.value (Every-at (IsReadHere config c s.dc) by.0 reads are by.1) by.2
    where
      by_value : (key : List ℕ) (version : Timestamp) (value : Option (List ℕ)) → IsValueHere config c s.dc (at key version) value → Among p (cond (is_some value) (at key version ∷ []) []) → IsHere config c s.dc p
      by_value key version None is there = absurd there
      by_value key version (Some value) is there = elim there [ inl same ↦ subst (IsHere config c s.dc) same is | inr never ↦ absurd never ]

  -- what is to be shown of the session after a step, and of the history then
  abbrev Leaving : Session → List Traced → Type 0
  Leaving = Leaves config (PastsAreHere config) (IsActorAtHome config) c.nodes ts name

  -- the request ends with a refusal
  refused_home : (number moment : ℕ) → Leaving (record s { moment = moment; contexts = context_extended number [] s.contexts; running = None }) ts
  refused_home number moment =
      as_before config (PastsAreHere config) (IsActorAtHome config) c.nodes ts name (record s { moment = moment; contexts = context_extended number [] s.contexts; running = None }) (record {
        contexts_here = λ x among q past. let y = numbers-extended number [] s.contexts x among in home.contexts_here y.0 y.1 q (subst (λ n. Among q (past_in ts name n)) (sym y.2) past);
        replies_here = none_runs _ None refl;
      })

  -- a step of a transaction, whose replies found what is here
  pub get_home : (number context : ℕ) (keys : List (List ℕ)) (log : List LogStep) (step : LogStep) → is_open context s ≡ true →
      (let rs = replies_in keys (log ++ step ∷ []) in Zipped (IsFoundHere config c s.dc) (gets keys rs) rs) → StepLeaves config ts name s Leaving (run number context (Fetch keys) log) step
  get_home number context keys log step opened replied =
      get_leaves config ts name s Leaving number context keys log step
      (λ open_still. as_before config (PastsAreHere config) (IsActorAtHome config) c.nodes ts name (session_after s (run number context (Fetch keys) log) step session_progress.Working) (record {
        contexts_here = home.contexts_here;
        replies_here = only_runs (λ (r : Running). RepliesAreHere config c s.dc r.action r.log) (run number context (Fetch keys) (log ++ step ∷ [])) replied;
      }))
      (λ fault. refused_home context _)
      (λ reads follows.
      let are : AllByRecursion (IsReadHere config c s.dc) reads =
      subst (AllByRecursion (IsReadHere config c s.dc)) (sym follows.0) (Every-final_reads (IsFoundHere config c s.dc) (IsReadHere config c s.dc) read_here keys (replies_in keys (log ++ step ∷ [])) follows.1 replied) in
      operation_home config some c ts pasts name s home context (Returned reads) opened (λ p there. absurd there) (returned_here reads are) (λ dc shard in_shards e at_e there. absurd there) (λ p there was. there)
      (session_after s (run number context (Fetch keys) log) step (session_progress.Done (answer_is.Values reads))) refl (λ x among. numbers-extended context (observations_of reads) s.contexts x among) refl)

-- ---- a put

module _ (config : TenantConfig) (some : 0 < config.shards) (c after : SoloCluster) (ts : List Traced) (traced : IsTraced config c ts) (name : List ℕ) (s : Session)
    (pasts : PastsAreHere config after.nodes ts) (home_is : IsAtHome config (bare after.nodes) ts name s)
    (number context : ℕ) (key value : List ℕ) (opened : is_open context s ≡ true) (moment : ℕ) (reply : NodeReply)
    (called : Called config c (put_sent config s context key value).node (put_sent config s context key value).call reply after) where
  abbrev home : NodeId
  home = key_home config s.dc key

  abbrev solo : SoloNode
  solo = node_of config c (node_number config.shards home)

  -- the step of a put, after its call
  pub put_home : StepLeaves config ts name s (Leaves config (PastsAreHere config) (IsActorAtHome config) after.nodes ts name) (run number context (Write key value) []) (record { moment = moment; outcome = Replied reply })
  put_home = put_leaves config ts name s (Leaves config (PastsAreHere config) (IsActorAtHome config) after.nodes ts name) c after number context key value moment reply called
      (λ fault is. refused_home config some after ts pasts name s home_is context _) joined
    where
      joined : (e : Entry) → entries (node_of config after (node_number config.shards home)) ≡ entries solo ++ e ∷ [] → (stores : Stores (place_of config home) (put_sent config s context key value).call solo reply e) →
          let step : LogStep = record { moment = moment; outcome = Replied reply } in
          Leaves config (PastsAreHere config) (IsActorAtHome config) after.nodes ts name (session_after s (run number context (Write key value) []) step (session_progress.Done (answer_is.Stored (at key stores.0))))
          (ts ++ joining ts name context (Wrote (at key stores.0)) ∷ [])
      joined e more stores =
          operation_home config some after ts pasts name s home_is context (Wrote pair) opened
          (λ p there. elim there [ inl same ↦ subst (IsHere config after s.dc) same pair_here | inr never ↦ absurd never ]) (λ p there. absurd there)
          (λ dc shard in_shards f at_f there. at_home dc shard in_shards f (pair_at f there) (entry_cases called (dc * config.shards + shard) f at_f))
          (λ p there was. elim there [ inl same ↦ new (subst (λ q. Among q (puts_of ts)) (sym same) was) | inr never ↦ absurd never ])
          _ refl (λ x among. numbers-extended context (PutPair pair ∷ []) s.contexts x among) refl
        where
          pair : Pair
          pair = at key stores.0

          new : Among pair (puts_of ts) → ⊥
          new = unput config c ts traced home key (all_of (obs_of context s)) stores.0 stores.2

          pair_here : IsHere config after s.dc pair
          pair_here =
              subst (λ es. Among pair (map pair_of_entry es)) (sym more)
              (subst (λ p. Among p (map pair_of_entry (entries solo ++ e ∷ []))) (ap pair_of_entry stores.3) (Among-map pair_of_entry e (entries solo ++ e ∷ []) (Among-right e (entries solo) (e ∷ []) (inl refl))))

          pair_at : (f : Entry) → Among (pair_of_entry f) (pair ∷ []) → pair_of_entry f ≡ pair
          pair_at f there = elim there [ inl same ↦ sym same | inr never ↦ absurd never ]

          at_home : (dc shard : ℕ) → shard < config.shards → (f : Entry) → pair_of_entry f ≡ pair →
              Among f (entries (node_of config c (dc * config.shards + shard))) ⊎ ((dc * config.shards + shard ≡ node_number config.shards home) × Stores (place_of config home) (put_sent config s context key value).call solo reply f) → dc ≡ s.dc
          at_home dc shard in_shards f same (inl old) =
              absurd (new (subst (λ p. Among p (puts_of ts)) same (Every-at (IsPutEntry ts) f (entries (node_of config c (dc * config.shards + shard))) (traced.entries_are (dc * config.shards + shard)) old).put.was))
          at_home dc shard in_shards f same (inr now) = sym (div-mul-add dc config.shards shard in_shards) ∙ ap (λ n. n / config.shards) now.0 ∙ div-mul-add s.dc config.shards home.shard (mod-lt (sum key) some)
