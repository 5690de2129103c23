-- The steps of sessions keep that what they have seen is in their data centre.
use Rattle.std.proofs.Common.{◌≡◌, ℕ, ◌+◌, ◌*◌, ◌<◌, Bool, true, false, cond, ◌&&◌, List, [], ◌∷◌, ◌++◌, map, ◌⊎◌, inl, inr, refl, sym, ◌∙◌, ap, subst}
use Rattle.std.specs.Prelude.{Option, Some, None, ◌==◌}
use Rattle.cops_types.specs.declared.pairs.Pair.{Pair}
use Rattle.cops_types.specs.declared.records.EntryParts.{EntryParts as Entry}
use Rattle.cops_types.specs.declared.records.Record.{Record}
use Rattle.cops_types.specs.Context.{Observation}
use Rattle.cops_types.specs.Key.{key_eq, shard_of}
use Rattle.cops_types.specs.Pairs.{holds}
use Rattle.cops_types.specs.Records.{exact, latest, greatest_of, kept}
use Rattle.cops_types.specs.TenantConfig.{TenantConfig}
use Rattle.cops_types.specs.Version.{Timestamp}
use Rattle.cops_model.specs.declared.calls.NodeCall.TheVariants.{Get}
use Rattle.cops_model.specs.declared.calls.NodeReply.{NodeReply}
use Rattle.cops_model.specs.Place.{Place}
use Rattle.cops_model.specs.declared.calls.Wanted.{Wanted}
use Rattle.cops_model.specs.declared.calls.Wanted.TheVariants.{Latest, Exactly}
use Rattle.cops_model.specs.SoloNode.{SoloNode}
use Rattle.cops_model.specs.Step.{reply_latest, reply_exact, was_committed}
use Rattle.cops_model.specs.Carrier.{pair_of_entry}
use Rattle.cops_model.specs.Session.{Session, OpenContext, is_open, context_extended}
use Rattle.cops_model.specs.Causal.{Traced, Effect, put_by, returned_by, leads_to, past_of_put}
use Rattle.cops_model.specs.Cluster.{SoloCluster, Actor, OfSession, OfCarrier, find_session}
use Rattle.cops_causal.proofs.ActorsKeep.{actor_found, session_actor, bare}
use Rattle.cops_types.proofs.KeyTests.{key_eq-false}
use Rattle.cops_causal.proofs.Closure.{IsHere, home_in, IsFoundHere, IsAtHome, IsActorAtHome, IsClosed, PastsAreHere}
use Rattle.cops_causal.proofs.Histories.{given, past_in, in_context, past_after-push, past_of_put-push, with_pasts, past_after-within, flat_map-Among}
use Rattle.cops_types.proofs.Elements.{Among, Among-cases, map-Among, Among-map}
use Rattle.cops_node.proofs.NodeTurns.{entries, Change, IsRefused, Answers, Joined, Taken, IsReply}
use Rattle.cops_causal.proofs.NodeEffects.{node_of}
use Rattle.cops_types.proofs.PairSets.{at, holds-Among}
use Rattle.cops_causal.proofs.Provenance.{IsNew, past_in-other}
use Rattle.cops_causal.proofs.TracedCalls.{exact-is}
use Rattle.cops_causal.proofs.TracedSteps.{context_of}
use Rattle.std.proofs.Math.Nat.{mod-lt}
use Rattle.std.specs.Prelude.{sum}
use Rattle.cops_causal.proofs.ActorMoves.{Leaves}
use Rattle.cops_causal.proofs.RequestSteps.{joining, none_runs}

-- the contexts of a session after a step have the numbers of those before
abbrev pub HasNumbersOf : Session → Session → Type 0
HasNumbersOf after before = (x : OpenContext) → Among x after.contexts → (y : OpenContext) × Among y before.contexts × (y.number ≡ x.number)

pub numbers-extended : (number : ℕ) (more : List Observation) (contexts : List OpenContext) (x : OpenContext) → Among x (context_extended number more contexts) → (y : OpenContext) × Among y contexts × (y.number ≡ x.number)
numbers-extended number more contexts x at =
    let found = map-Among (λ (c : OpenContext). cond (c.number == number) (record { number = c.number; obs = c.obs ++ more }) c) x contexts at in
    (found.0, found.1, same (found.0.number == number) found.0 ∙ ap (λ (c : OpenContext). c.number) found.2)
  where
    same : (b : Bool) (c : OpenContext) → c.number ≡ (cond b (record { number = c.number; obs = c.obs ++ more }) c).number
    same true c = refl
    same false c = refl

-- what a session of the cluster has seen is in its data centre
pub mine : (config : TenantConfig) (c : SoloCluster) (ts : List Traced) → IsClosed config c ts → (name : List ℕ) (s : Session) → find_session name c ≡ Some s → IsAtHome config (bare c.nodes) ts name s
mine config c ts closed name s found = actor_found (IsActorAtHome config c.nodes ts) c name (OfSession s) closed.actors (session_actor c name s found)

module _ (config : TenantConfig) (some : 0 < config.shards) (c : SoloCluster) (ts : List Traced) (pasts : PastsAreHere config c.nodes ts) (name : List ℕ) (s : Session) (home : IsAtHome config (bare c.nodes) ts name s) where
  -- an operation of the session joins the history
  module _ (context : ℕ) (effect : Effect) (opened : is_open context s ≡ true)
      (puts_here : (p : Pair) → Among p (put_by effect) → IsHere config c s.dc p) (reads_here : (p : Pair) → Among p (returned_by effect) → IsHere config c s.dc p)
      (puts_home : (dc shard : ℕ) → shard < config.shards → (e : Entry) → Among e (entries (node_of config c (dc * config.shards + shard))) → Among (pair_of_entry e) (put_by effect) → dc ≡ s.dc) where
    abbrev t : Traced
    t = joining ts name context effect

    past-at_home : (q : Pair) → Among q t.past → IsHere config c s.dc q
    past-at_home q at_q =
        elim (Among-cases q (past_in ts name context) (with_pasts ts (returned_by effect)) (past_after-within ts name context effect q at_q)) [
          | inl before ↦ let x = context_of s context opened in home.contexts_here x.0 x.1 q (subst (λ n. Among q (past_in ts name n)) (sym x.2) before)
          | inr read ↦
              let by = flat_map-Among (λ p. p ∷ past_of_put ts p) (returned_by effect) q read in
              elim by.2 [
                | inl same ↦ subst (IsHere config c s.dc) same (reads_here by.0 by.1)
                | inr older ↦
                    let there = map-Among pair_of_entry by.0 (entries (node_of config c (home_in config s.dc by.0.key))) (reads_here by.0 by.1) in
                    pasts s.dc (shard_of by.0.key config.shards) (mod-lt (sum by.0.key) some) there.0 there.1 q (subst (λ p. Among q (past_of_put ts p)) (sym there.2) older)
              ]
        ]

    -- what it put and returned being here, so is its past, and what its session has seen then
    pub operation_home : IsNew ts t → (next : Session) → next.dc ≡ s.dc → HasNumbersOf next s → next.running ≡ None → Leaves config (PastsAreHere config) (IsActorAtHome config) c.nodes ts name next (ts ++ t ∷ [])
    operation_home new next same_dc numbers idle =
        record {
          nodes_are = λ old dc shard in_shards e at_e q past.
              old_or_new dc shard in_shards e at_e q (Among-cases q (past_of_put ts (pair_of_entry e)) (cond (holds (put_by effect) (pair_of_entry e)) t.past []) (subst (Among q) (past_of_put-push ts t (pair_of_entry e)) past));
          others_are = other_here;
          session_is = record { contexts_here = mine_here; replies_here = none_runs _ next.running idle };
        }
      where
        by_put : (b : Bool) (dc shard : ℕ) → shard < config.shards → (e : Entry) → Among e (entries (node_of config c (dc * config.shards + shard))) → holds (put_by effect) (pair_of_entry e) ≡ b → (q : Pair) → Among q (cond b t.past []) → IsHere config c dc q
        by_put true dc shard in_shards e at_e is q past = subst (λ d. IsHere config c d q) (sym (puts_home dc shard in_shards e at_e (holds-Among (put_by effect) (pair_of_entry e) is))) (past-at_home q past)
        by_put false dc shard in_shards e at_e is q past = absurd past

        old_or_new : (dc shard : ℕ) → shard < config.shards → (e : Entry) → Among e (entries (node_of config c (dc * config.shards + shard))) → (q : Pair) →
            Among q (past_of_put ts (pair_of_entry e)) ⊎ Among q (cond (holds (put_by effect) (pair_of_entry e)) t.past []) → IsHere config c dc q
        old_or_new dc shard in_shards e at_e q (inl old) = pasts dc shard in_shards e at_e q old
        old_or_new dc shard in_shards e at_e q (inr now) = by_put (holds (put_by effect) (pair_of_entry e)) dc shard in_shards e at_e refl q now

        by_lead : (b : Bool) (q : Pair) → Among q (cond b (given t) []) → IsHere config c s.dc q
        by_lead true q at_q = elim (Among-cases q (put_by effect) t.past at_q) [ inl put ↦ puts_here q put | inr past ↦ past-at_home q past ]
        by_lead false q at_q = absurd at_q

        mine_here : (x : OpenContext) → Among x next.contexts → (q : Pair) → Among q (past_in (ts ++ t ∷ []) name x.number) → IsHere config c next.dc q
        mine_here x among q at_q =
            let y = numbers x among in
            subst (λ d. IsHere config c d q) (sym same_dc)
            (elim (Among-cases q (past_in ts name x.number) (cond (leads_to t.operation (in_context name x.number)) (given t) []) (subst (Among q) (past_after-push ts t (in_context name x.number)) at_q)) [
              | inl old ↦ home.contexts_here y.0 y.1 q (subst (λ n. Among q (past_in ts name n)) (sym y.2) old)
              | inr now ↦ by_lead (leads_to t.operation (in_context name x.number)) q now
            ])

        other_here : (other : List ℕ) (a : Actor) → key_eq other name ≡ false → IsActorAtHome config c.nodes ts other a → IsActorAtHome config c.nodes (ts ++ t ∷ []) other a
        other_here other (OfSession r) apart p =
            record {
              contexts_here = λ x among q at_q. p.contexts_here x among q (subst (Among q) (past_in-other ts t new other x.number (ap (λ b. b && context == x.number) (key_eq-false other name apart))) at_q);
              replies_here = p.replies_here;
            }
        other_here other (OfCarrier k) apart p = tt

-- ---- what a transaction finds is in its data centre

module _ (config : TenantConfig) (c : SoloCluster) (dc : ℕ) (key : List ℕ) (solo : SoloNode) (is_home : solo ≡ node_of config c (home_in config dc key)) where
  record_here : (r : Record) (version : Timestamp) → exact key version solo.recs ≡ Some r → IsHere config c dc (at key r.entry.version)
  record_here r version e =
      let is = exact-is key version solo r e in
      let pair_is : pair_of_entry r.entry ≡ at key r.entry.version = λ i. record { key = is.1 i; version = r.entry.version } in
      subst (λ n. Among (at key r.entry.version) (map pair_of_entry (entries n))) is_home
      (subst (λ p. Among p (map pair_of_entry (entries solo))) pair_is (Among-map pair_of_entry r.entry (entries solo) is.0))

  latest_here : (wanted : Wanted) (o : Option Record) → latest key solo.recs ≡ o → IsFoundHere config c dc (record { key = key; wanted = wanted }) (reply_latest o)
  latest_here wanted (Some r) is = record_here r (greatest_of key (kept solo.recs)) is
  latest_here wanted None is = tt

  exact_here : (wanted : Wanted) (version : Timestamp) (now : ℕ) (was : Bool) (o : Option Record) → exact key version solo.recs ≡ o → IsFoundHere config c dc (record { key = key; wanted = wanted }) (reply_exact now was o)
  exact_here wanted version now was (Some r) is = record_here r version is
  exact_here wanted version now true None is = tt
  exact_here wanted version now false None is = tt

  reply_here : (place : Place) (wanted : Wanted) (reply : NodeReply) → IsReply place (Get key wanted) solo reply → IsFoundHere config c dc (record { key = key; wanted = wanted }) reply
  reply_here place Latest reply is = subst (IsFoundHere config c dc (record { key = key; wanted = Latest })) (sym is) (latest_here Latest (latest key solo.recs) refl)
  reply_here place (Exactly version) reply is =
      subst (IsFoundHere config c dc (record { key = key; wanted = Exactly version })) (sym is.1) (exact_here (Exactly version) version is.0 (was_committed version solo) (exact key version solo.recs) refl)

  pub get_here : (place : Place) (wanted : Wanted) (reply : NodeReply) (after : SoloNode) → Change place (Get key wanted) solo reply after → IsFoundHere config c dc (record { key = key; wanted = wanted }) reply
  get_here place wanted reply after (IsRefused same acked is) = subst (IsFoundHere config c dc (record { key = key; wanted = wanted })) (sym is.1) tt
  get_here place wanted reply after (Answers same acked is) = reply_here place wanted reply is
  get_here place wanted reply after (Joined e more acked is) = absurd is
  get_here place wanted reply after (Taken same is) = absurd is
