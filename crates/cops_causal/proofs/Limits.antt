-- Lists are within the limit of the tenant's lists, and transactions have at most 32 keys: each move keeps that.
use Rattle.std.proofs.Common.{◌≡◌, ℕ, ◌*◌, ◌≤◌, ◌<◌, Bool, true, false, cond, not, List, [], ◌∷◌, ◌++◌, length, inl, inr, refl, sym, ◌∙◌, ap, subst, arith, append-nil, append_assoc}
use Rattle.std.specs.Prelude.{Some, None, nat_lt, nat_le, ◌==◌, unwrap_or}
use Rattle.std.specs.Option.{option_map}
use Rattle.std.specs.List.{AllByRecursion}
use Rattle.std.proofs.lemmas.Bool.Decides.{nat_tests, eqb_tells}
use Rattle.cops_types.specs.declared.faults.Fault.TheVariants.{Syntax, Busy, NoContext, DependenciesFull, TooManyKeys, RepeatedKey, IdsSpent, Torn}
use Rattle.cops_types.specs.declared.pairs.Pair.{Pair}
use Rattle.cops_types.specs.declared.records.EntryParts.{EntryParts as Entry}
use Rattle.cops_types.specs.Context.{Observation, Put, all_of, near_of, observations_of, is_within, can_observe, can_put}
use Rattle.cops_types.specs.Pairs.{has_key}
use Rattle.cops_types.specs.TenantConfig.{TenantConfig}
use Rattle.cops_types.proofs.ContextRule.{IsDeps-all_of, all_of-push, near_of-put}
use Rattle.cops_types.proofs.Elements.{Among, Among-cases, Among-filter, Every-append, Every-at, Every-filter, and_left, and_right, or_cases, map-Among}
use Rattle.cops_types.proofs.PairSets.{at}
use Rattle.cops_model.specs.declared.calls.NodeCall.TheVariants as node_call
use Rattle.cops_model.specs.declared.calls.NodeReply.{NodeReply}
use Rattle.cops_model.specs.declared.calls.NodeReply.TheVariants as node_reply
use Rattle.cops_model.specs.Log.{LogStep, Outcome, Late, Replied, Directed, Call}
use Rattle.cops_model.specs.Place.{node_number, place_of}
use Rattle.cops_model.specs.SoloNode.{SoloNode, new_node}
use Rattle.cops_node.proofs.NodeTurns.{entries, Stores}
use Rattle.cops_model.specs.Carrier.{Stream, ack_call, check, commit_call, pull}
use Rattle.cops_repl.proofs.CarrierStages.{Stage}
use Rattle.cops_model.specs.declared.requests.Answer.{Answer}
use Rattle.cops_model.specs.declared.requests.Answer.TheVariants as answer_is
use Rattle.cops_model.specs.declared.requests.Progress.TheVariants as session_progress
use Rattle.cops_model.specs.Request.{Action, Fetch, Write, answer, next}
use Rattle.cops_model.specs.Session.{OpenContext, Running, Session, context_created, context_deleted, context_extended, get_refusal, has_repeats, is_busy, is_open, obs_of, request_begun, request_of, seen_in, session_after, session_put_refusal, is_spent}
use Rattle.cops_session.proofs.RequestReplies.{put_request, put-ends, put-late, put-refused, put-stored, get-answer}
use Rattle.cops_model.specs.Causal.{Traced}
use Rattle.cops_model.specs.Cluster.{SoloCluster, Actor, OfSession, OfCarrier, new_cluster, find_session, call_node, has_node}
use Rattle.cops_model.specs.ListLimits.{HasFewPairs}
use Rattle.cops_causal.proofs.ActorsKeep.{actor_found, session_actor, Stands, bare}
use Rattle.cops_causal.proofs.Moves.{Leads, Both, head_passes, flipped, IsStream}
use Rattle.cops_causal.proofs.NodeEffects.{node_of, call_changes, entries_keep}
use Rattle.cops_causal.proofs.Offers.{IsOffered, origin_of}
use Rattle.cops_causal.proofs.Past.{new_nodes}
use Rattle.cops_causal.proofs.Provenance.{IsRunning, IsContext, IsSession}
use Rattle.cops_causal.proofs.PutLengths.{put_within, some_pair}
use Rattle.cops_causal.proofs.Readiness.{session_ready}
use Rattle.cops_causal.proofs.Sound.{IsSound}
use Rattle.cops_causal.proofs.StreamMoves.{stage_now, stream_is}
use Rattle.cops_causal.proofs.Streams.{Delivered}
use Rattle.cops_causal.proofs.TracedIdle.{session_of}
use Rattle.cops_causal.proofs.TracedSteps.{context_of}
use Rattle.cops_causal.proofs.RequestSteps.{StepLeaves, by_call, none_runs, only_runs, run}
use Rattle.cops_causal.proofs.ActorMoves.{CallLeaves, Leaves, Moves, SessionMoves, moves_lead, plain_leaves}
use Rattle.cops_causal.proofs.StreamCalls.{by_stage, offered_among}

never_less : (n : ℕ) → nat_lt n 0 ≡ false
never_less n = grind (arith, nat_tests)

-- a put that is answered stored its key
put_key : (config : TenantConfig) (dc : ℕ) (obs : List Observation) (key value : List ℕ) (moment : ℕ) (outcome : Outcome) (pair : Pair) →
    answer config (put_request dc obs key value) (record { moment = moment; outcome = outcome } ∷ []) ≡ Some (answer_is.Stored pair) → pair.key ≡ key
put_key config dc obs key value moment (Replied reply) pair e = by_reply reply e
  where
    by_reply : (reply : NodeReply) → answer config (put_request dc obs key value) (record { moment = moment; outcome = Replied reply } ∷ []) ≡ Some (answer_is.Stored pair) → pair.key ≡ key
    by_reply (node_reply.Stored version) e =
        let both : Some (answer_is.Stored (at key version)) ≡ Some (answer_is.Stored pair) = sym (put-stored config dc obs key value moment version) ∙ e in
        let same : at key version ≡ pair = cc in
        ap (λ (p : Pair). p.key) (sym same)
    by_reply (node_reply.Refused fault) e =
        let both : Some (answer_is.Refused fault) ≡ Some (answer_is.Stored pair) = sym (put-refused config dc obs key value moment fault) ∙ e in cc
    by_reply other e =
        let is : answer config (put_request dc obs key value) (record { moment = moment; outcome = Replied other } ∷ []) ≡ Some (answer_is.Refused Torn) = rw (never_less config.restarts) refl in
        let both : Some (answer_is.Refused Torn) ≡ Some (answer_is.Stored pair) = sym is ∙ e in cc
put_key config dc obs key value moment Late pair e = absurd (put-late config dc obs key value moment (answer_is.Stored pair) e)

-- ---- the words

module _ (config : TenantConfig) where
  -- both lists are within the limit
  abbrev pub IsRoomy : List Observation → Type 0
  IsRoomy obs = (length (near_of obs) ≤ config.quota.deps) × (length (all_of obs) ≤ config.quota.deps)

  -- of what runs in a context that has seen this: there is room for the put, or the keys are few
  abbrev pub IsLimited : List Observation → Action → Type 0
  IsLimited obs (Write key value) = can_put config.quota.deps obs key ≡ true
  IsLimited obs (Fetch keys) = length keys ≤ 32

  pub record HasRoom (s : Session) : Type 0 where
    pub contexts : AllByRecursion (λ (x : OpenContext). IsRoomy x.obs) s.contexts
    pub alike : (x y : OpenContext) → Among x s.contexts → Among y s.contexts → x.number ≡ y.number → x.obs ≡ y.obs
    pub running : (r : Running) → s.running ≡ Some r → IsLimited (obs_of r.context s) r.action

  abbrev pub IsActorLimited : List SoloNode → List Traced → List ℕ → Actor → Type 0
  IsActorLimited nodes ts name (OfSession s) = HasRoom s
  IsActorLimited nodes ts name (OfCarrier k) = Unit {0}

  -- each stored entry has few pairs
  abbrev pub AreEntriesFew : List SoloNode → List Traced → Type 0
  AreEntriesFew nodes ts = (n : ℕ) → AllByRecursion (HasFewPairs config) (entries (node_of config (bare nodes) n))

  abbrev pub IsWithinLimits : SoloCluster → List Traced → Type 0
  IsWithinLimits = Stands AreEntriesFew IsActorLimited

  -- ---- contexts

  roomy_first : IsRoomy []
  roomy_first = (omega arith, omega arith)

  -- if a put may be, the limit is above 0
  putting : (obs : List Observation) (key : List ℕ) → IsRoomy obs → can_put config.quota.deps obs key ≡ true → 0 < config.quota.deps
  putting obs key is can = elim (or_cases (has_key (all_of obs) key) (nat_lt (length (all_of obs)) config.quota.deps) can) [
    | inl has ↦ (let some = some_pair (all_of obs) key has in let within = is.1 in omega arith)
    | inr less ↦ as_number (length (all_of obs)) less
  ]
    where
      as_number : (n : ℕ) → nat_lt n config.quota.deps ≡ true → 0 < config.quota.deps
      as_number n e = let less : n < config.quota.deps = grind (arith, nat_tests) in omega arith

  roomy_put : (obs : List Observation) (p : Pair) → IsRoomy obs → can_put config.quota.deps obs p.key ≡ true → IsRoomy (obs ++ Put p ∷ [])
  roomy_put obs p is can =
      let some = putting obs p.key is can in (
        subst (λ near. length near ≤ config.quota.deps) (sym (near_of-put obs p)) (omega arith),
        subst (λ all. length all ≤ config.quota.deps) (sym (all_of-push obs (Put p))) (put_within config.quota.deps (all_of obs) p (IsDeps-all_of obs) is.1 can),
      )

  roomy_seen : (more obs : List Observation) → IsRoomy obs → can_observe config.quota.deps obs more ≡ true → IsRoomy (obs ++ more)
  roomy_seen [] obs is room = subst IsRoomy (sym (append-nil obs)) is
  roomy_seen (o ∷ more) obs is room =
      let within = and_left (is_within config.quota.deps (obs ++ o ∷ [])) (can_observe config.quota.deps (obs ++ o ∷ []) more) room in
      let all : nat_le (length (all_of (obs ++ o ∷ []))) config.quota.deps ≡ true = and_left (nat_le (length (all_of (obs ++ o ∷ []))) config.quota.deps) (nat_le (length (near_of (obs ++ o ∷ []))) config.quota.deps) within in
      let near : nat_le (length (near_of (obs ++ o ∷ []))) config.quota.deps ≡ true = and_right (nat_le (length (all_of (obs ++ o ∷ []))) config.quota.deps) (nat_le (length (near_of (obs ++ o ∷ []))) config.quota.deps) within in
      subst IsRoomy (append_assoc obs (o ∷ []) more)
      (roomy_seen more (obs ++ o ∷ []) (as_number (length (near_of (obs ++ o ∷ []))) near, as_number (length (all_of (obs ++ o ∷ []))) all)
      (and_right (is_within config.quota.deps (obs ++ o ∷ [])) (can_observe config.quota.deps (obs ++ o ∷ []) more) room))
    where
      as_number : (n : ℕ) → nat_le n config.quota.deps ≡ true → n ≤ config.quota.deps
      as_number n e = grind (arith, nat_tests)

  -- what is seen in a context of a session
  pub seen_roomy : (s : Session) → HasRoom s → (number : ℕ) → is_open number s ≡ true → IsRoomy (obs_of number s)
  seen_roomy s room number opened =
      let x = context_of s number opened in
      subst IsRoomy (sym (ap (λ o. unwrap_or (option_map (λ (c : OpenContext). c.obs) o) []) x.3)) (Every-at (λ (x : OpenContext). IsRoomy x.obs) x.0 s.contexts room.contexts x.1)

  extended_alike : (number : ℕ) (more : List Observation) (contexts : List OpenContext) → ((x y : OpenContext) → Among x contexts → Among y contexts → x.number ≡ y.number → x.obs ≡ y.obs) →
      (x y : OpenContext) → Among x (context_extended number more contexts) → Among y (context_extended number more contexts) → x.number ≡ y.number → x.obs ≡ y.obs
  extended_alike number more contexts alike x y at_x at_y same =
      let a = map-Among (λ (c : OpenContext). cond (c.number == number) (record { number = c.number; obs = c.obs ++ more }) c) x contexts at_x in
      let b = map-Among (λ (c : OpenContext). cond (c.number == number) (record { number = c.number; obs = c.obs ++ more }) c) y contexts at_y in
      let numbers : a.0.number ≡ b.0.number = sym (same_number a.0 (a.0.number == number)) ∙ ap (λ (c : OpenContext). c.number) a.2 ∙ same ∙ ap (λ (c : OpenContext). c.number) (sym b.2) ∙ same_number b.0 (b.0.number == number) in
      ap (λ (c : OpenContext). c.obs) (sym a.2) ∙ by_number a.0 b.0 (a.0.number == number) (b.0.number == number) (ap (λ n. n == number) numbers) (alike a.0 b.0 a.1 b.1 numbers) ∙ ap (λ (c : OpenContext). c.obs) b.2
    where
      same_number : (c : OpenContext) (b : Bool) → (cond b (record { number = c.number; obs = c.obs ++ more }) c).number ≡ c.number
      same_number c true = refl
      same_number c false = refl

      by_number : (c d : OpenContext) (p q : Bool) → p ≡ q → c.obs ≡ d.obs → (cond p (record { number = c.number; obs = c.obs ++ more }) c).obs ≡ (cond q (record { number = d.number; obs = d.obs ++ more }) d).obs
      by_number c d true true e same = ap (λ obs. obs ++ more) same
      by_number c d true false e same = cc
      by_number c d false true e same = cc
      by_number c d false false e same = same

  -- ---- sessions

  -- a request goes on in what its context has seen
  still_room : (s : Session) (running : Running) (moment : ℕ) (log : List LogStep) → HasRoom s → s.running ≡ Some running → HasRoom (record s { moment = moment; running = Some (record running { log = log }) })
  still_room s running moment log room runs =
      record { contexts = room.contexts; alike = room.alike; running = only_runs (λ (x : Running). IsLimited (obs_of x.context s) x.action) (record running { log = log }) (room.running running runs) }

  -- it ends, and its context sees what the answer gives
  room_ended : (s : Session) (running : Running) (step : LogStep) (a : Answer) → HasRoom s → is_open running.context s ≡ true →
      (IsRoomy (obs_of running.context s) → IsRoomy (obs_of running.context s ++ seen_in a)) → HasRoom (session_after s running step (session_progress.Done a))
  room_ended s running step a room opened seen =
      let here = context_of s running.context opened in
      let obs_is : obs_of running.context s ≡ here.0.obs = ap (λ o. unwrap_or (option_map (λ (c : OpenContext). c.obs) o) []) here.3 in
      record {
        contexts = contexts_extended_at s.contexts (λ x among same. subst (λ obs. IsRoomy (obs ++ seen_in a)) (obs_is ∙ room.alike here.0 x here.1 among (here.2 ∙ sym same)) (seen (seen_roomy s room running.context opened))) room.contexts;
        alike = extended_alike running.context (seen_in a) s.contexts room.alike;
        running = none_runs _ None refl;
      }
    where
      contexts_extended_at : (contexts : List OpenContext) → ((x : OpenContext) → Among x contexts → x.number ≡ running.context → IsRoomy (x.obs ++ seen_in a)) → AllByRecursion (λ (x : OpenContext). IsRoomy x.obs) contexts →
          AllByRecursion (λ (x : OpenContext). IsRoomy x.obs) (context_extended running.context (seen_in a) contexts)
      contexts_extended_at [] this each = tt
      contexts_extended_at (x ∷ contexts) this each = (
        elim (eqb_tells x.number running.context) [
          | inl same ↦ subst (λ b. IsRoomy (cond {A = OpenContext} b (record { number = x.number; obs = x.obs ++ seen_in a }) x).obs) (sym same.0) (this x (inl refl) same.1)
          | inr other ↦ subst (λ b. IsRoomy (cond {A = OpenContext} b (record { number = x.number; obs = x.obs ++ seen_in a }) x).obs) (sym other.0) each.0
        ],
        contexts_extended_at contexts (λ y among same. this y (inr among) same) each.1,
      )

  -- ---- moves

  module _ (some : 0 < config.shards) (c : SoloCluster) (ts : List Traced) (inv : IsSound config c ts) (limits : IsWithinLimits c ts) where
    -- what a call would store has few near pairs
    abbrev StoresFew : Directed → Type 0
    StoresFew directed = (reply : NodeReply) (e : Entry) → Stores (place_of config directed.node) directed.call (node_of config c (node_number config.shards directed.node)) reply e → HasFewPairs config e

    -- so a call adds an entry with few pairs, if any
    call_limited : (moment : ℕ) (directed : Directed) → has_node config directed.node.dc directed.node.shard ≡ true → StoresFew directed → CallLeaves config AreEntriesFew IsActorLimited c ts moment directed
    call_limited moment directed there few =
        record {
          nodes_are = entries_keep (call_changes config c directed.node moment directed.call there inv.traced.sized) (HasFewPairs config) (few (call_node config directed.node moment directed.call c).reply) limits.nodes;
          stays = λ name a is. is;
        }

    -- what is offered has few
    pub offered_few : (stream : Stream) (e : Entry) → IsOffered config c stream e → HasFewPairs config e
    offered_few stream e offered =
        let origin = origin_of config stream in
        Every-at (HasFewPairs config) e (entries (node_of config c origin)) (limits.nodes origin) (offered_among config c stream e offered)

    module _ (name : List ℕ) (s : Session) (found : find_session name c ≡ Some s) where
      pub room : HasRoom s
      room = actor_found (IsActorLimited c.nodes ts) c name (OfSession s) limits.actors (session_actor c name s found)

      abbrev this : IsSession config ts name s
      this = session_of config c ts inv.traced name s found

      -- what a session has stored has the near pairs of its context
      stored_few : (running : Running) (moment : ℕ) (directed : Directed) → s.running ≡ Some running → next config (request_of s running) running.log moment ≡ Call directed → StoresFew directed
      stored_few = by_call config ts name s this (λ running moment directed. StoresFew directed)
          (λ number context key value moment runs is reply e stores. subst (HasFewPairs config) (sym stores.3) (seen_roomy s room context is.in_open))
          (λ number context keys log moment q runs is at e reply f stores. absurd stores)

      -- what an answer lets the context see
      answer_roomy : (number context : ℕ) (action : Action) (log : List LogStep) (step : LogStep) → IsLimited (obs_of context s) action → IsRunning config ts s (run number context action log) →
          (a : Answer) → answer config (request_of s (run number context action log)) (log ++ step ∷ []) ≡ Some a → IsRoomy (obs_of context s) → IsRoomy (obs_of context s ++ seen_in a)
      answer_roomy number context action log step limited is (answer_is.Refused fault) e roomy = subst IsRoomy (sym (append-nil (obs_of context s))) roomy
      answer_roomy number context (Write key value) log step limited is (answer_is.Stored pair) e roomy =
          let started = subst (λ l. answer config (request_of s (run number context (Write key value) l)) (l ++ step ∷ []) ≡ Some (answer_is.Stored pair)) is.replies_are e in
          let same = put_key config s.dc (obs_of context s) key value step.moment step.outcome pair started in
          roomy_put (obs_of context s) pair roomy (subst (λ k. can_put config.quota.deps (obs_of context s) k ≡ true) (sym same) limited)
      answer_roomy number context (Write key value) log step limited is (answer_is.Values reads) e roomy =
          absurd (never_values step.moment step.outcome (subst (λ l. answer config (request_of s (run number context (Write key value) l)) (l ++ step ∷ []) ≡ Some (answer_is.Values reads)) is.replies_are e))
        where
          never_values : (moment : ℕ) (outcome : Outcome) → answer config (record { dc = s.dc; obs = obs_of context s; action = Write key value }) (record { moment = moment; outcome = outcome } ∷ []) ≡ Some (answer_is.Values reads) → ⊥
          never_values moment (Replied reply) e =
              let ends = put-ends config s.dc (obs_of context s) key value moment 0 reply in
              ends.3 reads (let both : Some ends.0 ≡ Some (answer_is.Values reads) = sym ends.2 ∙ e in cc)
          never_values moment Late e = put-late config s.dc (obs_of context s) key value moment (answer_is.Values reads) e
      answer_roomy number context (Fetch keys) log step limited is (answer_is.Stored pair) e roomy = absurd (get-answer config s.dc (obs_of context s) keys (log ++ step ∷ []) (answer_is.Stored pair) e)
      answer_roomy number context (Fetch keys) log step limited is (answer_is.Values reads) e roomy =
          roomy_seen (observations_of reads) (obs_of context s) roomy (get-answer config s.dc (obs_of context s) keys (log ++ step ∷ []) (answer_is.Values reads) e).4

      leaving : (nodes : List SoloNode) (running : Running) (step : LogStep) → s.running ≡ Some running → StepLeaves config ts name s (Leaves config AreEntriesFew IsActorLimited nodes ts name) running step
      leaving nodes running step runs =
          let is = this.running_is running runs in
          plain_leaves config (λ nodes. AreEntriesFew nodes []) (λ nodes. IsActorLimited nodes []) nodes ts name s running step (λ open_still. still_room s running _ _ room runs)
          (λ a ends. room_ended s running step a room is.in_open (answer_roomy running.number running.context running.action running.log step (room.running running runs) is a ends))

      room_created : s.running ≡ None → HasRoom (context_created s)
      room_created idle =
          let is = session_of config c ts inv.traced name s found in
          let fresh : OpenContext = record { number = s.next_context; obs = [] } in
          record {
            contexts = Every-append (λ (x : OpenContext). IsRoomy x.obs) s.contexts (fresh ∷ []) room.contexts (roomy_first, tt);
            alike = λ x y at_x at_y same. elim (Among-cases x s.contexts (fresh ∷ []) at_x) [
              | inl old_x ↦ elim (Among-cases y s.contexts (fresh ∷ []) at_y) [
                | inl old_y ↦ room.alike x y old_x old_y same
                | inr new_y ↦ absurd (apart x (Every-at (IsContext ts name s.next_context) x s.contexts is.contexts_are old_x).numbered (same ∙ number_of_new y new_y))
              ]
              | inr new_x ↦ elim (Among-cases y s.contexts (fresh ∷ []) at_y) [
                | inl old_y ↦ absurd (apart y (Every-at (IsContext ts name s.next_context) y s.contexts is.contexts_are old_y).numbered (sym same ∙ number_of_new x new_x))
                | inr new_y ↦ obs_of_new x new_x ∙ sym (obs_of_new y new_y)
              ]
            ];
            running = none_runs _ s.running idle;
          }
        where
          number_of_new : (x : OpenContext) → Among x (record { number = s.next_context; obs = [] } ∷ []) → x.number ≡ s.next_context
          number_of_new x there = elim there [ inl e ↦ ap (λ (y : OpenContext). y.number) (sym e) | inr never ↦ absurd never ]

          obs_of_new : (x : OpenContext) → Among x (record { number = s.next_context; obs = [] } ∷ []) → x.obs ≡ []
          obs_of_new x there = elim there [ inl e ↦ ap (λ (y : OpenContext). y.obs) (sym e) | inr never ↦ absurd never ]

          apart : (x : OpenContext) → nat_lt x.number s.next_context ≡ true → x.number ≡ s.next_context → ⊥
          apart x less same = let l : x.number < s.next_context = grind (arith, nat_tests) in omega arith

      room_deleted : (number : ℕ) → s.running ≡ None → HasRoom (context_deleted number s)
      room_deleted number idle =
          let test = λ (x : OpenContext). not (x.number == number) in
          record {
            contexts = Every-filter (λ (x : OpenContext). IsRoomy x.obs) test s.contexts room.contexts;
            alike = λ x y at_x at_y same. room.alike x y (Among-filter test x s.contexts at_x).0 (Among-filter test y s.contexts at_y).0 same;
            running = none_runs _ s.running idle;
          }

      room_begun : (number : ℕ) (action : Action) → IsLimited (obs_of number s) action → HasRoom (request_begun number action s)
      room_begun number action limited =
          record { contexts = room.contexts; alike = room.alike; running = only_runs (λ (x : Running). IsLimited (obs_of x.context s) x.action) (run s.next_request number action []) limited }

      put_limited : (number : ℕ) (key value : List ℕ) → session_put_refusal config number key s ≡ None → IsLimited (obs_of number s) (Write key value)
      put_limited number key value ok =
          let third = (not (can_put config.quota.deps (obs_of number s) key), DependenciesFull) ∷ (is_spent s.next_request, IdsSpent) ∷ [] in
          let first = head_passes (is_busy s) Busy ((not (is_open number s), NoContext) ∷ third) ok in
          let second = head_passes (not (is_open number s)) NoContext third first.1 in
          let can = head_passes (not (can_put config.quota.deps (obs_of number s) key)) DependenciesFull ((is_spent s.next_request, IdsSpent) ∷ []) second.1 in
          flipped (can_put config.quota.deps (obs_of number s) key) can.0

      get_limited : (number : ℕ) (keys : List (List ℕ)) → get_refusal config number keys s ≡ None → IsLimited (obs_of number s) (Fetch keys)
      get_limited number keys ok =
          let fifth = (has_repeats keys, RepeatedKey) ∷ (is_spent s.next_request, IdsSpent) ∷ [] in
          let fourth = (nat_lt 32 (length keys), TooManyKeys) ∷ fifth in
          let first = head_passes (nat_lt (length keys) 1) Syntax ((is_busy s, Busy) ∷ (not (is_open number s), NoContext) ∷ fourth) ok in
          let second = head_passes (is_busy s) Busy ((not (is_open number s), NoContext) ∷ fourth) first.1 in
          let opened = head_passes (not (is_open number s)) NoContext fourth second.1 in
          let few = (head_passes (nat_lt 32 (length keys)) TooManyKeys fifth opened.1).0 in
          as_number (length keys) few
        where
          as_number : (n : ℕ) → nat_lt 32 n ≡ false → n ≤ 32
          as_number n e = grind (arith, nat_tests)

      session_limited : SessionMoves config AreEntriesFew IsActorLimited c ts name s
      session_limited =
          record {
            created = room_created;
            deleted = room_deleted;
            put_begun = λ number key value ok. room_begun number (Write key value) (put_limited number key value ok);
            get_begun = λ number keys ok. room_begun number (Fetch keys) (get_limited number keys ok);
            called = λ running moment directed runs e. call_limited moment directed (session_ready config some c ts inv name s found running moment directed runs e).there (stored_few running moment directed runs e);
            stepped = λ running moment directed runs e. leaving _ running _ runs;
            late = λ running moment runs e. leaving _ running _ runs;
            dropped = λ moment. record { contexts = room.contexts; alike = room.alike; running = none_runs _ None refl };
          }

    -- ---- carriers

    -- of the calls of a carrier, only a commit stores, and what is offered
    carrier_limited : (stream : Stream) → IsStream config stream → (moment : ℕ) (directed : Directed) → Stage (Delivered config c stream) config.shards stream directed → CallLeaves config AreEntriesFew IsActorLimited c ts moment directed
    carrier_limited stream is moment = by_stage config some c stream is (CallLeaves config AreEntriesFew IsActorLimited c ts moment) (λ there. call_limited moment (pull stream) there (λ reply f stores. absurd stores)) (record {
      checks = λ e near offered among there. call_limited moment (check config.shards stream near) there (λ reply f stores. absurd stores);
      commits = λ e offered checks there. call_limited moment (commit_call stream e) there (λ reply f stores. subst (HasFewPairs config) (sym stores.1) (offered_few stream e offered));
      acks = λ e r offered brought kind there. call_limited moment (ack_call stream e) there (λ reply f stores. absurd stores);
    })

    -- all moves
    limited_moves : Moves config AreEntriesFew IsActorLimited c ts
    limited_moves =
        record {
          opened = λ name dc free exists. record { contexts = tt; alike = λ x y at_x. absurd at_x; running = none_runs _ None refl };
          carrier_begun = λ name stream is. tt;
          of_session = session_limited;
          of_carrier = λ name k found. record {
            called = λ moment directed e. carrier_limited k.stream (stream_is config some c ts inv.flowing inv.traced name k found) moment directed (stage_now config some c ts inv.flowing inv.traced name k found directed e);
            stepped = λ moment directed e open_still. tt;
          };
          collected = λ id moment there. call_limited moment (record { node = id; call = node_call.Collect }) there (λ reply e stores. absurd stores);
        }

pub limits_kept : (config : TenantConfig) → 0 < config.shards → Leads config (Both (IsSound config) (IsWithinLimits config)) (IsWithinLimits config)
limits_kept config some = moves_lead config (AreEntriesFew config) (IsActorLimited config) (IsSound config) (λ c ts inv. inv.traced) (limited_moves config some)

pub limits_at_first : (config : TenantConfig) → IsWithinLimits config (new_cluster config) []
limits_at_first config =
    record {
      nodes = λ n. subst (λ solo. AllByRecursion (HasFewPairs config) (entries solo)) (sym (new_nodes (config.data_centres * config.shards) n (new_node config.data_centres))) tt;
      actors = tt;
    }
