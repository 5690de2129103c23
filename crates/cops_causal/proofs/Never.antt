-- After every list of acts, no reply and no audit has said what is never said; the definition's replies are never out of memory.
use Rattle.std.proofs.Common.{◌≡◌, ℕ, ◌<◌, Bool, true, false, not, ◌&&◌, ◌==◌, List, [], ◌∷◌, ◌++◌, length, refl, sym, subst, ◌⊎◌, inl, inr}
use Rattle.std.specs.Prelude.{Option, Some, None, max, nat_lt, nat_le, is_some}
use Rattle.std.specs.List.{list_all, list_any}
use Rattle.cops_types.specs.declared.faults.Fault.{Fault}
use Rattle.cops_types.specs.declared.faults.Fault.TheVariants.{OutOfMemory, Syntax, Torn, NameTaken, Busy, NoContext, TooManyContexts, IdsSpent, DependenciesFull, TooManyKeys, RepeatedKey, BadKey, ValueTooLong, NoSuchPlace, ActorsFull}
use Rattle.cops_types.specs.Context.{can_put}
use Rattle.cops_types.specs.Key.{is_key}
use Rattle.cops_types.specs.Search.{first_refusal}
use Rattle.cops_types.specs.TenantConfig.{TenantConfig}
use Rattle.cops_types.specs.Value.{is_value}
use Rattle.cops_model.specs.declared.calls.NodeCall.TheVariants as node_call
use Rattle.cops_model.specs.declared.calls.NodeId.{NodeId}
use Rattle.cops_model.specs.declared.calls.NodeReply.{NodeReply}
use Rattle.cops_model.specs.declared.calls.NodeReply.TheVariants as node_reply
use Rattle.cops_model.specs.Log.{LogStep, Replied, Call, is_asked, Directed}
use Rattle.cops_model.specs.Place.{node_number, place_of}
use Rattle.cops_model.specs.Request.{answer, attempt_of}
use Rattle.cops_model.specs.Session.{Session, Running, obs_of, is_open, is_busy, has_repeats, has_restarted, request_of, moment_at, is_spent}
use Rattle.cops_model.specs.Session as session
use Rattle.cops_model.specs.declared.deliveries.Delivery.{Delivery}
use Rattle.cops_model.specs.declared.deliveries.Progress.{Progress as CarrierProgress}
use Rattle.cops_model.specs.declared.deliveries.Progress.TheVariants as carrier_progress
use Rattle.cops_model.specs.Carrier.{Carrier, carrier_after}
use Rattle.cops_model.specs.Carrier as carrier
use Rattle.cops_model.specs.declared.acts.Act.{Act}
use Rattle.cops_model.specs.declared.acts.Act.TheVariants.{Open, Create, Delete, Put, Get, Show, Carry, Step, Done, Collect}
use Rattle.cops_model.specs.declared.replies.Reply.{Reply}
use Rattle.cops_model.specs.declared.replies.Reply.TheVariants as reply
use Rattle.cops_model.specs.Causal.{Traced}
use Rattle.cops_model.specs.Cluster.{ActEffect, OfCarrier, SoloCluster, actor_step, actor_steps, call_node, carrier_stepped, cluster_step, collect_at, find_actor, find_session, has_node, most_steps, new_cluster, on_session, reply_of_collect, reply_of_progress, unless_refused}
use Rattle.cops_model.specs.Events.{is_out_of_memory, replies_from, solo_replies}
use Rattle.cops_model.specs.Laws.{is_expected}
use Rattle.cops_causal.proofs.AfterActs.{cluster_step_keeps}
use Rattle.cops_causal.proofs.EndedOperations.{operation_ended}
use Rattle.cops_causal.proofs.Moves.{IsKept, Both, kept_both, actor_step_keeps, history_after, with_operation}
use Rattle.cops_causal.proofs.NodeAnswers.{is_usual, node_fault_usual, reply_asked}
use Rattle.cops_node.proofs.NodeTurns.{IsRefusal}
use Rattle.cops_causal.proofs.NodeEffects.{node_of}
use Rattle.cops_causal.proofs.Served.{IsServed, FineTurn, called, collect_ready, session_turn, session_late_turn, fine_carrier, carrier_fine, served_kept, served_at_first}
use Rattle.cops_causal.proofs.Sound.{IsSound, sound_kept, sound_at_first}
use Rattle.cops_causal.proofs.TracedIdle.{session_of}
use Rattle.cops_causal.proofs.Unbroken.{IsFineDelivery, shown_fine, ended_fine, carrier_shown_fine}
use Rattle.cops_causal.proofs.RequestSteps.{never_ended}
use Rattle.cops_causal.proofs.ActorSteps.{as_session, by_step, by_steps}

abbrev pub IsFine : Reply → Type 0
IsFine r = is_usual r ≡ true

pub fine_expected : (r : Reply) → IsFine r → is_expected r ≡ true
fine_expected (reply.OutOfOrder mark) fine = cc
fine_expected (reply.Refused Torn) fine = cc
fine_expected r fine = refl

fine_spared : (r : Reply) → IsFine r → is_out_of_memory r ≡ false
fine_spared (reply.Refused OutOfMemory) fine = cc
fine_spared r fine = refl

-- ---- refusals

-- none of these checks refuses with an unusual fault
abbrev are_fine : List (Bool × Fault) → Bool
are_fine checks = list_all (λ (check : Bool × Fault). is_usual (reply.Refused check.1)) checks

first_fine : (checks : List (Bool × Fault)) → are_fine checks ≡ true → (fault : Fault) → first_refusal checks ≡ Some fault → IsFine (reply.Refused fault)
first_fine [] fine fault e = cc
first_fine ((true, f) ∷ checks) fine fault e = let same : f ≡ fault = cc in subst (λ g. IsFine (reply.Refused g)) same (left (is_usual (reply.Refused f)) (are_fine checks) fine)
  where
    left : (a b : Bool) → (a && b) ≡ true → a ≡ true
    left true b e = refl
    left false b e = cc
first_fine ((false, f) ∷ checks) fine fault e = first_fine checks (right (is_usual (reply.Refused f)) (are_fine checks) fine) fault e
  where
    right : (a b : Bool) → (a && b) ≡ true → b ≡ true
    right true b e = e
    right false b e = cc

guarded : (checks : List (Bool × Fault)) (c : SoloCluster) (turn : ActEffect) → are_fine checks ≡ true → IsFine turn.reply → IsFine (unless_refused (first_refusal checks) c turn).reply
guarded checks c turn fine passed = by_first (first_refusal checks) refl
  where
    by_first : (o : Option Fault) → first_refusal checks ≡ o → IsFine (unless_refused o c turn).reply
    by_first None is = passed
    by_first (Some fault) is = first_fine checks fine fault is

found_fine : (name : List ℕ) (c : SoloCluster) (act : Session → ActEffect) → ((s : Session) → IsFine (act s).reply) → IsFine (on_session (find_session name c) c act).reply
found_fine name c act fine = by_found (find_session name c)
  where
    by_found : (o : Option Session) → IsFine (on_session o c act).reply
    by_found None = refl
    by_found (Some s) = fine s

-- a collection is refused by the node, or counts
collect_fine : (r : NodeReply) → IsRefusal r ⊎ (is_asked node_call.Collect r ≡ true) → IsFine (reply_of_collect r)
collect_fine r (inl is) = subst (λ r. IsFine (reply_of_collect r)) (sym is.1) (node_fault_usual is.0 is.2)
collect_fine (node_reply.Removed count) (inr is) = refl
collect_fine r (inr is) = cc

-- ---- steps

abbrev pub Whole : TenantConfig → SoloCluster → List Traced → Type 0
Whole config = Both (IsSound config) (IsServed config)

module _ (config : TenantConfig) (some : 0 < config.shards) where
  pub whole_kept : IsKept config (Whole config)
  whole_kept = kept_both (sound_kept config some) (served_kept config some)

  module _ (c : SoloCluster) (ts : List Traced) (inv : Whole config c ts) where
    turn_fine : (s : Session) (running : Running) (step : LogStep) → FineTurn config s running step →
        IsFine (reply_of_progress (session.progress config (request_of s running) running.log step))
    turn_fine s running step fine =
        shown_fine (answer config (request_of s running) (running.log ++ step ∷ [])) (has_restarted running.action running.log step) (attempt_of running.action (running.log ++ step ∷ [])).restarts fine.answers

    module _ (name : List ℕ) (k : Carrier) (found : find_actor name c ≡ Some (OfCarrier k)) where
      stepped_fine : (after : Carrier) (shown : CarrierProgress) (next : SoloCluster) → ((d : Delivery) → shown ≡ carrier_progress.Done d → IsFineDelivery d) → IsFine (carrier_stepped name after shown next).reply
      stepped_fine after carrier_progress.Working next fine = refl
      stepped_fine after (carrier_progress.Done d) next fine = fine d refl

      carrier_called_fine : (moment : ℕ) (directed : Directed) → carrier.carrier_next config.shards k.stream k.log ≡ Call directed →
          let call = call_node config directed.node moment directed.call c in
          let step : LogStep = record { moment = moment; outcome = Replied call.reply } in
          IsFine (carrier_stepped name (carrier_after k step) (carrier.delivery_progress config.shards k step) call.after).reply
      carrier_called_fine moment directed is =
          let call = call_node config directed.node moment directed.call c in
          let step : LogStep = record { moment = moment; outcome = Replied call.reply } in
          let n = carrier.carrier_next config.shards k.stream (k.log ++ step ∷ []) in
          stepped_fine (carrier_after k step) (carrier.delivery_progress config.shards k step) call.after
          (carrier_shown_fine config.shards k.stream n (λ ending ends. ended_fine config.shards k.stream (k.log ++ step ∷ []) ending (carrier_fine config some c ts inv.0 inv.1 name k found moment directed is) ends)
          (carrier.delivery_progress config.shards k step) refl)

    step_fine : (name : List ℕ) (moment : ℕ) → IsFine (actor_step config name moment c).reply
    step_fine name moment = by_step config name moment c (λ turn. IsFine turn.reply) (record {
      unknown = refl;
      idle = refl;
      called = λ s running directed found runs is. turn_fine s running _ (session_turn config some c ts inv.0 inv.1 name s (as_session name c s found) running (moment_at moment s) directed runs is);
      late = λ s running found runs is. turn_fine s running _ (session_late_turn config some c ts inv.0 inv.1 name s (as_session name c s found) running (moment_at moment s) runs is);
      ended = λ s running a found runs is. absurd (never_ended config ts name s (session_of config c ts inv.0.traced name s (as_session name c s found)) running (moment_at moment s) a runs is);
      carrier_called = λ k directed found is. carrier_called_fine name k found (max k.moment moment) directed is;
      carrier_waits = λ k found is. refl;
      carrier_ended = λ k ending found is. ended_fine config.shards k.stream k.log ending (fine_carrier config some c ts inv.0 inv.1 name k found) is;
    })

  steps_fine : (more : ℕ) (c : SoloCluster) (ts : List Traced) → Whole config c ts → (name : List ℕ) (moment : ℕ) → IsFine (actor_steps more config name moment c).reply
  steps_fine more c ts inv name moment =
      by_steps config name moment (λ c. (us : List Traced) × Whole config c us) (λ c turn. IsFine turn.reply) (λ c held. step_fine c held.0 held.1 name moment)
      (λ c held goes. (history_after held.0 c name (actor_step config name moment c).reply, actor_step_keeps whole_kept c held.0 name moment held.1)) (λ c turn held goes later. later) more c (ts, inv)

  -- ---- acts

  pub act_fine : (act : Act) (c : SoloCluster) (ts : List Traced) → Whole config c ts → IsFine (cluster_step config act c).reply
  act_fine (Open name dc) c ts inv =
      guarded ((not (nat_lt dc config.data_centres), NoSuchPlace) ∷ (is_some (find_actor name c), NameTaken) ∷ (nat_le config.quota.actors (length c.actors), ActorsFull) ∷ []) c _ refl refl
  act_fine (Create name) c ts inv = found_fine name c _ (λ s.
      guarded ((is_busy s, Busy) ∷ (nat_le config.quota.contexts (length s.contexts), TooManyContexts) ∷ (is_spent s.next_context, IdsSpent) ∷ []) c _ refl refl)
  act_fine (Delete name number) c ts inv = found_fine name c _ (λ s. guarded ((is_busy s, Busy) ∷ (not (is_open number s), NoContext) ∷ []) c _ refl refl)
  act_fine (Put name number key value) c ts inv =
      guarded ((not (is_key key), BadKey) ∷ (not (is_value value), ValueTooLong) ∷ []) c _ refl (found_fine name c _ (λ s.
      guarded ((is_busy s, Busy) ∷ (not (is_open number s), NoContext) ∷ (not (can_put config.quota.deps (obs_of number s) key), DependenciesFull) ∷ (is_spent s.next_request, IdsSpent) ∷ []) c _ refl refl))
  act_fine (Get name number keys) c ts inv =
      guarded ((nat_lt (length keys) 1, Syntax) ∷ (not (list_all is_key keys), BadKey) ∷ []) c _ refl (found_fine name c _ (λ s.
      guarded ((nat_lt (length keys) 1, Syntax) ∷ (is_busy s, Busy) ∷ (not (is_open number s), NoContext) ∷ (nat_lt 32 (length keys), TooManyKeys) ∷ (has_repeats keys, RepeatedKey) ∷ (is_spent s.next_request, IdsSpent) ∷ []) c _ refl refl))
  act_fine (Show name number) c ts inv = found_fine name c _ (λ s. guarded ((is_busy s, Busy) ∷ (not (is_open number s), NoContext) ∷ []) c _ refl refl)
  act_fine (Carry name dc shard to_dc) c ts inv =
      guarded ((not (has_node config dc shard && nat_lt to_dc config.data_centres && not (dc == to_dc)), NoSuchPlace) ∷ (is_some (find_actor name c), NameTaken) ∷ (nat_le config.quota.actors (length c.actors), ActorsFull) ∷ []) c _ refl refl
  act_fine (Step name moment) c ts inv = step_fine c ts inv name moment
  act_fine (Done name moment) c ts inv = steps_fine (most_steps config) c ts inv name moment
  act_fine (Collect dc shard moment) c ts inv = by_there (has_node config dc shard) refl
    where
      id : NodeId
      id = record { dc = dc; shard = shard }

      by_there : (b : Bool) → has_node config dc shard ≡ b → IsFine (unless_refused (first_refusal ((not b, NoSuchPlace) ∷ [])) c (collect_at config id moment c)).reply
      by_there true there =
          let call = call_node config id moment node_call.Collect c in
          let ready = collect_ready config some c ts inv.0 inv.1 id there in
          let n = node_number config.shards id in
          collect_fine call.reply (reply_asked (place_of config id) (node_of config c n) call.reply node_call.Collect (node_of config call.after n) (called config c ts inv.0 inv.1 moment (record { node = id; call = node_call.Collect }) ready).change ready.ready)
      by_there false there = refl

  pub whole_at_first : Whole config (new_cluster config) []
  whole_at_first = (sound_at_first config some, served_at_first config)

module _ (config : TenantConfig) (some : 0 < config.shards) where
  spared_from : (acts : List Act) (c : SoloCluster) (ts : List Traced) → Whole config c ts → list_any is_out_of_memory (replies_from config acts c) ≡ false
  spared_from [] c ts inv = refl
  spared_from (act ∷ acts) c ts inv =
      let turn = cluster_step config act c in
      rw (fine_spared turn.reply (act_fine config some act c ts inv))
      (spared_from acts turn.after (with_operation ts (operation_ended c act turn.reply)) (cluster_step_keeps (whole_kept config some) act c ts inv))

  -- the definition's replies are never out of memory
  pub solo_spared : (acts : List Act) → list_any is_out_of_memory (solo_replies config acts) ≡ false
  solo_spared acts = spared_from acts (new_cluster config) [] (whole_at_first config some)
