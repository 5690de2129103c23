-- What each move keeps holds after every list of acts, of the cluster and of the history.
use Rattle.std.proofs.Common.{◌≡◌, ℕ, true, not, ◌&&◌, ◌==◌, List, [], ◌∷◌, refl, sym, ◌∙◌, ap, subst}
use Rattle.std.specs.Prelude.{Option, Some, None, max, nat_lt, nat_le, length}
use Rattle.std.specs.List.{list_all, cons_option}
use Rattle.std.specs.Option.{option_map, option_and_then}
use Rattle.cops_types.specs.declared.faults.Fault.TheVariants.{Syntax, BadKey, ValueTooLong, NoSuchPlace, Busy, TooManyContexts, IdsSpent, NoContext}
use Rattle.cops_types.specs.Key.{is_key}
use Rattle.cops_types.specs.Search.{first_refusal}
use Rattle.cops_types.specs.TenantConfig.{TenantConfig}
use Rattle.cops_types.specs.Value.{is_value}
use Rattle.cops_model.specs.declared.calls.NodeCall.TheVariants as node_call
use Rattle.cops_model.specs.declared.calls.NodeId.{NodeId}
use Rattle.cops_model.specs.Log.{LogStep, Late, Replied}
use Rattle.cops_model.specs.declared.requests.Answer.{Answer}
use Rattle.cops_model.specs.declared.requests.Answer.TheVariants as answer
use Rattle.cops_model.specs.declared.requests.Progress.{Progress}
use Rattle.cops_model.specs.declared.requests.Progress.TheVariants as session_progress
use Rattle.cops_model.specs.Session.{Running, Session, context_refusal, create_refusal, get_refusal, is_open, moment_at, new_session, request_of, session_after, session_put_refusal, is_spent}
use Rattle.cops_model.specs.Session as session
use Rattle.cops_model.specs.declared.deliveries.Delivery.{Delivery}
use Rattle.cops_model.specs.declared.deliveries.Delivery.TheVariants as delivery
use Rattle.cops_model.specs.declared.deliveries.Progress.{Progress as CarrierProgress}
use Rattle.cops_model.specs.declared.deliveries.Progress.TheVariants as carrier_progress
use Rattle.cops_model.specs.Carrier.{Carrier, Stream, new_carrier, carrier_after}
use Rattle.cops_model.specs.Carrier as carrier
use Rattle.cops_model.specs.declared.acts.Act.{Act}
use Rattle.cops_model.specs.declared.acts.Act.TheVariants.{Open, Create, Delete, Put, Get, Show, Carry, Step, Done, Collect}
use Rattle.cops_model.specs.declared.replies.Reply.{Reply}
use Rattle.cops_model.specs.declared.replies.Reply.TheVariants.{Opened, Started, Working, Restarted, Stored, Values}
use Rattle.cops_model.specs.Causal.{Traced, Operation, Effect, effect_of, traced_from}
use Rattle.cops_model.specs.Cluster.{ActEffect, Actor, OfCarrier, OfSession, SoloCluster, actor_step, actor_steps, call_node, carrier_stepped, cluster_step, collect_at, find_actor, find_session, goes_on, has_node, most_steps, reply_of_answer, reply_of_delivery, reply_of_progress, session_in, with_actor}
use Rattle.cops_causal.proofs.ActorsKeep.{find_actor-with_actor}
use Rattle.cops_causal.proofs.Moves.{IsKept, with_operation, history_after, Holds, plainly, new_actor, session_act, passes, head_passes, flipped, not_busy, stream_of, plain_collect, actor_step_keeps}
use Rattle.cops_causal.proofs.ActorSteps.{by_step, by_steps}
use Rattle.cops_causal.proofs.EndedOperations.{operation_by}

-- the context of the request that the session of this name runs
abbrev pub context_run : List ℕ → SoloCluster → Option ℕ
context_run name c = option_map (λ (r : Running). r.context) (option_and_then (λ (s : Session). s.running) (find_session name c))

pub operation_by-context : (c : SoloCluster) (effect : Effect) (name : List ℕ) →
    operation_by c effect name ≡ option_map (λ n. record { session = name; context = n; effect = effect }) (context_run name c)
operation_by-context c effect name = go (option_and_then (λ (s : Session). s.running) (find_session name c))
  where
    go : (r : Option Running) → option_map (λ (r : Running). record { session = name; context = r.context; effect = effect }) r
        ≡ option_map {U = Operation} (λ n. record { session = name; context = n; effect = effect }) (option_map (λ (r : Running). r.context) r)
    go None = refl
    go (Some r) = refl

-- a step after which the actor goes on leaves the context of its request
pub answer_ends : (a : Answer) → goes_on (reply_of_answer a) ≡ true → ⊥
answer_ends (answer.Stored pair) e = cc
answer_ends (answer.Values reads) e = cc
answer_ends (answer.Refused fault) e = cc

pub delivery_ends : (d : Delivery) → goes_on (reply_of_delivery d) ≡ true → ⊥
delivery_ends delivery.Nothing e = cc
delivery_ends (delivery.Waits pair) e = cc
delivery_ends (delivery.Carried pair fresh acked) e = cc
delivery_ends (delivery.OutOfOrder mark) e = cc
delivery_ends (delivery.Refused fault) e = cc

abbrev context_of_actor : Option Actor → Option ℕ
context_of_actor found = option_map (λ (r : Running). r.context) (option_and_then (λ (s : Session). s.running) (option_and_then session_in found))

context_after_step : (s : Session) (running : Running) (step : LogStep) (shown : Progress) → goes_on (reply_of_progress shown) ≡ true →
    context_of_actor (Some (OfSession (session_after s running step shown))) ≡ Some running.context
context_after_step s running step session_progress.Working e = refl
context_after_step s running step (session_progress.Restarted n) e = refl
context_after_step s running step (session_progress.Done a) e = absurd (answer_ends a e)

module _ (config : TenantConfig) (c : SoloCluster) (name : List ℕ) where
  -- what is to be shown of a turn
  abbrev KeepsContext : ActEffect → Type 0
  KeepsContext turn = goes_on turn.reply ≡ true → context_run name turn.after ≡ context_run name c

  stepped_context : (s : Session) (running : Running) (found : find_actor name c ≡ Some (OfSession s)) → s.running ≡ Some running →
      (step : LogStep) (shown : Progress) (after : SoloCluster) → find_actor name after ≡ find_actor name c →
      goes_on (reply_of_progress shown) ≡ true → context_run name (with_actor name (OfSession (session_after s running step shown)) after) ≡ context_run name c
  stepped_context s running found runs step shown after same goes =
      ap context_of_actor (find_actor-with_actor name (OfSession (session_after s running step shown)) (OfSession s) after (same ∙ found))
      ∙ context_after_step s running step shown goes
      ∙ sym (ap (option_map (λ (r : Running). r.context)) runs)
      ∙ sym (ap context_of_actor found)

  carrier_stepped_context : (k after : Carrier) (shown : CarrierProgress) (next : SoloCluster) → find_actor name c ≡ Some (OfCarrier k) → find_actor name next ≡ find_actor name c → KeepsContext (carrier_stepped name after shown next)
  carrier_stepped_context k after carrier_progress.Working next found same goes =
      ap context_of_actor (find_actor-with_actor name (OfCarrier after) (OfCarrier k) next (same ∙ found)) ∙ sym (ap context_of_actor found)
  carrier_stepped_context k after (carrier_progress.Done ending) next found same goes = absurd (delivery_ends ending goes)

  pub actor_step_context : (moment : ℕ) → KeepsContext (actor_step config name moment c)
  actor_step_context moment = by_step config name moment c KeepsContext (record {
    unknown = λ goes. cc;
    idle = λ goes. cc;
    called = λ s running directed found runs is.
        let call = call_node config directed.node (moment_at moment s) directed.call c in
        let step : LogStep = record { moment = moment_at moment s; outcome = Replied call.reply } in
        stepped_context s running found runs step (session.progress config (request_of s running) running.log step) call.after refl;
    late = λ s running found runs is.
        let step : LogStep = record { moment = moment_at moment s; outcome = Late } in
        stepped_context s running found runs step (session.progress config (request_of s running) running.log step) c refl;
    ended = λ s running a found runs is goes. absurd (answer_ends a goes);
    carrier_called = λ k directed found is.
        let call = call_node config directed.node (max k.moment moment) directed.call c in
        let step : LogStep = record { moment = max k.moment moment; outcome = Replied call.reply } in
        carrier_stepped_context k (carrier_after k step) (carrier.delivery_progress config.shards k step) call.after found refl;
    carrier_waits = λ k found is goes. refl;
    carrier_ended = λ k ending found is goes. absurd (delivery_ends ending goes);
  })

-- ---- acts

-- an actor that goes on ended no operation
pub plain_goes : (reply : Reply) → goes_on reply ≡ true → effect_of reply ≡ None
plain_goes Working e = refl
plain_goes (Restarted n) e = refl
plain_goes (Stored pair) e = cc
plain_goes (Values reads) e = cc
plain_goes reply e = refl

-- the history after a reply looks at the context alone
history_after-context : (ts : List Traced) (c d : SoloCluster) (name : List ℕ) (reply : Reply) → context_run name c ≡ context_run name d → history_after ts c name reply ≡ history_after ts d name reply
history_after-context ts c d name reply same = ap (with_operation ts) (by_effect (effect_of reply))
  where
    by_effect : (e : Option Effect) → option_and_then (λ effect. operation_by c effect name) e ≡ option_and_then (λ effect. operation_by d effect name) e
    by_effect None = refl
    by_effect (Some effect) =
        operation_by-context c effect name
        ∙ ap (option_map (λ n. record { session = name; context = n; effect = effect })) same
        ∙ sym (operation_by-context d effect name)

module _ {config : TenantConfig} {P : SoloCluster → List Traced → Type 0} (kept : IsKept config P) where
  -- a step that goes on leaves the history
  pub step_goes_on : (c : SoloCluster) (ts : List Traced) (name : List ℕ) (moment : ℕ) → P c ts → goes_on (actor_step config name moment c).reply ≡ true → P (actor_step config name moment c).after ts
  step_goes_on c ts name moment p goes =
      let step = actor_step config name moment c in
      subst (λ e. P step.after (with_operation ts (option_and_then (λ effect. operation_by c effect name) e))) (plain_goes step.reply goes) (actor_step_keeps kept c ts name moment p)

  actor_steps_keep : (more : ℕ) (c : SoloCluster) (ts : List Traced) (name : List ℕ) (moment : ℕ) → P c ts →
      P (actor_steps more config name moment c).after (history_after ts c name (actor_steps more config name moment c).reply)
  actor_steps_keep more c ts name moment p =
      by_steps config name moment (λ c. P c ts) (λ c turn. P turn.after (history_after ts c name turn.reply)) (λ c p. actor_step_keeps kept c ts name moment p) (λ c p goes. step_goes_on c ts name moment p goes)
      (λ c turn p goes later. subst (P turn.after) (history_after-context ts (actor_step config name moment c).after c name turn.reply (actor_step_context config c name moment goes)) later) more c p

  pub cluster_step_keeps : (act : Act) (c : SoloCluster) (ts : List Traced) → P c ts → Holds kept c ts act (cluster_step config act c)
  cluster_step_keeps (Open name dc) c ts p =
      new_actor kept (Open name dc) (nat_lt dc config.data_centres) name (OfSession (new_session dc 1)) Opened c ts refl p (λ exists free. kept.opened c ts name dc free exists p)
  cluster_step_keeps (Create name) c ts p = session_act kept (Create name) name c ts _ p (λ s found.
      passes (create_refusal config s) c _ (Holds kept c ts (Create name)) (λ fault. p) (λ ok. kept.context_created c ts name s found
      (not_busy s Busy ((nat_le config.quota.contexts (length s.contexts), TooManyContexts) ∷ (is_spent s.next_context, IdsSpent) ∷ []) ok) p))
  cluster_step_keeps (Delete name number) c ts p = session_act kept (Delete name number) name c ts _ p (λ s found.
      passes (context_refusal number s) c _ (Holds kept c ts (Delete name number)) (λ fault. p) (λ ok. kept.context_deleted c ts name s number found (not_busy s Busy ((not (is_open number s), NoContext) ∷ []) ok) p))
  cluster_step_keeps (Put name number key value) c ts p =
      passes (first_refusal ((not (is_key key), BadKey) ∷ (not (is_value value), ValueTooLong) ∷ [])) c _ (Holds kept c ts (Put name number key value)) (λ fault. p) (λ well.
      session_act kept (Put name number key value) name c ts _ p (λ s found.
      passes (session_put_refusal config number key s) c _ (Holds kept c ts (Put name number key value)) (λ fault. p) (λ ok.
      kept.put_begun c ts name s number key value found ok (flipped (is_key key) (head_passes (not (is_key key)) BadKey ((not (is_value value), ValueTooLong) ∷ []) well).0) p)))
  cluster_step_keeps (Get name number keys) c ts p =
      passes (first_refusal ((nat_lt (length keys) 1, Syntax) ∷ (not (list_all is_key keys), BadKey) ∷ [])) c _ (Holds kept c ts (Get name number keys)) (λ fault. p) (λ well.
      session_act kept (Get name number keys) name c ts _ p (λ s found.
      passes (get_refusal config number keys s) c _ (Holds kept c ts (Get name number keys)) (λ fault. p) (λ ok.
      kept.get_begun c ts name s number keys found ok (all_keys keys well) p)))
    where
      all_keys : (keys : List (List ℕ)) → first_refusal ((nat_lt (length keys) 1, Syntax) ∷ (not (list_all is_key keys), BadKey) ∷ []) ≡ None → list_all is_key keys ≡ true
      all_keys keys well =
          let second = (head_passes (nat_lt (length keys) 1) Syntax ((not (list_all is_key keys), BadKey) ∷ []) well).1 in
          flipped (list_all is_key keys) (head_passes (not (list_all is_key keys)) BadKey [] second).0
  cluster_step_keeps (Show name number) c ts p = session_act kept (Show name number) name c ts _ p (λ s found.
      passes (context_refusal number s) c _ (Holds kept c ts (Show name number)) (λ fault. p) (λ ok. p))
  cluster_step_keeps (Carry name dc shard to_dc) c ts p =
      let stream : Stream = record { origin = record { dc = dc; shard = shard }; to_dc = to_dc } in
      new_actor kept (Carry name dc shard to_dc) (has_node config dc shard && nat_lt to_dc config.data_centres && not (dc == to_dc)) name (OfCarrier (new_carrier stream)) Started c ts refl p
      (λ exists free. kept.carrier_begun c ts name stream free (stream_of config stream exists) p)
  cluster_step_keeps (Step name moment) c ts p = actor_step_keeps kept c ts name moment p
  cluster_step_keeps (Done name moment) c ts p = actor_steps_keep (most_steps config) c ts name moment p
  cluster_step_keeps (Collect dc shard moment) c ts p =
      let id : NodeId = record { dc = dc; shard = shard } in
      passes (first_refusal ((not (has_node config dc shard), NoSuchPlace) ∷ [])) c _ (Holds kept c ts (Collect dc shard moment)) (λ fault. p) (λ ok.
      plainly kept c ts (Collect dc shard moment) (collect_at config id moment c) (plain_collect (call_node config id moment node_call.Collect c).reply)
      (kept.collected c ts id moment (flipped (has_node config dc shard) (head_passes (not (has_node config dc shard)) NoSuchPlace [] ok).0) p))

  -- ---- runs

  -- the history is the one of all operations
  pub traced_more : (ts : List Traced) (o : Option Operation) (later : List Operation) → traced_from ts (cons_option o later) ≡ traced_from (with_operation ts o) later
  traced_more ts None later = refl
  traced_more ts (Some o) later = refl
