-- What each session's request asks for is the last put or get that it began, as the tenant reads it off its acts and replies.
use Rattle.std.proofs.Common.{◌≡◌, ℕ, Bool, true, false, cond, not, List, [], ◌∷◌, inl, inr, refl, sym, ◌∙◌, ap, subst}
use Rattle.std.specs.Prelude.{Option, Some, None, max, nat_lt, length}
use Rattle.std.specs.List.{cons_option, list_all}
use Rattle.std.specs.Option.{option_and_then, option_map}
use Rattle.cops_types.specs.declared.faults.Fault.{Fault}
use Rattle.cops_types.specs.declared.faults.Fault.TheVariants.{BadKey, NoSuchPlace, OutOfMemory, Syntax, ValueTooLong}
use Rattle.cops_types.specs.Context.{all_of, near_of}
use Rattle.cops_types.specs.Key.{is_key, key_eq}
use Rattle.cops_types.specs.Search.{first_refusal}
use Rattle.cops_types.specs.TenantConfig.{TenantConfig}
use Rattle.cops_types.specs.Value.{is_value}
use Rattle.cops_types.proofs.KeyTests.{key_eq-refl}
use Rattle.cops_model.specs.declared.acts.Act.{Act}
use Rattle.cops_model.specs.declared.acts.Act.TheVariants.{Open, Create, Delete, Put, Get, Show, Carry, Step, Done, Collect}
use Rattle.cops_model.specs.declared.calls.NodeId.{NodeId}
use Rattle.cops_model.specs.declared.deliveries.Progress.{Progress as CarrierProgress}
use Rattle.cops_model.specs.declared.deliveries.Progress.TheVariants as carrier_progress
use Rattle.cops_model.specs.declared.replies.Reply.{Reply}
use Rattle.cops_model.specs.declared.replies.Reply.TheVariants.{Created, Deleted, Lists, Opened, Refused, Started}
use Rattle.cops_model.specs.declared.requests.Progress.{Progress}
use Rattle.cops_model.specs.declared.requests.Progress.TheVariants as session_progress
use Rattle.cops_model.specs.Log.{LogStep}
use Rattle.cops_model.specs.Request.{Action, Fetch, Write}
use Rattle.cops_model.specs.Session.{Running, Session, context_created, context_deleted, context_refusal, create_refusal, get_refusal, moment_at, new_session, obs_of, request_begun, request_of, session_after, session_put_refusal}
use Rattle.cops_model.specs.Session as session
use Rattle.cops_model.specs.Carrier.{Carrier, Stream, new_carrier}
use Rattle.cops_model.specs.Causal.{Effect, Operation, effect_of, stepped_actor}
use Rattle.cops_model.specs.Cluster.{ActEffect, Actor, OfCarrier, OfSession, SoloCluster, actor_refusal, actor_step, actor_steps, call_node, carrier_stepped, cluster_step, collect_at, find_actor, find_session, has_node, has_stream, most_steps, on_session, reply_with, session_stepped, unless_refused, with_actor, with_new_actor}
use Rattle.cops_model.specs.Goes.{Turns}
use Rattle.cops_model.specs.Lacks.{Lacks, request_dropped}
use Rattle.cops_model.specs.Told.{Contexts, contexts_after, operation_told, operations_told, operations_told_from}
use Rattle.cops_causal.specs.Transcript.{Begun, Ended, Requests, ended_told, ended_with, operations_in, requests_after, transcript, transcript_from, with_request}
use Rattle.cops_causal.proofs.ActorsKeep.{EachActor, actor_found, each-with_actor, each-with_new, each-without, session_actor}
use Rattle.cops_causal.proofs.ActorSteps.{by_step, by_steps}
use Rattle.cops_causal.proofs.AfterTurns.{by_lack}
use Rattle.cops_causal.proofs.ToldHistories.{by_refusal, by_session, operation_of, with_context}

-- what the actor's request was begun with is known
abbrev pub IsBegunAs : Requests → List ℕ → Actor → Type 0
IsBegunAs requests name (OfSession s) = (running : Running) → s.running ≡ Some running → requests name ≡ Some (record { context = running.context; asked = running.action })
IsBegunAs requests name (OfCarrier k) = Unit {0}

-- so is that of each actor
abbrev pub AreBegun : Requests → SoloCluster → Type 0
AreBegun requests c = EachActor (IsBegunAs requests) c

-- ---- steps

module _ (config : TenantConfig) (requests : Requests) (name : List ℕ) where
  replaced_begun : (c : SoloCluster) (actor : Actor) → IsBegunAs requests name actor → AreBegun requests c → AreBegun requests (with_actor name actor c)
  replaced_begun c actor new begun = each-with_actor (IsBegunAs requests) (IsBegunAs requests) c name actor new (λ other a apart h. h) begun

  idle_begun : (s : Session) → s.running ≡ None → IsBegunAs requests name (OfSession s)
  idle_begun s idle running runs = absurd (let both : None ≡ Some running = sym idle ∙ runs in cc)

  after_begun : (s : Session) (running : Running) (step : LogStep) (shown : Progress) → s.running ≡ Some running → IsBegunAs requests name (OfSession s) →
      IsBegunAs requests name (OfSession (session_after s running step shown))
  after_begun s running step session_progress.Working runs known r e = known running runs ∙ ap (λ (o : Option Running). option_map {U = Begun} (λ r. record { context = r.context; asked = r.action }) o) e
  after_begun s running step (session_progress.Restarted times) runs known r e = known running runs ∙ ap (λ (o : Option Running). option_map {U = Begun} (λ r. record { context = r.context; asked = r.action }) o) e
  after_begun s running step (session_progress.Done answer) runs known r e = cc

  stepped_begun : (c : SoloCluster) (s : Session) (running : Running) (step : LogStep) → find_actor name c ≡ Some (OfSession s) → s.running ≡ Some running → AreBegun requests c →
      AreBegun requests (session_stepped config name s running step c).after
  stepped_begun c s running step found runs begun =
      let shown = session.progress config (request_of s running) running.log step in
      replaced_begun c (OfSession (session_after s running step shown)) (after_begun s running step shown runs (actor_found (IsBegunAs requests) c name (OfSession s) begun found)) begun

  carrier_begun : (after : Carrier) (shown : CarrierProgress) (c : SoloCluster) → AreBegun requests c → AreBegun requests (carrier_stepped name after shown c).after
  carrier_begun after carrier_progress.Working c begun = replaced_begun c (OfCarrier after) tt begun
  carrier_begun after (carrier_progress.Done ending) c begun = each-without (IsBegunAs requests) c name begun

  pub step_begun : (moment : ℕ) (c : SoloCluster) → AreBegun requests c → AreBegun requests (actor_step config name moment c).after
  step_begun moment c begun = by_step config name moment c (λ turn. AreBegun requests turn.after) (record {
    unknown = begun;
    idle = begun;
    called = λ s running directed found runs is. stepped_begun (call_node config directed.node (moment_at moment s) directed.call c).after s running _ found runs begun;
    late = λ s running found runs is. stepped_begun c s running _ found runs begun;
    ended = λ s running a found runs is. begun;
    carrier_called = λ k directed found is. carrier_begun _ _ (call_node config directed.node (max k.moment moment) directed.call c).after begun;
    carrier_waits = λ k found is. begun;
    carrier_ended = λ k ending found is. begun;
  })

  steps_begun : (more : ℕ) (moment : ℕ) (c : SoloCluster) → AreBegun requests c → AreBegun requests (actor_steps more config name moment c).after
  steps_begun more moment c begun =
      by_steps config name moment (AreBegun requests) (λ c turn. AreBegun requests turn.after) (step_begun moment) (λ c begun goes. step_begun moment c begun) (λ c turn begun goes later. later) more c begun

-- ---- acts

-- a turn after which it is known
abbrev BegunAfter : Requests → Act → ActEffect → Type 0
BegunAfter requests act turn = AreBegun (requests_after act turn.reply requests) turn.after

module _ (config : TenantConfig) (requests : Requests) (c : SoloCluster) (begun : AreBegun requests c) where
  -- an actor that runs nothing joins
  joins : (exists : Bool) (name : List ℕ) (actor : Actor) (reply : Reply) → IsBegunAs requests name actor →
      AreBegun requests (unless_refused (actor_refusal config exists name c) c (reply_with reply (with_new_actor name actor c))).after
  joins exists name actor reply new =
      by_refusal (actor_refusal config exists name c) c (reply_with reply (with_new_actor name actor c)) (λ turn. AreBegun requests turn.after) (λ fault. begun)
      (each-with_new (IsBegunAs requests) c name actor new begun)

  known_session : (name : List ℕ) (s : Session) → find_session name c ≡ Some s → IsBegunAs requests name (OfSession s)
  known_session name s found = actor_found (IsBegunAs requests) c name (OfSession s) begun (session_actor c name s found)

  -- a session whose request stays
  stays : (name : List ℕ) (after : Session → Session) (reply : Session → Reply) (refusal : Session → Option Fault) → ((s : Session) → (after s).running ≡ s.running) →
      AreBegun requests (on_session (find_session name c) c (λ s. unless_refused (refusal s) c (reply_with (reply s) (with_actor name (OfSession (after s)) c)))).after
  stays name after reply refusal same =
      by_session (find_session name c) c (λ s. unless_refused (refusal s) c (reply_with (reply s) (with_actor name (OfSession (after s)) c))) (λ turn. AreBegun requests turn.after) begun
      (λ s found. by_refusal (refusal s) c (reply_with (reply s) (with_actor name (OfSession (after s)) c)) (λ turn. AreBegun requests turn.after) (λ fault. begun)
      (replaced_begun config requests name c (OfSession (after s)) (λ r e. known_session name s found r (sym (same s) ∙ e)) begun))

  -- a session whose request begins
  begins : (name : List ℕ) (number : ℕ) (action : Action) (s : Session) → AreBegun (with_request name number action requests) (with_actor name (OfSession (request_begun number action s)) c)
  begins name number action s =
      each-with_actor (IsBegunAs requests) (IsBegunAs (with_request name number action requests)) c name (OfSession (request_begun number action s)) here others begun
    where
      here : IsBegunAs (with_request name number action requests) name (OfSession (request_begun number action s))
      here r e = rw (key_eq-refl name) (ap (λ (o : Option Running). option_map {U = Begun} (λ r. record { context = r.context; asked = r.action }) o) e)

      others : (other : List ℕ) (a : Actor) → key_eq other name ≡ false → IsBegunAs requests other a → IsBegunAs (with_request name number action requests) other a
      others other (OfSession r) apart known = λ running runs. rw apart (known running runs)
      others other (OfCarrier k) apart known = tt

begun_after : (config : TenantConfig) (requests : Requests) (act : Act) (c : SoloCluster) → AreBegun requests c → BegunAfter requests act (cluster_step config act c)
begun_after config requests (Open name dc) c begun = joins config requests c begun (nat_lt dc config.data_centres) name (OfSession (new_session dc 1)) Opened (idle_begun config requests name (new_session dc 1) refl)
begun_after config requests (Create name) c begun = stays config requests c begun name context_created (λ s. Created s.next_context) (create_refusal config) (λ s. refl)
begun_after config requests (Delete name number) c begun = stays config requests c begun name (context_deleted number) (λ s. Deleted) (context_refusal number) (λ s. refl)
begun_after config requests (Put name number key value) c begun =
    let act : Act = Put name number key value in
    let G : ActEffect → Type 0 = BegunAfter requests act in
    let starts : Session → ActEffect = λ s. reply_with Started (with_actor name (OfSession (request_begun number (Write key value) s)) c) in
    let asked : Session → ActEffect = λ s. unless_refused (session_put_refusal config number key s) c (starts s) in
    by_refusal (first_refusal ((not (is_key key), BadKey) ∷ (not (is_value value), ValueTooLong) ∷ [])) c (on_session (find_session name c) c asked) G (λ fault. begun)
    (by_session (find_session name c) c asked G begun
    (λ s found. by_refusal (session_put_refusal config number key s) c (starts s) G (λ fault. begun) (begins config requests c begun name number (Write key value) s)))
begun_after config requests (Get name number keys) c begun =
    let act : Act = Get name number keys in
    let G : ActEffect → Type 0 = BegunAfter requests act in
    let starts : Session → ActEffect = λ s. reply_with Started (with_actor name (OfSession (request_begun number (Fetch keys) s)) c) in
    let asked : Session → ActEffect = λ s. unless_refused (get_refusal config number keys s) c (starts s) in
    by_refusal (first_refusal ((nat_lt (length keys) 1, Syntax) ∷ (not (list_all is_key keys), BadKey) ∷ [])) c (on_session (find_session name c) c asked) G (λ fault. begun)
    (by_session (find_session name c) c asked G begun
    (λ s found. by_refusal (get_refusal config number keys s) c (starts s) G (λ fault. begun) (begins config requests c begun name number (Fetch keys) s)))
begun_after config requests (Show name number) c begun =
    let shows : Session → ActEffect = λ s. reply_with (Lists (all_of (obs_of number s)) (near_of (obs_of number s))) c in
    by_session (find_session name c) c (λ s. unless_refused (context_refusal number s) c (shows s)) (λ turn. AreBegun requests turn.after) begun
    (λ s found. by_refusal (context_refusal number s) c (shows s) (λ turn. AreBegun requests turn.after) (λ fault. begun) begun)
begun_after config requests (Carry name dc shard to_dc) c begun =
    let stream : Stream = record { origin = record { dc = dc; shard = shard }; to_dc = to_dc } in
    joins config requests c begun (has_stream config dc shard to_dc) name (OfCarrier (new_carrier stream)) Started tt
begun_after config requests (Step name moment) c begun = step_begun config requests name moment c begun
begun_after config requests (Done name moment) c begun = steps_begun config requests name (most_steps config) moment c begun
begun_after config requests (Collect dc shard moment) c begun =
    let id : NodeId = record { dc = dc; shard = shard } in
    by_refusal (first_refusal ((not (has_node config dc shard), NoSuchPlace) ∷ [])) c (collect_at config id moment c) (λ turn. AreBegun requests turn.after) (λ fault. begun) begun

-- ---- turns

lack_requests : (act : Act) (requests : Requests) → requests_after act (Refused OutOfMemory) requests ≡ requests
lack_requests (Open name dc) requests = refl
lack_requests (Create name) requests = refl
lack_requests (Delete name number) requests = refl
lack_requests (Put name number key value) requests = refl
lack_requests (Get name number keys) requests = refl
lack_requests (Show name number) requests = refl
lack_requests (Carry name dc shard to_dc) requests = refl
lack_requests (Step name moment) requests = refl
lack_requests (Done name moment) requests = refl
lack_requests (Collect dc shard moment) requests = refl

module _ (config : TenantConfig) (requests : Requests) (act : Act) where
  lack_begun : (c d : SoloCluster) → AreBegun requests c → Lacks config act c d → AreBegun requests d
  lack_begun = by_lack config (AreBegun requests) act (λ name moment in_act. record {
    dropped = λ c s running found runs begun. replaced_begun config requests name c (OfSession (request_dropped (moment_at moment s) s)) (λ r e. cc) begun;
    read_dropped = λ c s running directed keys found runs fetches calls begun.
        replaced_begun config requests name (call_node config directed.node (moment_at moment s) directed.call c).after (OfSession (request_dropped (moment_at moment s) s)) (λ r e. cc) begun;
    carrier_dropped = λ c k found begun. each-without (IsBegunAs requests) c name begun;
    goes = λ c begun goes. step_begun config requests name moment c begun;
  })

  -- it is known after each turn
  pub turn_begun : (c d : SoloCluster) (reply : Reply) → AreBegun requests c → Turns config act c reply d → AreBegun (requests_after act reply requests) d
  turn_begun c d reply begun (inl (same, left)) =
      subst (AreBegun (requests_after act reply requests)) (sym left) (subst (λ r. AreBegun (requests_after act r requests) (cluster_step config act c).after) (sym same) (begun_after config requests act c begun))
  turn_begun c d reply begun (inr (same, lacks)) =
      subst (λ r. AreBegun (requests_after act r requests) d) (sym same) (subst (λ k. AreBegun k d) (sym (lack_requests act requests)) (lack_begun c d begun lacks))

-- ---- the operations that are read off are those of the other definition

-- the contexts are those of the requests
abbrev pub AreContexts : Requests → Contexts → Type 0
AreContexts requests contexts = (name : List ℕ) → contexts name ≡ option_map (λ (b : Begun). b.context) (requests name)

by_name : (session : List ℕ) (number : ℕ) (asked : Action) (requests : Requests) (contexts : Contexts) → AreContexts requests contexts → (name : List ℕ) →
    with_context session number contexts name ≡ option_map (λ (b : Begun). b.context) (with_request session number asked requests name)
by_name session number asked requests contexts are name =
    elim (key_eq name session) as (λ b. cond b (Some number) (contexts name) ≡ option_map (λ (b : Begun). b.context) (cond b (Some (record { context = number; asked = asked })) (requests name))) [
      | true ↦ refl
      | false ↦ are name
    ]

pub contexts_still : (act : Act) (reply : Reply) (requests : Requests) (contexts : Contexts) → AreContexts requests contexts → AreContexts (requests_after act reply requests) (contexts_after act reply contexts)
contexts_still (Put session number key value) Started requests contexts are = λ name. by_name session number (Write key value) requests contexts are name
contexts_still (Get session number keys) Started requests contexts are = λ name. by_name session number (Fetch keys) requests contexts are name
contexts_still act reply requests contexts are = are

pub operation_same : (requests : Requests) (contexts : Contexts) (act : Act) (reply : Reply) → AreContexts requests contexts → option_map (λ (e : Ended). e.operation) (ended_told requests act reply) ≡ operation_told contexts act reply
operation_same requests contexts act reply are = by_effect (effect_of reply)
  where
    by_request : (name : List ℕ) (effect : Effect) (o : Option Begun) →
        option_map (λ (e : Ended). e.operation) (option_map (ended_with name effect) o)
        ≡ option_map {U = Operation} (λ n. record { session = name; context = n; effect = effect }) (option_map (λ (b : Begun). b.context) o)
    by_request name effect None = refl
    by_request name effect (Some b) = refl

    by_actor : (effect : Effect) (stepped : Option (List ℕ)) →
        option_map (λ (e : Ended). e.operation) (option_and_then (λ session. option_map (ended_with session effect) (requests session)) stepped) ≡ option_and_then (operation_of contexts effect) stepped
    by_actor effect None = refl
    by_actor effect (Some name) = by_request name effect (requests name) ∙ ap (option_map {U = Operation} (λ n. record { session = name; context = n; effect = effect })) (sym (are name))

    by_effect : (o : Option Effect) →
        option_map (λ (e : Ended). e.operation) (option_and_then (λ effect. option_and_then (λ session. option_map (ended_with session effect) (requests session)) (stepped_actor act)) o)
        ≡ option_and_then (λ effect. option_and_then (operation_of contexts effect) (stepped_actor act)) o
    by_effect None = refl
    by_effect (Some effect) = by_actor effect (stepped_actor act)

map_ended : (o : Option Ended) (es : List Ended) → operations_in (cons_option o es) ≡ cons_option (option_map (λ (e : Ended). e.operation) o) (operations_in es)
map_ended None es = refl
map_ended (Some e) es = refl

operations_from : (acts : List Act) (told : List Reply) (requests : Requests) (contexts : Contexts) → AreContexts requests contexts → operations_in (transcript_from acts told requests) ≡ operations_told_from acts told contexts
operations_from [] told requests contexts are = refl
operations_from (act ∷ acts) [] requests contexts are = refl
operations_from (act ∷ acts) (reply ∷ told) requests contexts are =
    map_ended (ended_told requests act reply) (transcript_from acts told (requests_after act reply requests))
    ∙ (λ i. cons_option (operation_same requests contexts act reply are i)
    (operations_from acts told (requests_after act reply requests) (contexts_after act reply contexts) (contexts_still act reply requests contexts are) i))

pub operations_same : (acts : List Act) (told : List Reply) → operations_in (transcript acts told) ≡ operations_told acts told
operations_same acts told = operations_from acts told (λ name. None) (λ name. None) (λ name. refl)
