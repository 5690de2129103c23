-- The operations that a tenant derives from its acts and replies are those of its cluster.
use Rattle.std.proofs.Common.{◌≡◌, ℕ, Bool, not, List, [], ◌∷◌, refl, sym, ◌∙◌, ap, subst}
use Rattle.std.specs.Prelude.{Option, Some, None, if◌then◌else◌, max, nat_lt, length}
use Rattle.std.specs.List.{list_all}
use Rattle.std.specs.Option.{option_map, option_and_then}
use Rattle.cops_types.specs.declared.faults.Fault.{Fault}
use Rattle.cops_types.specs.declared.faults.Fault.TheVariants.{Syntax, BadKey, ValueTooLong, NoSuchPlace}
use Rattle.cops_types.specs.Context.{all_of, near_of}
use Rattle.cops_types.specs.Key.{is_key, key_eq}
use Rattle.cops_types.specs.Search.{first_refusal}
use Rattle.cops_types.specs.TenantConfig.{TenantConfig}
use Rattle.cops_types.specs.Value.{is_value}
use Rattle.cops_types.proofs.KeyTests.{key_eq-refl}
use Rattle.cops_model.specs.declared.calls.NodeId.{NodeId}
use Rattle.cops_model.specs.Log.{LogStep}
use Rattle.cops_model.specs.declared.requests.Progress.{Progress}
use Rattle.cops_model.specs.declared.requests.Progress.TheVariants as session_progress
use Rattle.cops_model.specs.Request.{Write, Fetch}
use Rattle.cops_model.specs.Session.{Running, Session, context_created, context_deleted, context_refusal, create_refusal, get_refusal, moment_at, new_session, obs_of, request_begun, request_of, session_after, session_put_refusal}
use Rattle.cops_model.specs.Session as session
use Rattle.cops_model.specs.declared.deliveries.Progress.{Progress as CarrierProgress}
use Rattle.cops_model.specs.declared.deliveries.Progress.TheVariants as carrier_progress
use Rattle.cops_model.specs.Carrier.{Carrier, Stream, new_carrier}
use Rattle.cops_model.specs.declared.acts.Act.{Act}
use Rattle.cops_model.specs.declared.acts.Act.TheVariants.{Open, Create, Delete, Put, Get, Show, Carry, Step, Done, Collect}
use Rattle.cops_model.specs.declared.replies.Reply.{Reply}
use Rattle.cops_model.specs.declared.replies.Reply.TheVariants.{Opened, Created, Deleted, Started, Lists}
use Rattle.cops_model.specs.Causal.{Operation, Effect, effect_of, stepped_actor}
use Rattle.cops_model.specs.Cluster.{ActEffect, Actor, OfCarrier, OfSession, SoloCluster, actor_refusal, actor_step, actor_steps, call_node, carrier_stepped, cluster_step, collect_at, find_actor, find_session, has_node, has_stream, most_steps, on_session, reply_with, session_in, session_stepped, unless_refused, with_actor, with_new_actor}
use Rattle.cops_model.specs.Told.{Contexts, contexts_after, operation_told}
use Rattle.cops_causal.proofs.ActorsKeep.{EachActor, actor_found, each-with_actor, each-with_new, each-without, session_actor}
use Rattle.cops_causal.proofs.AfterActs.{context_run, operation_by-context}
use Rattle.cops_causal.proofs.ToldOperations.{Runs, actor_step_runs, actor_steps_run}
use Rattle.cops_causal.proofs.ActorSteps.{by_step, by_steps}
use Rattle.cops_causal.proofs.EndedOperations.{operation_by, operation_ended}

-- the contexts, with this one at the session
abbrev pub with_context : List ℕ → ℕ → Contexts → Contexts
with_context session number contexts name = if key_eq name session then Some number else contexts name

-- the operation with this effect, if the session's context is known
abbrev pub operation_of : Contexts → Effect → List ℕ → Option Operation
operation_of contexts effect session = option_map (λ number. record { session = session; context = number; effect = effect }) (contexts session)

-- the context of what an actor runs
abbrev pub context_in : Actor → Option ℕ
context_in (OfSession s) = option_map (λ (r : Running). r.context) s.running
context_in (OfCarrier k) = None

-- what an actor runs is of the context that is known
abbrev pub IsKnownTo : Contexts → List ℕ → Actor → Type 0
IsKnownTo contexts name actor = (n : ℕ) → context_in actor ≡ Some n → contexts name ≡ Some n

-- so is what each actor runs
abbrev pub Knows : Contexts → SoloCluster → Type 0
Knows contexts c = EachActor (IsKnownTo contexts) c

context_found : (found : Option Actor) (n : ℕ) → option_map (λ (r : Running). r.context) (option_and_then (λ (s : Session). s.running) (option_and_then session_in found)) ≡ Some n →
    (a : Actor) × (found ≡ Some a) × (context_in a ≡ Some n)
context_found None n e = cc
context_found (Some (OfSession s)) n e = (OfSession s, refl, e)
context_found (Some (OfCarrier k)) n e = cc

-- the context that a session's request runs in is known
known_context : (contexts : Contexts) (c : SoloCluster) (name : List ℕ) (n : ℕ) → Knows contexts c → context_run name c ≡ Some n → contexts name ≡ Some n
known_context contexts c name n knows runs =
    let there = context_found (find_actor name c) n runs in
    actor_found (IsKnownTo contexts) c name there.0 knows there.1 n there.2

-- ---- steps

module _ (config : TenantConfig) (contexts : Contexts) (name : List ℕ) where
  pub replaced_knows : (c : SoloCluster) (actor : Actor) → IsKnownTo contexts name actor → Knows contexts c → Knows contexts (with_actor name actor c)
  replaced_knows c actor new knows = each-with_actor (IsKnownTo contexts) (IsKnownTo contexts) c name actor new (λ other a apart h. h) knows

  after_knows : (s : Session) (running : Running) (step : LogStep) (shown : Progress) → s.running ≡ Some running → IsKnownTo contexts name (OfSession s) →
      IsKnownTo contexts name (OfSession (session_after s running step shown))
  after_knows s running step session_progress.Working runs known n e = known n (ap (option_map (λ (r : Running). r.context)) runs ∙ e)
  after_knows s running step (session_progress.Restarted times) runs known n e = known n (ap (option_map (λ (r : Running). r.context)) runs ∙ e)
  after_knows s running step (session_progress.Done answer) runs known n e = cc

  stepped_knows : (c : SoloCluster) (s : Session) (running : Running) (step : LogStep) → find_actor name c ≡ Some (OfSession s) → s.running ≡ Some running → Knows contexts c →
      Knows contexts (session_stepped config name s running step c).after
  stepped_knows c s running step found runs knows =
      let shown = session.progress config (request_of s running) running.log step in
      replaced_knows c (OfSession (session_after s running step shown))
      (after_knows s running step shown runs (actor_found (IsKnownTo contexts) c name (OfSession s) knows found)) knows

  idle_carrier : (k : Carrier) → IsKnownTo contexts name (OfCarrier k)
  idle_carrier k n e = cc

  carrier_stepped_knows : (after : Carrier) (shown : CarrierProgress) (c : SoloCluster) → Knows contexts c → Knows contexts (carrier_stepped name after shown c).after
  carrier_stepped_knows after carrier_progress.Working c knows = replaced_knows c (OfCarrier after) (idle_carrier after) knows
  carrier_stepped_knows after (carrier_progress.Done ending) c knows = each-without (IsKnownTo contexts) c name knows

  pub step_knows : (moment : ℕ) (c : SoloCluster) → Knows contexts c → Knows contexts (actor_step config name moment c).after
  step_knows moment c knows = by_step config name moment c (λ turn. Knows contexts turn.after) (record {
    unknown = knows;
    idle = knows;
    called = λ s running directed found runs is. stepped_knows (call_node config directed.node (moment_at moment s) directed.call c).after s running _ found runs knows;
    late = λ s running found runs is. stepped_knows c s running _ found runs knows;
    ended = λ s running a found runs is. knows;
    carrier_called = λ k directed found is. carrier_stepped_knows _ _ (call_node config directed.node (max k.moment moment) directed.call c).after knows;
    carrier_waits = λ k found is. knows;
    carrier_ended = λ k ending found is. knows;
  })

  steps_know : (more : ℕ) (moment : ℕ) (c : SoloCluster) → Knows contexts c → Knows contexts (actor_steps more config name moment c).after
  steps_know more moment c knows =
      by_steps config name moment (Knows contexts) (λ c turn. Knows contexts turn.after) (step_knows moment) (λ c knows goes. step_knows moment c knows) (λ c turn knows goes later. later) more c knows

-- ---- acts

-- a turn after which what each actor runs is known
abbrev pub KnowsAfter : Contexts → Act → ActEffect → Type 0
KnowsAfter contexts act turn = Knows (contexts_after act turn.reply contexts) turn.after

pub by_refusal : (refusal : Option Fault) (c : SoloCluster) (turn : ActEffect) (G : ActEffect → Type 0) → ((fault : Fault) → G (unless_refused (Some fault) c turn)) → G turn → G (unless_refused refusal c turn)
by_refusal (Some fault) c turn G refused passed = refused fault
by_refusal None c turn G refused passed = passed

pub by_session : (found : Option Session) (c : SoloCluster) (act : Session → ActEffect) (G : ActEffect → Type 0) → G (on_session None c act) → ((s : Session) → found ≡ Some s → G (act s)) → G (on_session found c act)
by_session (Some s) c act G none some = some s refl
by_session None c act G none some = none

module _ (config : TenantConfig) (contexts : Contexts) (c : SoloCluster) (knows : Knows contexts c) where
  -- an actor that runs nothing joins
  joins : (exists : Bool) (name : List ℕ) (actor : Actor) (reply : Reply) → IsKnownTo contexts name actor →
      Knows contexts (unless_refused (actor_refusal config exists name c) c (reply_with reply (with_new_actor name actor c))).after
  joins exists name actor reply new =
      by_refusal (actor_refusal config exists name c) c (reply_with reply (with_new_actor name actor c)) (λ turn. Knows contexts turn.after) (λ fault. knows)
      (each-with_new (IsKnownTo contexts) c name actor new knows)

  known_session : (name : List ℕ) (s : Session) → find_session name c ≡ Some s → IsKnownTo contexts name (OfSession s)
  known_session name s found = actor_found (IsKnownTo contexts) c name (OfSession s) knows (session_actor c name s found)

  -- a session whose request stays
  stays : (name : List ℕ) (after : Session → Session) (reply : Session → Reply) (refusal : Session → Option Fault) → ((s : Session) → (after s).running ≡ s.running) →
      Knows contexts (on_session (find_session name c) c (λ s. unless_refused (refusal s) c (reply_with (reply s) (with_actor name (OfSession (after s)) c)))).after
  stays name after reply refusal same =
      by_session (find_session name c) c (λ s. unless_refused (refusal s) c (reply_with (reply s) (with_actor name (OfSession (after s)) c))) (λ turn. Knows contexts turn.after) knows
      (λ s found. by_refusal (refusal s) c (reply_with (reply s) (with_actor name (OfSession (after s)) c)) (λ turn. Knows contexts turn.after) (λ fault. knows)
      (replaced_knows config contexts name c (OfSession (after s)) (λ n e. known_session name s found n (ap (option_map (λ (r : Running). r.context)) (sym (same s)) ∙ e)) knows))

  -- a session whose request begins
  begun : (name : List ℕ) (number : ℕ) (after : Session) → context_in (OfSession after) ≡ Some number → Knows (with_context name number contexts) (with_actor name (OfSession after) c)
  begun name number after runs =
      each-with_actor (IsKnownTo contexts) (IsKnownTo (with_context name number contexts)) c name (OfSession after)
      (λ n e. rw (key_eq-refl name) (sym runs ∙ e))
      (λ other a apart known n e. rw apart (known n e)) knows

pub knows_after : (config : TenantConfig) (contexts : Contexts) (act : Act) (c : SoloCluster) → Knows contexts c → KnowsAfter contexts act (cluster_step config act c)
knows_after config contexts (Open name dc) c knows = joins config contexts c knows (nat_lt dc config.data_centres) name (OfSession (new_session dc 1)) Opened (λ n e. cc)
knows_after config contexts (Create name) c knows = stays config contexts c knows name context_created (λ s. Created s.next_context) (create_refusal config) (λ s. refl)
knows_after config contexts (Delete name number) c knows = stays config contexts c knows name (context_deleted number) (λ s. Deleted) (context_refusal number) (λ s. refl)
knows_after config contexts (Put name number key value) c knows =
    let act : Act = Put name number key value in
    let G : ActEffect → Type 0 = KnowsAfter contexts act in
    let begins : Session → ActEffect = λ s. reply_with Started (with_actor name (OfSession (request_begun number (Write key value) s)) c) in
    let asked : Session → ActEffect = λ s. unless_refused (session_put_refusal config number key s) c (begins s) in
    by_refusal (first_refusal ((not (is_key key), BadKey) ∷ (not (is_value value), ValueTooLong) ∷ [])) c (on_session (find_session name c) c asked) G (λ fault. knows)
    (by_session (find_session name c) c asked G knows
    (λ s found. by_refusal (session_put_refusal config number key s) c (begins s) G (λ fault. knows) (begun config contexts c knows name number (request_begun number (Write key value) s) refl)))
knows_after config contexts (Get name number keys) c knows =
    let act : Act = Get name number keys in
    let G : ActEffect → Type 0 = KnowsAfter contexts act in
    let begins : Session → ActEffect = λ s. reply_with Started (with_actor name (OfSession (request_begun number (Fetch keys) s)) c) in
    let asked : Session → ActEffect = λ s. unless_refused (get_refusal config number keys s) c (begins s) in
    by_refusal (first_refusal ((nat_lt (length keys) 1, Syntax) ∷ (not (list_all is_key keys), BadKey) ∷ [])) c (on_session (find_session name c) c asked) G (λ fault. knows)
    (by_session (find_session name c) c asked G knows
    (λ s found. by_refusal (get_refusal config number keys s) c (begins s) G (λ fault. knows) (begun config contexts c knows name number (request_begun number (Fetch keys) s) refl)))
knows_after config contexts (Show name number) c knows =
    let shows : Session → ActEffect = λ s. reply_with (Lists (all_of (obs_of number s)) (near_of (obs_of number s))) c in
    by_session (find_session name c) c (λ s. unless_refused (context_refusal number s) c (shows s)) (λ turn. Knows contexts turn.after) knows
    (λ s found. by_refusal (context_refusal number s) c (shows s) (λ turn. Knows contexts turn.after) (λ fault. knows) knows)
knows_after config contexts (Carry name dc shard to_dc) c knows =
    let stream : Stream = record { origin = record { dc = dc; shard = shard }; to_dc = to_dc } in
    joins config contexts c knows (has_stream config dc shard to_dc) name (OfCarrier (new_carrier stream)) Started (λ n e. cc)
knows_after config contexts (Step name moment) c knows = step_knows config contexts name moment c knows
knows_after config contexts (Done name moment) c knows = steps_know config contexts name (most_steps config) moment c knows
knows_after config contexts (Collect dc shard moment) c knows =
    let id : NodeId = record { dc = dc; shard = shard } in
    by_refusal (first_refusal ((not (has_node config dc shard), NoSuchPlace) ∷ [])) c (collect_at config id moment c) (λ turn. Knows contexts turn.after) (λ fault. knows) knows

-- ---- the operation of each act

-- a reply that ends an operation goes to an actor that runs it
pub act_runs : (config : TenantConfig) (act : Act) (c : SoloCluster) (name : List ℕ) → stepped_actor act ≡ Some name → Runs c name (cluster_step config act c).reply
act_runs config (Step other moment) c name is = let same : other ≡ name = cc in subst (λ n. Runs c n (actor_step config other moment c).reply) same (actor_step_runs config c other moment)
act_runs config (Done other moment) c name is =
    let same : other ≡ name = cc in subst (λ n. Runs c n (actor_steps (most_steps config) config other moment c).reply) same (actor_steps_run (most_steps config) config c other moment)
act_runs config (Open other dc) c name is = cc
act_runs config (Create other) c name is = cc
act_runs config (Delete other number) c name is = cc
act_runs config (Put other number key value) c name is = cc
act_runs config (Get other number keys) c name is = cc
act_runs config (Show other number) c name is = cc
act_runs config (Carry other dc shard to_dc) c name is = cc
act_runs config (Collect dc shard moment) c name is = cc

pub told_is : (contexts : Contexts) (c : SoloCluster) (act : Act) (reply : Reply) → Knows contexts c → ((name : List ℕ) → stepped_actor act ≡ Some name → Runs c name reply) →
    operation_told contexts act reply ≡ operation_ended c act reply
told_is contexts c act reply knows runs = by_effect (effect_of reply) refl
  where
    as_operation : Effect → List ℕ → Option ℕ → Option Operation
    as_operation effect name found = option_map (λ n. record { session = name; context = n; effect = effect }) found

    by_actor : (effect : Effect) (stepped : Option (List ℕ)) → stepped_actor act ≡ stepped → effect_of reply ≡ Some effect →
        option_and_then (operation_of contexts effect) stepped ≡ option_and_then (operation_by c effect) stepped
    by_actor effect None at e = refl
    by_actor effect (Some name) at e =
        let there = runs name at effect e in
        ap (as_operation effect name) (known_context contexts c name there.0 knows there.1)
        ∙ sym (operation_by-context c effect name ∙ ap (as_operation effect name) there.1)

    by_effect : (found : Option Effect) → effect_of reply ≡ found →
        option_and_then (λ effect. option_and_then (operation_of contexts effect) (stepped_actor act)) found
        ≡ option_and_then (λ effect. option_and_then (operation_by c effect) (stepped_actor act)) found
    by_effect None e = refl
    by_effect (Some effect) e = by_actor effect (stepped_actor act) refl e
