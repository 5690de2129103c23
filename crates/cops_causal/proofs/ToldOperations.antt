-- The operations of a run are exactly those whose end is in the tenant's replies.
use Rattle.std.proofs.Common.{◌≡◌, ℕ, List, [], ◌∷◌, map, refl, sym, ◌∙◌, ap, subst}
use Rattle.std.specs.Prelude.{Option, Some, None, max, not, nat_lt, length}
use Rattle.std.specs.List.{cons_option, list_all}
use Rattle.std.specs.Option.{option_map, option_and_then}
use Rattle.cops_types.specs.declared.faults.Fault.{Fault}
use Rattle.cops_types.specs.declared.faults.Fault.TheVariants.{Syntax, BadKey, ValueTooLong, NoSuchPlace, UnknownName, Idle}
use Rattle.cops_types.specs.Context.{all_of, near_of}
use Rattle.cops_types.specs.Key.{is_key}
use Rattle.cops_types.specs.Search.{first_refusal}
use Rattle.cops_types.specs.TenantConfig.{TenantConfig}
use Rattle.cops_types.specs.Value.{is_value}
use Rattle.cops_model.specs.declared.calls.NodeCall.TheVariants as node_call
use Rattle.cops_model.specs.declared.calls.NodeId.{NodeId}
use Rattle.cops_model.specs.Request.{Write, Fetch}
use Rattle.cops_model.specs.Session.{Running, Session, context_created, context_deleted, context_refusal, create_refusal, get_refusal, new_session, obs_of, request_begun, session_put_refusal}
use Rattle.cops_model.specs.Carrier.{Stream, new_carrier}
use Rattle.cops_model.specs.declared.acts.Act.{Act}
use Rattle.cops_model.specs.declared.acts.Act.TheVariants.{Open, Create, Delete, Put, Get, Show, Carry, Step, Done, Collect}
use Rattle.cops_model.specs.declared.replies.Reply.{Reply}
use Rattle.cops_model.specs.declared.replies.Reply.TheVariants.{Opened, Created, Deleted, Started, Lists, Refused, Working}
use Rattle.cops_model.specs.Causal.{Operation, Effect, effect_of, stepped_actor}
use Rattle.cops_model.specs.Cluster.{ActEffect, Actor, OfCarrier, OfSession, SoloCluster, actor_refusal, actor_step, actor_steps, call_node, cluster_step, collect_at, find_actor, find_session, has_node, has_stream, most_steps, on_session, reply_of_delivery, reply_with, session_in, unless_refused, with_actor, with_new_actor}
use Rattle.cops_causal.proofs.AfterActs.{actor_step_context, context_run, operation_by-context}
use Rattle.cops_causal.proofs.Moves.{plain_collect, plain_answer, plain_carrier}
use Rattle.cops_causal.proofs.ActorSteps.{by_step, by_steps}
use Rattle.cops_causal.proofs.EndedOperations.{operation_by, operation_ended}

-- ---- a reply that ends an operation goes to an actor that runs a request

-- if the reply is the end of an operation, the session of this name runs a request
abbrev pub Runs : SoloCluster → List ℕ → Reply → Type 0
Runs c name reply = (effect : Effect) → effect_of reply ≡ Some effect → (n : ℕ) × (context_run name c ≡ Some n)

pub no_end : (c : SoloCluster) (name : List ℕ) (reply : Reply) → effect_of reply ≡ None → Runs c name reply
no_end c name reply plain effect e = absurd (let clash : None ≡ Some effect = sym plain ∙ e in let no : ⊥ = cc in no)

-- a session whose request this is runs it, whatever the reply
runs_in : (c : SoloCluster) (name : List ℕ) (s : Session) (running : Running) (reply : Reply) → find_actor name c ≡ Some (OfSession s) → s.running ≡ Some running → Runs c name reply
runs_in c name s running reply found runs effect e = (
  running.context,
  ap (λ (a : Option Actor). option_map (λ (r : Running). r.context) (option_and_then (λ (s : Session). s.running) (option_and_then session_in a))) found
      ∙ ap (option_map (λ (r : Running). r.context)) runs,
)

pub actor_step_runs : (config : TenantConfig) (c : SoloCluster) (name : List ℕ) (moment : ℕ) → Runs c name (actor_step config name moment c).reply
actor_step_runs config c name moment = by_step config name moment c (λ turn. Runs c name turn.reply) (record {
  unknown = no_end c name (Refused UnknownName) refl;
  idle = no_end c name (Refused Idle) refl;
  called = λ s running directed found runs is. runs_in c name s running _ found runs;
  late = λ s running found runs is. runs_in c name s running _ found runs;
  ended = λ s running a found runs is. runs_in c name s running _ found runs;
  carrier_called = λ k directed found is. no_end c name _ (plain_carrier name _ _ (call_node config directed.node (max k.moment moment) directed.call c).after);
  carrier_waits = λ k found is. no_end c name Working refl;
  carrier_ended = λ k ending found is. no_end c name (reply_of_delivery ending) (plain_answer ending);
})

pub actor_steps_run : (more : ℕ) (config : TenantConfig) (c : SoloCluster) (name : List ℕ) (moment : ℕ) → Runs c name (actor_steps more config name moment c).reply
actor_steps_run more config c name moment =
    by_steps config name moment (λ c. Unit {0}) (λ c turn. Runs c name turn.reply) (λ c is. actor_step_runs config c name moment) (λ c is goes. tt)
    (λ c turn is goes later effect e. let found = later effect e in (found.0, sym (actor_step_context config c name moment goes) ∙ found.1)) more c tt

-- ---- the operation of each act

-- the reply is the end of the operation that the act ended
abbrev pub IsTold : SoloCluster → Act → Reply → Type 0
IsTold c act reply = option_map (λ (o : Operation). o.effect) (operation_ended c act reply) ≡ effect_of reply

plainly_told : (c : SoloCluster) (act : Act) (reply : Reply) → effect_of reply ≡ None → IsTold c act reply
plainly_told c act reply plain =
    subst (λ e. option_map (λ (o : Operation). o.effect) (option_and_then (λ effect. option_and_then (operation_by c effect) (stepped_actor act)) e) ≡ e) (sym plain) refl

-- of an act that steps the actor of this name
stepped_told : (c : SoloCluster) (act : Act) (name : List ℕ) (reply : Reply) → stepped_actor act ≡ Some name → Runs c name reply → IsTold c act reply
stepped_told c act name reply steps runs = by_effect (effect_of reply) refl
  where
    by_effect : (found : Option Effect) → effect_of reply ≡ found →
        option_map (λ (o : Operation). o.effect) (option_and_then (λ effect. option_and_then (operation_by c effect) (stepped_actor act)) found) ≡ found
    by_effect None e = refl
    by_effect (Some effect) e =
        let found = runs effect e in
        ap (λ n. option_map (λ (o : Operation). o.effect) (option_and_then (operation_by c effect) n)) steps
        ∙ ap (option_map (λ (o : Operation). o.effect)) (operation_by-context c effect name)
        ∙ ap (λ n. option_map (λ (o : Operation). o.effect) (option_map {U = Operation} (λ n. record { session = name; context = n; effect = effect }) n)) found.1

plain_unless : (refusal : Option Fault) (c : SoloCluster) (turn : ActEffect) → effect_of turn.reply ≡ None → effect_of (unless_refused refusal c turn).reply ≡ None
plain_unless None c turn plain = plain
plain_unless (Some fault) c turn plain = refl

plain_on : (found : Option Session) (c : SoloCluster) (act : Session → ActEffect) → ((s : Session) → effect_of (act s).reply ≡ None) → effect_of (on_session found c act).reply ≡ None
plain_on None c act plain = refl
plain_on (Some s) c act plain = plain s

-- acts that step nobody
module _ (config : TenantConfig) (c : SoloCluster) where
  plain_create : (name : List ℕ) → effect_of (cluster_step config (Create name) c).reply ≡ None
  plain_create name =
      plain_on (find_session name c) c (λ s. unless_refused (create_refusal config s) c (reply_with (Created s.next_context) (with_actor name (OfSession (context_created s)) c)))
      (λ s. plain_unless (create_refusal config s) c (reply_with (Created s.next_context) (with_actor name (OfSession (context_created s)) c)) refl)

  plain_delete : (name : List ℕ) (number : ℕ) → effect_of (cluster_step config (Delete name number) c).reply ≡ None
  plain_delete name number =
      plain_on (find_session name c) c (λ s. unless_refused (context_refusal number s) c (reply_with Deleted (with_actor name (OfSession (context_deleted number s)) c)))
      (λ s. plain_unless (context_refusal number s) c (reply_with Deleted (with_actor name (OfSession (context_deleted number s)) c)) refl)

  plain_put : (name : List ℕ) (number : ℕ) (key value : List ℕ) → effect_of (cluster_step config (Put name number key value) c).reply ≡ None
  plain_put name number key value =
      let begins : Session → ActEffect = λ s. reply_with Started (with_actor name (OfSession (request_begun number (Write key value) s)) c) in
      let asked : Session → ActEffect = λ s. unless_refused (session_put_refusal config number key s) c (begins s) in
      plain_unless (first_refusal ((not (is_key key), BadKey) ∷ (not (is_value value), ValueTooLong) ∷ [])) c (on_session (find_session name c) c asked)
      (plain_on (find_session name c) c asked (λ s. plain_unless (session_put_refusal config number key s) c (begins s) refl))

  plain_get : (name : List ℕ) (number : ℕ) (keys : List (List ℕ)) → effect_of (cluster_step config (Get name number keys) c).reply ≡ None
  plain_get name number keys =
      let begins : Session → ActEffect = λ s. reply_with Started (with_actor name (OfSession (request_begun number (Fetch keys) s)) c) in
      let asked : Session → ActEffect = λ s. unless_refused (get_refusal config number keys s) c (begins s) in
      plain_unless (first_refusal ((nat_lt (length keys) 1, Syntax) ∷ (not (list_all is_key keys), BadKey) ∷ [])) c (on_session (find_session name c) c asked)
      (plain_on (find_session name c) c asked (λ s. plain_unless (get_refusal config number keys s) c (begins s) refl))

  plain_show : (name : List ℕ) (number : ℕ) → effect_of (cluster_step config (Show name number) c).reply ≡ None
  plain_show name number =
      let shows : Session → ActEffect = λ s. reply_with (Lists (all_of (obs_of number s)) (near_of (obs_of number s))) c in
      plain_on (find_session name c) c (λ s. unless_refused (context_refusal number s) c (shows s)) (λ s. plain_unless (context_refusal number s) c (shows s) refl)

pub act_told : (config : TenantConfig) (act : Act) (c : SoloCluster) → IsTold c act (cluster_step config act c).reply
act_told config (Open name dc) c =
    let act : Act = Open name dc in
    plainly_told c act (cluster_step config act c).reply
    (plain_unless (actor_refusal config (nat_lt dc config.data_centres) name c) c (reply_with Opened (with_new_actor name (OfSession (new_session dc 1)) c)) refl)
act_told config (Create name) c = plainly_told c (Create name) (cluster_step config (Create name) c).reply (plain_create config c name)
act_told config (Delete name number) c = plainly_told c (Delete name number) (cluster_step config (Delete name number) c).reply (plain_delete config c name number)
act_told config (Put name number key value) c =
    plainly_told c (Put name number key value) (cluster_step config (Put name number key value) c).reply (plain_put config c name number key value)
act_told config (Get name number keys) c = plainly_told c (Get name number keys) (cluster_step config (Get name number keys) c).reply (plain_get config c name number keys)
act_told config (Show name number) c = plainly_told c (Show name number) (cluster_step config (Show name number) c).reply (plain_show config c name number)
act_told config (Carry name dc shard to_dc) c =
    let act : Act = Carry name dc shard to_dc in
    let stream : Stream = record { origin = record { dc = dc; shard = shard }; to_dc = to_dc } in
    plainly_told c act (cluster_step config act c).reply
    (plain_unless (actor_refusal config (has_stream config dc shard to_dc) name c) c (reply_with Started (with_new_actor name (OfCarrier (new_carrier stream)) c)) refl)
act_told config (Step name moment) c = stepped_told c (Step name moment) name (cluster_step config (Step name moment) c).reply refl (actor_step_runs config c name moment)
act_told config (Done name moment) c =
    stepped_told c (Done name moment) name (cluster_step config (Done name moment) c).reply refl (actor_steps_run (most_steps config) config c name moment)
act_told config (Collect dc shard moment) c =
    let act : Act = Collect dc shard moment in
    let id : NodeId = record { dc = dc; shard = shard } in
    plainly_told c act (cluster_step config act c).reply (plain_unless (first_refusal ((not (has_node config dc shard), NoSuchPlace) ∷ [])) c (collect_at config id moment c)
    (plain_collect (call_node config id moment node_call.Collect c).reply))

-- ---- all acts

pub map_cons : (o : Option Operation) (os : List Operation) → map (λ (o : Operation). o.effect) (cons_option o os) ≡ cons_option (option_map (λ (o : Operation). o.effect) o) (map (λ (o : Operation). o.effect) os)
map_cons None os = refl
map_cons (Some o) os = refl
