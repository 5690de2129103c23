-- A cluster that one tenant has to itself, and what an act does to it.
use Rattle.std.specs.Prelude.{ℕ, Bool, true, false, not, ◌+◌, ◌*◌, ◌==◌, max, nat_lt, nat_le, List, [], ◌∷◌, ◌++◌, map, filter, length, find, replicate, zero, suc, ◌&&◌, is_some, slice_index_or, slice_set, Option, Some, None, if◌then◌else◌}
use Rattle.std.specs.List.{list_all}
use Rattle.std.specs.Option.{option_map, option_and_then}
use Rattle.cops_types.specs.declared.faults.Fault.{Fault}
use Rattle.cops_types.specs.declared.faults.Fault.TheVariants.{Syntax, UnknownName, NameTaken, Idle, BadKey, ValueTooLong, NoSuchPlace, ActorsFull, Torn}
use Rattle.cops_types.specs.Context.{all_of, near_of}
use Rattle.cops_types.specs.Key.{is_key, key_eq}
use Rattle.cops_types.specs.Search.{first_refusal}
use Rattle.cops_types.specs.TenantConfig.{TenantConfig}
use Rattle.cops_types.specs.Value.{is_value}
use Rattle.cops_model.specs.declared.calls.NodeCall.{NodeCall}
use Rattle.cops_model.specs.declared.calls.NodeCall.TheVariants as node_call
use Rattle.cops_model.specs.declared.calls.NodeId.{NodeId}
use Rattle.cops_model.specs.declared.calls.NodeReply.{NodeReply}
use Rattle.cops_model.specs.declared.calls.NodeReply.TheVariants as node_reply
use Rattle.cops_model.specs.Log.{Next, LogStep, Late, Replied, Call, Restart, Ended}
use Rattle.cops_model.specs.Place.{node_number, place_of}
use Rattle.cops_model.specs.SoloNode.{SoloNode, new_node}
use Rattle.cops_model.specs.Step.{node_step}
use Rattle.cops_model.specs.declared.requests.Answer.{Answer}
use Rattle.cops_model.specs.declared.requests.Answer.TheVariants as answer
use Rattle.cops_model.specs.declared.requests.Progress.{Progress}
use Rattle.cops_model.specs.declared.requests.Progress.TheVariants as session_progress
use Rattle.cops_model.specs.Request.{Write, Fetch}
use Rattle.cops_model.specs.Request as request
use Rattle.cops_model.specs.Session.{Running, Session, context_created, context_deleted, context_refusal, create_refusal, get_refusal, moment_at, new_session, obs_of, request_begun, request_of, session_after, session_put_refusal}
use Rattle.cops_model.specs.Session as session
use Rattle.cops_model.specs.declared.deliveries.Delivery.{Delivery}
use Rattle.cops_model.specs.declared.deliveries.Delivery.TheVariants as delivery
use Rattle.cops_model.specs.declared.deliveries.Progress.{Progress as CarrierProgress}
use Rattle.cops_model.specs.declared.deliveries.Progress.TheVariants as carrier_progress
use Rattle.cops_model.specs.Carrier.{Carrier, new_carrier, carrier_after}
use Rattle.cops_model.specs.Carrier as carrier
use Rattle.cops_model.specs.declared.acts.Act.{Act}
use Rattle.cops_model.specs.declared.acts.Act.TheVariants.{Open, Create, Delete, Put, Get, Show, Carry, Step, Done, Collect}
use Rattle.cops_model.specs.declared.replies.Reply.{Reply}
use Rattle.cops_model.specs.declared.replies.Reply.TheVariants.{Opened, Created, Deleted, Started, Lists, Working, Restarted, Stored, Values, Nothing, Waits, Carried, OutOfOrder, Removed, Refused}

-- an actor is a session or a carrier
pub data Actor : Type 0 where
  OfSession : Session → Actor
  OfCarrier : Carrier → Actor

pub record NamedActor : Type 0 where
  pub name : List ℕ
  pub actor : Actor

-- the tenant's part of each node, by node number, and its actors
pub record SoloCluster : Type 0 where
  pub nodes : List SoloNode
  pub actors : List NamedActor

abbrev pub new_cluster : TenantConfig → SoloCluster
new_cluster config = record { nodes = replicate (config.data_centres * config.shards) (new_node config.data_centres); actors = [] }

-- the reply to an act, and the cluster after it
abbrev pub ActEffect : Type 0
ActEffect = record { reply : Reply; after : SoloCluster }

abbrev pub reply_with : Reply → SoloCluster → ActEffect
reply_with reply cluster = record { reply = reply; after = cluster }

-- a refused act changes nothing
abbrev pub unless_refused : Option Fault → SoloCluster → ActEffect → ActEffect
unless_refused (Some fault) cluster turn = reply_with (Refused fault) cluster
unless_refused None cluster turn = turn

-- ---- actors by name

abbrev pub find_actor : List ℕ → SoloCluster → Option Actor
find_actor name cluster = option_map (λ a. a.actor) (find (λ a. key_eq a.name name) cluster.actors)

abbrev pub session_in : Actor → Option Session
session_in (OfSession s) = Some s
session_in (OfCarrier c) = None

abbrev pub find_session : List ℕ → SoloCluster → Option Session
find_session name cluster = option_and_then session_in (find_actor name cluster)

abbrev pub with_actor : List ℕ → Actor → SoloCluster → SoloCluster
with_actor name actor cluster =
    record cluster { actors = map (λ (a : NamedActor). if key_eq a.name name then record { name = name; actor = actor } else a) cluster.actors }

abbrev pub with_new_actor : List ℕ → Actor → SoloCluster → SoloCluster
with_new_actor name actor cluster = record cluster { actors = cluster.actors ++ record { name = name; actor = actor } ∷ [] }

abbrev pub without_actor : List ℕ → SoloCluster → SoloCluster
without_actor name cluster = record cluster { actors = filter (λ a. not (key_eq a.name name)) cluster.actors }

-- the act on the session; E03 if there is none
abbrev pub on_session : Option Session → SoloCluster → (Session → ActEffect) → ActEffect
on_session (Some s) cluster act = act s
on_session None cluster act = reply_with (Refused UnknownName) cluster

-- ---- one node call

-- the node's reply, and the cluster after the call
abbrev pub call_node : TenantConfig → NodeId → ℕ → NodeCall → SoloCluster → record { reply : NodeReply; after : SoloCluster }
call_node config id moment call cluster =
    let number = node_number config.shards id in
    let turn = node_step (place_of config id) moment call (slice_index_or cluster.nodes number (new_node config.data_centres)) in
    record { reply = turn.reply; after = record cluster { nodes = slice_set cluster.nodes number turn.after } }

-- ---- a step of a session

abbrev pub reply_of_answer : Answer → Reply
reply_of_answer (answer.Stored pair) = Stored pair
reply_of_answer (answer.Values reads) = Values reads
reply_of_answer (answer.Refused fault) = Refused fault

abbrev pub reply_of_progress : Progress → Reply
reply_of_progress session_progress.Working = Working
reply_of_progress (session_progress.Restarted times) = Restarted times
reply_of_progress (session_progress.Done ended) = reply_of_answer ended

-- the session after a step with this outcome, and what the step shows
abbrev pub session_stepped : TenantConfig → List ℕ → Session → Running → LogStep → SoloCluster → ActEffect
session_stepped config name s running step cluster =
    let shown = session.progress config (request_of s running) running.log step in
    reply_with (reply_of_progress shown) (with_actor name (OfSession (session_after s running step shown)) cluster)

-- a running request does what comes next: it calls a node, or makes no call if the timestamp is late
abbrev pub request_does : TenantConfig → List ℕ → Session → Running → ℕ → SoloCluster → Next Answer → ActEffect
request_does config name s running moment cluster (Call directed) =
    let turn = call_node config directed.node moment directed.call cluster in
    session_stepped config name s running (record { moment = moment; outcome = Replied turn.reply }) turn.after
request_does config name s running moment cluster Restart = session_stepped config name s running (record { moment = moment; outcome = Late }) cluster
request_does config name s running moment cluster (Ended ended) = reply_with (reply_of_answer ended) cluster

-- the running request takes a step, at the greatest timestamp so far
abbrev pub running_step : TenantConfig → List ℕ → Session → ℕ → SoloCluster → Option Running → ActEffect
running_step config name s moment cluster (Some running) =
    request_does config name s running (moment_at moment s) cluster (request.next config (request_of s running) running.log (moment_at moment s))
running_step config name s moment cluster None = reply_with (Refused Idle) cluster

-- ---- a step of a carrier

abbrev pub reply_of_delivery : Delivery → Reply
reply_of_delivery delivery.Nothing = Nothing
reply_of_delivery (delivery.Waits pair) = Waits pair
reply_of_delivery (delivery.Carried pair fresh acked) = Carried pair fresh acked
reply_of_delivery (delivery.OutOfOrder mark) = OutOfOrder mark
reply_of_delivery (delivery.Refused fault) = Refused fault

-- a carrier that ended is removed
abbrev pub carrier_stepped : List ℕ → Carrier → CarrierProgress → SoloCluster → ActEffect
carrier_stepped name after carrier_progress.Working cluster = reply_with Working (with_actor name (OfCarrier after) cluster)
carrier_stepped name after (carrier_progress.Done ending) cluster = reply_with (reply_of_delivery ending) (without_actor name cluster)

abbrev pub carrier_does : TenantConfig → List ℕ → Carrier → ℕ → SoloCluster → Next Delivery → ActEffect
carrier_does config name c moment cluster (Call directed) =
    let turn = call_node config directed.node moment directed.call cluster in
    let step : LogStep = record { moment = moment; outcome = Replied turn.reply } in
    carrier_stepped name (carrier_after c step) (carrier.delivery_progress config.shards c step) turn.after
carrier_does config name c moment cluster Restart = reply_with Working cluster
carrier_does config name c moment cluster (Ended ending) = reply_with (reply_of_delivery ending) cluster

-- ---- steps

abbrev pub step_of : TenantConfig → List ℕ → ℕ → SoloCluster → Option Actor → ActEffect
step_of config name moment cluster (Some (OfSession s)) = running_step config name s moment cluster s.running
step_of config name moment cluster (Some (OfCarrier c)) = carrier_does config name c (max c.moment moment) cluster (carrier.carrier_next config.shards c.stream c.log)
step_of config name moment cluster None = reply_with (Refused UnknownName) cluster

abbrev pub actor_step : TenantConfig → List ℕ → ℕ → SoloCluster → ActEffect
actor_step config name moment cluster = step_of config name moment cluster (find_actor name cluster)

abbrev pub goes_on : Reply → Bool
goes_on Working = true
goes_on (Restarted times) = true
goes_on reply = false

-- steps at one timestamp until the reply is neither working nor restarted; at most `more` after the first
abbrev pub actor_steps : ℕ → TenantConfig → List ℕ → ℕ → SoloCluster → ActEffect
actor_steps zero config name moment cluster = actor_step config name moment cluster
actor_steps (suc more) config name moment cluster =
    let turn = actor_step config name moment cluster in
    elim (goes_on turn.reply) [ true ↦ actor_steps more config name moment turn.after | false ↦ turn ]

-- more steps than any request of a session or any carrier takes
abbrev pub most_steps : TenantConfig → ℕ
most_steps config = (config.restarts + 1) * (2 * 32 + 1) + config.quota.deps + 3

-- ---- limits on where an act may take place

abbrev pub has_node : TenantConfig → ℕ → ℕ → Bool
has_node config dc shard = nat_lt dc config.data_centres && nat_lt shard config.shards

-- the node exists, and so does the other data centre
abbrev pub has_stream : TenantConfig → ℕ → ℕ → ℕ → Bool
has_stream config dc shard to_dc = has_node config dc shard && nat_lt to_dc config.data_centres && not (dc == to_dc)

-- the reason to refuse a new actor of this name
abbrev pub actor_refusal : TenantConfig → Bool → List ℕ → SoloCluster → Option Fault
actor_refusal config exists name cluster = first_refusal (
    (not exists, NoSuchPlace)
    ∷ (is_some (find_actor name cluster), NameTaken)
    ∷ (nat_le config.quota.actors (length cluster.actors), ActorsFull)
    ∷ [])

abbrev pub reply_of_collect : NodeReply → Reply
reply_of_collect (node_reply.Removed count) = Removed count
reply_of_collect (node_reply.Refused fault) = Refused fault
reply_of_collect reply = Refused Torn

abbrev pub collect_at : TenantConfig → NodeId → ℕ → SoloCluster → ActEffect
collect_at config id moment cluster =
    let turn = call_node config id moment node_call.Collect cluster in
    reply_with (reply_of_collect turn.reply) turn.after

-- an act on the session of this name: what refuses it, and otherwise the reply and the session after it
abbrev pub session_acts : List ℕ → SoloCluster → Option Fault → Reply → Session → ActEffect
session_acts name cluster refusal reply after = unless_refused refusal cluster (reply_with reply (with_actor name (OfSession after) cluster))

-- ---- all acts

-- the reply is the first refusal that holds; if none holds, the act takes effect
abbrev pub cluster_step : TenantConfig → Act → SoloCluster → ActEffect
cluster_step config (Open name dc) cluster =
    unless_refused (actor_refusal config (nat_lt dc config.data_centres) name cluster) cluster
    (reply_with Opened (with_new_actor name (OfSession (new_session dc 1)) cluster))
cluster_step config (Create name) cluster = on_session (find_session name cluster) cluster λ s. session_acts name cluster (create_refusal config s) (Created s.next_context) (context_created s)
cluster_step config (Delete name number) cluster = on_session (find_session name cluster) cluster λ s. session_acts name cluster (context_refusal number s) Deleted (context_deleted number s)
cluster_step config (Put name number key value) cluster =
    unless_refused (first_refusal ((not (is_key key), BadKey) ∷ (not (is_value value), ValueTooLong) ∷ [])) cluster
    (on_session (find_session name cluster) cluster λ s. session_acts name cluster (session_put_refusal config number key s) Started (request_begun number (Write key value) s))
cluster_step config (Get name number keys) cluster =
    unless_refused (first_refusal ((nat_lt (length keys) 1, Syntax) ∷ (not (list_all is_key keys), BadKey) ∷ [])) cluster
    (on_session (find_session name cluster) cluster λ s. session_acts name cluster (get_refusal config number keys s) Started (request_begun number (Fetch keys) s))
cluster_step config (Show name number) cluster =
    on_session (find_session name cluster) cluster λ s. unless_refused (context_refusal number s) cluster (reply_with (Lists (all_of (obs_of number s)) (near_of (obs_of number s))) cluster)
cluster_step config (Carry name dc shard to_dc) cluster =
    unless_refused (actor_refusal config (has_stream config dc shard to_dc) name cluster) cluster
    (reply_with Started (with_new_actor name (OfCarrier (new_carrier (record { origin = record { dc = dc; shard = shard }; to_dc = to_dc }))) cluster))
cluster_step config (Step name moment) cluster = actor_step config name moment cluster
cluster_step config (Done name moment) cluster = actor_steps (most_steps config) config name moment cluster
cluster_step config (Collect dc shard moment) cluster =
    unless_refused (first_refusal ((not (has_node config dc shard), NoSuchPlace) ∷ [])) cluster (collect_at config (record { dc = dc; shard = shard }) moment cluster)
