-- What an act does to the one actor that it names.
use Rattle.std.specs.Prelude.{Option, Some, None}
use Rattle.cops_types.specs.declared.faults.Fault.{Fault}
use Rattle.cops_types.specs.declared.faults.Fault.TheVariants.{UnknownName}
use Rattle.cops_types.specs.TenantConfig.{TenantConfig}
use Rattle.cops_types.specs.Context.{all_of, near_of}
use Rattle.cops_model.specs.Session.{Session, context_created, context_deleted, context_refusal, create_refusal, get_refusal, obs_of, request_begun, session_put_refusal}
use Rattle.cops_model.specs.declared.replies.Reply.{Reply}
use Rattle.cops_model.specs.declared.replies.Reply.TheVariants.{Created, Deleted, Lists, Refused, Started}
use Rattle.cops_model.specs.Cluster.{Actor, OfSession, OfCarrier}
use Rattle.cops_model.specs.Request.{Write, Fetch}
use Rattle.cops_world.specs.declared.actors.Deed.{Deed}
use Rattle.cops_world.specs.declared.actors.Deed.TheVariants.{Create, Delete, Put, Get, Show}

-- the reply, and the actor after it
pub record ActorTurn : Type 0 where
  pub reply : Reply
  pub after : Actor

abbrev pub actor_turn : Reply → Actor → ActorTurn
actor_turn reply after = record { reply = reply; after = after }

-- a refused deed changes nothing
abbrev pub unless_actor_refused : Option Fault → Actor → ActorTurn → ActorTurn
unless_actor_refused (Some fault) actor turn = actor_turn (Refused fault) actor
unless_actor_refused None actor turn = turn

-- what is asked of a session, as a turn of that actor
abbrev pub session_turn : Session → Option Fault → Reply → Session → ActorTurn
session_turn s refusal reply after = unless_actor_refused refusal (OfSession s) (actor_turn reply (OfSession after))

abbrev pub session_does : TenantConfig → Session → Deed → ActorTurn
session_does config s Create = session_turn s (create_refusal config s) (Created s.next_context) (context_created s)
session_does config s (Delete number) = session_turn s (context_refusal number s) Deleted (context_deleted number s)
session_does config s (Put number key value) = session_turn s (session_put_refusal config number key s) Started (request_begun number (Write key value) s)
session_does config s (Get number keys) = session_turn s (get_refusal config number keys s) Started (request_begun number (Fetch keys) s)
session_does config s (Show number) = session_turn s (context_refusal number s) (Lists (all_of (obs_of number s)) (near_of (obs_of number s))) s

-- only a session does anything
abbrev pub actor_does : TenantConfig → Deed → Actor → ActorTurn
actor_does config deed (OfSession s) = session_does config s deed
actor_does config deed (OfCarrier c) = actor_turn (Refused UnknownName) (OfCarrier c)

-- why it refuses a request, if it does: only a session takes any
abbrev pub actor_refusal_by : (Session → Option Fault) → Actor → Option Fault
actor_refusal_by refusal (OfSession s) = refusal s
actor_refusal_by refusal (OfCarrier c) = Some UnknownName
