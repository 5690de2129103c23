-- Sessions and carriers as they are kept, and those of the definition that they stand for.
use Rattle.std.specs.Prelude.{◌≡◌, ◌⊎◌, ℕ, Bool, true, false, nat_lt, max, IfOk, IsTrue, List, length, slice_index_or, slice_set, Option, Some, None, Result, Ok, Err}
use Rattle.std.specs.declared.alloc.AllocError.{AllocError}
use Rattle.cops_types.specs.declared.faults.Fault.TheVariants.{Idle, OutOfMemory}
use Rattle.cops_types.specs.TenantConfig.{TenantConfig}
use Rattle.cops_model.specs.declared.calls.NodeCall.{NodeCall}
use Rattle.cops_model.specs.declared.calls.NodeId.{NodeId}
use Rattle.cops_model.specs.declared.calls.NodeReply.{NodeReply}
use Rattle.cops_model.specs.declared.calls.NodeReply.TheVariants as node_reply
use Rattle.cops_model.specs.Log.{Directed, Replied}
use Rattle.cops_model.specs.Place.{node_number, place_of}
use Rattle.cops_node.specs.declared.Shape.{Shape}
use Rattle.cops_model.specs.SoloNode.{SoloNode, new_node}
use Rattle.cops_model.specs.Step.{node_step}
use Rattle.cops_model.specs.declared.requests.Progress.{Progress}
use Rattle.cops_session.specs.Kept.{KeptSession}
use Rattle.cops_model.specs.Request.{next}
use Rattle.cops_model.specs.Session.{Session, Running, request_of, moment_at}
use Rattle.cops_session.specs.Stepping.{TellsNext}
use Rattle.cops_session.specs.SessionStands.{SessionStandsFor}
use Rattle.cops_model.specs.declared.deliveries.Progress.{Progress as CarrierProgress}
use Rattle.cops_model.specs.declared.deliveries.Progress.TheVariants as carrying
use Rattle.cops_model.specs.Carrier.{Carrier}
use Rattle.cops_repl.specs.Stands.{CarrierStandsFor, IsStepOf, KeptCarrier, RunsIn, has_ended, is_done, told_progress}
use Rattle.cops_model.specs.declared.replies.Reply.{Reply}
use Rattle.cops_model.specs.declared.replies.Reply.TheVariants.{Working, Refused}
use Rattle.cops_model.specs.Cluster.{ActEffect, Actor, OfCarrier, OfSession, SoloCluster, reply_of_delivery, reply_of_progress, with_actor, without_actor}
use Rattle.cops_script.specs.Acting.{told_act}
use Rattle.cops_world.specs.declared.actors.Actor.{Actor as Kept}
use Rattle.cops_world.specs.declared.actors.Actor.TheVariants as kept
use Rattle.cops_world.specs.ActorTurns.{ActorTurn}

abbrev pub ActorStandsFor : TenantConfig → Kept → Actor → Type 0
ActorStandsFor config (kept.OfSession s) (OfSession session) = SessionStandsFor config s session
ActorStandsFor config (kept.OfCarrier c) (OfCarrier carrier) = CarrierStandsFor config.shards c carrier
ActorStandsFor config (kept.OfSession s) (OfCarrier carrier) = ⊥
ActorStandsFor config (kept.OfCarrier c) (OfSession session) = ⊥

-- its steps may be made at nodes of this shape, for the tenant of this slot
abbrev pub RunsAt : Shape → ℕ → Kept → Type 0
RunsAt shape slot (kept.OfSession s) = (s.setting.data_centres ≡ shape.data_centres) × (s.setting.shards ≡ shape.shards) × (s.setting.slot ≡ slot)
RunsAt shape slot (kept.OfCarrier c) = RunsIn shape c.shards c.stream

-- ---- steps

-- what a step of an actor answers, and whether it was its last
pub record Stepped : Type 0 where
  pub answered : Result Reply AllocError
  pub is_over : Bool

-- it is a carrier that has ended
abbrev pub actor_ended : Kept → Bool
actor_ended (kept.OfSession s) = false
actor_ended (kept.OfCarrier c) = has_ended c

-- the step answered this, and this is the actor after it
abbrev pub stepped_to : Result Reply AllocError → Kept → Stepped
stepped_to answered after = record { answered = answered; is_over = actor_ended after }

abbrev pub answer_shown : Result Progress AllocError → Result Reply AllocError
answer_shown (Ok shown) = Ok (reply_of_progress shown)
answer_shown (Err error) = Err error

-- a session without a request refuses to step; the running request does what comes next
abbrev pub SessionSteps : (ℕ → NodeId → NodeCall → NodeReply → Type 0) → Type 0 → TenantConfig → Session → ℕ → Result Reply AllocError → KeptSession → Option Running → Type 0
SessionSteps called stays config session moment answered after None = (answered ≡ Ok (Refused Idle)) × stays × SessionStandsFor config after session
SessionSteps called stays config session moment answered after (Some running) =
    (told : Result Progress AllocError) × (answered ≡ answer_shown told)
    × TellsNext (called (moment_at moment session)) stays config session running (moment_at moment session) told after
    (next config (request_of session running) running.log (moment_at moment session))

abbrev pub reply_of_carrying : CarrierProgress → Reply
reply_of_carrying carrying.Working = Working
reply_of_carrying (carrying.Done ending) = reply_of_delivery ending

abbrev pub answer_carried : Result CarrierProgress AllocError → Result Reply AllocError
answer_carried (Ok shown) = Ok (reply_of_carrying shown)
answer_carried (Err error) = Err error

-- a carrier makes its next call, and is over if it is done
pub record CarrierSteps (called : ℕ → NodeId → NodeCall → NodeReply → Type 0) (config : TenantConfig) (carrier : Carrier) (moment : ℕ) (stepped : Stepped) (after : KeptCarrier) : Type 0 where
  pub directed : Directed
  pub reply : NodeReply
  pub told : Result CarrierProgress AllocError
  pub made : called (max carrier.moment moment) directed.node directed.call reply
  pub step_of : IsStepOf config.shards carrier directed (record { moment = max carrier.moment moment; outcome = Replied reply }) (told_progress told) after
  pub answer_is : stepped.answered ≡ answer_carried told
  pub over_is : stepped.is_over ≡ is_done (told_progress told)

abbrev pub ActorSteps : (ℕ → NodeId → NodeCall → NodeReply → Type 0) → Type 0 → TenantConfig → ℕ → Stepped → Actor → Kept → Type 0
ActorSteps called stays config moment stepped (OfSession session) (kept.OfSession after) =
    SessionSteps called stays config session moment stepped.answered after session.running × (stepped.is_over ≡ false)
ActorSteps called stays config moment stepped (OfCarrier carrier) (kept.OfCarrier after) = CarrierSteps called config carrier moment stepped after
ActorSteps called stays config moment stepped (OfSession session) (kept.OfCarrier after) = ⊥
ActorSteps called stays config moment stepped (OfCarrier carrier) (kept.OfSession after) = ⊥

-- the actor did what the definition's does, unless memory ran out
abbrev pub HasDone : TenantConfig → ActorTurn → Result Reply AllocError → Kept → Type 0
HasDone config turn answered after = IfOk answered (λ reply. (reply ≡ turn.reply) × ActorStandsFor config after turn.after)

-- ---- what the step of an actor does to its cluster

-- the nodes' turn: the reply and the next nodes are the definition's, or memory was refused, for a call that the audit has room for, and nothing changed
abbrev pub NodesTurn : TenantConfig → List SoloNode → List SoloNode → ℕ → NodeId → NodeCall → NodeReply → Type 0
NodesTurn config before after at id call reply =
    ((reply ≡ node_reply.Refused OutOfMemory) × IsTrue (nat_lt (length (slice_index_or before (node_number config.shards id) (new_node config.data_centres)).trail) config.quota.audit) × (after ≡ before))
    ⊎ (let number = node_number config.shards id in
    let turn = node_step (place_of config id) at call (slice_index_or before number (new_node config.data_centres)) in
    (reply ≡ turn.reply) × (after ≡ slice_set before number turn.after))

-- the actor after the step, or none
abbrev pub IsAfter : TenantConfig → List ℕ → SoloCluster → SoloCluster → Kept → Bool → Type 0
IsAfter config name before after actor false = (solo : Actor) × (after.actors ≡ (with_actor name solo before).actors) × ActorStandsFor config actor solo
IsAfter config name before after actor true = after.actors ≡ (without_actor name before).actors

-- the step did to the cluster what the definition's does
pub record StepsCluster (config : TenantConfig) (name : List ℕ) (before : SoloCluster) (nodes : List SoloNode) (turn : ActEffect) (stepped : Stepped) (after : Kept) : Type 0 where
  pub reply_is : told_act stepped.answered ≡ turn.reply
  pub nodes_are : turn.after.nodes ≡ nodes
  pub actors_are : IsAfter config name before turn.after after stepped.is_over
