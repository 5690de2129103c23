-- A step of a session or a carrier is a step of the actor that it is.
use Rattle.std.proofs.Common.{◌≡◌, ℕ, false, max, subst, sym, refl}
use Rattle.std.specs.Prelude.{Option, Some, Result}
use Rattle.std.specs.declared.alloc.AllocError.{AllocError}
use Rattle.cops_types.specs.TenantConfig.{TenantConfig}
use Rattle.cops_model.specs.declared.calls.NodeCall.{NodeCall}
use Rattle.cops_model.specs.declared.calls.NodeId.{NodeId}
use Rattle.cops_model.specs.declared.calls.NodeReply.{NodeReply}
use Rattle.cops_node.specs.declared.Shape.{Shape}
use Rattle.cops_session.specs.Kept.{KeptSession}
use Rattle.cops_model.specs.declared.requests.Progress.{Progress}
use Rattle.cops_model.specs.Request.{next}
use Rattle.cops_model.specs.Session.{Running, Session, moment_at, request_of}
use Rattle.cops_session.specs.SessionStands.{SessionStandsFor}
use Rattle.cops_session.specs.Stepping.{TellsNext}
use Rattle.cops_model.specs.declared.deliveries.Progress.{Progress as CarrierProgress}
use Rattle.cops_model.specs.Log.{Directed, Replied}
use Rattle.cops_model.specs.Carrier.{Carrier}
use Rattle.cops_repl.specs.Stands.{CarrierStandsFor, IsStepOf, KeptCarrier, has_ended, is_done, told_progress}
use Rattle.cops_model.specs.declared.replies.Reply.{Reply}
use Rattle.cops_model.specs.Cluster.{Actor, OfSession, OfCarrier}
use Rattle.cops_world.specs.declared.actors.Actor.{Actor as Kept}
use Rattle.cops_world.specs.declared.actors.Actor.TheVariants as kept
use Rattle.cops_world.specs.ActorsStand.{ActorStandsFor, ActorSteps, CarrierSteps, SessionSteps, RunsAt, Stepped, answer_carried, answer_shown, stepped_to}

module _ (called : ℕ → ℕ → NodeId → NodeCall → NodeReply → Type 0) (stays : Type 0) (shape : Shape) (slot : ℕ) (config : TenantConfig) (moment : ℕ) where
  pub session_steps : (before after : KeptSession) (answered : Result Reply AllocError) (old : Kept) (solo : Actor) → old ≡ kept.OfSession before → RunsAt shape slot old → ActorStandsFor config old solo →
      ((session : Session) → SessionStandsFor config before session → SessionSteps (called before.setting.slot) stays config session moment answered after session.running) →
      ActorSteps (called slot) stays config moment (record { answered = answered; is_over = false }) solo (kept.OfSession after)
  session_steps before after answered old solo is runs stands steps = by_solo solo (subst (λ o. ActorStandsFor config o solo) is stands)
    where
      same_slot : before.setting.slot ≡ slot
      same_slot = (subst (RunsAt shape slot) is runs).2

      by_solo : (solo : Actor) → ActorStandsFor config (kept.OfSession before) solo → ActorSteps (called slot) stays config moment (record { answered = answered; is_over = false }) solo (kept.OfSession after)
      by_solo (OfSession session) s = (subst (λ n. SessionSteps (called n) stays config session moment answered after session.running) same_slot (steps session s), refl)
      by_solo (OfCarrier carrier) s = absurd s

  pub carrier_steps : (before after : KeptCarrier) (stepped : Stepped) (old : Kept) (solo : Actor) → old ≡ kept.OfCarrier before → ActorStandsFor config old solo →
      ((carrier : Carrier) → CarrierStandsFor config.shards before carrier → CarrierSteps (called slot) config carrier moment stepped after) →
      ActorSteps (called slot) stays config moment stepped solo (kept.OfCarrier after)
  carrier_steps before after stepped old solo is stands steps = by_solo solo (subst (λ o. ActorStandsFor config o solo) is stands)
    where
      by_solo : (solo : Actor) → ActorStandsFor config (kept.OfCarrier before) solo → ActorSteps (called slot) stays config moment stepped solo (kept.OfCarrier after)
      by_solo (OfSession session) s = absurd s
      by_solo (OfCarrier carrier) s = steps carrier s

-- what a session's step is told, as its answer
pub session_told : (called : ℕ → NodeId → NodeCall → NodeReply → Type 0) (stays : Type 0) (config : TenantConfig) (session : Session) (moment handle : ℕ) (told : Result Progress AllocError) (answered : Result Reply AllocError) (after : KeptSession) → answered ≡ answer_shown told →
    ((running : Running) × (session.running ≡ Some running) × (running.number ≡ handle)
    × TellsNext (called (moment_at moment session)) stays config session running (moment_at moment session) told after (next config (request_of session running) running.log (moment_at moment session))) →
    SessionSteps called stays config session moment answered after session.running
session_told called stays config session moment handle told answered after is (running, runs, own, tells) =
    subst (λ (r : Option Running). SessionSteps called stays config session moment answered after r) (sym runs) (told, is, tells)

-- what a carrier's step is told, as its answer
pub carrier_told : (called : ℕ → NodeId → NodeCall → NodeReply → Type 0) (config : TenantConfig) (moment : ℕ) (told : Result CarrierProgress AllocError) (answered : Result Reply AllocError) (before after : KeptCarrier) →
    answered ≡ answer_carried told → has_ended after ≡ is_done (told_progress told) →
    ((directed : Directed) × (reply : NodeReply) × called (max before.moment moment) directed.node directed.call reply
    × ((shards : ℕ) (solo : Carrier) → CarrierStandsFor shards before solo → IsStepOf shards solo directed (record { moment = max solo.moment moment; outcome = Replied reply }) (told_progress told) after)) →
    (solo : Carrier) → CarrierStandsFor config.shards before solo → CarrierSteps called config solo moment (stepped_to answered (kept.OfCarrier after)) after
carrier_told called config moment told answered before after is ended (directed, reply, made, step_of) solo stands = record {
  directed = directed;
  reply = reply;
  told = told;
  made = subst (λ at. called (max at moment) directed.node directed.call reply) stands.moment_is made;
  step_of = step_of config.shards solo stands;
  answer_is = is;
  over_is = ended;
}
