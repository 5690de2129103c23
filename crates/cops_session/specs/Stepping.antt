-- A step of the running request.
use Rattle.std.specs.Prelude.{◌≡◌, ◌⊎◌, ℕ, Bool, false, ◌==◌, Option, Some, None, Result, Ok, Err, IfOk, MatchResult}
use Rattle.std.specs.declared.alloc.AllocError.{AllocError}
use Rattle.cops_types.specs.declared.faults.Fault.{Fault}
use Rattle.cops_types.specs.declared.faults.Fault.TheVariants.{OutOfMemory}
use Rattle.cops_types.specs.declared.request_errors.RequestError.{RequestError}
use Rattle.cops_types.specs.declared.request_errors.RequestError.TheVariants.{OutOfMemory as Lacking, Refused as RefusedWith}
use Rattle.cops_types.specs.TenantConfig.{TenantConfig}
use Rattle.cops_model.specs.declared.calls.NodeCall.{NodeCall}
use Rattle.cops_model.specs.declared.calls.NodeId.{NodeId}
use Rattle.cops_model.specs.declared.calls.NodeReply.{NodeReply}
use Rattle.cops_model.specs.Log.{LogStep, Late, Replied, Next, Call, Restart, Ended}
use Rattle.cops_model.specs.declared.requests.Answer.{Answer}
use Rattle.cops_model.specs.declared.requests.Answer.TheVariants.{Refused}
use Rattle.cops_model.specs.declared.requests.Progress.{Progress}
use Rattle.cops_model.specs.declared.requests.Progress.TheVariants.{Done}
use Rattle.cops_session.specs.Kept.{KeptSession}
use Rattle.cops_model.specs.Request.{next}
use Rattle.cops_model.specs.Session.{Running, Session, moment_at, progress, request_of, session_after}
use Rattle.cops_session.specs.SessionStands.{SessionStandsFor}
use Rattle.cops_session.specs.Wants.{WantsMemory}

-- what a step counts as having shown: if memory ran out, the end that says so
abbrev pub told_shown : Result Progress AllocError → Progress
told_shown (Ok shown) = shown
told_shown (Err error) = Done (Refused OutOfMemory)

-- a fault is the answer to the request that it ends
abbrev pub end_by_error : RequestError → Result Progress RequestError
end_by_error (RefusedWith fault) = Ok (Done (Refused fault))
end_by_error Lacking = Err Lacking

-- the result of a step if the request runs; otherwise why no step was taken
abbrev pub told_step : Result Progress RequestError → Result (Result Progress AllocError) Fault
told_step (Ok shown) = Ok (Ok shown)
told_step (Err (RefusedWith fault)) = Err fault
told_step (Err Lacking) = Ok (Err (record {}))

-- The step shows what the definition's does; or it shows that memory ran out, which ends the request and happens only if the step needed memory.
-- The session then represents the definition's next session
pub record HasStepped (config : TenantConfig) (session : Session) (running : Running) (step : LogStep) (shown : Progress) (after : KeptSession) : Type 0 where
  pub shown_is : (shown ≡ progress config (request_of session running) running.log step) ⊎ (shown ≡ Done (Refused OutOfMemory))
  pub wants : shown ≡ Done (Refused OutOfMemory) → WantsMemory config (request_of session running) running.log step running.action
  pub stands : SessionStandsFor config after (session_after session running step shown)

-- The step does what comes next: it makes the call and goes on with the reply, or makes no call if the timestamp is late. A running request has
-- no answer yet
abbrev pub DoesNext : (NodeId → NodeCall → NodeReply → Type 0) → Type 0 → TenantConfig → Session → Running → ℕ → Progress → KeptSession → Next Answer → Type 0
DoesNext called stays config session running moment shown after (Call directed) =
    (reply : NodeReply) × called directed.node directed.call reply × HasStepped config session running (record { moment = moment; outcome = Replied reply }) shown after
DoesNext called stays config session running moment shown after Restart =
    stays × HasStepped config session running (record { moment = moment; outcome = Late }) shown after
DoesNext called stays config session running moment shown after (Ended answer) = ⊥

-- the same of the result of a step: out of memory is the error, and without it the step shows what the definition's does
pub record HasTold (config : TenantConfig) (session : Session) (running : Running) (step : LogStep) (told : Result Progress AllocError) (after : KeptSession) : Type 0 where
  pub stepped : HasStepped config session running step (told_shown told) after
  pub exact : IfOk told (λ shown. shown ≡ progress config (request_of session running) running.log step)

abbrev pub TellsNext : (NodeId → NodeCall → NodeReply → Type 0) → Type 0 → TenantConfig → Session → Running → ℕ → Result Progress AllocError → KeptSession → Next Answer → Type 0
TellsNext called stays config session running moment told after (Call directed) =
    (reply : NodeReply) × called directed.node directed.call reply × HasTold config session running (record { moment = moment; outcome = Replied reply }) told after
TellsNext called stays config session running moment told after Restart =
    stays × HasTold config session running (record { moment = moment; outcome = Late }) told after
TellsNext called stays config session running moment told after (Ended answer) = ⊥

-- and that holds for whatever the state of the session represents
abbrev pub StepsFrom : (NodeId → ℕ → NodeCall → NodeReply → Type 0) → Type 0 → KeptSession → ℕ → Result Progress RequestError → KeptSession → Type 0
StepsFrom called stays old moment result after =
    (config : TenantConfig) (session : Session) (running : Running) → SessionStandsFor config old session → session.running ≡ Some running →
    let at = moment_at moment session in
    MatchResult (told_step result) (λ told. TellsNext (λ id call reply. called id at call reply) stays config session running at told after (next config (request_of session running) running.log at)) (λ _. ⊥)

-- the request of this number runs
abbrev pub runs : ℕ → Session → Bool
runs number session = is_number session.running
  where
    is_number : Option Running → Bool
    is_number None = false
    is_number (Some running) = running.number == number
