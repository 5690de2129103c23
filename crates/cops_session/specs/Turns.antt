-- A step of a running get transaction.
use Rattle.std.specs.Prelude.{◌≡◌, ◌⊎◌, ℕ, true, false, ◌+◌, nat_lt, List, [], ◌∷◌, ◌++◌, None, Result, Ok, Err, if◌then◌else◌}
use Rattle.cops_types.specs.declared.faults.Fault.TheVariants.{OutOfMemory, Overrun}
use Rattle.cops_types.specs.declared.request_errors.RequestError.{RequestError}
use Rattle.cops_types.specs.declared.request_errors.RequestError.TheVariants.{OutOfMemory as Lacking, Refused}
use Rattle.cops_types.specs.Context.{Observation}
use Rattle.cops_types.specs.TenantConfig.{TenantConfig}
use Rattle.cops_model.specs.declared.calls.NodeCall.{NodeCall}
use Rattle.cops_model.specs.declared.calls.NodeId.{NodeId}
use Rattle.cops_model.specs.declared.calls.NodeReply.{NodeReply}
use Rattle.cops_model.specs.declared.calls.NodeReply.TheVariants.{Refused as RefusedAt}
use Rattle.cops_model.specs.Log.{LogStep, Late, Replied, Next, Call, Restart, Ended}
use Rattle.cops_model.specs.declared.requests.Answer.{Answer}
use Rattle.cops_model.specs.declared.requests.Answer.TheVariants as answer
use Rattle.cops_model.specs.declared.requests.Progress.TheVariants as progress
use Rattle.cops_session.specs.declared.ongoing.Reading.{Reading}
use Rattle.cops_session.specs.declared.reading.ReadStep.{ReadStep}
use Rattle.cops_session.specs.declared.reading.ReadStep.TheVariants.{Working, Restarted, Complete}
use Rattle.cops_session.specs.declared.settings.Setting.{Setting}
use Rattle.cops_session.specs.Reading.{IsReading}
use Rattle.cops_session.specs.Rounds.{IsUnfinished}
use Rattle.cops_model.specs.Request.{Request, Fetch, next, values_or_full}
use Rattle.cops_model.specs.Session.{has_restarted, raised}
use Rattle.cops_model.specs.Session as session
use Rattle.cops_session.specs.SessionStands.{IsSettingOf}
use Rattle.cops_model.specs.Lacks.{EndsRound}

-- another attempt has begun, unless the restarts are used up
abbrev pub BeginsAgain : Reading → ℕ → Reading → Result ReadStep RequestError → Type 0
BeginsAgain old limit after (Ok turn) =
    (turn ≡ Restarted) × (nat_lt old.restarts limit ≡ true)
    × (after ≡ record { restarts = old.restarts + 1; start = None; rounds = record { keys = old.rounds.keys; left = []; reads = [] } })
BeginsAgain old limit after (Err error) = (error ≡ Refused Overrun) × (nat_lt old.restarts limit ≡ false)

-- a transaction that has not read all has a call to make
abbrev pub HasCallLeft : Reading → ReadStep → Type 0
HasCallLeft reading Complete = Unit {0}
HasCallLeft reading turn = IsUnfinished reading.rounds

-- The step shows the definition's outcome, and a transaction that goes on represents one more step. Or memory ran out: at the node, or at the end
-- of a round, whose reads were to be stored
abbrev pub CameOf : TenantConfig → Request → List (List ℕ) → List LogStep → LogStep → Reading → Result ReadStep RequestError → Type 0
CameOf config request keys log step reading (Ok Working) = (session.progress config request log step ≡ progress.Working) × IsReading config request keys (log ++ step ∷ []) reading
CameOf config request keys log step reading (Ok Restarted) =
    (session.progress config request log step ≡ progress.Restarted reading.restarts) × IsReading config request keys (log ++ step ∷ []) reading
CameOf config request keys log step reading (Ok Complete) =
    (has_restarted (Fetch keys) log step ≡ false) × (session.progress config request log step ≡ progress.Done (values_or_full config.quota.deps request.obs reading.rounds.reads))
CameOf config request keys log step reading (Err (Refused fault)) =
    (session.progress config request log step ≡ progress.Done (answer.Refused fault)) × (fault ≡ OutOfMemory → step.outcome ≡ Replied (RefusedAt OutOfMemory))
CameOf config request keys log step reading (Err Lacking) =
    (has_restarted (Fetch keys) log step ≡ false) × ((step.outcome ≡ Replied (RefusedAt OutOfMemory)) ⊎ EndsRound config request keys log step)

-- the timestamp after the step, and its outcome
pub record HasTurned (config : TenantConfig) (request : Request) (keys : List (List ℕ)) (log : List LogStep) (step : LogStep) (after : Reading) (later : ℕ) (result : Result ReadStep RequestError) : Type 0 where
  pub moment_is : later ≡ (if has_restarted (Fetch keys) log step then raised step.moment step.outcome else step.moment)
  pub came_is : CameOf config request keys log step after result

-- the step does what comes next
abbrev pub TurnsNext : (NodeId → NodeCall → NodeReply → Type 0) → Type 0 → TenantConfig → Request → List (List ℕ) → List LogStep → ℕ → Reading → ℕ → Result ReadStep RequestError → Next Answer → Type 0
TurnsNext called stays config request keys log moment after later result (Call directed) =
    (reply : NodeReply) × called directed.node directed.call reply × HasTurned config request keys log (record { moment = moment; outcome = Replied reply }) after later result
TurnsNext called stays config request keys log moment after later result Restart =
    stays × HasTurned config request keys log (record { moment = moment; outcome = Late }) after later result
TurnsNext called stays config request keys log moment after later result (Ended answer) = ⊥

-- and that holds for whatever the reading represents
abbrev pub TurnsFrom : (NodeId → NodeCall → NodeReply → Type 0) → Type 0 → Setting → Reading → ℕ → Reading → ℕ → Result ReadStep RequestError → Type 0
TurnsFrom called stays setting reading moment after later result =
    (config : TenantConfig) (obs : List Observation) (keys : List (List ℕ)) (log : List LogStep) → IsSettingOf config setting →
    let request : Request = record { dc = setting.dc; obs = obs; action = Fetch keys } in
    IsReading config request keys log reading → TurnsNext called stays config request keys log moment after later result (next config request log moment)
