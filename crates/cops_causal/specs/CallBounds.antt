-- How many node calls a request makes, the one that brings its answer among them.
use Rattle.std.specs.Prelude.{◌≡◌, ℕ, ◌+◌, ◌*◌, ◌≤◌, List, [], ◌∷◌, length, Result, Ok}
use Rattle.cops_types.specs.declared.request_errors.RequestError.{RequestError}
use Rattle.cops_types.specs.TenantConfig.{TenantConfig}
use Rattle.cops_model.specs.declared.requests.Progress.{Progress}
use Rattle.cops_model.specs.declared.requests.Progress.TheVariants.{Working, Restarted}
use Rattle.cops_model.specs.Log.{LogStep, replies_of}
use Rattle.cops_model.specs.Request.{Action, Fetch, Request, Write}
use Rattle.cops_session.specs.Bounds.{IsLogOf}
use Rattle.cops_session.specs.Kept.{KeptSession}
use Rattle.cops_session.specs.Stepping.{StepsFrom}

-- one for a put; two for each key in each attempt of a transaction
abbrev pub most_calls : TenantConfig → Action → ℕ
most_calls config (Write key value) = 1
most_calls config (Fetch keys) = (config.restarts + 1) * (2 * length keys)

-- whatever the nodes reply, and also if the last reply is the answer
abbrev pub MakesFewCalls : TenantConfig → Request → List LogStep → Type 0
MakesFewCalls config request log = IsLogOf config request log → length (replies_of log) ≤ most_calls config request.action

-- ---- a run of `Session::step`

-- a call of it: the timestamp that was passed, and what it returned
pub record SteppedAt : Type 0 where
  pub moment : ℕ
  pub result : Result Progress RequestError

-- the request goes on, if there are more steps
abbrev pub GoesOnTo : List SteppedAt → Result Progress RequestError → Type 0
GoesOnTo [] result = Unit {0}
GoesOnTo (next ∷ steps) (Ok Working) = Unit {0}
GoesOnTo (next ∷ steps) (Ok (Restarted times)) = Unit {0}
GoesOnTo (next ∷ steps) result = ⊥

-- steps of one request, each as the contract says, with the number of calls that they make
abbrev pub StepsMake : KeptSession → List SteppedAt → ℕ → Type 0
StepsMake old [] calls = calls ≡ 0
StepsMake old (step ∷ steps) calls =
    (after : KeptSession) × (made later : ℕ) × StepsFrom (λ id at call reply. made ≡ 1) (made ≡ 0) old step.moment step.result after
    × GoesOnTo steps step.result × (calls ≡ made + later) × StepsMake after steps later
