-- A running get transaction represents the log of its steps.
use Rattle.std.specs.Prelude.{◌≡◌, ℕ, Bool, true, false, ◌-◌, nat_lt, List, [], ◌∷◌, length, Option, Some, None}
use Rattle.cops_types.specs.TenantConfig.{TenantConfig}
use Rattle.cops_model.specs.declared.calls.NodeReply.{NodeReply}
use Rattle.cops_model.specs.declared.calls.NodeReply.TheVariants as reply
use Rattle.cops_model.specs.Log.{LogStep, first_fault, replies_of}
use Rattle.cops_session.specs.declared.asking.GetReply.{GetReply}
use Rattle.cops_session.specs.declared.asking.GetReply.TheVariants.{Found, Gone}
use Rattle.cops_session.specs.declared.ongoing.Reading.{Reading}
use Rattle.cops_model.specs.Request.{Attempt, Fetch, Request, attempt_of, request_calls}
use Rattle.cops_session.specs.Stands.{AreDistinctKeys, RoundsStandFor}

-- the timestamp of the first step, if there is one
abbrev pub first_moment : List LogStep → Option ℕ
first_moment [] = None
first_moment (first ∷ steps) = Some first.moment

-- the timestamp is more than `trans_time` past the start
abbrev pub is_past : ℕ → Option ℕ → ℕ → Bool
is_past trans_time None moment = false
is_past trans_time (Some start) moment = nat_lt trans_time (moment - start)

-- the reply that gives this
abbrev pub node_reply_of : GetReply → NodeReply
node_reply_of (Found (Some found)) = reply.Found found
node_reply_of (Found None) = reply.Absent
node_reply_of (Gone now) = reply.Gone now

abbrev pub is_gone : NodeReply → Bool
is_gone (reply.Gone now) = true
is_gone other = false

-- it has the restarts, the start and the reads of an attempt that goes on: each step has its reply, and none gives a fault
pub record IsOfAttempt (config : TenantConfig) (request : Request) (keys : List (List ℕ)) (attempt : Attempt) (reading : Reading) : Type 0 where
  pub distinct : AreDistinctKeys keys
  pub restarts_are : reading.restarts ≡ attempt.restarts
  pub few_restarts : nat_lt config.restarts attempt.restarts ≡ false
  pub start_is : reading.start ≡ first_moment attempt.steps
  pub all_replied : length (replies_of attempt.steps) ≡ length attempt.steps
  pub no_fault : first_fault (request_calls config request (replies_of attempt.steps) (Fetch keys)) (replies_of attempt.steps) ≡ None
  pub rounds_are : RoundsStandFor keys (replies_of attempt.steps) reading.rounds

abbrev pub IsReading : TenantConfig → Request → List (List ℕ) → List LogStep → Reading → Type 0
IsReading config request keys log reading = IsOfAttempt config request keys (attempt_of (Fetch keys) log) reading
