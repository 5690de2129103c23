-- The outcome of a step, beside what came next.
use Rattle.cops_model.specs.Log.{Outcome, Late, Replied, Next, Call, Restart}

-- a call got some reply, and a restart made no call
abbrev pub IsTaken : {A : Type 0} → Next A → Outcome → Type 0
IsTaken (Call directed) (Replied reply) = Unit {0}
IsTaken Restart Late = Unit {0}
IsTaken next outcome = ⊥
