-- The steps that may end a request because memory ran out.
use Rattle.std.specs.Prelude.{◌≡◌, ◌⊎◌, List}
use Rattle.cops_types.specs.declared.faults.Fault.TheVariants.{OutOfMemory}
use Rattle.cops_types.specs.TenantConfig.{TenantConfig}
use Rattle.cops_model.specs.declared.calls.NodeReply.TheVariants.{Refused}
use Rattle.cops_model.specs.Log.{LogStep, Replied}
use Rattle.cops_model.specs.Request.{Action, Fetch, Request, Write}
use Rattle.cops_model.specs.Lacks.{EndsRound}

-- a put's step only if its node runs out of memory; a transaction's too, unless it must store what a round read
abbrev pub WantsMemory : TenantConfig → Request → List LogStep → LogStep → Action → Type 0
WantsMemory config request log step (Write key value) = step.outcome ≡ Replied (Refused OutOfMemory)
WantsMemory config request log step (Fetch keys) = (step.outcome ≡ Replied (Refused OutOfMemory)) ⊎ EndsRound config request keys log step
