-- The effect of a line and its answer, in any representation of a world.
use Rattle.std.specs.Prelude.{◌≡◌, ◌⊎◌, ℕ, Result}
use Rattle.std.specs.declared.alloc.AllocError.{AllocError}
use Rattle.cops_types.specs.declared.faults.Fault.TheVariants.{OutOfMemory, Syntax}
use Rattle.cops_model.specs.declared.replies.HostReply.TheVariants.{Admitted, Closed, Denied}
use Rattle.cops_model.specs.declared.replies.Reply.{Reply}
use Rattle.cops_model.specs.declared.replies.Reply.TheVariants.{Refused}
use Rattle.cops_model.specs.Cluster.{SoloCluster}
use Rattle.cops_script.specs.Said.{HostDeed, Admits, Closes, Refuses, Said, OfHost, Unformed, Acts}
use Rattle.cops_model.specs.Setups.{Setup}
use Rattle.cops_script.specs.Acting.{HasActed, HasAdmitted, HasClosed, HasStayed, told_act}
use Rattle.cops_script.specs.Answers.{Answer, ToHost, ToTenant}

module _ {W : Type 0} (setup : W → Setup) (StandsFor : W → ℕ → SoloCluster → Type 0) where
  -- an admission is done, or memory ran out; if it is not permitted, nothing is done
  abbrev pub IsHosted : W → HostDeed → Answer → W → Type 0
  IsHosted old (Admits slot tenant) answer new =
      ((answer ≡ ToHost (Admitted tenant.name)) × HasAdmitted setup StandsFor slot tenant old new)
      ⊎ ((answer ≡ ToHost (Denied OutOfMemory)) × HasStayed setup StandsFor old new)
  IsHosted old (Closes slot name) answer new = (answer ≡ ToHost (Closed name)) × HasClosed setup StandsFor slot old new
  IsHosted old (Refuses fault) answer new = (answer ≡ ToHost (Denied fault)) × HasStayed setup StandsFor old new

  -- for tenants by their slots
  abbrev pub IsDone : W → Said → Answer → W → Type 0
  IsDone old (OfHost deed) answer new = IsHosted old deed answer new
  IsDone old (Unformed slot) answer new = (answer ≡ ToTenant slot (Refused Syntax)) × HasStayed setup StandsFor old new
  IsDone old (Acts event) answer new =
      (answered : Result Reply AllocError) × (answer ≡ ToTenant event.slot (told_act answered)) × HasActed setup StandsFor old event answered new
