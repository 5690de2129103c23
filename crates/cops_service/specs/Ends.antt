-- Why a connection ended.
use Rattle.std.specs.Prelude.{◌≡◌, ◌≢◌, Result, Ok, Err, Option, Some, None, IsSomeAnd, if◌then◌else◌}
use Rattle.cops_service.specs.declared.reports.Cause.{Cause}
use Rattle.cops_service.specs.declared.reports.Cause.TheVariants as causes
use Rattle.cops_service.specs.declared.reports.Course.{Course}
use Rattle.cops_types.specs.declared.faults.Fault.{Fault}
use Rattle.cops_types.specs.declared.faults.Fault.TheVariants as faults
use Rattle.cops_wire.specs.declared.serving.Ended.{Ended}
use Rattle.cops_wire.specs.declared.serving.Ended.TheVariants.{Clean, Torn}
use Rattle.cops_types.specs.declared.request_errors.RequestError.{RequestError}
use Rattle.cops_types.specs.declared.request_errors.RequestError.TheVariants.{Refused, OutOfMemory}

-- the cause of a fault
pub record IsCauseOf (course : Course) (fault : Fault) (cause : Cause) : Type 0 where
  pub read : fault ≡ faults.ReadFault → cause ≡ (if course.is_idle then causes.Idle else causes.ReadingFailed)
  pub written : fault ≡ faults.WriteFault → cause ≡ (if course.is_idle then causes.Idle else causes.WritingFailed)
  pub syntax_fault : fault ≡ faults.Syntax → cause ≡ (if course.saw_end then causes.CutOff else causes.Refused)
  pub refused : fault ≢ faults.ReadFault → fault ≢ faults.WriteFault → fault ≢ faults.Syntax → cause ≡ causes.Refused

-- the cause of an end, if it wasn't clean
abbrev pub IsCause : Course → Result Ended RequestError → Option Cause → Type 0
IsCause course (Ok Clean) cause = cause ≡ None
IsCause course (Ok Torn) cause = cause ≡ Some (if course.saw_end then causes.CutOff else causes.BrokenFrame)
IsCause course (Err OutOfMemory) cause = cause ≡ Some causes.OutOfMemory
IsCause course (Err (Refused fault)) cause = IsSomeAnd cause (IsCauseOf course fault)
