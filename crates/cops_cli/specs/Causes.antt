-- The text on standard error for a connection that didn't end cleanly.
use Rattle.std.specs.Prelude.{ℕ, List, codes}
use Rattle.cops_service.specs.declared.reports.Cause.{Cause}
use Rattle.cops_service.specs.declared.reports.Cause.TheVariants as cause

abbrev pub cause_text : Cause → List ℕ
cause_text cause.Refused = codes "refused"
cause_text cause.BrokenFrame = codes "broken frame"
cause_text cause.CutOff = codes "cut off"
cause_text cause.Idle = codes "idle"
cause_text cause.ReadingFailed = codes "reading failed"
cause_text cause.WritingFailed = codes "writing failed"
cause_text cause.OutOfMemory = codes "out of memory"
