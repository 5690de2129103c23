-- The statuses that the program ends with.
use Rattle.std.specs.Prelude.{ℕ, Result, Ok, Err}
use Rattle.cops_cli.specs.declared.faults.CliFault.{CliFault}
use Rattle.cops_cli.specs.declared.faults.CliFault.TheVariants.{CommandLine, NoText, BadHead, BadLine, UnknownTenant, ClockTooGreat, OutOfMemory, ReadFault, WriteFault}

-- 2 for what was asked and how it is set up, 1 for what failed on the way
abbrev pub fault_status : CliFault → ℕ
fault_status (CommandLine error) = 2
fault_status NoText = 2
fault_status (BadHead line) = 2
fault_status (BadLine why line) = 2
fault_status UnknownTenant = 2
fault_status ClockTooGreat = 2
fault_status OutOfMemory = 1
fault_status ReadFault = 1
fault_status WriteFault = 1

abbrev pub status_of : {T : Type 0} → Result T CliFault → ℕ
status_of (Ok done) = 0
status_of (Err fault) = fault_status fault
