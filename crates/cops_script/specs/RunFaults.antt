-- The effect of a machine's stop on a run.
use Rattle.cops_script.specs.declared.line_runs.machine.Stop.{Stop}
use Rattle.cops_script.specs.declared.line_runs.machine.Stop.TheVariants as stop
use Rattle.cops_script.specs.declared.line_runs.fault.RunFault.{RunFault}
use Rattle.cops_script.specs.declared.line_runs.fault.RunFault.TheVariants as fault

abbrev pub fault_of : {F : Type 0} → Stop F → RunFault F
fault_of (stop.Refused refusal) = fault.Refused refusal
fault_of stop.OutOfMemory = fault.OutOfMemory
