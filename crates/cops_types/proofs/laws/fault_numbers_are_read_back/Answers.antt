use Rattle.cops_types.proofs.FaultLemmas.{fault_back, fault_only}
use Rattle.cops_types.proofs.laws.fault_numbers_are_read_back.Goals as goal

pub returns-clause-back : goal.returns-clause-back
returns-clause-back c = fault_back

pub returns-clause-only : goal.returns-clause-only
returns-clause-only c = fault_only
