use Rattle.cops_whole.proofs.NoOps.{gates_whole}
use Rattle.cops_whole.proofs.laws.logs_of_gates_are_whole.Goals as goal

pub returns : goal.returns
returns c = gates_whole
