use Rattle.cops_whole.proofs.Legal.{left_by_acts}
use Rattle.cops_whole.proofs.laws.nodes_are_left_by_acts.Goals as goal

pub returns : goal.returns
returns c = λ config tenant slot log owner did number left some found whole acts within leads. left_by_acts config tenant slot some log owner did number left found whole acts within leads
