use Rattle.cops_whole.proofs.Legal.{legal}
use Rattle.cops_whole.proofs.laws.whole_logs_are_legal.Goals as goal

pub returns : goal.returns
returns c = λ config tenant slot log some found whole. legal config tenant slot some log found whole
