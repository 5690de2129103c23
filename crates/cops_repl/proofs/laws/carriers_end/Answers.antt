use Rattle.cops_repl.proofs.RunBounds.{few_replies}
use Rattle.cops_repl.proofs.laws.carriers_end.Goals as goal

pub returns : goal.returns
returns c = few_replies
