use Rattle.cops_repl.proofs.CarrierCounts.{is_bounded}
use Rattle.cops_repl.proofs.bounds.replies_are_few.Goals as goal

pub returns : goal.returns
returns c = λ shards stream log. is_bounded shards stream log
