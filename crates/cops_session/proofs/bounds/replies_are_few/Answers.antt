use Rattle.cops_session.proofs.ReplyCounts.{is_bounded}
use Rattle.cops_session.proofs.bounds.replies_are_few.Goals as goal

pub returns : goal.returns
returns c = λ config request log. is_bounded config request log
