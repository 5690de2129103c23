use Rattle.cops_history.proofs.LifeLogs.{late_calls}
use Rattle.cops_history.proofs.laws.ended_lives_are_unknown.Goals as goal

pub returns : goal.returns
returns c = λ config slot life number moment reply earlier later left some within begins leads. late_calls config slot life number some within moment reply earlier later left begins leads
