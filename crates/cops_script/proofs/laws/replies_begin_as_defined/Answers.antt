use Rattle.cops_script.proofs.LifeAnswers.{answered_front}
use Rattle.cops_script.proofs.laws.replies_begin_as_defined.Goals as goal

pub returns : goal.returns
returns c = answered_front
