use Rattle.cops_script.proofs.SparedAnswers.{spared_front, spared_whole}
use Rattle.cops_script.proofs.laws.spared_answers_are_the_output.Goals as goal

pub returns-clause-whole : goal.returns-clause-whole
returns-clause-whole c = spared_whole

pub returns-clause-first : goal.returns-clause-first
returns-clause-first c = λ bytes text others answers spared. spared_front bytes text others answers spared
