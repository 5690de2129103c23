use Rattle.cops_wire.proofs.FoundLimits.{found_fit, taken_fit}
use Rattle.cops_wire.proofs.LimitedAnswers.{limited}
use Rattle.cops_wire.proofs.laws.limited_answers_fit.Goals as goal

pub returns-clause-limited : goal.returns-clause-limited
returns-clause-limited c = limited

pub returns-clause-found : goal.returns-clause-found
returns-clause-found c = found_fit

pub returns-clause-taken : goal.returns-clause-taken
returns-clause-taken c = taken_fit
