use Rattle.cops_script.proofs.ActLemmas.{one_act, act_in-finds, act_in-is}
use Rattle.cops_script.proofs.laws.line_is_one_act.Goals as goal

pub returns-clause-one : goal.returns-clause-one
returns-clause-one c = one_act

pub returns-clause-found : goal.returns-clause-found
returns-clause-found c = act_in-finds

pub returns-clause-only : goal.returns-clause-only
returns-clause-only c = act_in-is
