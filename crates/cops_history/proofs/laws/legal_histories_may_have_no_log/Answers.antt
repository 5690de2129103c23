use Rattle.cops_history.proofs.Exchanged.{each_behaves, each_is_legal, no_log}
use Rattle.cops_history.proofs.laws.legal_histories_may_have_no_log.Goals as goal

pub returns-clause-legal : goal.returns-clause-legal
returns-clause-legal c = each_is_legal

pub returns-clause-behave : goal.returns-clause-behave
returns-clause-behave c = each_behaves

pub returns-clause-none : goal.returns-clause-none
returns-clause-none c = no_log
