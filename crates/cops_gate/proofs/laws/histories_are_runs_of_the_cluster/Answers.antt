use Rattle.cops_gate.proofs.Running.{whole_histories_run, runs_lead_each_node, turns_end_a_run}
use Rattle.cops_gate.proofs.laws.histories_are_runs_of_the_cluster.Goals as goal

pub returns-clause-run : goal.returns-clause-run
returns-clause-run g c = whole_histories_run g.M.Machine.turns

pub returns-clause-each : goal.returns-clause-each
returns-clause-each g c = runs_lead_each_node g.M.Machine.turns

pub returns-clause-turn : goal.returns-clause-turn
returns-clause-turn g c = turns_end_a_run g.M.Machine.turns
