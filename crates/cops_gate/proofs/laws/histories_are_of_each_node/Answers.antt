use Rattle.cops_gate.proofs.Filtering.{turns_are_of_one_node, other_nodes_are_seen, lacking_is_of_one_node}
use Rattle.cops_gate.proofs.laws.histories_are_of_each_node.Goals as goal

pub returns-clause-here : goal.returns-clause-here
returns-clause-here g c = turns_are_of_one_node g.M.Machine.turns

pub returns-clause-elsewhere : goal.returns-clause-elsewhere
returns-clause-elsewhere g c = other_nodes_are_seen g.M.Machine.turns

pub returns-clause-lacking : goal.returns-clause-lacking
returns-clause-lacking g c = lacking_is_of_one_node g.M.Machine.turns g.M.Machine.may_lack
