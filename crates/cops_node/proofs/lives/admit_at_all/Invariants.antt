use Rattle.cops_node.specs.Lives.{AtFirst, IsAdmitted}
use Rattle.cops_node.proofs.lives.admit_at_all.Given as goal

abbrev pub invariant-loop-number : goal.invariant-loop-number
invariant-loop-number l = AtFirst (IsAdmitted l.slot l.first_clock l.quota) l.number l.fn.nodes.items l.nodes.items
