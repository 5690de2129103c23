use Rattle.cops_node.specs.Lives.{AtFirst, IsClosed}
use Rattle.cops_node.proofs.lives.close_at_all.Given as goal

abbrev pub invariant-loop-number : goal.invariant-loop-number
invariant-loop-number l = AtFirst (IsClosed l.slot) l.number l.fn.nodes.items l.nodes.items
