use Rattle.std.proofs.Common.{take}
use Rattle.cops_store.specs.Chains.{AreStaleInOrder}
use Rattle.cops_store.proofs.chain.are_in_order.Given as goal

abbrev pub invariant-loop-i : goal.invariant-loop-i
invariant-loop-i l = AreStaleInOrder (take l.i l.older.items)
