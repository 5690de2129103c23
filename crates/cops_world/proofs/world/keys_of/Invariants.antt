use Rattle.std.proofs.Common.{length}
use Rattle.cops_world.proofs.PutsAndGets.{AreKeysOf}
use Rattle.cops_world.proofs.world.keys_of.Given as goal

abbrev pub invariant-loop-slice : goal.invariant-loop-slice
invariant-loop-slice l = AreKeysOf l.slices l.keys.items l.left

abbrev pub decreases-loop-slice : goal.decreases-loop-slice
decreases-loop-slice l = length l.left
