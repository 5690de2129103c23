use Rattle.std.proofs.Common.{◌≡◌, take}
use Rattle.cops_types.proofs.packed.shortened.Given as goal

abbrev pub invariant-loop-pair : goal.invariant-loop-pair
invariant-loop-pair l = l.list.items ≡ take l.pair-index l.pairs
