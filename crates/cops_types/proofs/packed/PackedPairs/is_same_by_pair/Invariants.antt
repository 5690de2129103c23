use Rattle.std.proofs.Common.{◌≡◌, take}
use Rattle.cops_types.proofs.packed.PackedPairs.is_same_by_pair.Given as goal

abbrev pub invariant-loop-place : goal.invariant-loop-place
invariant-loop-place l = take l.place l.self ≡ take l.place l.other
