use Rattle.std.proofs.Common.{◌≡◌, take}
use Rattle.cops_types.specs.Pairs.{joined}
use Rattle.cops_types.proofs.growing_pairs.GrowingPairs.has_each_as_new.Given as goal

-- the pairs so far change nothing
abbrev pub invariant-loop-place : goal.invariant-loop-place
invariant-loop-place l = l.self.pairs ≡ joined l.self.pairs (take l.place l.more)
