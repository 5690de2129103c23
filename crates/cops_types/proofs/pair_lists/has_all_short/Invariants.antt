use Rattle.std.proofs.Common.{◌≡◌, ◌≤◌, ◌+◌, ◌-◌, take, length}
use Rattle.cops_types.specs.Pairs.{joined}
use Rattle.cops_types.proofs.pair_lists.has_all_short.Given as goal

-- the pairs so far change nothing
abbrev pub invariant-loop-first : goal.invariant-loop-first
invariant-loop-first l = record {
  within_first : l.first ≤ length l.pairs;
  within_second : l.second ≤ length l.more;
  same : l.pairs ≡ joined l.pairs (take l.second l.more);
}

abbrev pub decreases-loop-first : goal.decreases-loop-first
decreases-loop-first l = length l.pairs - l.first + (length l.more - l.second)
