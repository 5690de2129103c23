use Rattle.std.proofs.Common.{◌+◌, ◌-◌, ◌≤◌, drop, length}
use Rattle.std.specs.Prelude.{vec_len, vec_capacity}
use Rattle.cops_types.proofs.Merging.{IsMerging}
use Rattle.cops_types.proofs.pair_lists.merge.Given as goal

-- what is done and what is left of both lists is a merge of them, for which there is room
abbrev pub invariant-loop-first : goal.invariant-loop-first
invariant-loop-first l = record {
  within_first : l.first ≤ length l.pairs;
  within_second : l.second ≤ length l.more;
  room : vec_len l.merged + (length l.pairs - l.first) + (length l.more - l.second) ≤ vec_capacity l.merged;
  merging : IsMerging l.pairs l.more l.merged.items (drop l.first l.pairs) (drop l.second l.more);
}

abbrev pub decreases-loop-first : goal.decreases-loop-first
decreases-loop-first l = length l.pairs - l.first + (length l.more - l.second)
