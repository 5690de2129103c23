use Rattle.std.proofs.Common.{◌≡◌, true, ◌≤◌, ◌-◌, length, take}
use Rattle.cops_types.specs.Pairs.{joined}
use Rattle.cops_types.proofs.growing_pairs.GrowingPairs.joined_in_full.Given as goal

-- the pairs so far have joined, and there is room for the others
abbrev pub invariant-loop-place : goal.invariant-loop-place
invariant-loop-place l = record {
  joined : l.list.pairs ≡ joined l.self.pairs (take l.place l.more);
  form : l.list.takes_long ≡ true;
  room : length l.more - l.place ≤ l.list.spare;
}
