use Rattle.std.proofs.Common.{◌-◌, ◌≤◌}
use Rattle.memchr.specs.Find.{Nowhere, Passes, is_byte}
use Rattle.cops_types.specs.Words.{space}
use Rattle.cops_types.proofs.words.place_of_space.Given as goal

abbrev pub invariant-loop-at : goal.invariant-loop-at
invariant-loop-at l = record {
  within : l.at ≤ l.few;
  none : Nowhere (Passes (is_byte space) l.bytes) 0 l.at;
}

abbrev pub decreases-loop-at : goal.decreases-loop-at
decreases-loop-at l = l.few - l.at
