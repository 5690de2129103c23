use Rattle.std.proofs.Common.{◌≡◌, ◌+◌, ◌-◌, ◌≤◌, ◌++◌, drop, length}
use Rattle.std.specs.Prelude.{vec_len, vec_capacity}
use Rattle.cops_types.proofs.pair_lists.extend_in_full.Given as goal

abbrev pub invariant-loop-place : goal.invariant-loop-place
invariant-loop-place l = record {
  within : l.place ≤ length l.more;
  items : l.pairs.items ++ drop l.place l.more ≡ l.fn.pairs.items ++ l.more;
  len : vec_len l.pairs + (length l.more - l.place) ≡ vec_len l.fn.pairs + length l.more;
  capacity : vec_capacity l.fn.pairs ≤ vec_capacity l.pairs;
}
