use Rattle.std.proofs.Common.{◌≡◌, ◌+◌, length}
use Rattle.cops_session.proofs.repeats.are_too_many.Given as goal

abbrev pub invariant-loop-place : goal.invariant-loop-place
invariant-loop-place l = length l.keys ≡ l._place + length l.left
