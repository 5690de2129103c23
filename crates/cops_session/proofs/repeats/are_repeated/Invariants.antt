use Rattle.std.proofs.Common.{◌≡◌, length}
use Rattle.cops_model.specs.Session.{has_repeats}
use Rattle.cops_session.proofs.RepeatLaws.{comes_again}
use Rattle.cops_session.proofs.repeats.are_repeated.Given as goal

abbrev pub invariant-loop-key : goal.invariant-loop-key
invariant-loop-key l = has_repeats l.keys ≡ comes_again l.left

abbrev pub decreases-loop-key : goal.decreases-loop-key
decreases-loop-key l = length l.left
