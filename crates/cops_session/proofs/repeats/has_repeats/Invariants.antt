use Rattle.std.proofs.Common.{◌≡◌, drop}
use Rattle.cops_model.specs.Session.{has_repeats}
use Rattle.cops_session.proofs.RepeatLaws.{comes_again}
use Rattle.cops_session.proofs.repeats.has_repeats.Given as goal

abbrev pub invariant-loop-place : goal.invariant-loop-place
invariant-loop-place l = has_repeats l.keys ≡ comes_again (drop l.place l.keys)
