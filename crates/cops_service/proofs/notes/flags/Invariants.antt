use Rattle.std.proofs.Common.{◌≡◌}
use Rattle.std.specs.Vec.{vec_len}
use Rattle.cops_service.proofs.notes.flags.Given as goal

abbrev pub invariant-loop : goal.invariant-loop
invariant-loop l = vec_len l.flags ≡ l.counter
