use Rattle.std.proofs.Common.{◌≡◌}
use Rattle.cops_service.proofs.residents.Residents.of.Given as goal

abbrev pub invariant-loop-place : goal.invariant-loop-place
invariant-loop-place g l = l.seat ≡ l.initial.seat
