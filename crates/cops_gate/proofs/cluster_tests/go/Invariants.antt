use Rattle.std.proofs.Common.{◌≡◌}
use Rattle.cops_gate.proofs.cluster_tests.go.Given as goal

abbrev pub invariant-loop-turn : goal.invariant-loop-turn
invariant-loop-turn g l = l.seat.gate ≡ l.initial.seat.gate
