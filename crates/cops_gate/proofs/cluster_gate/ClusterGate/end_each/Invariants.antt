use Rattle.std.proofs.Common.{◌≡◌, ◌++◌, vec_len}
use Rattle.std.specs.List.{AllByRecursion}
use Rattle.cops_gate.specs.History.{StartsWith}
use Rattle.cops_gate.specs.Seats.{HasAllOf, all_joined, all_spent, gate_home}
use Rattle.cops_gate.proofs.cluster_gate.ClusterGate.end_each.Given as goal

abbrev pub invariant-loop-seat : goal.invariant-loop-seat
invariant-loop-seat g l =
    (ended : _)
    × (l.fn.seats.items ≡ l.seats.items ++ ended)
    × ((l.last.gate ≡ l.initial.last.gate) × (l.last.number ≡ l.initial.last.number) × (l.last.history ≡ l.initial.last.history))
    × (l.last.account ≡ all_joined l.initial.last.account ended)
    × (l.last.spent ≡ all_spent l.initial.last.spent ended)
    × AllByRecursion (λ s. s.gate ≡ gate_home l.self) l.seats.items
    × AllByRecursion (λ s. StartsWith l.initial.last.history s.history) l.seats.items
    × AllByRecursion (HasAllOf l.initial.last.history) ended

abbrev pub decreases-loop-seat : goal.decreases-loop-seat
decreases-loop-seat g l = vec_len l.seats
