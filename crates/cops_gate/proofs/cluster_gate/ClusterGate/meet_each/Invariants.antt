use Rattle.std.proofs.Common.{◌≡◌, take}
use Rattle.std.specs.List.{AllByRecursion}
use Rattle.cops_gate.specs.History.{StartsWith, turns_of}
use Rattle.cops_gate.proofs.cluster_gate.ClusterGate.meet_each.Given as goal

abbrev pub invariant-loop-number : goal.invariant-loop-number
invariant-loop-number g l =
    (l.seats.items ≡ l.initial.seats.items)
    × ((l.last.gate ≡ l.initial.last.gate) × (l.last.number ≡ l.initial.last.number) × (l.last.spent ≡ l.initial.last.spent))
    × (l.last.account ≡ l.initial.last.account)
    × AllByRecursion (λ s. StartsWith l.last.history s.history) (take l.number l.initial.seats.items)
    × StartsWith l.last.history l.initial.last.history
    × (turns_of l.last.number l.last.history ≡ turns_of l.initial.last.number l.initial.last.history)
