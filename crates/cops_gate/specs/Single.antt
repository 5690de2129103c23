-- A gate of one machine and its seats, as callers see them: a gate of a cluster with one node.
use Rattle.std.specs.Prelude.{◌≡◌, ◌==◌, ℕ, ◌+◌, ◌^◌, [], ◌∷◌, List, length}
use Rattle.std.proofs.Common.{ap, true≢false}
use Rattle.atomic_table.specs.Seated.{TableId}
use Rattle.cops_gate.specs.declared.history.Turn.{Turn}
use Rattle.cops_gate.specs.History.{turns_of, StartsWith, Leads}
use Rattle.cops_gate.specs.Rule.{Met}
use Rattle.cops_gate.specs.Seats.{GateHome, HasAllTurns, Known, Origin, gate_home}

-- the item of a list of one
abbrev pub only : {M : Type 0} → (xs : List M) → length xs ≡ 1 → M
only [] none = absurd (true≢false (ap (λ n. n == 0) none))
only (x ∷ xs) one = x

-- the identity of a gate, the state that it opened with, and the number of its first ticket
pub record SingleOrigin (M : Type 0) : Type 0 where
  pub table : TableId
  pub opening : M
  pub ticket : ℕ

-- the gate as one of a cluster
abbrev pub as_cluster : {M : Type 0} → SingleOrigin M → Origin M
as_cluster gate = record { table = gate.table; opening = gate.opening ∷ []; ticket = gate.ticket }

abbrev pub single_home : {M : Type 0} → SingleOrigin M → GateHome M
single_home gate = gate_home (as_cluster gate)

-- One history leaves the machine. It has all that the seat has seen as a prefix, and no other turn of it.
-- If the seat has met the ticket word at 2^62, each ticket below that had its turn
abbrev pub ClosesAlone : {M C R : Type 0} → (M → ℕ → ℕ → C → R → M → Type 0) → SingleOrigin M → Known M C R → M → Type 0
ClosesAlone {M} {C} {R} turns gate seat machine =
    (log : List (Turn C R)) × StartsWith log seat.history × Leads turns gate.opening log machine
    × (turns_of seat.number log ≡ turns_of seat.number seat.history)
    × HasAllTurns log seat
    × (Met 0 seat.spent → gate.ticket + length log ≡ 2 ^ 62)
