-- A gate of a cluster and its seats, as callers see them.
use Rattle.std.specs.Prelude.{◌≡◌, ℕ, ◌+◌, ◌*◌, ◌^◌, ◌<◌, List, [], ◌∷◌, ◌++◌, length, Option, Some}
use Rattle.std.specs.List.{AllByRecursion}
use mathlib.Core.Option.{some}
use lib.ListN.{get_elem?}
use Rattle.atomic_table.specs.Seated.{TableId}
use Rattle.cops_gate.specs.declared.board.Account.{Account}
use Rattle.cops_gate.specs.declared.board.Opening.{Opening}
use Rattle.cops_gate.specs.declared.history.Entry.{Entry}
use Rattle.cops_gate.specs.declared.history.Turn.{Turn}
use Rattle.cops_gate.specs.Accounts.{IsComplete, first_of, forked, joined_with}
use Rattle.cops_gate.specs.History.{turns_of, turns_at, StartsWith, Leads, Grows}
use Rattle.cops_gate.specs.Rule.{AreDistinctNumbers, Met}

-- the identity of a gate, the states that its nodes opened with, and the number of their first tickets
pub record Origin (M : Type 0) : Type 0 where
  pub table : TableId
  pub opening : List M
  pub ticket : ℕ

-- no gate
abbrev pub no_gate : {M : Type 0} → Origin M
no_gate =
    let table : TableId = record { words = 0; slots = 0; views_name = 0; atom = 0; block = 0; offset = 0; slot_names = [] } in
    record { table = table; opening = []; ticket = 0 }

-- the same as its seats know it
pub record GateHome (M : Type 0) : Type 0 where
  pub table : TableId
  pub opening : Option (Opening M)

abbrev pub gate_home : {M : Type 0} → Origin M → GateHome M
gate_home gate = record { table = gate.table; opening = Some (record { states = gate.opening; ticket = gate.ticket }) }

-- a seat: its number, the history of all nodes that it has seen, the nodes at which it has met the ticket word at 2^62, and its account of the
-- seats that were split off
pub record Known (M C R : Type 0) : Type 0 where
  pub gate : GateHome M
  pub number : ℕ
  pub history : List (Turn C R)
  pub spent : List ℕ
  pub account : Account

-- what a witness tells: the gate, and the history of all nodes that a seat had seen
pub record Testimony (M C R : Type 0) : Type 0 where
  pub gate : GateHome M
  pub history : List (Turn C R)

-- the seat, after one was split off from it
abbrev pub split_off : {M C R : Type 0} → Known M C R → Known M C R
split_off seat = record { gate = seat.gate; number = seat.number; history = seat.history; spent = seat.spent; account = forked seat.account }

-- the seat, after another has ended into it
abbrev pub joined_by : {M C R : Type 0} → Known M C R → Known M C R → Known M C R
joined_by seat ended =
    record { gate = seat.gate; number = seat.number; history = seat.history; spent = ended.spent ++ seat.spent; account = joined_with seat.account ended.number ended.account }

-- the account, after these seats have ended
abbrev pub all_joined : {M C R : Type 0} → Account → List (Known M C R) → Account
all_joined account [] = account
all_joined account (seat ∷ seats) = joined_with (all_joined account seats) seat.number seat.account

-- the nodes at which 2^62 was met, after these seats have ended
abbrev pub all_spent : {M C R : Type 0} → List ℕ → List (Known M C R) → List ℕ
all_spent spent [] = spent
all_spent spent (seat ∷ seats) = seat.spent ++ all_spent spent seats

-- each turn was made by a seat of one of these numbers
abbrev pub AreMadeBy : {C R : Type 0} → List ℕ → List (Turn C R) → Type 0
AreMadeBy {C} {R} numbers log = AllByRecursion (λ (t : Turn C R). Met t.seat numbers) log

-- If the seat is the first one, and each seat that was split off from it has ended into it, then it has seen the whole history. Each turn is its
-- own or was made by a seat that has ended into it. No two of these seats have one number
abbrev pub HasAllTurns : {M C R : Type 0} → List (Turn C R) → Known M C R → Type 0
HasAllTurns log seat = IsComplete seat.account → (log ≡ seat.history) × AreMadeBy (seat.number ∷ seat.account.joined) log × AreDistinctNumbers (seat.number ∷ seat.account.joined)

-- the seat has made one turn more at this node, a no-op turn if there is no entry
abbrev pub Extends : {M C R : Type 0} → (M → ℕ → ℕ → C → R → M → Type 0) → List M → ℕ → Known M C R → Option (Entry C R) → Known M C R → Type 0
Extends turns states node old e new = Grows turns states old.number node old.history e new.history

-- One history has all that the seat has seen as a prefix, and no other turn of it. The turns at each node leave the machine that is returned.
-- If the seat has met the ticket word at 2^62 there, each ticket below that had its turn. A node at which the seat met it exists
abbrev pub ClosesWith : {M C R P : Type 0} → (M → ℕ → ℕ → C → R → M → Type 0) → (M → P) → Origin M → Known M C R → List (Option M) → Type 0
ClosesWith {M} {C} {R} turns place gate seat machines =
    (log : List (Turn C R)) × StartsWith log seat.history
    × (turns_of seat.number log ≡ turns_of seat.number seat.history)
    × HasAllTurns log seat
    × ((node : ℕ) (first : M) (machine : M) → get_elem? gate.opening node ≡ some first → get_elem? machines node ≡ some (Some machine)
    → Leads turns first (turns_at node log) machine × (place machine ≡ place first) × (Met node seat.spent → gate.ticket + length (turns_at node log) ≡ 2 ^ 62))
    × ((node : ℕ) → Met node seat.spent → node < length gate.opening)

-- the seat 0 of a gate
abbrev pub first_seat : {M C R : Type 0} → Origin M → Known M C R
first_seat gate = record { gate = gate_home gate; number = 0; history = []; spent = []; account = first_of 0 }

-- the history has all that the seat has seen as a prefix, and of its turns those that it has made
abbrev pub HasAllOf : {M C R : Type 0} → List (Turn C R) → Known M C R → Type 0
HasAllOf log seat = StartsWith log seat.history × (turns_of seat.number log ≡ turns_of seat.number seat.history)

-- the words of this node are equal, and the machine is the one in its slot
abbrev pub IsAtRest : {M : Type 0} → List ℕ → List M → ℕ → M → Type 0
IsAtRest words machines n m = (x : ℕ) × (get_elem? words (16 * n) ≡ some x) × (get_elem? words (16 * n + 1) ≡ some x) × (get_elem? machines n ≡ some m)

-- each machine that is given is that of a node whose words are equal
abbrev pub AreAtRest : {M : Type 0} → List ℕ → List M → List (Option M) → Type 0
AreAtRest {M} words machines given = (n : ℕ) (m : M) → get_elem? given n ≡ some (Some m) → IsAtRest words machines n m
