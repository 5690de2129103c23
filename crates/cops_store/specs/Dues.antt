-- The garbage-collection entries of all slots in one table: those of a slot lead from each to the next.
use Rattle.std.specs.Prelude.{◌==◌, min, if◌then◌else◌, ◌≡◌, ◌≢◌, ℕ, zero, suc, ◌+◌, ◌-◌, ◌^◌, ◌≤◌, ◌<◌, Bool, List, [], ◌∷◌, ◌++◌, slice_index_or, Option, Some, None, count_by, is_some}
use Rattle.std.specs.List.{AllByRecursion}
use Rattle.cops_store.specs.declared.due_rows.DueRow.{DueRow}
use Rattle.cops_store.specs.declared.due_rows.DueLine.{DueLine}
use Rattle.cops_store.specs.declared.table.Due.{Due}

-- the entry at each place, and whether room for one more is reserved
pub record Dues : Type 0 where
  pub slots : List (Option DueRow)
  pub room : Bool

-- the row at a place
abbrev pub due_cell : List (Option DueRow) → ℕ → Option DueRow
due_cell rows at = slice_index_or rows at None

abbrev pub due_in : Option DueRow → List Due
due_in None = []
due_in (Some r) = r.due ∷ []

abbrev pub next_due : Option DueRow → ℕ
next_due None = 0
next_due (Some r) = r.next

-- this many entries, from a place on
abbrev pub dues_from : List (Option DueRow) → ℕ → ℕ → List Due
dues_from rows zero at = []
dues_from rows (suc n) at = due_in (due_cell rows at) ++ dues_from rows n (next_due (due_cell rows at))

-- the entries of a line
abbrev pub dues_in : List (Option DueRow) → DueLine → List Due
dues_in rows line = dues_from rows line.count line.first

-- a row of the slot is there
abbrev pub IsDueRowOf : List (Option DueRow) → ℕ → ℕ → Type 0
IsDueRowOf rows slot at = (r : DueRow) × (due_cell rows at ≡ Some r) × (r.slot ≡ slot)

-- from this place on, this many rows of the slot lead to the last
abbrev pub IsDueChain : List (Option DueRow) → ℕ → ℕ → ℕ → ℕ → Type 0
IsDueChain rows slot last zero at = Unit {0}
IsDueChain rows slot last (suc zero) at = IsDueRowOf rows slot at × (at ≡ last)
IsDueChain rows slot last (suc (suc n)) at = IsDueRowOf rows slot at × (at ≢ last) × IsDueChain rows slot last (suc n) (next_due (due_cell rows at))

abbrev pub IsDueLine : List (Option DueRow) → ℕ → DueLine → Type 0
IsDueLine rows slot line = IsDueChain rows slot line.last line.count line.first

-- nothing is stale before the line's timestamp
abbrev pub IsFromLeast : List (Option DueRow) → DueLine → Type 0
IsFromLeast rows line = AllByRecursion (λ d. line.least ≤ d.stale) (dues_in rows line)

abbrev pub no_dues : DueLine
no_dues = record { first = 0; last = 0; count = 0; least = 2 ^ 64 - 1 }

-- the entries, with the first at the end with another timestamp
abbrev pub passed : ℕ → List Due → List Due
passed stale [] = []
passed stale (d ∷ dues) = dues ++ record { key = d.key; stale = stale } ∷ []

-- the line with one more row at its end
abbrev pub extended_dues : ℕ → ℕ → DueLine → DueLine
extended_dues at stale line = record { first = if line.count == 0 then at else line.first; last = at; count = line.count + 1; least = min line.least stale }

-- ---- changes of the table

-- the lines of every other slot stay, and so do their entries
abbrev pub OtherDuesStay : ℕ → List (Option DueRow) → List (Option DueRow) → Type 0
OtherDuesStay slot rows rows' = (other last n at : ℕ) → other ≢ slot → IsDueChain rows other last n at → IsDueChain rows' other last n at × (dues_from rows' n at ≡ dues_from rows n at)

-- what one call does to the table and a line
pub record IsDueTurn (rows rows' : List (Option DueRow)) (slot : ℕ) (line line' : DueLine) : Type 0 where
  pub stays : IsDueLine rows' slot line'
  pub others : OtherDuesStay slot rows rows'
  pub counted : line'.count + count_by is_some rows ≡ line.count + count_by is_some rows'

-- an entry joined the table behind the last of this many
pub record IsDueAdded (rows rows' : List (Option DueRow)) (slot last count at : ℕ) (due : Due) : Type 0 where
  pub vacant : due_cell rows at ≡ None
  pub added : IsDueRowOf rows' slot at
  pub holds : due_in (due_cell rows' at) ≡ due ∷ []
  pub linked : (r : DueRow) → 0 < count → due_cell rows last ≡ Some r → due_cell rows' last ≡ Some (record r { next = at })
  pub others : (x : ℕ) → x ≢ at → (x ≡ last → count ≡ 0) → due_cell rows' x ≡ due_cell rows x

-- the entry at a place left the table
abbrev pub IsDueGone : List (Option DueRow) → List (Option DueRow) → ℕ → Type 0
IsDueGone rows rows' at = (x : ℕ) → x ≢ at → due_cell rows' x ≡ due_cell rows x

-- the first entry went behind the last, with another timestamp; the place `next` has the one that is then the first
pub record IsDueMoved (rows rows' : List (Option DueRow)) (first last stale next : ℕ) : Type 0 where
  pub others : (x : ℕ) → x ≢ first → x ≢ last → due_cell rows' x ≡ due_cell rows x
  pub linked : (r : DueRow) → first ≢ last → due_cell rows last ≡ Some r → due_cell rows' last ≡ Some (record r { next = first })
  pub moved : (r : DueRow) → due_cell rows first ≡ Some r → (q : DueRow) × (due_cell rows' first ≡ Some q) × (q.slot ≡ r.slot) × (q.due ≡ record { key = r.due.key; stale = stale })
  pub alone : first ≡ last → next ≡ first
  pub rest : first ≢ last → next ≡ next_due (due_cell rows first)
