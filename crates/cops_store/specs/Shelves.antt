-- The state of each slot, one by one.
use Rattle.std.specs.Prelude.{◌≡◌, ℕ, suc, Bool, List, [], ◌∷◌, ◌++◌, length, map, slice_index_or, sum_by, count_by, is_some, Option}
use Rattle.cops_types.specs.declared.records.Dated.{Dated}
use Rattle.cops_store.specs.declared.due_rows.DueRow.{DueRow}
use Rattle.cops_store.specs.declared.shelf.Shelf.{Shelf}
use Rattle.cops_store.specs.Chains.{KeptChain}
use Rattle.cops_store.specs.Tables.{all_rows, chains_of, ready_in, IsShelf}
use Rattle.cops_store.specs.Dues.{IsDueLine, IsFromLeast, dues_in, no_dues}
use Rattle.cops_store.specs.Lines.{chains_at}

-- the rows of one slot, and the keys whose `insert` allocates nothing
pub record Kept : Type 0 where
  pub rows : List Dated
  pub ready : List (List ℕ)

-- no rows, and no room
abbrev pub nothing : Kept
nothing = record { rows = []; ready = [] }

-- a part of the state, with the slots; the first slot is `slot`
abbrev pub part_from : {A : Type 0} → (Kept → List A) → ℕ → List Kept → List (ℕ × A)
part_from part slot [] = []
part_from part slot (k ∷ shelves) = map (λ x. (slot, x)) (part k) ++ part_from part (suc slot) shelves

-- the rows with their slots
abbrev pub rows_from : ℕ → List Kept → List (ℕ × Dated)
rows_from slot shelves = part_from (λ k. k.rows) slot shelves

-- the keys with their slots
abbrev pub ready_from : ℕ → List Kept → List (ℕ × List ℕ)
ready_from slot shelves = part_from (λ k. k.ready) slot shelves

-- no entries, and nothing in use
abbrev pub empty_shelf : Shelf
empty_shelf = record { due = no_dues; used = record { records = 0; bytes = 0 } }

abbrev pub kept_slot : Bool → List (List ℕ × KeptChain) → Kept
kept_slot room entries = record { rows = all_rows (chains_of entries); ready = ready_in room entries }

-- the state of each slot, whose chains are in the table, if there is room for an entry or not
abbrev pub kept_slots : Bool → List (List (List ℕ × KeptChain)) → List Kept
kept_slots room table = map (kept_slot room) table

-- the counters and entries of a slot are those of its chains
pub record IsKeptShelf (table : List (List (List ℕ × KeptChain))) (rows : List (Option DueRow)) (slot : ℕ) (s : Shelf) : Type 0 where
  pub line : IsDueLine rows slot s.due
  pub least : IsFromLeast rows s.due
  pub shelf : IsShelf s.used (dues_in rows s.due) (chains_at slot table)

-- the counters and entries of each slot are those of its chains, and each entry is of a slot
pub record AreShelves (table : List (List (List ℕ × KeptChain))) (rows : List (Option DueRow)) (shelves : List Shelf) : Type 0 where
  pub long : length table ≡ length shelves
  pub counted : sum_by (λ (s : Shelf). s.due.count) shelves ≡ count_by is_some rows
  pub each : (slot : ℕ) → IsKeptShelf table rows slot (slice_index_or shelves slot empty_shelf)
