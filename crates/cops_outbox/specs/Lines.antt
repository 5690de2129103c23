-- The table with the entries of all slots: those of a slot are linked, and each data centre has a place in that line.
use Rattle.std.specs.Prelude.{◌≡◌, ◌≢◌, ◌⊎◌, ℕ, zero, suc, ◌+◌, ◌≤◌, ◌<◌, ◌++◌, ◌==◌, List, [], ◌∷◌, length, map, drop, slice_index_or, Option, Some, None, if◌then◌else◌, count_by, is_some}
use Rattle.std.specs.List.{range_with_len, sum_by}
use Rattle.cops_types.specs.declared.records.EntryParts.{EntryParts as Entry}
use Rattle.cops_outbox.specs.declared.rows.Row.{Row}
use Rattle.cops_outbox.specs.declared.rows.Span.{Span}
use Rattle.cops_outbox.specs.declared.rows.Line.{Line}

-- the row of the table at a place
abbrev pub cell_at : List (Option Row) → ℕ → Option Row
cell_at rows at = slice_index_or rows at None

abbrev pub entry_in : Option Row → List Entry
entry_in None = []
entry_in (Some r) = r.entry ∷ []

abbrev pub next_in : Option Row → ℕ
next_in None = 0
next_in (Some r) = r.next

-- this many entries, from a place on
abbrev pub entries_from : List (Option Row) → ℕ → ℕ → List Entry
entries_from rows zero at = []
entries_from rows (suc n) at = entry_in (cell_at rows at) ++ entries_from rows n (next_in (cell_at rows at))

abbrev pub entries_in : List (Option Row) → Span → List Entry
entries_in rows span = entries_from rows span.count span.first

-- a row of the slot is there
abbrev pub IsRowOf : List (Option Row) → ℕ → ℕ → Type 0
IsRowOf rows slot at = (r : Row) × (cell_at rows at ≡ Some r) × (r.slot ≡ slot)

-- from this place on, this many rows of the slot lead to the last
abbrev pub IsQueueChain : List (Option Row) → ℕ → ℕ → ℕ → ℕ → Type 0
IsQueueChain rows slot last zero at = Unit {0}
IsQueueChain rows slot last (suc zero) at = IsRowOf rows slot at × (at ≡ last)
IsQueueChain rows slot last (suc (suc n)) at = IsRowOf rows slot at × (at ≢ last) × IsQueueChain rows slot last (suc n) (next_in (cell_at rows at))

abbrev pub nowhere : Span
nowhere = record { first = 0; count = 0 }

-- the first entry that waits for a data centre, and the number of entries
abbrev pub span_at : ℕ → Line → Span
span_at dc line = slice_index_or line.waits.items dc nowhere

-- the entries of a line: all stored ones, and those that wait for each data centre
pub record IsLine (rows : List (Option Row)) (own data_centres slot : ℕ) (line : Line) : Type 0 where
  pub kept : IsQueueChain rows slot line.last line.kept.count line.kept.first
  pub all : length line.waits.items ≡ data_centres
  pub waits : (dc : ℕ) → IsQueueChain rows slot line.last (span_at dc line).count (span_at dc line).first
  pub within : (dc : ℕ) → (span_at dc line).count ≤ line.kept.count
  pub itself : (span_at own line).count ≡ 0

-- each row is needed: a data centre waits for all stored rows
abbrev pub IsNeeded : Line → Type 0
IsNeeded line = (line.kept.count ≡ 0) ⊎ ((dc : ℕ) × ((span_at dc line).count ≡ line.kept.count))

-- a line without rows, for this many data centres
pub record IsEmpty (data_centres : ℕ) (line : Line) : Type 0 where
  pub kept : line.kept ≡ nowhere
  pub all : length line.waits.items ≡ data_centres
  pub waits : (dc : ℕ) → span_at dc line ≡ nowhere

-- each slot has its line, each row is of a line, and each is needed
pub record AreLines (rows : List (Option Row)) (own tenants data_centres : ℕ) (lines : List Line) : Type 0 where
  pub all : length lines ≡ tenants
  pub counted : sum_by (λ (l : Line). l.kept.count) lines ≡ count_by is_some rows
  pub each : (slot : ℕ) (line : Line) → slot < tenants → line ≡ slice_index_or lines slot line → IsLine rows own data_centres slot line
  pub needed : (slot : ℕ) (line : Line) → slot < tenants → line ≡ slice_index_or lines slot line → IsNeeded line

-- the queue of each slot for a data centre
abbrev pub entries_by_slot : List (Option Row) → List Line → ℕ → List (List Entry)
entries_by_slot rows lines dc = map (λ (l : Line). entries_in rows (span_at dc l)) lines

abbrev pub queues_in : List (Option Row) → List Line → ℕ → List (List (List Entry))
queues_in rows lines data_centres = map (entries_by_slot rows lines) (range_with_len 0 data_centres)

-- the span with one more row at its end
abbrev pub extended : ℕ → Span → Span
extended at span = record { first = if span.count == 0 then at else span.first; count = span.count + 1 }

-- ---- changes of the table

-- the chains of every other slot stay, and so do their entries
abbrev pub OtherChainsStay : ℕ → List (Option Row) → List (Option Row) → Type 0
OtherChainsStay slot rows rows' = (other last n at : ℕ) → other ≢ slot → IsQueueChain rows other last n at → IsQueueChain rows' other last n at × (entries_from rows' n at ≡ entries_from rows n at)

-- a row of the slot joined the table behind the last row of a line with this many rows
pub record IsAdded (rows rows' : List (Option Row)) (slot last count at : ℕ) (entry : Entry) : Type 0 where
  pub vacant : cell_at rows at ≡ None
  pub added : IsRowOf rows' slot at
  pub holds : entry_in (cell_at rows' at) ≡ entry ∷ []
  pub linked : (r : Row) → 0 < count → cell_at rows last ≡ Some r → cell_at rows' last ≡ Some (record r { next = at })
  pub others : (x : ℕ) → x ≢ at → (x ≡ last → count ≡ 0) → cell_at rows' x ≡ cell_at rows x

-- the row at a place left the table
pub record IsGone (rows rows' : List (Option Row)) (first : ℕ) : Type 0 where
  pub others : (x : ℕ) → x ≢ first → cell_at rows' x ≡ cell_at rows x

-- what one call does to the table and a line
pub record IsLineChange (rows rows' : List (Option Row)) (own slot : ℕ) (line line' : Line) : Type 0 where
  pub stays : IsLine rows' own (length line.waits.items) slot line'
  pub others : OtherChainsStay slot rows rows'
  pub counted : line'.kept.count + count_by is_some rows ≡ line.kept.count + count_by is_some rows'

-- the entry is the last that waits for each other data centre
pub record IsLonger (rows rows' : List (Option Row)) (own slot : ℕ) (entry : Entry) (line line' : Line) : Type 0 where
  pub turn : IsLineChange rows rows' own slot line line'
  pub entries : (dc : ℕ) → dc < length line.waits.items → dc ≢ own → entries_in rows' (span_at dc line') ≡ entries_in rows (span_at dc line) ++ entry ∷ []
  pub itself : entries_in rows' (span_at own line') ≡ entries_in rows (span_at own line)

-- the first entry that waits for a data centre no longer does
pub record IsShorter (rows rows' : List (Option Row)) (own slot dc : ℕ) (line line' : Line) : Type 0 where
  pub turn : IsLineChange rows rows' own slot line line'
  pub entries : entries_in rows' (span_at dc line') ≡ drop 1 (entries_in rows (span_at dc line))
  pub elsewhere : (at : ℕ) → at ≢ dc → entries_in rows' (span_at at line') ≡ entries_in rows (span_at at line)

-- all rows of the line left the table
pub record IsCleared (rows rows' : List (Option Row)) (own slot : ℕ) (line line' : Line) : Type 0 where
  pub turn : IsLineChange rows rows' own slot line line'
  pub kept : line'.kept.count ≡ 0
  pub waits : (dc : ℕ) → (span_at dc line').count ≡ 0
