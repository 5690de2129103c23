-- The chains of all slots in one table: those of a slot lead from key to key.
use Rattle.std.specs.Prelude.{◌≡◌, ◌≢◌, ℕ, zero, suc, ◌+◌, Bool, false, ◌&&◌, nat_eq, IsTrue, List, [], ◌∷◌, ◌++◌, length, map, sum_by, slice_get, slice_index_or, slice_set, Option, Some, None, if◌then◌else◌}
use Rattle.std.specs.List.{IsDistinct}
use Rattle.std.specs.Map.{keys_of, lookup}
use Rattle.cops_types.specs.Key.{key_eq}
use Rattle.cops_store.specs.declared.rows.SlotKey.{SlotKey}
use Rattle.cops_store.specs.declared.rows.Row.{Row}
use Rattle.cops_store.specs.declared.rows.Line.{Line}
use Rattle.cops_store.specs.Chains.{KeptChain}
use Rattle.cops_store.specs.Tables.{Chains, chains_of}

abbrev pub same_place : SlotKey → SlotKey → Bool
same_place a b = nat_eq a.slot b.slot && key_eq a.key b.key

-- a slot's row of a key
abbrev pub row_of : List (SlotKey × Row) → ℕ → List ℕ → Option Row
row_of rows slot key = lookup (same_place (record { slot = slot; key = key })) rows

abbrev pub chain_in : Option Row → Option KeptChain
chain_in None = None
chain_in (Some r) = Some r.chain

abbrev pub linked_entry : List ℕ → Option Row → List (List ℕ × KeptChain)
linked_entry key None = []
linked_entry key (Some r) = (key, r.chain) ∷ []

abbrev pub linked_next : Option Row → Option (List ℕ)
linked_next None = None
linked_next (Some r) = r.next

-- this many chains, from that of a key on
abbrev pub linked_from : (List ℕ → Option Row) → ℕ → Option (List ℕ) → List (List ℕ × KeptChain)
linked_from rows zero from = []
linked_from rows (suc n) None = []
linked_from rows (suc n) (Some key) = linked_entry key (rows key) ++ linked_from rows n (linked_next (rows key))

-- from this key on there are so many rows
abbrev pub AreLinked : (List ℕ → Option Row) → ℕ → Option (List ℕ) → Type 0
AreLinked rows zero from = Unit {0}
AreLinked rows (suc n) None = ⊥
AreLinked rows (suc n) (Some key) = (r : Row) × (rows key ≡ Some r) × AreLinked rows n r.next

abbrev pub linked_in : (List ℕ → Option Row) → Line → List (List ℕ × KeptChain)
linked_in rows line = linked_from rows line.count line.first

-- a line leads to each row of its slot once, and to no other
pub record IsRowLine (rows : List ℕ → Option Row) (line : Line) : Type 0 where
  pub linked : AreLinked rows line.count line.first
  pub distinct : IsDistinct key_eq (keys_of (linked_in rows line))
  pub whole : (key : List ℕ) → lookup (key_eq key) (linked_in rows line) ≡ chain_in (rows key)

abbrev pub no_line : Line
no_line = record { first = None; count = 0 }

-- each row is of the line of its slot
pub record AreRowLines (rows : List (SlotKey × Row)) (lines : List Line) : Type 0 where
  pub each : (slot : ℕ) → IsRowLine (row_of rows slot) (slice_index_or lines slot no_line)
  pub counted : sum_by (λ (l : Line). l.count) lines ≡ length rows
  pub unique : IsDistinct same_place (keys_of rows)

-- the chains of each slot; the first slot is `slot`
abbrev pub lines_from : List (SlotKey × Row) → ℕ → List Line → List (List (List ℕ × KeptChain))
lines_from rows slot [] = []
lines_from rows slot (line ∷ lines) = linked_in (row_of rows slot) line ∷ lines_from rows (suc slot) lines

-- the chains of one slot
abbrev pub chain_entries_at : ℕ → List (List (List ℕ × KeptChain)) → List (List ℕ × KeptChain)
chain_entries_at slot table = slice_index_or table slot []

abbrev pub chains_at : ℕ → List (List (List ℕ × KeptChain)) → Chains
chains_at slot table = chains_of (chain_entries_at slot table)

-- no slot's chains change but this one's
abbrev pub OtherSlotsStay : ℕ → List (List (List ℕ × KeptChain)) → List (List (List ℕ × KeptChain)) → Type 0
OtherSlotsStay slot before after = after ≡ slice_set before slot (chain_entries_at slot after)

-- the chain of the key has room for a record
abbrev pub HasRecordRoom : Option KeptChain → Type 0
HasRecordRoom None = ⊥
HasRecordRoom (Some chain) = IsTrue chain.room

abbrev pub IsRoomy : List ℕ → List (List ℕ × KeptChain) → Type 0
IsRoomy key entries = HasRecordRoom (lookup (key_eq key) entries)

-- ---- changes of the table

-- the slot's row of the key is at the index
abbrev pub IsAt : List (SlotKey × Row) → ℕ → ℕ → List ℕ → Type 0
IsAt rows i slot key = (r : Row) × (slice_get rows i ≡ Some (record { slot = slot; key = key }, r))

-- the slot's row of the key is another, or gone, and no other changed
pub record IsChanged (before after : List (SlotKey × Row)) (slot : ℕ) (key : List ℕ) (row : Option Row) : Type 0 where
  pub own : row_of after slot key ≡ row
  pub same : (other : List ℕ) → key_eq key other ≡ false → row_of after slot other ≡ row_of before slot other
  pub others : (other : ℕ) → other ≢ slot → row_of after other ≡ row_of before other
  pub unique : IsDistinct same_place (keys_of after)

-- the row of the key has another chain
pub record IsRechained (before after : List (SlotKey × Row)) (slot : ℕ) (key : List ℕ) (old new : KeptChain) : Type 0 where
  pub next : Option (List ℕ)
  pub was : row_of before slot key ≡ Some (record { chain = old; next = next })
  pub changed : IsChanged before after slot key (Some (record { chain = new; next = next }))
  pub long : length after ≡ length before

-- an empty chain of a new key leads to the former first one
pub record IsNewRow (before after : List (SlotKey × Row)) (slot : ℕ) (key : List ℕ) (first : Option (List ℕ)) : Type 0 where
  pub chain : KeptChain
  pub items : chain.items ≡ []
  pub room : IsTrue chain.room
  pub lacked : row_of before slot key ≡ None
  pub changed : IsChanged before after slot key (Some (record { chain = chain; next = first }))
  pub long : length after ≡ suc (length before)

-- what one call does to a line
pub record IsLineTurn (before after : List (SlotKey × Row)) (slot : ℕ) (line line' : Line) : Type 0 where
  pub stays : IsRowLine (row_of after slot) line'
  pub others : (other : ℕ) → other ≢ slot → row_of after other ≡ row_of before other
  pub unique : IsDistinct same_place (keys_of after)
  pub counted : line'.count + length before ≡ line.count + length after

-- the entries, with another chain for the key
abbrev pub with_chain : List ℕ → KeptChain → List (List ℕ × KeptChain) → List (List ℕ × KeptChain)
with_chain key chain entries = map (λ e. if key_eq key e.0 then (e.0, chain) else e) entries
