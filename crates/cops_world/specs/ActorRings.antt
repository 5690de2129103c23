-- The rows of all tenants' actors: those of a slot are linked in a ring.
use Rattle.std.specs.Prelude.{◌≡◌, ℕ, ◌+◌, ◌<◌, ◌==◌, Bool, true, if◌then◌else◌, List, length, map, Option, Some, None, slice_get, slice_index_or}
use Rattle.std.specs.List.{IsDistinct}
use Rattle.std.specs.Map.{keys_of}
use Rattle.std.specs.Option.{option_map}
use Rattle.cops_world.specs.declared.actors.Actor.{Actor}
use Rattle.cops_world.specs.declared.actors.ActorId.{ActorId}
use Rattle.cops_world.specs.declared.rings.ActorRow.{ActorRow}
use Rattle.cops_world.specs.declared.rings.Ring.{Ring}
use Rattle.cops_world.specs.ActorTables.{Table, count_at, same_actor}

-- the slot of a row, and the places of the rows before and behind it
pub record Links : Type 0 where
  pub slot : ℕ
  pub before : ℕ
  pub behind : ℕ

-- the actors of the rows
abbrev pub actors_in : List (ActorId × ActorRow) → List (ActorId × Actor)
actors_in rows = map (λ (e : ActorId × ActorRow). (e.0, e.1.actor)) rows

abbrev pub links_of : ActorId × ActorRow → Links
links_of e = record { slot = e.0.slot; before = e.1.before; behind = e.1.behind }

abbrev pub links_at : List (ActorId × ActorRow) → ℕ → Option Links
links_at rows place = option_map links_of (slice_get rows place)

-- without the row at a place
abbrev pub holed : ℕ → (ℕ → Option Links) → ℕ → Option Links
holed hole rows place = if place == hole then None else rows place

-- the links of the row at a place, once two rows are neighbours
abbrev pub linked : ℕ → ℕ → ℕ → Links → Links
linked at next place l = record { slot = l.slot; before = if place == next then at else l.before; behind = if place == at then next else l.behind }

-- ---- rings

-- the rows beside a row are rows of its slot, and have it beside them
pub record IsBetween (rows : ℕ → Option Links) (place : ℕ) (own : Links) : Type 0 where
  pub behind_it : (other : Links) × (rows own.behind ≡ Some other) × (other.slot ≡ own.slot) × (other.before ≡ place)
  pub before_it : (other : Links) × (rows own.before ≡ Some other) × (other.slot ≡ own.slot) × (other.behind ≡ place)

-- places that have the first of a slot, and with each row of the slot the one behind it, have all rows of the slot
abbrev pub IsOneRing : (ℕ → Option Links) → (ℕ → ℕ) → Type 0
IsOneRing rows first = (slot : ℕ) (Has : ℕ → Bool) → Has (first slot) ≡ true →
    ((place : ℕ) (own : Links) → rows place ≡ Some own → own.slot ≡ slot → Has place ≡ true → Has own.behind ≡ true) →
    (place : ℕ) (own : Links) → rows place ≡ Some own → own.slot ≡ slot → Has place ≡ true

-- the rows of each slot are one ring, which its first leads to
pub record AreRings (rows : ℕ → Option Links) (slots : ℕ) (first : ℕ → ℕ) : Type 0 where
  pub between : (place : ℕ) (own : Links) → rows place ≡ Some own → IsBetween rows place own
  pub within : (place : ℕ) (own : Links) → rows place ≡ Some own → own.slot < slots
  pub led : (place : ℕ) (own : Links) → rows place ≡ Some own → (other : Links) × (rows (first own.slot) ≡ Some other) × (other.slot ≡ own.slot)
  pub one : IsOneRing rows first

-- ---- the ring of each slot

abbrev pub ring_at : ℕ → List Ring → Ring
ring_at slot rings = slice_index_or rings slot (record { first = 0; count = 0 })

abbrev pub first_in : List Ring → ℕ → ℕ
first_in rings slot = (ring_at slot rings).first

-- a ring that begins elsewhere if it began at this place
abbrev pub passed_to : ℕ → ℕ → Ring → Ring
passed_to from to ring = record { first = if ring.first == from then to else ring.first; count = ring.count }

-- a ring with one more row, the one at this place
abbrev pub longer : ℕ → Ring → Ring
longer at ring = record { first = if ring.count == 0 then at else ring.first; count = ring.count + 1 }

-- what contracts see of them
abbrev pub table_in : List (ActorId × ActorRow) → List Ring → Table
table_in rows rings = record { slots = length rings; actors = actors_in rows }

-- no two rows are of one slot and name, and each slot has its ring, with so many rows
pub record AreKeptIn (rows : List (ActorId × ActorRow)) (rings : List Ring) : Type 0 where
  pub distinct : IsDistinct same_actor (keys_of rows)
  pub ringed : AreRings (links_at rows) (length rings) (first_in rings)
  pub counted : (slot : ℕ) → slot < length rings → (ring_at slot rings).count ≡ count_at (table_in rows rings) slot
