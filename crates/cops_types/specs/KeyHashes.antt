-- The bytes of a key, and of a name, that a hasher gets.
use Rattle.std.specs.Prelude.{ℕ, List, [], ◌∷◌, ◌%◌, length, take, nat_le, nat_lt, slice_set, if◌then◌else◌}
use Rattle.std.specs.Hash.{le_bytes}
use Rattle.cops_types.specs.Padding.{padded}

-- all of its cells, or the first 8 or 16 if the others are 0, in one write
abbrev pub hashed_cells : List ℕ → List (List ℕ)
hashed_cells key = (if nat_le (length key) 8 then take 8 (padded 64 key) else if nat_le (length key) 16 then take 16 (padded 64 key) else padded 64 key) ∷ []

-- all of its cells, in one write
abbrev pub hashed_name : List ℕ → List (List ℕ)
hashed_name name = padded 16 name ∷ []

-- the first 7 cells, and the low byte of a slot
abbrev pub front_in_slot : ℕ → List ℕ → List ℕ
front_in_slot slot cells = slice_set (take 8 cells) 7 (slot % 256)

-- with a slot: in one write, if 7 cells have all bytes; else the slot, and then the cells
abbrev pub hashed_key_in : ℕ → List ℕ → List (List ℕ)
hashed_key_in slot key = if nat_lt (length key) 8 then front_in_slot slot (padded 64 key) ∷ [] else le_bytes 8 slot ∷ hashed_cells key

abbrev pub hashed_name_in : ℕ → List ℕ → List (List ℕ)
hashed_name_in slot name = if nat_lt (length name) 8 then front_in_slot slot (padded 16 name) ∷ [] else le_bytes 8 slot ∷ hashed_name name
