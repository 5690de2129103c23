-- The entries that wait in an outbox: for each data centre and slot a queue.
use Rattle.std.specs.Prelude.{ℕ, ◌+◌, ◌++◌, ◌==◌, ◌&&◌, not, Bool, false, nat_le, List, [], ◌∷◌, length, map, drop, slice_index_or, slice_set, Option, Some, None, if◌then◌else◌}
use Rattle.std.specs.List.{list_any, range_with_len}
use Rattle.cops_types.specs.declared.records.EntryParts.{EntryParts as Entry}
use Rattle.cops_types.specs.Version.{Timestamp, version_eq}

-- the node's own data centre, the number of slots, and for each data centre the queue of each slot
pub record Queues : Type 0 where
  pub own : ℕ
  pub tenants : ℕ
  pub queues : List (List (List Entry))

-- the entries of a slot that wait for a data centre
abbrev pub queue_of : ℕ → ℕ → Queues → List Entry
queue_of slot dc outbox = slice_index_or (slice_index_or outbox.queues dc []) slot []

-- the head has this version
abbrev pub is_front : Timestamp → Option Entry → Bool
is_front version (Some e) = version_eq e.version version
is_front version None = false

-- a queue to another data centre is full for the slot
abbrev pub is_full : ℕ → ℕ → Queues → Bool
is_full slot limit outbox = list_any (λ dc. not (dc == outbox.own) && nat_le limit (length (queue_of slot dc outbox))) (range_with_len 0 (length outbox.queues))

-- an entry of a slot
pub record Waiting : Type 0 where
  pub slot : ℕ
  pub entry : Entry

-- the queues of all slots with the entry at the end of its slot's queue
abbrev pub with_last : Waiting → List (List Entry) → List (List Entry)
with_last w slots = slice_set slots w.slot (slice_index_or slots w.slot [] ++ w.entry ∷ [])

-- the queues of all slots without the head of this slot's queue
abbrev pub without_front : ℕ → List (List Entry) → List (List Entry)
without_front slot slots = slice_set slots slot (drop 1 (slice_index_or slots slot []))

-- the queues with an entry at the end of its slot's queue, except for the own data centre; the first queue is that of `dc`
abbrev pub pushed : ℕ → ℕ → Waiting → List (List (List Entry)) → List (List (List Entry))
pushed dc own w [] = []
pushed dc own w (slots ∷ queues) = (if dc == own then slots else with_last w slots) ∷ pushed (dc + 1) own w queues

-- the queues without the slot's entries
abbrev pub without_slot : ℕ → List (List (List Entry)) → List (List (List Entry))
without_slot slot queues = map (λ (slots : List (List Entry)). slice_set slots slot []) queues
