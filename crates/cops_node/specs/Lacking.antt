-- The turns of a node that may run out of memory.
use Rattle.std.specs.Prelude.{◌≡◌, ℕ, false, IsTrue, Some}
use Rattle.cops_model.specs.declared.calls.NodeCall.{NodeCall}
use Rattle.cops_model.specs.Place.{Place}
use Rattle.cops_node.specs.declared.hosted.SlotCall.{SlotCall}
use Rattle.cops_node.specs.declared.hosted.SlotCall.TheVariants.{Own, Admit, Close}
use Rattle.cops_node.specs.Hosting.{Hosted, life_at}
use Rattle.cops_node.specs.Parts.{Shared, has_audit_room, is_taken, place_at}

-- only those of a slot with a tenant whose audit has room: a full audit is the reply however much memory there is
abbrev pub MayLack : Shared → ℕ → NodeCall → Type 0
MayLack node slot call = (place : Place) × (place_at slot node ≡ Some place) × IsTrue (has_audit_room slot place node)

-- The same for a call of the tenant's life. An admission may run out of memory only if the slot is free; a close never does
abbrev pub MayLackAtSlot : Hosted → ℕ → SlotCall → Type 0
MayLackAtSlot hosted slot (Own life call) = (life ≡ life_at slot hosted) × MayLack hosted.node slot call
MayLackAtSlot hosted slot (Admit life tenant) = is_taken slot hosted.node ≡ false
MayLackAtSlot hosted slot Close = ⊥
