-- The content of a node's slot when tenants come and go, and the effect of a turn on it.
use Rattle.std.specs.Prelude.{◌≡◌, ◌≢◌, ℕ, ◌≤◌, nat_eq, nat_le, slice_index_or, IsTrue, List, [], ◌∷◌, Option, None, Some, if◌then◌else◌}
use Rattle.std.specs.Option.{option_map}
use Rattle.cops_types.specs.declared.configs.Tenant.{Tenant}
use Rattle.cops_types.specs.declared.faults.Fault.TheVariants.{NoSlot, UnknownTenant}
use Rattle.cops_types.specs.Version.{last_clock}
use Rattle.cops_model.specs.declared.calls.NodeCall.{NodeCall}
use Rattle.cops_model.specs.declared.calls.NodeReply.TheVariants as node_reply
use Rattle.cops_node.specs.declared.hosted.SlotCall.{SlotCall}
use Rattle.cops_node.specs.declared.hosted.SlotCall.TheVariants.{Own, Admit, Close}
use Rattle.cops_node.specs.declared.hosted.SlotReply.{SlotReply}
use Rattle.cops_node.specs.declared.hosted.SlotReply.TheVariants as told
use Rattle.cops_node.specs.declared.Home.{Home}
use Rattle.cops_node.specs.Parts.{MOST_SLOTS, Shared, place_at, place_for, solo_of}
use Rattle.cops_model.specs.Place.{Place, fits}
use Rattle.cops_node.specs.Shape.{place_in}
use Rattle.cops_model.specs.SoloNode.{SoloNode, new_node}
use Rattle.cops_model.specs.Step.{node_step}

-- ---- what a slot holds

-- a node at which tenants come and go: the number of each slot's latest life, from an admission to a close, beside the node
pub record Hosted : Type 0 where
  pub node : Shared
  pub lives : List ℕ

-- the node without its tenants
abbrev pub host_in : Hosted → Home
host_in hosted = hosted.node.home

-- the number of the slot's latest life
abbrev pub life_at : ℕ → Hosted → ℕ
life_at slot hosted = slice_index_or hosted.lives slot 0

-- the number of a tenant's life, its place at the node, and its solo node
pub record Held : Type 0 where
  pub life : ℕ
  pub place : Place
  pub solo : SoloNode

abbrev pub held_in : ℕ → Hosted → Place → Held
held_in slot hosted place = record { life = life_at slot hosted; place = place; solo = solo_of slot place hosted.node }

-- what the slot holds: its tenant's life, place and solo node, or nothing
abbrev pub slot_holds : ℕ → Hosted → Option Held
slot_holds slot hosted = option_map (held_in slot hosted) (place_at slot hosted.node)

-- ---- what a turn does to it

-- the reply, and what the slot holds after it
pub record SlotEffect : Type 0 where
  pub reply : SlotReply
  pub after : Option Held

-- the reply to a call of a life that isn't the slot's
abbrev pub unknown_tenant : SlotReply
unknown_tenant = told.Own (node_reply.Refused UnknownTenant)

-- a call of the slot's life is a call of the tenant's solo node
abbrev pub held_turn : ℕ → NodeCall → Held → SlotEffect
held_turn moment call held =
    let turn = node_step held.place moment call held.solo in
    record { reply = told.Own turn.reply; after = Some (record { life = held.life; place = held.place; solo = turn.after }) }

-- a call of any other life is refused, and changes nothing
abbrev pub own_turn : ℕ → ℕ → NodeCall → Option Held → SlotEffect
own_turn moment life call None = record { reply = unknown_tenant; after = None }
own_turn moment life call (Some held) =
    if nat_eq life held.life
    then held_turn moment call held
    else record { reply = unknown_tenant; after = Some held }

-- a new tenant's life and place, and a solo node before any call
abbrev pub newly_held : Home → ℕ → Tenant → Held
newly_held home life tenant =
    record { life = life; place = place_for home tenant.first_clock tenant.quota; solo = new_node home.shape.data_centres }

-- a slot without a tenant, below the node's limit, is given to this one
abbrev pub admit_turn : Home → ℕ → ℕ → Tenant → Option Held → SlotEffect
admit_turn home slot life tenant (Some held) = record { reply = told.Refused NoSlot; after = Some held }
admit_turn home slot life tenant None =
    if nat_le MOST_SLOTS slot
    then record { reply = told.Refused NoSlot; after = None }
    else record { reply = told.Admitted; after = Some (newly_held home life tenant) }

-- a tenant leaves, and nothing of it remains
abbrev pub close_turn : Option Held → SlotEffect
close_turn None = record { reply = told.Refused UnknownTenant; after = None }
close_turn (Some held) = record { reply = told.Closed; after = None }

abbrev pub slot_turn : Home → ℕ → ℕ → SlotCall → Option Held → SlotEffect
slot_turn home slot moment (Own life call) held = own_turn moment life call held
slot_turn home slot moment (Admit life tenant) held = admit_turn home slot life tenant held
slot_turn home slot moment Close held = close_turn held

-- ---- turns of a machine

-- the turn of what the slot holds; other slots and the node stay the same
pub record IsSlotTurn (old : Hosted) (slot moment : ℕ) (call : SlotCall) (reply : SlotReply) (new : Hosted) : Type 0 where
  pub reply_is : reply ≡ (slot_turn (host_in old) slot moment call (slot_holds slot old)).reply
  pub after : slot_holds slot new ≡ (slot_turn (host_in old) slot moment call (slot_holds slot old)).after
  pub others : (other : ℕ) → other ≢ slot → slot_holds other new ≡ slot_holds other old
  pub home : host_in new ≡ host_in old

-- A tenant's call must fit this node. Every node accepts an admission with a valid first clock, and a close
abbrev pub FitsSlot : Home → ℕ → SlotCall → Type 0
FitsSlot home slot (Own life call) = IsTrue (fits (place_in home.shape home.id) call)
FitsSlot home slot (Admit life tenant) = tenant.first_clock ≤ last_clock
FitsSlot home slot Close = Unit {0}

-- ---- calls in a row

-- a call of a slot, with the timestamp that is passed
pub record TimedSlotCall : Type 0 where
  pub moment : ℕ
  pub call : SlotCall

-- the content of the slot after the calls
abbrev pub slot_after : Home → ℕ → List TimedSlotCall → Option Held → Option Held
slot_after home slot [] held = held
slot_after home slot (c ∷ calls) held = slot_after home slot calls (slot_turn home slot c.moment c.call held).after

-- the reply to each call, in order
abbrev pub slot_replies : Home → ℕ → List TimedSlotCall → Option Held → List SlotReply
slot_replies home slot [] held = []
slot_replies home slot (c ∷ calls) held = let turn = slot_turn home slot c.moment c.call held in turn.reply ∷ slot_replies home slot calls turn.after
