-- One slot in a history of a node at which tenants come and go.
use Rattle.std.specs.Prelude.{◌≡◌, ℕ, nat_eq, false, List, [], ◌∷◌, map, if◌then◌else◌}
use Rattle.cops_gate.specs.declared.history.Entry.{Entry}
use Rattle.cops_gate.specs.declared.history.Turn.{Turn}
use Rattle.cops_node.specs.declared.hosted.SlotCall.{SlotCall}
use Rattle.cops_node.specs.declared.hosted.SlotCall.TheVariants.{Own, Admit, Close}
use Rattle.cops_node.specs.declared.hosted.SlotReply.{SlotReply}
use Rattle.cops_node.specs.Hosting.{TimedSlotCall}
use Rattle.cops_node.specs.Run.{TimedCall}
use Rattle.cops_service.specs.Slots.{slot_entries}

-- a history of such a node
abbrev pub HostedLog : Type 0
HostedLog = List (Turn SlotCall SlotReply)

abbrev pub HostedEntry : Type 0
HostedEntry = Entry SlotCall SlotReply

abbrev pub timed_slot : HostedEntry → TimedSlotCall
timed_slot e = record { moment = e.moment; call = e.call }

-- the calls of a slot, those of the host among them, with the timestamps that were passed
abbrev pub slot_calls_at : ℕ → HostedLog → List TimedSlotCall
slot_calls_at slot log = map timed_slot (slot_entries slot log)

-- ---- the calls of one life

-- a call joins the list if it is one of this life
abbrev pub joins_calls : ℕ → ℕ → SlotCall → List TimedCall → List TimedCall
joins_calls n moment (Own life call) rest = if nat_eq life n then record { moment = moment; call = call } ∷ rest else rest
joins_calls n moment (Admit life tenant) rest = rest
joins_calls n moment Close rest = rest

-- among the calls of a slot those of this life, with the timestamps that were passed
abbrev pub life_calls : ℕ → List TimedSlotCall → List TimedCall
life_calls n [] = []
life_calls n (c ∷ calls) = joins_calls n c.moment c.call (life_calls n calls)

-- a reply joins the list if it is to a call of this life
abbrev pub joins_replies : ℕ → SlotCall → SlotReply → List SlotReply → List SlotReply
joins_replies n (Own life call) reply rest = if nat_eq life n then reply ∷ rest else rest
joins_replies n (Admit life tenant) reply rest = rest
joins_replies n Close reply rest = rest

-- the replies to them
abbrev pub replies_of_life : ℕ → List HostedEntry → List SlotReply
replies_of_life n [] = []
replies_of_life n (e ∷ es) = joins_replies n e.call e.reply (replies_of_life n es)

-- the same in a history
abbrev pub life_calls_at : ℕ → ℕ → HostedLog → List TimedCall
life_calls_at slot n log = life_calls n (slot_calls_at slot log)

abbrev pub life_replies_at : ℕ → ℕ → HostedLog → List SlotReply
life_replies_at slot n log = replies_of_life n (slot_entries slot log)

-- ---- how lives begin and end

abbrev pub IsNoClose : SlotCall → Type 0
IsNoClose (Own life call) = Unit {0}
IsNoClose (Admit life tenant) = Unit {0}
IsNoClose Close = ⊥

-- none of the calls closes the slot
abbrev pub IsNeverClosed : List TimedSlotCall → Type 0
IsNeverClosed [] = Unit {0}
IsNeverClosed (c ∷ calls) = IsNoClose c.call × IsNeverClosed calls

abbrev pub BeginsNoSuchLife : ℕ → SlotCall → Type 0
BeginsNoSuchLife n (Own life call) = Unit {0}
BeginsNoSuchLife n (Admit life tenant) = nat_eq life n ≡ false
BeginsNoSuchLife n Close = Unit {0}

-- none of the calls gives the slot to a tenant in a life of this number
abbrev pub NeverBegins : ℕ → List TimedSlotCall → Type 0
NeverBegins n [] = Unit {0}
NeverBegins n (c ∷ calls) = BeginsNoSuchLife n c.call × NeverBegins n calls
