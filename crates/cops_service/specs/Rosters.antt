-- The tenants of a running cluster, and the numbers of their lives, as the host keeps them.
use Rattle.std.specs.Prelude.{◌≡◌, ◌⊎◌, ℕ, ◌+◌, ◌-◌, ◌^◌, slice_index_or, slice_set, replicate, List, Option, Some, None}
use Rattle.std.specs.Option.{option_map}
use Rattle.cops_types.specs.declared.configs.Config.{Config}
use Rattle.cops_types.specs.declared.configs.Tenant.{Tenant}
use Rattle.cops_types.specs.declared.faults.Fault.{Fault}
use Rattle.cops_types.specs.declared.faults.Fault.TheVariants.{NoSlot, UnknownTenant}
use Rattle.cops_types.specs.declared.request_errors.RequestError.{RequestError}
use Rattle.cops_types.specs.declared.request_errors.RequestError.TheVariants.{OutOfMemory, Refused}
use Rattle.cops_types.specs.OpenSlots.{admission_refusal, begun_with, open_slot_of_token}
use Rattle.cops_types.specs.RequestErrors.{fault_told}
use Rattle.cops_model.specs.declared.replies.HostReply.{HostReply}
use Rattle.cops_model.specs.declared.replies.HostReply.TheVariants.{Admitted, Closed, Denied}
use Rattle.cops_node.specs.Parts.{MOST_SLOTS}
use Rattle.cops_model.specs.Setups.{next_slot}
use Rattle.cops_service.specs.declared.roster.Life.{Life}
use Rattle.cops_service.specs.Gates.{Gates}
use Rattle.cops_node.specs.Hosting.{Hosted}
use Rattle.cops_service.specs.HostedDesks.{HostedSeat, IsAdmittedAtAll, IsClosedAtAll, IsTakenBack}

-- the tenant of each slot, the number of its latest life, and the number of the life that begins next
pub record Roster : Type 0 where
  pub tenants : List (Option Tenant)
  pub lives : List ℕ
  pub next : ℕ

-- the tenants of a configuration, in their slots' lives 0
abbrev pub first_roster : Config → Roster
first_roster config = record { tenants = begun_with config.tenants; lives = replicate MOST_SLOTS 0; next = 1 }

-- the slot with the number of its latest life
abbrev pub life_in : Roster → ℕ → Life
life_in roster slot = record { slot = slot; number = slice_index_or roster.lives slot 0 }

-- the life of the open tenant with this token
abbrev pub life_of_token : Roster → List ℕ → Option Life
life_of_token roster token = option_map (life_in roster) (open_slot_of_token roster.tenants token)

-- why the tenant doesn't get the least free slot, as scripts say it
abbrev pub roster_refusal : Roster → Tenant → Option Fault
roster_refusal roster tenant = admission_refusal roster.tenants (next_slot roster.tenants) tenant

-- no life can have a higher number
abbrev pub last_life : ℕ
last_life = 2 ^ 64 - 1

-- The tenant begins a life in the least free slot. The number of the next life is higher
pub record BeginsLife (life : Life) (tenant : Tenant) (old new : Roster) : Type 0 where
  pub may : roster_refusal old tenant ≡ None
  pub slot : life.slot ≡ next_slot old.tenants
  pub number : life.number ≡ old.next
  pub next : new.next ≡ old.next + 1
  pub tenants : new.tenants ≡ slice_set old.tenants life.slot (Some tenant)
  pub lives : new.lives ≡ slice_set old.lives life.slot life.number

-- Why a tenant isn't admitted, and what the host's seat has done. It is refused as scripts say it, or the numbers of lives are used up, and no node is asked
abbrev pub IsRefusedHere : Roster → Tenant → RequestError → Type 0
IsRefusedHere roster tenant (Refused fault) = (roster_refusal roster tenant ≡ Some fault) ⊎ ((fault ≡ NoSlot) × (roster.next ≡ last_life))
IsRefusedHere roster tenant OutOfMemory = ⊥

-- a node refuses it, and it is closed again at those before; or memory runs out for the roster, and it is closed again at all nodes
abbrev pub IsNotKept : Gates Hosted → Roster → Tenant → RequestError → HostedSeat → HostedSeat → Type 0
IsNotKept cluster roster tenant error old new =
    IsTakenBack cluster (next_slot roster.tenants) roster.next tenant error old new
    ⊎ ((error ≡ OutOfMemory) × (between : HostedSeat) × IsAdmittedAtAll cluster (next_slot roster.tenants) roster.next tenant old between
    × IsClosedAtAll cluster (next_slot roster.tenants) between new)

-- A number that was given to a life that didn't begin isn't given again
abbrev pub IsNotAdmitted : Gates Hosted → Roster → Tenant → RequestError → HostedSeat → HostedSeat → ℕ → Type 0
IsNotAdmitted cluster roster tenant error old new next =
    (IsRefusedHere roster tenant error × (new ≡ old) × (next ≡ roster.next))
    ⊎ ((roster_refusal roster tenant ≡ None) × IsNotKept cluster roster tenant error old new × (next ≡ roster.next + 1))

-- ---- the replies to the host's lines

-- The reply to an admission: the tenant has the least free slot, at all nodes, in a new life; or why nothing was done
abbrev pub IsAdmissionTold : Gates Hosted → Tenant → Roster → HostedSeat → HostReply → Roster → HostedSeat → Type 0
IsAdmissionTold cluster tenant old seat (Admitted name) new new_seat =
    (name ≡ tenant.name) × (life : Life) × BeginsLife life tenant old new × IsAdmittedAtAll cluster life.slot life.number tenant seat new_seat
IsAdmissionTold cluster tenant old seat (Denied fault) new new_seat =
    (error : RequestError) × (fault ≡ fault_told error) × IsNotAdmitted cluster old tenant error seat new_seat new.next × (new.tenants ≡ old.tenants) × (new.lives ≡ old.lives)
IsAdmissionTold cluster tenant old seat (Closed name) new new_seat = ⊥

-- The reply to a close, if this slot has the tenant of that name
abbrev pub IsCloseTold : Gates Hosted → List ℕ → Option ℕ → Roster → HostedSeat → HostReply → Roster → HostedSeat → Type 0
IsCloseTold cluster name None old seat reply new new_seat = (reply ≡ Denied UnknownTenant) × (new ≡ old) × (new_seat ≡ seat)
IsCloseTold cluster name (Some slot) old seat reply new new_seat =
    (reply ≡ Closed name) × (new.tenants ≡ slice_set old.tenants slot None) × (new.lives ≡ old.lives) × (new.next ≡ old.next) × IsClosedAtAll cluster slot seat new_seat
