-- The meaning of a line of a script, while these tenants are open.
use Rattle.std.specs.Prelude.{ℕ, Bool, ◌||◌, if◌then◌else◌, List, [], ◌∷◌, codes, slice_set, Option, Some, None}
use Rattle.std.specs.Str.{bytes_eq}
use Rattle.cops_types.specs.declared.configs.Tenant.{Tenant}
use Rattle.cops_types.specs.declared.faults.Fault.{Fault}
use Rattle.cops_types.specs.declared.faults.Fault.TheVariants.{Syntax, UnknownTenant}
use Rattle.cops_script.specs.HostLines.{admitted_in, closed_in}
use Rattle.cops_types.specs.OpenSlots.{admission_refusal, open_slot_of_name}
use Rattle.cops_types.specs.Words.{first_word}
use Rattle.cops_model.specs.declared.acts.Act.{Act}
use Rattle.cops_model.specs.declared.acts.Event.{Event}
use Rattle.cops_script.specs.ActLines.{act_in}
use Rattle.cops_model.specs.Setups.{next_slot}

-- the host gives a slot to a tenant, or takes it from the tenant of this name, or does nothing
pub data HostDeed : Type 0 where
  Admits : ℕ → Tenant → HostDeed
  Closes : ℕ → List ℕ → HostDeed
  Refuses : Fault → HostDeed

-- a request of the host, or of a tenant: a line of no known form, or an act
pub data Said : Type 0 where
  OfHost : HostDeed → Said
  Unformed : ℕ → Said
  Acts : Event → Said

-- ---- the host

abbrev pub begins_admission : List ℕ → Bool
begins_admission line = bytes_eq (first_word line) (codes "+")

abbrev pub begins_closing : List ℕ → Bool
begins_closing line = bytes_eq (first_word line) (codes "-")

abbrev pub is_host_line : List ℕ → Bool
is_host_line line = begins_admission line || begins_closing line

-- the tenant gets the least free slot
abbrev pub admission_unless : List (Option Tenant) → Tenant → Option Fault → HostDeed
admission_unless tenants tenant None = Admits (next_slot tenants) tenant
admission_unless tenants tenant (Some fault) = Refuses fault

abbrev pub admission_of : List (Option Tenant) → Option Tenant → HostDeed
admission_of tenants None = Refuses Syntax
admission_of tenants (Some tenant) = admission_unless tenants tenant (admission_refusal tenants (next_slot tenants) tenant)

abbrev pub closing_at : List ℕ → Option ℕ → HostDeed
closing_at name None = Refuses UnknownTenant
closing_at name (Some slot) = Closes slot name

abbrev pub closing_of : List (Option Tenant) → Option (List ℕ) → HostDeed
closing_of tenants None = Refuses Syntax
closing_of tenants (Some name) = closing_at name (open_slot_of_name tenants name)

-- ---- a tenant

abbrev pub said_by : ℕ → Option Act → Said
said_by slot None = Unformed slot
said_by slot (Some act) = Acts (record { slot = slot; act = act })

-- a line that starts with no open tenant's name is refused as the host's
abbrev pub said_found : List ℕ → Option ℕ → Said
said_found line None = OfHost (Refuses UnknownTenant)
said_found line (Some slot) = said_by slot (act_in (first_word line) line)

-- ---- all

abbrev pub said_in : List (Option Tenant) → List ℕ → Said
said_in tenants line =
    if begins_admission line then OfHost (admission_of tenants (admitted_in line))
    else if begins_closing line then OfHost (closing_of tenants (closed_in line))
    else said_found line (open_slot_of_name tenants (first_word line))

-- the tenants that are open after it
abbrev pub tenants_after : List (Option Tenant) → Said → List (Option Tenant)
tenants_after tenants (OfHost (Admits slot tenant)) = slice_set tenants slot (Some tenant)
tenants_after tenants (OfHost (Closes slot name)) = slice_set tenants slot None
tenants_after tenants said = tenants

abbrev pub tenants_past : List (Option Tenant) → List Said → List (Option Tenant)
tenants_past tenants [] = tenants
tenants_past tenants (said ∷ more) = tenants_past (tenants_after tenants said) more
