-- The configuration of a script's head, and the tenants that are open now.
use Rattle.std.specs.Prelude.{ℕ, Bool, is_some, unwrap_or, position, is_none, slice_set, take, List, Option, Some, None}
use Rattle.cops_types.specs.declared.configs.Config.{Config}
use Rattle.cops_types.specs.declared.configs.Tenant.{Tenant}
use Rattle.cops_types.specs.HeadLines.{most_tenants}
use Rattle.cops_types.specs.OpenSlots.{begun_with, open_at}
use Rattle.cops_types.specs.TenantConfig.{TenantConfig, tenant_config}
use Rattle.cops_model.specs.Events.{no_config}

-- the head fixes the sizes and limits; tenants come and go
pub record Setup : Type 0 where
  pub head : Config
  pub tenants : List (Option Tenant)

-- the head's tenants are open, each in the slot of its place
abbrev pub new_setup : Config → Setup
new_setup config = record { head = config; tenants = begun_with config.tenants }

-- the slot has this tenant, or none
abbrev pub with_slot : ℕ → Option Tenant → Setup → Setup
with_slot slot tenant setup = record { head = setup.head; tenants = slice_set setup.tenants slot tenant }

-- a tenant is open at the slot
abbrev pub is_open_at : Setup → ℕ → Bool
is_open_at setup slot = is_some (open_at slot setup.tenants)

-- the configuration of an optional tenant; without a tenant nothing is allowed
abbrev pub config_of : Config → Option Tenant → TenantConfig
config_of head None = no_config
config_of head (Some tenant) = tenant_config head tenant

-- the configuration of the tenant that is open in the slot
abbrev pub config_in : Setup → ℕ → TenantConfig
config_in setup slot = config_of setup.head (open_at slot setup.tenants)

-- the least free slot, or the number of slots if all are taken
abbrev pub next_slot : List (Option Tenant) → ℕ
next_slot tenants = unwrap_or (position is_none (take most_tenants tenants)) most_tenants
