-- The tenants of a head are the open ones of a new world.
use Rattle.std.proofs.Common.{◌≡◌, ℕ, zero, suc, ◌-◌, ◌<◌, true, true≢false, List, [], ◌∷◌, ◌++◌, length, map, refl, sym, ap, ◌∙◌, arith}
use Rattle.std.specs.Prelude.{Some, None, IsTrue, is_some, replicate, slice_get, slice_index_or}
use Rattle.cops_types.specs.declared.configs.Config.{Config}
use Rattle.cops_types.specs.declared.configs.Tenant.{Tenant}
use Rattle.cops_types.specs.HeadLines.{most_tenants}
use Rattle.cops_types.specs.OpenSlots.{begun_with, open_at}
use Rattle.cops_types.specs.TenantConfig.{tenant_config}
use Rattle.cops_model.specs.Events.{config_at, no_config}
use Rattle.cops_model.specs.Setups.{config_in, config_of, is_open_at, new_setup}

begun_at : (tenants : List Tenant) (free slot : ℕ) → open_at slot (map Some tenants ++ replicate free None) ≡ slice_get tenants slot
begun_at [] zero slot = refl
begun_at [] (suc free) zero = refl
begun_at [] (suc free) (suc slot) = begun_at [] free slot
begun_at (t ∷ tenants) free zero = refl
begun_at (t ∷ tenants) free (suc slot) = begun_at tenants free slot

-- the tenant who is open at a slot is the one of that place, or there is none
pub open_begun : (tenants : List Tenant) (slot : ℕ) → open_at slot (begun_with tenants) ≡ slice_get tenants slot
open_begun tenants slot = begun_at tenants (most_tenants - length tenants) slot

config_found : (head : Config) (tenants : List Tenant) (slot : ℕ) → config_of head (slice_get tenants slot) ≡ slice_index_or (map (tenant_config head) tenants) slot no_config
config_found head [] slot = refl
config_found head (t ∷ tenants) zero = refl
config_found head (t ∷ tenants) (suc slot) = config_found head tenants slot

-- what concerns the tenant of a slot, whether there is one or not
pub config_begun : (config : Config) (slot : ℕ) → config_in (new_setup config) slot ≡ config_at config slot
config_begun config slot = ap (config_of config) (open_begun config.tenants slot) ∙ config_found config config.tenants slot

-- a tenant is open at each slot of the head, and at no other
pub open_within : (config : Config) (slot : ℕ) → slot < length config.tenants → IsTrue (is_open_at (new_setup config) slot)
open_within config slot within = ap is_some (open_begun config.tenants slot) ∙ some config.tenants slot within
  where
    some : (tenants : List Tenant) (n : ℕ) → n < length tenants → is_some (slice_get tenants n) ≡ true
    some [] n below = absurd (omega arith)
    some (t ∷ tenants) zero below = refl
    some (t ∷ tenants) (suc n) below = some tenants n (omega arith)

pub within_open : (config : Config) (slot : ℕ) → IsTrue (is_open_at (new_setup config) slot) → slot < length config.tenants
within_open config slot there = below config.tenants slot (ap is_some (sym (open_begun config.tenants slot)) ∙ there)
  where
    below : (tenants : List Tenant) (n : ℕ) → is_some (slice_get tenants n) ≡ true → n < length tenants
    below [] n e = absurd (true≢false (sym e))
    below (t ∷ tenants) zero e = omega arith
    below (t ∷ tenants) (suc n) e = let rest = below tenants n e in omega (arith, rest)
