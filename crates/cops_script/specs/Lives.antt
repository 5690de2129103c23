-- The lives of a run. A life begins with the head or with an admission, and ends when its slot is closed. Lives are numbered as they begin, so a
-- tenant that comes back, and one that gets the slot of another, has a life of its own. The theorems are about lives.
use Rattle.std.specs.Prelude.{ℕ, ◌+◌, ◌==◌, if◌then◌else◌, List, [], ◌∷◌, ◌++◌, length, filter_map, Option, Some, None}
use Rattle.cops_types.specs.declared.configs.Config.{Config}
use Rattle.cops_types.specs.declared.configs.Tenant.{Tenant}
use Rattle.cops_script.specs.Said.{Admits, Said, OfHost, Unformed, Acts}

-- the number of lives so far, and the last life of each slot
pub record Lives : Type 0 where
  pub begun : ℕ
  pub last_at : ℕ → ℕ

-- each tenant of the head has the life of its place
abbrev pub first_lives : Config → Lives
first_lives config = record { begun = length config.tenants; last_at = λ slot. slot }

-- an admission begins a life at its slot
abbrev pub lives_after : Lives → Said → Lives
lives_after lives (OfHost (Admits slot tenant)) = record { begun = lives.begun + 1; last_at = λ other. if slot == other then lives.begun else lives.last_at other }
lives_after lives said = lives

abbrev pub lives_past : Lives → List Said → Lives
lives_past lives [] = lives
lives_past lives (said ∷ more) = lives_past (lives_after lives said) more

-- the request by the life that makes it, and not by its slot
abbrev pub of_life : Lives → Said → Said
of_life lives (OfHost deed) = OfHost deed
of_life lives (Unformed slot) = Unformed (lives.last_at slot)
of_life lives (Acts event) = Acts (record { slot = lives.last_at event.slot; act = event.act })

abbrev pub of_lives_from : Lives → List Said → List Said
of_lives_from lives [] = []
of_lives_from lives (said ∷ more) = of_life lives said ∷ of_lives_from (lives_after lives said) more

abbrev pub of_lives : Config → List Said → List Said
of_lives config said = of_lives_from (first_lives config) said

-- the tenant that it admits
abbrev pub admitted_by : Said → Option Tenant
admitted_by (OfHost (Admits slot tenant)) = Some tenant
admitted_by said = None

-- the configuration with the tenant of each life, by its number
abbrev pub with_all_lives : Config → List Said → Config
with_all_lives config said = record config { tenants = config.tenants ++ filter_map admitted_by said }
