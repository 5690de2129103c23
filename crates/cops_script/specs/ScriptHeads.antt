-- The head of a script: the line of the cluster, those of the tenants, and the end.
use Rattle.std.specs.Prelude.{◌≡◌, ℕ, ◌≤◌, List, [], ◌∷◌, ◌++◌, length, IsTrue}
use Rattle.cops_types.specs.declared.configs.Config.{Config}
use Rattle.cops_types.specs.declared.configs.Tenant.{Tenant}
use Rattle.cops_types.specs.HeadLines.{IsTenantLineTo, are_sizes, begin_line, cluster_line, is_distinct, most_tenants}
use Rattle.cops_types.specs.Version.{last_clock}

-- each line gives a tenant, whose name and token differ from those before it; these are all the tenants
abbrev pub AreTenantLines : List Tenant → List (List ℕ) → List Tenant → Type 0
AreTenantLines before [] all = all ≡ before
AreTenantLines before (line ∷ lines) all = (tenant : Tenant) × IsTenantLineTo last_clock line tenant × IsTrue (is_distinct before tenant) × AreTenantLines (before ++ tenant ∷ []) lines all

-- the lines are a whole head
pub record IsWholeHead (head : List (List ℕ)) (config : Config) : Type 0 where
  pub tenants : List (List ℕ)
  pub spelled : head ≡ cluster_line config ∷ (tenants ++ begin_line ∷ [])
  pub sizes : IsTrue (are_sizes config)
  pub each : AreTenantLines [] tenants config.tenants
  pub few : length config.tenants ≤ most_tenants
