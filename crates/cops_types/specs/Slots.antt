-- The slots of tenants, and the search for them.
use Rattle.std.specs.Prelude.{◌≡◌, ℕ, List, map, position, IsTrue, Option, Some}
use Rattle.std.specs.List.{AllByRecursion}
use Rattle.std.specs.Str.{bytes_eq}
use Rattle.cops_types.specs.declared.configs.Tenant.{Tenant}
use Rattle.cops_types.specs.Key.{is_name}
use Rattle.cops_types.specs.TenantTexts.{AreApart}

-- the slot of the tenant of this name, and of this token
abbrev pub slot_of_name : List Tenant → List ℕ → Option ℕ
slot_of_name tenants name = position (λ (tenant : Tenant). bytes_eq tenant.name name) tenants

abbrev pub slot_of_token : List Tenant → List ℕ → Option ℕ
slot_of_token tenants token = position (λ (tenant : Tenant). bytes_eq tenant.token token) tenants

-- each tenant has a name
abbrev pub AreNamed : List Tenant → Type 0
AreNamed tenants = AllByRecursion (λ (tenant : Tenant). IsTrue (is_name tenant.name)) tenants

-- no two of them share a name or a token
pub record AreDistinct (tenants : List Tenant) : Type 0 where
  pub names_apart : AreApart (λ tenant. tenant.name) (map Some tenants)
  pub tokens_apart : AreApart (λ tenant. tenant.token) (map Some tenants)

-- the names and the tokens of these tenants, in their order
pub record AreIndexed (tenants : List Tenant) (names tokens : List (List ℕ)) : Type 0 where
  pub named : AreNamed tenants
  pub distinct : AreDistinct tenants
  pub names_are : names ≡ map (λ (tenant : Tenant). tenant.name) tenants
  pub tokens_are : tokens ≡ map (λ (tenant : Tenant). tenant.token) tenants
