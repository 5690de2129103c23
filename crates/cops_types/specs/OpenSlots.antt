-- The tenants that are open, by slot, and the search for them.
pub use Rattle.cops_types.specs.TenantTexts.{AreApart, has_text}
use Rattle.std.specs.Prelude.{◌≡◌, ℕ, ◌+◌, ◌-◌, ◌≤◌, Bool, not, ◌&&◌, nat_lt, if◌then◌else◌, List, [], ◌∷◌, ◌++◌, length, map, replicate, slice_get, IsTrue, is_none, Option, Some, None}
use Rattle.std.specs.List.{AllByRecursion, list_any}
use Rattle.std.specs.Option.{option_and_then}
use Rattle.indexmap.specs.IndexMap.{IndexMap, get}
use Rattle.cops_types.specs.declared.configs.Tenant.{Tenant}
use Rattle.cops_types.specs.declared.faults.Fault.{Fault}
use Rattle.cops_types.specs.declared.faults.Fault.TheVariants.{NameTaken, NoSlot}
use Rattle.cops_types.specs.HeadLines.{most_tenants}
use Rattle.cops_types.specs.Key.{is_name, key_eq}
use Rattle.cops_types.specs.Search.{first_refusal}

-- ---- how they are found

abbrev pub has_name : List ℕ → Option Tenant → Bool
has_name name slot = has_text (λ tenant. tenant.name) name slot

abbrev pub has_token : List ℕ → Option Tenant → Bool
has_token token slot = has_text (λ tenant. tenant.token) token slot

-- the first slot that passes the test, if the list begins with the slot of this number
abbrev pub first_from : (Option Tenant → Bool) → ℕ → List (Option Tenant) → Option ℕ
first_from test n [] = None
first_from test n (slot ∷ slots) = if test slot then Some n else first_from test (n + 1) slots

-- the slot of the open tenant with this name, and with this token
abbrev pub open_slot_of_name : List (Option Tenant) → List ℕ → Option ℕ
open_slot_of_name slots name = first_from (has_name name) 0 slots

abbrev pub open_slot_of_token : List (Option Tenant) → List ℕ → Option ℕ
open_slot_of_token slots token = first_from (has_token token) 0 slots

-- the tenant of a slot
abbrev pub open_at : ℕ → List (Option Tenant) → Option Tenant
open_at slot slots = option_and_then (λ tenant. tenant) (slice_get slots slot)

-- these tenants in the first slots, and free slots behind them up to the limit
abbrev pub begun_with : List Tenant → List (Option Tenant)
begun_with tenants = map Some tenants ++ replicate (most_tenants - length tenants) None

-- ---- why a tenant is not admitted

-- its name and token differ from those of each open tenant
abbrev pub is_new : List (Option Tenant) → Tenant → Bool
is_new slots tenant = not (list_any (has_name tenant.name) slots) && not (list_any (has_token tenant.token) slots)

-- the slot is one of those that may be given, and has no tenant
abbrev pub is_free : ℕ → List (Option Tenant) → Bool
is_free slot slots = nat_lt slot most_tenants && is_none (open_at slot slots)

abbrev pub admission_refusal : List (Option Tenant) → ℕ → Tenant → Option Fault
admission_refusal slots slot tenant = first_refusal ((not (is_new slots tenant), NameTaken) ∷ (not (is_free slot slots), NoSlot) ∷ [])

-- ---- what holds of the tables

-- the tenant has a name
abbrev pub IsNamed : Option Tenant → Type 0
IsNamed None = Unit {0}
IsNamed (Some tenant) = IsTrue (is_name tenant.name)

-- the tables find the open tenants by name and by token
pub record AreOpen {S T : Type 0} (slots : List (Option Tenant)) (names : IndexMap (List ℕ) ℕ S) (tokens : IndexMap (List ℕ) ℕ T) : Type 0 where
  pub enough : most_tenants ≤ length slots
  pub named : AllByRecursion IsNamed slots
  pub names_apart : AreApart (λ tenant. tenant.name) slots
  pub tokens_apart : AreApart (λ tenant. tenant.token) slots
  pub names_are : (name : List ℕ) → get key_eq names name ≡ open_slot_of_name slots name
  pub tokens_are : (token : List ℕ) → get key_eq tokens token ≡ open_slot_of_token slots token

-- the tables find each of these tenants in the slot of its place
pub record AreFoundAt {S T : Type 0} (tenants : List Tenant) (names : IndexMap (List ℕ) ℕ S) (tokens : IndexMap (List ℕ) ℕ T) : Type 0 where
  pub names_are : (name : List ℕ) → get key_eq names name ≡ open_slot_of_name (map Some tenants) name
  pub tokens_are : (token : List ℕ) → get key_eq tokens token ≡ open_slot_of_token (map Some tenants) token
