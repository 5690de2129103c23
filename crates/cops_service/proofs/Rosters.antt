-- Slots of a roster: that of a name, and that of an admission.
use Rattle.std.proofs.Common.{◌≡◌, ℕ, suc, ◌+◌, ◌<◌, Bool, true, false, cond, not, ◌&&◌, List, [], ◌∷◌, refl, subst, arith}
use Rattle.std.specs.Prelude.{IfSome, is_none, nat_lt, Option, Some, None}
use Rattle.std.proofs.lemmas.Bool.Decides.{nat_tests}
use Rattle.cops_types.specs.declared.configs.Tenant.{Tenant}
use Rattle.cops_types.specs.declared.faults.Fault.TheVariants.{NameTaken, NoSlot}
use Rattle.cops_types.specs.HeadLines.{most_tenants}
use Rattle.cops_types.specs.OpenSlots.{admission_refusal, first_from, has_name, is_new, open_at, open_slot_of_name}
use Rattle.cops_types.specs.Search.{first_refusal}

-- a slot that is found has a tenant
abbrev HasTenantAt : List (Option Tenant) → ℕ → Type 0
HasTenantAt slots i = (tenant : Tenant) × (open_at i slots ≡ Some tenant)

found_from : (name : List ℕ) (n : ℕ) (slots : List (Option Tenant)) (k : ℕ) → first_from (has_name name) n slots ≡ Some k → (i : ℕ) × (k ≡ n + i) × HasTenantAt slots i
found_from name n [] k e = absurd cc
found_from name n (None ∷ slots) k e =
    let rest = found_from name (n + 1) slots k e in
    (suc rest.0, (let at = rest.1 in omega (arith, at)), rest.2)
found_from name n (Some tenant ∷ slots) k e = by (has_name name (Some tenant)) (found_from name (n + 1) slots k) e
  where
    by : (t : Bool) → (first_from (has_name name) (n + 1) slots ≡ Some k → (i : ℕ) × (k ≡ n + 1 + i) × HasTenantAt slots i) → cond t (Some n) (first_from (has_name name) (n + 1) slots) ≡ Some k →
        (i : ℕ) × (k ≡ n + i) × HasTenantAt (Some tenant ∷ slots) i
    by true later h = let same : n ≡ k = cc in (0, omega (arith, same), (tenant, refl))
    by false later h = let rest = later h in (suc rest.0, (let at = rest.1 in omega (arith, at)), rest.2)

pub named_open : (tenants : List (Option Tenant)) (name : List ℕ) (slot : ℕ) → open_slot_of_name tenants name ≡ Some slot → HasTenantAt tenants slot
named_open tenants name slot e =
    let found = found_from name 0 tenants slot e in
    subst (HasTenantAt tenants) (let at = found.1 in omega (arith, at)) found.2

-- so what holds if it has one holds
pub if_there : {P : Type 0} (tenants : List (Option Tenant)) (name : List ℕ) (slot : ℕ) → open_slot_of_name tenants name ≡ Some slot → IfSome (open_at slot tenants) (λ tenant. P) → P
if_there {P} tenants name slot e there = let found = named_open tenants name slot e in subst (λ (o : Option Tenant). IfSome o (λ tenant. P)) found.1 there

-- a slot that may be given is one of those that there are
pub given_within : (tenants : List (Option Tenant)) (slot : ℕ) (tenant : Tenant) → admission_refusal tenants slot tenant ≡ None → slot < most_tenants
given_within tenants slot tenant e = let test = by (is_new tenants tenant) (nat_lt slot most_tenants) (is_none (open_at slot tenants)) e in grind (arith, nat_tests)
  where
    by : (a b c : Bool) → first_refusal ((not a, NameTaken) ∷ (not (b && c), NoSlot) ∷ []) ≡ None → b ≡ true
    by false b c e = absurd cc
    by true true c e = refl
    by true false c e = absurd cc
