-- A slot that is given to a tenant, or taken from it.
use Rattle.std.proofs.Common.{◌≡◌, ◌≢◌, ℕ, zero, suc, ◌<◌, Bool, true, false, true≢false, not, ◌&&◌, List, [], ◌∷◌, length, set, refl, ap, sym, arith}
use Rattle.std.specs.Prelude.{is_none, nat_lt, Option, Some, None}
use Rattle.std.proofs.lemmas.Bool.Decides.{nat_tests}
use Rattle.cops_types.specs.declared.configs.Tenant.{Tenant}
use Rattle.cops_types.specs.declared.faults.Fault.TheVariants.{NameTaken, NoSlot}
use Rattle.cops_types.specs.HeadLines.{most_tenants}
use Rattle.cops_types.specs.OpenSlots.{admission_refusal, is_new, open_at}
use Rattle.cops_types.specs.Search.{first_refusal}

pub open_set_same : (tenants : List (Option Tenant)) (slot : ℕ) (o : Option Tenant) → slot < length tenants → open_at slot (set tenants slot o) ≡ o
open_set_same [] slot o within = absurd (omega arith)
open_set_same (t ∷ tenants) zero o within = refl
open_set_same (t ∷ tenants) (suc slot) o within = open_set_same tenants slot o (omega arith)

pub open_set_other : (tenants : List (Option Tenant)) (slot other : ℕ) (o : Option Tenant) → other ≢ slot → open_at other (set tenants slot o) ≡ open_at other tenants
open_set_other [] slot other o differ = refl
open_set_other (t ∷ tenants) zero zero o differ = absurd (differ refl)
open_set_other (t ∷ tenants) zero (suc other) o differ = refl
open_set_other (t ∷ tenants) (suc slot) zero o differ = refl
open_set_other (t ∷ tenants) (suc slot) (suc other) o differ = open_set_other tenants slot other o (λ e. differ (ap suc e))

-- who is open at the slot of a change is the one it was changed to, or was there before
pub open_set_either : (tenants : List (Option Tenant)) (slot : ℕ) (o : Option Tenant) (tenant : Tenant) → open_at slot tenants ≡ None → open_at slot (set tenants slot o) ≡ Some tenant → o ≡ Some tenant
open_set_either [] slot o tenant vacant there = absurd cc
open_set_either (t ∷ tenants) zero o tenant vacant there = there
open_set_either (t ∷ tenants) (suc slot) o tenant vacant there = open_set_either tenants slot o tenant vacant there

pub closed_set : (tenants : List (Option Tenant)) (slot : ℕ) → open_at slot (set tenants slot None) ≡ None
closed_set [] slot = refl
closed_set (t ∷ tenants) zero = refl
closed_set (t ∷ tenants) (suc slot) = closed_set tenants slot

-- a slot that may be given
pub record MayBeGiven (tenants : List (Option Tenant)) (slot : ℕ) : Type 0 where
  pub low : slot < most_tenants
  pub vacant : open_at slot tenants ≡ None

pub may_be_given : (tenants : List (Option Tenant)) (slot : ℕ) (tenant : Tenant) → admission_refusal tenants slot tenant ≡ None → MayBeGiven tenants slot
may_be_given tenants slot tenant e =
    let all = by (is_new tenants tenant) (nat_lt slot most_tenants) (is_none (open_at slot tenants)) e in
    record { low = (let test = all.0 in grind (arith, nat_tests)); vacant = none (open_at slot tenants) all.1 }
  where
    by : (a b c : Bool) → first_refusal ((not a, NameTaken) ∷ (not (b && c), NoSlot) ∷ []) ≡ None → (b ≡ true) × (c ≡ true)
    by false b c e = absurd cc
    by true true true e = (refl, refl)
    by true true false e = absurd cc
    by true false c e = absurd cc

    none : (o : Option Tenant) → is_none o ≡ true → o ≡ None
    none None h = refl
    none (Some t) h = absurd (true≢false (sym h))
