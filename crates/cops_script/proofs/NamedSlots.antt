-- The slot of a name, and what an admission or a close makes of it.
use Rattle.std.proofs.Common.{◌≡◌, ℕ, zero, suc, ◌+◌, ◌-◌, ◌<◌, ◌≤◌, Bool, true, false, cond, not, ◌&&◌, ◌||◌, true≢false, List, [], ◌∷◌, length, map, set, get_or, take, refl, sym, subst, ap, ◌∙◌, arith}
use Rattle.std.specs.Prelude.{is_none, position, slice_get, unwrap_or, Option, Some, None}
use Rattle.std.specs.List.{list_any}
use Rattle.std.specs.Str.{bytes_eq}
use Rattle.std.proofs.lemmas.List.Quantifiers.{position-Some}
use Rattle.cops_types.specs.declared.configs.Tenant.{Tenant}
use Rattle.cops_types.specs.declared.faults.Fault.TheVariants.{NameTaken, NoSlot}
use Rattle.cops_types.specs.HeadLines.{most_tenants}
use Rattle.cops_types.specs.OpenSlots.{admission_refusal, begun_with, first_from, has_name, open_at, open_slot_of_name}
use Rattle.cops_types.specs.Search.{first_refusal}
use Rattle.cops_types.specs.TenantTexts.{AreApart}
use Rattle.cops_types.proofs.BegunSlots.{apart_behind}
use Rattle.cops_types.proofs.OpenSlotLemmas.{apart_left, apart_put, at_open, found_left, found_put}
use Rattle.cops_types.proofs.WordLemmas.{same_bytes}
use Rattle.cops_model.specs.Setups.{next_slot}
use Rattle.cops_script.proofs.ApartTenants.{of_name, AreApart as AreFew}
use Rattle.cops_script.proofs.OpenSets.{may_be_given, open_set_other, open_set_same}

by_test : {C : Type 0} (b : Bool) → (b ≡ true → C) → (b ≡ false → C) → C
by_test {C} true holds fails = holds refl
by_test {C} false holds fails = fails refl

-- the tenant of this name is open at the slot
abbrev pub HasNamedAt : List (Option Tenant) → List ℕ → ℕ → Type 0
HasNamedAt tenants name slot = (tenant : Tenant) × (open_at slot tenants ≡ Some tenant) × (bytes_eq tenant.name name ≡ true)

-- a slot that is found has a tenant who passes
first_passes : (test : Option Tenant → Bool) (n : ℕ) (slots : List (Option Tenant)) (k : ℕ) → test None ≡ false → first_from test n slots ≡ Some k →
    (i : ℕ) × (k ≡ n + i) × ((tenant : Tenant) × (open_at i slots ≡ Some tenant) × (test (Some tenant) ≡ true))
first_passes test n [] k none e = absurd cc
first_passes test n (None ∷ slots) k none e =
    let rest = first_passes test (n + 1) slots k none (ap (λ t. cond t (Some n) (first_from test (n + 1) slots)) (sym none) ∙ e) in
    (suc rest.0, (let at = rest.1 in omega (arith, at)), rest.2)
first_passes test n (Some tenant ∷ slots) k none e = by (test (Some tenant)) refl (first_passes test (n + 1) slots k none) e
  where
    by : (t : Bool) → test (Some tenant) ≡ t → (first_from test (n + 1) slots ≡ Some k → (i : ℕ) × (k ≡ n + 1 + i) × ((u : Tenant) × (open_at i slots ≡ Some u) × (test (Some u) ≡ true))) →
        cond t (Some n) (first_from test (n + 1) slots) ≡ Some k → (i : ℕ) × (k ≡ n + i) × ((u : Tenant) × (open_at i (Some tenant ∷ slots) ≡ Some u) × (test (Some u) ≡ true))
    by true passes later h = let same : n ≡ k = cc in (0, omega (arith, same), (tenant, refl, passes))
    by false passes later h = let rest = later h in (suc rest.0, (let at = rest.1 in omega (arith, at)), rest.2)

pub named_found : (tenants : List (Option Tenant)) (name : List ℕ) (slot : ℕ) → open_slot_of_name tenants name ≡ Some slot → HasNamedAt tenants name slot
named_found tenants name slot e =
    let found = first_passes (has_name name) 0 tenants slot refl e in
    subst (HasNamedAt tenants name) (let at = found.1 in omega (arith, at)) found.2

-- who is alone is found at the first slot
pub found_alone : (tenant : Tenant) (name : List ℕ) → bytes_eq tenant.name name ≡ true → open_slot_of_name (begun_with (tenant ∷ [])) name ≡ Some 0
found_alone tenant name named = rw named refl

-- ---- an admission

-- the name is new, and the slot is one that may be given
pub record IsOpenTo (tenants : List (Option Tenant)) (slot : ℕ) (tenant : Tenant) : Type 0 where
  pub fresh : list_any (has_name tenant.name) tenants ≡ false
  pub vacant : open_at slot tenants ≡ None
  pub free : slice_get tenants slot ≡ Some None
  pub within : slot < length tenants

pub free_at : (n : ℕ) (slots : List (Option Tenant)) (at : ℕ) (other : Option Tenant) → at < length (take n slots) → is_none (get_or (take n slots) at other) ≡ true → (slice_get slots at ≡ Some None) × (at < length slots)
free_at zero slots at other below none = absurd (omega arith)
free_at (suc n) [] at other below none = absurd (omega arith)
free_at (suc n) (None ∷ slots) zero other below none = (refl, omega arith)
free_at (suc n) (Some t ∷ slots) zero other below none = absurd cc
free_at (suc n) (x ∷ slots) (suc at) other below none = let rest = free_at n slots at other (omega arith) none in (rest.0, (let low = rest.1 in omega (arith, low)))

pub open_to : (tenants : List (Option Tenant)) (tenant : Tenant) → admission_refusal tenants (next_slot tenants) tenant ≡ None → IsOpenTo tenants (next_slot tenants) tenant
open_to tenants tenant none =
    let may = may_be_given tenants (next_slot tenants) tenant none in
    let there = by_place (position is_none (take most_tenants tenants)) refl may.low in
    record { fresh = is_fresh (list_any (has_name tenant.name) tenants) _ _ none; vacant = may.vacant; free = there.0; within = there.1 }
  where
    is_fresh : (a b c : Bool) → first_refusal ((not (not a && not b), NameTaken) ∷ (not c, NoSlot) ∷ []) ≡ None → a ≡ false
    is_fresh true b c e = absurd cc
    is_fresh false b c e = refl

    by_place : (place : Option ℕ) → position is_none (take most_tenants tenants) ≡ place → unwrap_or place most_tenants < most_tenants → (slice_get tenants (unwrap_or place most_tenants) ≡ Some None) × (unwrap_or place most_tenants < length tenants)
    by_place None e low = absurd (omega arith)
    by_place (Some place) e low = let found = position-Some is_none (take most_tenants tenants) place None e in free_at most_tenants tenants place None found.0 found.1

module _ (tenants : List (Option Tenant)) (slot : ℕ) (tenant : Tenant) (may : IsOpenTo tenants slot tenant) where
  pub admitted_apart : AreApart (λ tenant. tenant.name) tenants → AreApart (λ tenant. tenant.name) (set tenants slot (Some tenant))
  admitted_apart apart = apart_put (λ t. t.name) tenants slot tenant may.free apart may.fresh

  pub admitted_found : (name : List ℕ) → open_slot_of_name (set tenants slot (Some tenant)) name ≡ cond (bytes_eq tenant.name name) (Some slot) (open_slot_of_name tenants name)
  admitted_found name = sym (found_put (λ t. t.name) tenants slot tenant (open_slot_of_name tenants) (λ text. cond (bytes_eq tenant.name text) (Some slot) (open_slot_of_name tenants text)) may.free may.fresh (λ text. refl) (λ text. refl) name)

  pub admitted_here : open_at slot (set tenants slot (Some tenant)) ≡ Some tenant
  admitted_here = open_set_same tenants slot (Some tenant) may.within

  pub admitted_others : (other : ℕ) (t : Tenant) → open_at other tenants ≡ Some t → open_at other (set tenants slot (Some tenant)) ≡ Some t
  admitted_others other t there =
      open_set_other tenants slot other (Some tenant) (λ same. let clash : None ≡ Some t = sym may.vacant ∙ ap (λ n. open_at n tenants) (sym same) ∙ there in absurd cc) ∙ there

-- ---- a close

module _ (tenants : List (Option Tenant)) (slot : ℕ) (tenant : Tenant) (there : open_at slot tenants ≡ Some tenant) (apart : AreApart (λ tenant. tenant.name) tenants) where
  pub closed_apart : AreApart (λ tenant. tenant.name) (set tenants slot None)
  closed_apart = apart_left (λ t. t.name) tenants slot apart

  pub closed_found : (name : List ℕ) → open_slot_of_name (set tenants slot None) name ≡ cond (bytes_eq tenant.name name) None (open_slot_of_name tenants name)
  closed_found name = sym (found_left (λ t. t.name) tenants slot tenant (open_slot_of_name tenants) (λ text. cond (bytes_eq tenant.name text) None (open_slot_of_name tenants text)) (at_open tenants slot tenant (sym there)) apart (λ text. refl) (λ text. refl) name)

  -- a tenant of another name stays
  pub closed_others : (name : List ℕ) → bytes_eq tenant.name name ≡ false → (other : ℕ) (t : Tenant) → bytes_eq t.name name ≡ true → open_at other tenants ≡ Some t → open_at other (set tenants slot None) ≡ Some t
  closed_others name differs other t named at =
      open_set_other tenants slot other None (λ same.
      let one : Some t ≡ Some tenant = sym at ∙ ap (λ n. open_at n tenants) same ∙ there in
      let is : t ≡ tenant = cc in
      absurd (true≢false (sym named ∙ ap (λ (u : Tenant). bytes_eq u.name name) is ∙ differs)))
      ∙ at

-- ---- a head

none_in : (name : List ℕ) (tenants : List Tenant) → length (of_name name tenants) ≤ 0 → list_any (has_name name) (map Some tenants) ≡ false
none_in name [] few = refl
none_in name (t ∷ tenants) few = by (bytes_eq t.name name) refl (none_in name tenants)
  where
    by : (b : Bool) → bytes_eq t.name name ≡ b → (length (of_name name tenants) ≤ 0 → list_any (has_name name) (map Some tenants) ≡ false) → (bytes_eq t.name name || list_any (has_name name) (map Some tenants)) ≡ false
    by true e rest = let whole : of_name name (t ∷ tenants) ≡ t ∷ of_name name tenants = rw e refl in let size = ap length whole in absurd (omega (arith, size, few))
    by false e rest = rw e (rest (let same : of_name name (t ∷ tenants) ≡ of_name name tenants = rw e refl in subst (λ ts. length ts ≤ 0) same few))

few_apart : (tenants : List Tenant) → AreFew tenants → AreApart (λ tenant. tenant.name) (map Some tenants)
few_apart [] few = tt
few_apart (t ∷ tenants) few = (
  none_in t.name tenants (let whole : of_name t.name (t ∷ tenants) ≡ t ∷ of_name t.name tenants = rw (same_bytes t.name) refl in let size = ap length whole in let most = few t.name in omega (arith, size, most)),
  few_apart tenants (λ name. by_test (bytes_eq t.name name)
      (λ is. let whole : of_name name (t ∷ tenants) ≡ t ∷ of_name name tenants = rw is refl in let size = ap length whole in let most = few name in omega (arith, size, most))
      (λ differs. let whole : of_name name (t ∷ tenants) ≡ of_name name tenants = rw differs refl in subst (λ ts. length ts ≤ 1) whole (few name))),
)

-- the names of the tenants of a head are apart at their slots
pub begun_apart : (tenants : List Tenant) → AreFew tenants → AreApart (λ tenant. tenant.name) (begun_with tenants)
begun_apart tenants few = apart_behind (λ t. t.name) tenants (most_tenants - length tenants) (few_apart tenants few)
