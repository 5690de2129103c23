-- Tenants of whom no two have one name, and one of them alone.
use Rattle.std.proofs.Common.{◌≡◌, ℕ, zero, suc, ◌+◌, ◌<◌, ◌≤◌, Bool, true, false, not, ◌||◌, List, [], ◌∷◌, ◌++◌, length, refl, sym, subst, ap, ◌∙◌, true≢false, length-append, arith}
use Rattle.std.specs.Prelude.{Some, filter, nat_le, slice_get, IsTrue}
use Rattle.std.proofs.lemmas.Bool.Decides.{nat_tests}
use Rattle.std.specs.List.{list_any}
use Rattle.std.specs.Str.{bytes_eq}
use Rattle.std.proofs.lemmas.List.Elements.{filter-append}
use Rattle.std.proofs.lemmas.List.Quantifiers.{position-Some}
use Rattle.std.proofs.lemmas.Option.{get_or_from_slice_get}
use Rattle.cops_types.specs.declared.configs.Tenant.{Tenant}
use Rattle.cops_types.specs.Key.{is_key, is_name}
use Rattle.cops_types.specs.Slots.{AreNamed, slot_of_name}
use Rattle.cops_script.proofs.TenantConfigs.{tenant_at}
use Rattle.cops_types.specs.HeadLines.{is_distinct}
use Rattle.cops_types.proofs.WordLemmas.{both, bytes_from_test, same_value}

abbrev pub of_name : List ℕ → List Tenant → List Tenant
of_name name tenants = filter (λ (t : Tenant). bytes_eq t.name name) tenants

-- no two have one name
abbrev pub AreApart : List Tenant → Type 0
AreApart tenants = (name : List ℕ) → length (of_name name tenants) ≤ 1

pub none_apart : AreApart []
none_apart name = omega arith

none_of_name : (name : List ℕ) (tenants : List Tenant) → list_any (λ (t : Tenant). bytes_eq t.name name) tenants ≡ false → of_name name tenants ≡ []
none_of_name name [] h = refl
none_of_name name (t ∷ tenants) h = by (bytes_eq t.name name) refl (none_of_name name tenants)
  where
    by : (b : Bool) → bytes_eq t.name name ≡ b → (list_any (λ (t : Tenant). bytes_eq t.name name) tenants ≡ false → of_name name tenants ≡ []) → of_name name (t ∷ tenants) ≡ []
    by true e rest = absurd (true≢false (sym (ap (λ b. b || list_any (λ (t : Tenant). bytes_eq t.name name) tenants) e) ∙ h))
    by false e rest = rw e (rest (sym (ap (λ b. b || list_any (λ (t : Tenant). bytes_eq t.name name) tenants) e) ∙ h))

-- one more, whose name none has
pub apart_push : (tenants : List Tenant) (tenant : Tenant) → AreApart tenants → IsTrue (is_distinct tenants tenant) → AreApart (tenants ++ tenant ∷ [])
apart_push tenants tenant apart distinct name =
    let size = ap length (filter-append (λ (t : Tenant). bytes_eq t.name name) tenants (tenant ∷ [])) ∙ length-append (of_name name tenants) (of_name name (tenant ∷ [])) in
    by (bytes_eq tenant.name name) refl size
  where
    fresh : list_any (λ (other : Tenant). bytes_eq other.name tenant.name) tenants ≡ false
    fresh = not_true (list_any (λ (other : Tenant). bytes_eq other.name tenant.name) tenants)
        (both (not (list_any (λ (other : Tenant). bytes_eq other.name tenant.name) tenants)) (not (list_any (λ (other : Tenant). bytes_eq other.token tenant.token) tenants)) distinct).0
      where
        not_true : (b : Bool) → not b ≡ true → b ≡ false
        not_true true h = sym h
        not_true false h = refl

    by : (b : Bool) → bytes_eq tenant.name name ≡ b → length (of_name name (tenants ++ tenant ∷ [])) ≡ length (of_name name tenants) + length (of_name name (tenant ∷ [])) → length (of_name name (tenants ++ tenant ∷ [])) ≤ 1
    by true e size =
        let none : length (of_name name tenants) ≡ 0 = ap length (none_of_name name tenants (ap (λ n. list_any (λ (t : Tenant). bytes_eq t.name n) tenants) (sym (bytes_from_test tenant.name name e)) ∙ fresh)) in
        let one : length (of_name name (tenant ∷ [])) ≡ 1 = rw e refl in
        omega arith
    by false e size =
        let before = apart name in
        let none : length (of_name name (tenant ∷ [])) ≡ 0 = rw e refl in
        omega arith

-- ---- one alone

some_of_name : (name : List ℕ) (tenants : List Tenant) (slot : ℕ) (tenant : Tenant) → slice_get tenants slot ≡ Some tenant → bytes_eq tenant.name name ≡ true → 0 < length (of_name name tenants)
some_of_name name [] slot tenant at named = cc
some_of_name name (t ∷ tenants) zero tenant at named = rw (ap (λ (x : Tenant). bytes_eq x.name name) (same_value t tenant at) ∙ named) (omega arith)
some_of_name name (t ∷ tenants) (suc slot) tenant at named = by (bytes_eq t.name name) refl (some_of_name name tenants slot tenant at named)
  where
    by : (b : Bool) → bytes_eq t.name name ≡ b → 0 < length (of_name name tenants) → 0 < length (of_name name (t ∷ tenants))
    by true e rest = rw e (omega arith)
    by false e rest = rw e rest

empty : {A : Type 0} (xs : List A) → length xs ≤ 0 → xs ≡ []
empty [] h = refl
empty (x ∷ xs) h = absurd (omega arith)

-- the one of the name is all that are of the name
pub only_one : (name : List ℕ) (tenants : List Tenant) (slot : ℕ) (tenant : Tenant) → slice_get tenants slot ≡ Some tenant → bytes_eq tenant.name name ≡ true → length (of_name name tenants) ≤ 1 → of_name name tenants ≡ tenant ∷ []
only_one name [] slot tenant at named most = cc
only_one name (t ∷ tenants) zero tenant at named most =
    let first : bytes_eq t.name name ≡ true = ap (λ (x : Tenant). bytes_eq x.name name) (same_value t tenant at) ∙ named in
    let whole : of_name name (t ∷ tenants) ≡ t ∷ of_name name tenants = rw first refl in
    let size = ap length whole in
    whole ∙ (λ i. same_value t tenant at i ∷ empty (of_name name tenants) (omega (arith, size, most)) i)
only_one name (t ∷ tenants) (suc slot) tenant at named most = by (bytes_eq t.name name) refl (only_one name tenants slot tenant at named)
  where
    by : (b : Bool) → bytes_eq t.name name ≡ b → (length (of_name name tenants) ≤ 1 → of_name name tenants ≡ tenant ∷ []) → of_name name (t ∷ tenants) ≡ tenant ∷ []
    by true e rest =
        let whole : of_name name (t ∷ tenants) ≡ t ∷ of_name name tenants = rw e refl in
        let size = ap length whole in
        let more = some_of_name name tenants slot tenant at named in
        absurd (omega (arith, size, most, more))
    by false e rest = rw e (rest (let same : of_name name (t ∷ tenants) ≡ of_name name tenants = rw e refl in subst (λ ts. length ts ≤ 1) same most))

-- the tenant that a name finds
pub found_at : (tenants : List Tenant) (name : List ℕ) (slot : ℕ) → slot_of_name tenants name ≡ Some slot → (tenant : Tenant) × (slice_get tenants slot ≡ Some tenant) × (bytes_eq tenant.name name ≡ true)
found_at [] name slot e = cc
found_at (t ∷ tenants) name slot e =
    let found = position-Some (λ (t : Tenant). bytes_eq t.name name) (t ∷ tenants) slot t e in
    let at = tenant_at (t ∷ tenants) slot found.0 in
    (at.0, at.1, ap (λ (x : Tenant). bytes_eq x.name name) (sym (get_or_from_slice_get (t ∷ tenants) slot at.0 t at.1)) ∙ found.1)

-- a tenant of a whole head has a name
pub name_of : (tenants : List Tenant) (slot : ℕ) (tenant : Tenant) → AreNamed tenants → slice_get tenants slot ≡ Some tenant → IsTrue (is_name tenant.name)
name_of [] slot tenant named at = cc
name_of (t ∷ tenants) zero tenant named at = subst (λ (x : Tenant). IsTrue (is_name x.name)) (same_value t tenant at) named.0
name_of (t ∷ tenants) (suc slot) tenant named at = name_of tenants slot tenant named.1 at

pub short_name : (name : List ℕ) → IsTrue (is_name name) → length name ≤ 16
short_name name named = grind (arith, nat_tests, (both (is_key name) (nat_le (length name) 16) named).1)
