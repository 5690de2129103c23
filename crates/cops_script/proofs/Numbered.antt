-- Who is open at a slot is the tenant of the life that began there last.
use Rattle.std.proofs.Common.{◌≡◌, ℕ, zero, suc, ◌+◌, ◌<◌, Bool, true, false, ◌==◌, List, [], ◌∷◌, ◌++◌, length, map, set, refl, sym, subst, ap, ◌∙◌, append_assoc, true≢false, arith}
use Rattle.std.specs.Prelude.{filter_map, slice_get, if◌then◌else◌, Option, Some, None}
use Rattle.std.specs.Option.{option_map}
use Rattle.std.proofs.lemmas.Bool.Decides.{Decides-eqb}
use Rattle.cops_types.specs.declared.configs.Config.{Config}
use Rattle.cops_types.specs.declared.configs.Tenant.{Tenant}
use Rattle.cops_types.specs.OpenSlots.{begun_with, open_at}
use Rattle.cops_types.specs.TenantConfig.{tenant_config}
use Rattle.cops_script.specs.Lives.{Lives, admitted_by, first_lives, lives_after, of_lives_from, with_all_lives}
use Rattle.cops_script.specs.Said.{Admits, Closes, Refuses, Said, OfHost, Unformed, Acts, tenants_after}
use Rattle.cops_script.proofs.OpenSets.{closed_set, open_set_either, open_set_other}
use Rattle.cops_script.proofs.Sequence.{AreThere}
use Rattle.cops_script.proofs.BegunSetups.{open_begun}

by_test : {C : Type 0} (b : Bool) → (b ≡ true → C) → (b ≡ false → C) → C
by_test {C} true holds fails = holds refl
by_test {C} false holds fails = fails refl

-- a life begins at the slot
abbrev pub with_life : ℕ → Lives → Lives
with_life slot lives = record { begun = lives.begun + 1; last_at = λ other. if slot == other then lives.begun else lives.last_at other }

-- the tenant that is open in a slot has a life of its own, and the configuration has it at that number
pub record AreNumbered (config : Config) (tenants : List (Option Tenant)) (lives : Lives) : Type 0 where
  pub tenant_is : (slot : ℕ) (tenant : Tenant) → open_at slot tenants ≡ Some tenant → slice_get config.tenants (lives.last_at slot) ≡ Some tenant
  pub apart : (slot other : ℕ) (tenant neighbour : Tenant) → open_at slot tenants ≡ Some tenant → open_at other tenants ≡ Some neighbour → lives.last_at slot ≡ lives.last_at other → slot ≡ other
  pub begun : (slot : ℕ) (tenant : Tenant) → open_at slot tenants ≡ Some tenant → lives.last_at slot < lives.begun

-- a tenant is open at the slot
abbrev pub HasTenantAt : List (Option Tenant) → ℕ → Type 0
HasTenantAt tenants slot = (tenant : Tenant) × (open_at slot tenants ≡ Some tenant)

-- who says it is open, and who is admitted gets a free slot
abbrev pub IsPlaced : List (Option Tenant) → Said → Type 0
IsPlaced tenants (OfHost (Admits slot tenant)) = open_at slot tenants ≡ None
IsPlaced tenants (OfHost (Closes slot name)) = Unit {0}
IsPlaced tenants (OfHost (Refuses fault)) = Unit {0}
IsPlaced tenants (Unformed slot) = HasTenantAt tenants slot
IsPlaced tenants (Acts event) = HasTenantAt tenants event.slot

abbrev pub ArePlaced : List (Option Tenant) → List Said → Type 0
ArePlaced tenants [] = Unit {0}
ArePlaced tenants (said ∷ more) = IsPlaced tenants said × ArePlaced (tenants_after tenants said) more

-- an admitted tenant is in the configuration, at the number of its life
abbrev pub IsOf : Config → Lives → Said → Type 0
IsOf config lives (OfHost (Admits slot tenant)) = slice_get config.tenants lives.begun ≡ Some tenant
IsOf config lives (OfHost (Closes slot name)) = Unit {0}
IsOf config lives (OfHost (Refuses fault)) = Unit {0}
IsOf config lives (Unformed slot) = Unit {0}
IsOf config lives (Acts event) = Unit {0}

abbrev pub AreOf : Config → Lives → List Said → Type 0
AreOf config lives [] = Unit {0}
AreOf config lives (said ∷ more) = IsOf config lives said × AreOf config (lives_after lives said) more

-- ---- one step

module _ (tenants : List (Option Tenant)) (slot : ℕ) (o : Option Tenant) where
  elsewhere : (other : ℕ) (t : Option Tenant) → (slot == other) ≡ false → open_at other (set tenants slot o) ≡ t → open_at other tenants ≡ t
  elsewhere other t differs e = sym (open_set_other tenants slot other o (λ same. true≢false (sym ((Decides-eqb slot other).1 (sym same)) ∙ differs))) ∙ e

  here : (other : ℕ) (t : Tenant) → open_at slot tenants ≡ None → (slot == other) ≡ true → open_at other (set tenants slot o) ≡ Some t → o ≡ Some t
  here other t vacant is e = open_set_either tenants slot o t vacant (ap (λ n. open_at n (set tenants slot o)) ((Decides-eqb slot other).0 is) ∙ e)

nobody : {C : Type 0} (tenants : List (Option Tenant)) (slot other : ℕ) (t : Tenant) → (slot == other) ≡ true → open_at other (set tenants slot None) ≡ Some t → C
nobody {C} tenants slot other t is e =
    let clash : None ≡ Some t = sym (closed_set tenants slot) ∙ ap (λ n. open_at n (set tenants slot None)) ((Decides-eqb slot other).0 is) ∙ e in absurd cc

life_here : (slot other : ℕ) (lives : Lives) → (slot == other) ≡ true → (with_life slot lives).last_at other ≡ lives.begun
life_here slot other lives is = rw is refl

life_elsewhere : (slot other : ℕ) (lives : Lives) → (slot == other) ≡ false → (with_life slot lives).last_at other ≡ lives.last_at other
life_elsewhere slot other lives differs = rw differs refl

admitted_numbered : (config : Config) (tenants : List (Option Tenant)) (lives : Lives) (slot : ℕ) (tenant : Tenant) → AreNumbered config tenants lives → open_at slot tenants ≡ None → slice_get config.tenants lives.begun ≡ Some tenant →
    AreNumbered config (set tenants slot (Some tenant)) (with_life slot lives)
admitted_numbered config tenants lives slot tenant numbered vacant of = record {
  tenant_is = λ other t e.
      by_test (slot == other)
      (λ is. ap (slice_get config.tenants) (life_here slot other lives is) ∙ of ∙ here tenants slot (Some tenant) other t vacant is e)
      (λ differs. ap (slice_get config.tenants) (life_elsewhere slot other lives differs) ∙ numbered.tenant_is other t (elsewhere tenants slot (Some tenant) other (Some t) differs e));
  apart = λ a b t u ea eb same.
      let older : (n : ℕ) (x : Tenant) → (slot == n) ≡ false → open_at n (set tenants slot (Some tenant)) ≡ Some x → lives.last_at n < lives.begun =
      λ n x differs e. numbered.begun n x (elsewhere tenants slot (Some tenant) n (Some x) differs e) in
      by_test (slot == a)
      (λ is_a. by_test (slot == b)
      (λ is_b. sym ((Decides-eqb slot a).0 is_a) ∙ (Decides-eqb slot b).0 is_b)
      (λ not_b.
      let one = life_here slot a lives is_a in
      let two = life_elsewhere slot b lives not_b in
      let low = older b u not_b eb in
      absurd (omega (arith, one, two, low, same))))
      (λ not_a. by_test (slot == b)
      (λ is_b.
      let one = life_elsewhere slot a lives not_a in
      let two = life_here slot b lives is_b in
      let low = older a t not_a ea in
      absurd (omega (arith, one, two, low, same)))
      (λ not_b.
      numbered.apart a b t u (elsewhere tenants slot (Some tenant) a (Some t) not_a ea) (elsewhere tenants slot (Some tenant) b (Some u) not_b eb)
      (sym (life_elsewhere slot a lives not_a) ∙ same ∙ life_elsewhere slot b lives not_b)));
  begun = λ other t e.
      by_test (slot == other)
      (λ is. let one = life_here slot other lives is in omega (arith, one))
      (λ differs.
      let one = life_elsewhere slot other lives differs in
      let low = numbered.begun other t (elsewhere tenants slot (Some tenant) other (Some t) differs e) in
      omega (arith, one, low));
}

closed_numbered : (config : Config) (tenants : List (Option Tenant)) (lives : Lives) (slot : ℕ) → AreNumbered config tenants lives → AreNumbered config (set tenants slot None) lives
closed_numbered config tenants lives slot numbered =
    let before : (other : ℕ) (t : Tenant) → open_at other (set tenants slot None) ≡ Some t → open_at other tenants ≡ Some t =
    λ other t e. by_test (slot == other) (λ is. nobody tenants slot other t is e) (λ differs. elsewhere tenants slot None other (Some t) differs e) in
    record {
      tenant_is = λ other t e. numbered.tenant_is other t (before other t e);
      apart = λ a b t u ea eb same. numbered.apart a b t u (before a t ea) (before b u eb) same;
      begun = λ other t e. numbered.begun other t (before other t e);
    }

pub next_numbered : (config : Config) (tenants : List (Option Tenant)) (lives : Lives) (said : Said) → AreNumbered config tenants lives → IsPlaced tenants said → IsOf config lives said →
    AreNumbered config (tenants_after tenants said) (lives_after lives said)
next_numbered config tenants lives (OfHost (Admits slot tenant)) numbered placed of = admitted_numbered config tenants lives slot tenant numbered placed of
next_numbered config tenants lives (OfHost (Closes slot name)) numbered placed of = closed_numbered config tenants lives slot numbered
next_numbered config tenants lives (OfHost (Refuses fault)) numbered placed of = numbered
next_numbered config tenants lives (Unformed slot) numbered placed of = numbered
next_numbered config tenants lives (Acts event) numbered placed of = numbered

-- ---- lives are tenants of the configuration

mapped : {A B : Type 0} (f : A → B) (list : List A) (k : ℕ) (x : A) → slice_get list k ≡ Some x → slice_get (map f list) k ≡ Some (f x)
mapped f [] k x e = cc
mapped f (y ∷ list) zero x e = ap (option_map f) e
mapped f (y ∷ list) (suc k) x e = mapped f list k x e

pub are_there : (config : Config) (tenants : List (Option Tenant)) (lives : Lives) (said : List Said) → AreNumbered config tenants lives → ArePlaced tenants said → AreOf config lives said →
    AreThere (map (tenant_config config) config.tenants) (of_lives_from lives said)
are_there config tenants lives [] numbered placed of = tt
are_there config tenants lives (OfHost deed ∷ said) numbered placed of =
    are_there config (tenants_after tenants (OfHost deed)) (lives_after lives (OfHost deed)) said (next_numbered config tenants lives (OfHost deed) numbered placed.0 of.0) placed.1 of.1
are_there config tenants lives (Unformed slot ∷ said) numbered placed of = are_there config tenants lives said numbered placed.1 of.1
are_there config tenants lives (Acts event ∷ said) numbered placed of = (
  (tenant_config config placed.0.0, mapped (tenant_config config) config.tenants (lives.last_at event.slot) placed.0.0 (numbered.tenant_is event.slot placed.0.0 placed.0.1)),
  are_there config tenants lives said numbered placed.1 of.1,
)

-- ---- the configuration with all lives

pub placed_at : {A : Type 0} (front : List A) (x : A) (rest : List A) → slice_get (front ++ x ∷ rest) (length front) ≡ Some x
placed_at [] x rest = refl
placed_at (y ∷ front) x rest = placed_at front x rest

pub placed_before : {A : Type 0} (front rest : List A) (k : ℕ) (x : A) → slice_get front k ≡ Some x → slice_get (front ++ rest) k ≡ Some x
placed_before [] rest k x e = absurd cc
placed_before (y ∷ front) rest zero x e = e
placed_before (y ∷ front) rest (suc k) x e = placed_before front rest k x e

long_enough : {A : Type 0} (front : List A) (k : ℕ) (x : A) → slice_get front k ≡ Some x → k < length front
long_enough [] k x e = absurd cc
long_enough (y ∷ front) zero x e = omega arith
long_enough (y ∷ front) (suc k) x e = let more = long_enough front k x e in omega (arith, more)

long_push : {A : Type 0} (front : List A) (x : A) → length (front ++ x ∷ []) ≡ length front + 1
long_push [] x = refl
long_push (y ∷ front) x = let more = long_push front x in omega (arith, more)

abbrev with_these : Config → List Tenant → Config
with_these base tenants = record base { tenants = tenants }

of_all : (base : Config) (front : List Tenant) (lives : Lives) (said : List Said) → lives.begun ≡ length front → AreOf (with_these base (front ++ filter_map admitted_by said)) lives said
of_all base front lives [] size = tt
of_all base front lives (OfHost (Admits slot tenant) ∷ said) size =
    let longer = long_push front tenant in
    let rest = of_all base (front ++ tenant ∷ []) (with_life slot lives) said (omega (arith, size, longer)) in (
      ap (slice_get (front ++ tenant ∷ filter_map admitted_by said)) size ∙ placed_at front tenant (filter_map admitted_by said),
      subst (λ tenants. AreOf (with_these base tenants) (with_life slot lives) said) (append_assoc front (tenant ∷ []) (filter_map admitted_by said)) rest,
    )
of_all base front lives (OfHost (Closes slot name) ∷ said) size = (tt, of_all base front lives said size)
of_all base front lives (OfHost (Refuses fault) ∷ said) size = (tt, of_all base front lives said size)
of_all base front lives (Unformed slot ∷ said) size = (tt, of_all base front lives said size)
of_all base front lives (Acts event ∷ said) size = (tt, of_all base front lives said size)

pub of_all_lives : (config : Config) (said : List Said) → AreOf (with_all_lives config said) (first_lives config) said
of_all_lives config said = of_all config config.tenants (first_lives config) said refl

-- at first each tenant has the life of its place
pub numbered_first : (config : Config) (said : List Said) → AreNumbered (with_all_lives config said) (begun_with config.tenants) (first_lives config)
numbered_first config said =
    let there : (slot : ℕ) (t : Tenant) → open_at slot (begun_with config.tenants) ≡ Some t → slice_get config.tenants slot ≡ Some t = λ slot t e. sym (open_begun config.tenants slot) ∙ e in
    record {
      tenant_is = λ slot t e. placed_before config.tenants (filter_map admitted_by said) slot t (there slot t e);
      apart = λ slot other t u e f same. same;
      begun = λ slot t e. long_enough config.tenants slot t (there slot t e);
    }

-- what holds of all holds of the first
pub of_front : (config : Config) (lives : Lives) (said more : List Said) → AreOf config lives (said ++ more) → AreOf config lives said
of_front config lives [] more of = tt
of_front config lives (one ∷ said) more of = (of.0, of_front config (lives_after lives one) said more of.1)

pub placed_front : (tenants : List (Option Tenant)) (said more : List Said) → ArePlaced tenants (said ++ more) → ArePlaced tenants said
placed_front tenants [] more placed = tt
placed_front tenants (one ∷ said) more placed = (placed.0, placed_front (tenants_after tenants one) said more placed.1)
