-- A line of a head leaves it within the limits.
use Rattle.std.proofs.Common.{◌≡◌, ℕ, inl, inr, List, [], ◌∷◌, ◌++◌, refl, sym, subst, ap, ◌∙◌}
use Rattle.std.specs.Prelude.{IsTrue, Option, Some, None}
use Rattle.std.specs.List.{list_all}
use Rattle.cops_types.specs.declared.configs.Config.{Config}
use Rattle.cops_types.specs.declared.configs.Tenant.{Tenant}
use Rattle.cops_types.specs.declared.heads.HeadLine.{HeadLine}
use Rattle.cops_types.specs.declared.heads.HeadLine.TheVariants.{More, Begin, BadLine}
use Rattle.cops_types.specs.Counts.{counted}
use Rattle.cops_types.specs.Head.{Front, AtStart, Within, Begun, with_tenant, Follows, front_after}
use Rattle.cops_types.specs.HeadLines.{are_sizes, is_tenant}
use Rattle.cops_types.specs.HeadReader.{front_with, said_at, still_open}
use Rattle.cops_types.proofs.FrontLemmas.{front_after-is}
use Rattle.cops_types.proofs.WordLemmas.{both}
use Rattle.cops_script.specs.GoodHeads.{is_good, is_front_good, HeadContinues}

all_with : (tenants : List Tenant) (tenant : Tenant) → IsTrue (list_all is_tenant tenants) → IsTrue (is_tenant tenant) → IsTrue (list_all is_tenant (tenants ++ tenant ∷ []))
all_with [] tenant all one = rw one refl
all_with (first ∷ tenants) tenant all one =
    let parts = both (is_tenant first) (list_all is_tenant tenants) all in
    rw parts.0 (all_with tenants tenant parts.1 one)

bare_good : (config : Config) → IsTrue (are_sizes config) → config.tenants ≡ [] → IsTrue (is_good config)
bare_good config sizes bare = rw sizes (ap (list_all is_tenant) bare)

joined_good : (config : Config) (tenant : Tenant) → IsTrue (is_good config) → IsTrue (is_tenant tenant) → IsTrue (is_good (with_tenant config tenant))
joined_good config tenant good one =
    let parts = both (are_sizes config) (list_all is_tenant config.tenants) good in
    rw parts.0 (all_with config.tenants tenant parts.1 one)

follows_good : (front : Front) (line : List ℕ) (next : Front) → Follows front line next → IsTrue (is_front_good (Some front)) → IsTrue (is_front_good (Some next))
follows_good AtStart line next f good = subst (λ n. IsTrue (is_front_good (Some n))) (sym f.2) (bare_good f.0 f.1.within f.1.bare)
follows_good (Within config) line next (inl joins) good = subst (λ n. IsTrue (is_front_good (Some n))) (sym joins.after) (joined_good config joins.tenant good joins.said.within)
follows_good (Within config) line next (inr ends) good = subst (λ n. IsTrue (is_front_good (Some n))) (sym ends.after) good
follows_good (Begun config) line next f good = absurd f

pub front_with_good : (front : Option Front) (line : List ℕ) → IsTrue (is_front_good front) → IsTrue (is_front_good (front_with front line))
front_with_good None line good = refl
front_with_good (Some front) line good = by_found (front_after front line) refl
  where
    by_found : (found : Option Front) → front_after front line ≡ found → IsTrue (is_front_good found)
    by_found None e = refl
    by_found (Some next) e = follows_good front line next (front_after-is front line next e) good

open_good : (front : Option Front) → IsTrue (is_front_good front) → IsTrue (is_front_good (still_open front))
open_good None good = refl
open_good (Some AtStart) good = refl
open_good (Some (Within config)) good = good
open_good (Some (Begun config)) good = refl

-- what is left of a good front is good
pub still_good : (front : Option Front) (line : List ℕ) (new : Option Front) → IsTrue (is_front_good front) → new ≡ still_open (front_with front line) → IsTrue (is_front_good new)
still_good front line new good is = subst (λ n. IsTrue (is_front_good n)) (sym is) (open_good (front_with front line) (front_with_good front line good))

-- no line leads back to the start
not_back : (front : Front) (line : List ℕ) → Follows front line AtStart → ⊥
not_back AtStart line f = cc
not_back (Within config) line (inl joins) = cc
not_back (Within config) line (inr ends) = cc
not_back (Begun config) line f = f

never_at_start : (front : Option Front) (line : List ℕ) → front_with front line ≡ Some AtStart → ⊥
never_at_start None line e = cc
never_at_start (Some front) line e = not_back front line (front_after-is front line AtStart e)

pub more_said : (front : Option Front) (count : ℕ) (line : List ℕ) (new : Option Front) (new_count : ℕ) → More ≡ said_at (front_with front line) → new ≡ still_open (front_with front line) → new_count ≡ counted count →
    HeadContinues front count line new new_count
more_said front count line new new_count said is counts = by_found (front_with front line) refl said is
  where
    by_found : (found : Option Front) → front_with front line ≡ found → More ≡ said_at found → new ≡ still_open found → HeadContinues front count line new new_count
    by_found None e said is = cc
    by_found (Some AtStart) e said is = absurd (never_at_start front line e)
    by_found (Some (Within config)) e said is = record { config = config; found = e; kept = is; counts = counts }
    by_found (Some (Begun config)) e said is = cc

abbrev config_of : Config → HeadLine → Config
config_of other More = other
config_of other (Begin config) = config
config_of other BadLine = other

pub begin_said : (front : Option Front) (line : List ℕ) (config : Config) → Begin config ≡ said_at (front_with front line) → front_with front line ≡ Some (Begun config)
begin_said front line config said = by_found (front_with front line) refl said
  where
    by_found : (found : Option Front) → front_with front line ≡ found → Begin config ≡ said_at found → front_with front line ≡ Some (Begun config)
    by_found None e said = cc
    by_found (Some AtStart) e said = cc
    by_found (Some (Within other)) e said = cc
    by_found (Some (Begun other)) e said = e ∙ ap (λ h. Some (Begun (config_of config h))) (sym said)

pub begin_good : (front : Option Front) (line : List ℕ) (config : Config) → IsTrue (is_front_good front) → front_with front line ≡ Some (Begun config) → IsTrue (is_good config)
begin_good front line config good is = subst (λ f. IsTrue (is_front_good f)) is (front_with_good front line good)

pub bad_said : (front : Option Front) (line : List ℕ) → BadLine ≡ said_at (front_with front line) → front_with front line ≡ None
bad_said front line said = by_found (front_with front line) refl said
  where
    by_found : (found : Option Front) → front_with front line ≡ found → BadLine ≡ said_at found → front_with front line ≡ None
    by_found None e said = e
    by_found (Some AtStart) e said = cc
    by_found (Some (Within other)) e said = cc
    by_found (Some (Begun other)) e said = cc
