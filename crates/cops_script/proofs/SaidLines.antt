-- Who says a line is open, and who is admitted gets a free slot and has a name.
use Rattle.std.proofs.Common.{◌≡◌, ℕ, zero, suc, ◌+◌, ◌-◌, Bool, true, false, cond, List, [], ◌∷◌, ◌++◌, length, map, set, refl, sym, subst, ap, ◌∙◌, arith}
use Rattle.std.specs.Prelude.{IsTrue, replicate, Option, Some, None}
use Rattle.cops_types.specs.declared.configs.Tenant.{Tenant}
use Rattle.cops_types.specs.declared.faults.Fault.{Fault}
use Rattle.cops_types.specs.HeadLines.{is_tenant, most_tenants}
use Rattle.cops_script.specs.HostLines.{admitted_in, closed_in}
use Rattle.cops_types.specs.OpenSlots.{IsNamed, admission_refusal, begun_with, first_from, has_name, open_slot_of_name}
use Rattle.cops_types.specs.Slots.{AreNamed as AreAllNamed}
use Rattle.cops_types.specs.Words.{first_word}
use Rattle.cops_types.proofs.HeadLengths.{name_of_good}
use Rattle.cops_script.proofs.HostLineLemmas.{admitted-good}
use Rattle.cops_model.specs.declared.acts.Act.{Act}
use Rattle.cops_script.specs.ActLines.{act_in}
use Rattle.cops_script.specs.Said.{Admits, Closes, Refuses, Said, OfHost, Unformed, Acts, admission_of, admission_unless, begins_admission, begins_closing, closing_at, closing_of, said_found, said_by, said_in, tenants_after}
use Rattle.cops_model.specs.Setups.{next_slot}
use Rattle.cops_script.specs.OpenNames.{AreOpenNamed}
use Rattle.cops_script.proofs.Numbered.{HasTenantAt, IsPlaced}
use Rattle.cops_script.proofs.OpenSets.{may_be_given}

-- ---- the slot of a name

-- a slot that is found has a tenant who passes
first_found : (test : Option Tenant → Bool) (n : ℕ) (slots : List (Option Tenant)) (k : ℕ) → test None ≡ false → first_from test n slots ≡ Some k → (i : ℕ) × (k ≡ n + i) × HasTenantAt slots i
first_found test n [] k none e = absurd cc
first_found test n (None ∷ slots) k none e =
    let rest = first_found test (n + 1) slots k none (ap (λ t. cond t (Some n) (first_from test (n + 1) slots)) (sym none) ∙ e) in
    (suc rest.0, (let at = rest.1 in omega (arith, at)), rest.2)
first_found test n (Some tenant ∷ slots) k none e = by (test (Some tenant)) (first_found test (n + 1) slots k none) e
  where
    by : (t : Bool) → (first_from test (n + 1) slots ≡ Some k → (i : ℕ) × (k ≡ n + 1 + i) × HasTenantAt slots i) → cond t (Some n) (first_from test (n + 1) slots) ≡ Some k →
        (i : ℕ) × (k ≡ n + i) × HasTenantAt (Some tenant ∷ slots) i
    by true later h = let same : n ≡ k = cc in (0, omega (arith, same), (tenant, refl))
    by false later h = let rest = later h in (suc rest.0, (let at = rest.1 in omega (arith, at)), rest.2)

pub named_open : (tenants : List (Option Tenant)) (word : List ℕ) (slot : ℕ) → open_slot_of_name tenants word ≡ Some slot → HasTenantAt tenants slot
named_open tenants word slot e =
    let found = first_found (has_name word) 0 tenants slot refl e in
    subst (HasTenantAt tenants) (let at = found.1 in omega (arith, at)) found.2

-- ---- what a line says

module _ (tenants : List (Option Tenant)) where
  unless_placed : (tenant : Tenant) (refusal : Option Fault) → admission_refusal tenants (next_slot tenants) tenant ≡ refusal → IsPlaced tenants (OfHost (admission_unless tenants tenant refusal))
  unless_placed tenant None e = (may_be_given tenants (next_slot tenants) tenant e).vacant
  unless_placed tenant (Some fault) e = tt

  admission_placed : (found : Option Tenant) → IsPlaced tenants (OfHost (admission_of tenants found))
  admission_placed None = tt
  admission_placed (Some tenant) = unless_placed tenant (admission_refusal tenants (next_slot tenants) tenant) refl

  closing_placed : (found : Option (List ℕ)) → IsPlaced tenants (OfHost (closing_of tenants found))
  closing_placed None = tt
  closing_placed (Some name) = by (open_slot_of_name tenants name)
    where
      by : (slot : Option ℕ) → IsPlaced tenants (OfHost (closing_at name slot))
      by None = tt
      by (Some slot) = tt

  by_placed : (slot : ℕ) (act : Option Act) → HasTenantAt tenants slot → IsPlaced tenants (said_by slot act)
  by_placed slot None there = there
  by_placed slot (Some act) there = there

  at_placed : (line : List ℕ) (found : Option ℕ) → open_slot_of_name tenants (first_word line) ≡ found → IsPlaced tenants (said_found line found)
  at_placed line None e = tt
  at_placed line (Some slot) e = by_placed slot (act_in (first_word line) line) (named_open tenants (first_word line) slot e)

  pub said_in-placed : (line : List ℕ) → IsPlaced tenants (said_in tenants line)
  said_in-placed line =
      by (begins_admission line) (begins_closing line) _ _ _ (admission_placed (admitted_in line)) (closing_placed (closed_in line)) (at_placed line (open_slot_of_name tenants (first_word line)) refl)
    where
      by : (a b : Bool) (x y z : Said) → IsPlaced tenants x → IsPlaced tenants y → IsPlaced tenants z → IsPlaced tenants (cond a x (cond b y z))
      by true b x y z p q r = p
      by false true x y z p q r = q
      by false false x y z p q r = r

  -- ---- names

  -- who is admitted has a name
  abbrev pub AdmitsNamed : Said → Type 0
  AdmitsNamed (OfHost (Admits slot tenant)) = IsNamed (Some tenant)
  AdmitsNamed (OfHost (Closes slot name)) = Unit {0}
  AdmitsNamed (OfHost (Refuses fault)) = Unit {0}
  AdmitsNamed (Unformed slot) = Unit {0}
  AdmitsNamed (Acts event) = Unit {0}

  unless_named : (tenant : Tenant) (refusal : Option Fault) → IsTrue (is_tenant tenant) → AdmitsNamed (OfHost (admission_unless tenants tenant refusal))
  unless_named tenant None good = name_of_good tenant good
  unless_named tenant (Some fault) good = tt

  admission_named : (line : List ℕ) (found : Option Tenant) → admitted_in line ≡ found → AdmitsNamed (OfHost (admission_of tenants found))
  admission_named line None e = tt
  admission_named line (Some tenant) e = unless_named tenant (admission_refusal tenants (next_slot tenants) tenant) (admitted-good line tenant e)

  closing_named : (found : Option (List ℕ)) → AdmitsNamed (OfHost (closing_of tenants found))
  closing_named None = tt
  closing_named (Some name) = by (open_slot_of_name tenants name)
    where
      by : (slot : Option ℕ) → AdmitsNamed (OfHost (closing_at name slot))
      by None = tt
      by (Some slot) = tt

  at_named : (line : List ℕ) (found : Option ℕ) → AdmitsNamed (said_found line found)
  at_named line None = tt
  at_named line (Some slot) = by (act_in (first_word line) line)
    where
      by : (act : Option Act) → AdmitsNamed (said_by slot act)
      by None = tt
      by (Some act) = tt

  pub said_in-named : (line : List ℕ) → AdmitsNamed (said_in tenants line)
  said_in-named line = by (begins_admission line) (begins_closing line) _ _ _ (admission_named line (admitted_in line) refl) (closing_named (closed_in line)) (at_named line (open_slot_of_name tenants (first_word line)))
    where
      by : (a b : Bool) (x y z : Said) → AdmitsNamed x → AdmitsNamed y → AdmitsNamed z → AdmitsNamed (cond a x (cond b y z))
      by true b x y z p q r = p
      by false true x y z p q r = q
      by false false x y z p q r = r

named_set : (tenants : List (Option Tenant)) (slot : ℕ) (o : Option Tenant) → AreOpenNamed tenants → IsNamed o → AreOpenNamed (set tenants slot o)
named_set [] slot o named own = tt
named_set (t ∷ tenants) zero o named own = (own, named.1)
named_set (t ∷ tenants) (suc slot) o named own = (named.0, named_set tenants slot o named.1 own)

pub named_after : (tenants : List (Option Tenant)) (said : Said) → AreOpenNamed tenants → AdmitsNamed tenants said → AreOpenNamed (tenants_after tenants said)
named_after tenants (OfHost (Admits slot tenant)) named own = named_set tenants slot (Some tenant) named own
named_after tenants (OfHost (Closes slot name)) named own = named_set tenants slot None named tt
named_after tenants (OfHost (Refuses fault)) named own = named
named_after tenants (Unformed slot) named own = named
named_after tenants (Acts event) named own = named

-- the tenants of a head have names
none_named : (free : ℕ) → AreOpenNamed (replicate free None)
none_named zero = tt
none_named (suc free) = (tt, none_named free)

pub named_begun : (tenants : List Tenant) → AreAllNamed tenants → AreOpenNamed (begun_with tenants)
named_begun tenants named = by tenants (most_tenants - length tenants) named
  where
    by : (ts : List Tenant) (free : ℕ) → AreAllNamed ts → AreOpenNamed (map Some ts ++ replicate free None)
    by [] free all = none_named free
    by (t ∷ ts) free all = (all.0, by ts free all.1)
