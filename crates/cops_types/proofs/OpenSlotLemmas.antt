-- What an admission and a close make of the open tenants, and of the tables in which they are found.
use Rattle.std.proofs.Common.{◌≡◌, ℕ, zero, suc, ◌+◌, ◌<◌, ◌≤◌, Bool, true, false, cond, not, ◌&&◌, ◌||◌, List, [], ◌∷◌, length, refl, sym, subst, ap, ◌∙◌, arith}
use Rattle.std.specs.Prelude.{IsTrue, Option, Some, None, is_none, is_some, nat_lt, set, slice_get, take, replicate}
use Rattle.std.specs.List.{AllByRecursion, list_any}
use Rattle.std.specs.Map.{lookup}
use Rattle.std.specs.Str.{bytes_eq}
use Rattle.std.proofs.Math.ListN.{length-set}
use Rattle.std.proofs.lemmas.Bool.Decides.{nat_tests}
use Rattle.indexmap.specs.IndexMap.{IndexMap, get}
use Rattle.std.specs.Cmp.{partial_equiv_from_equiv}
use Rattle.std.specs.Cmp.Lexicographic.{nat_list_eq_equiv}
use Rattle.cops_types.specs.declared.configs.Tenant.{Tenant}
use Rattle.cops_types.specs.declared.faults.Fault.TheVariants.{NameTaken, NoSlot}
use Rattle.cops_types.specs.HeadLines.{most_tenants}
use Rattle.cops_types.specs.Key.{is_name, key_eq}
use Rattle.cops_types.specs.OpenSlots.{admission_refusal, AreApart, AreOpen, first_from, has_name, has_text, has_token, IsNamed, open_at}
use Rattle.cops_types.specs.Search.{first_refusal}
use Rattle.cops_types.proofs.WordLemmas.{bytes_from_test}

pub swapped : (xs ys : List ℕ) → bytes_eq xs ys ≡ bytes_eq ys xs
swapped xs ys = (partial_equiv_from_equiv nat_list_eq_equiv).symm xs ys

-- ---- a test at the slots

pub left_fails : (a b : Bool) → (a || b) ≡ false → a ≡ false
left_fails true b e = absurd cc
left_fails false b e = refl

pub right_fails : (a b : Bool) → (a || b) ≡ false → b ≡ false
right_fails true b e = absurd cc
right_fails false b e = e

pub both_fail : (a b : Bool) → a ≡ false → b ≡ false → (a || b) ≡ false
both_fail true b e f = absurd cc
both_fail false b e f = f

-- if no slot passes
pub none_passes : (test : Option Tenant → Bool) (n : ℕ) (slots : List (Option Tenant)) → list_any test slots ≡ false → first_from test n slots ≡ None
none_passes test n [] e = refl
none_passes test n (x ∷ slots) e =
    ap (λ t. cond t (Some n) (first_from test (n + 1) slots)) (left_fails (test x) (list_any test slots) e) ∙ none_passes test (n + 1) slots (right_fails (test x) (list_any test slots) e)

pub one_fails : (test : Option Tenant → Bool) (slots : List (Option Tenant)) (at : ℕ) (x : Option Tenant) → slice_get slots at ≡ Some x → list_any test slots ≡ false → test x ≡ false
one_fails test [] at x there e = absurd cc
one_fails test (y ∷ slots) zero x there e = let same : y ≡ x = cc in ap test (sym same) ∙ left_fails (test y) (list_any test slots) e
one_fails test (y ∷ slots) (suc at) x there e = one_fails test slots at x there (right_fails (test y) (list_any test slots) e)

-- a slot is found if one passes
pub any_found : (test : Option Tenant → Bool) (n : ℕ) (slots : List (Option Tenant)) → is_some (first_from test n slots) ≡ list_any test slots
any_found test n [] = refl
any_found test n (x ∷ slots) = by (test x) (any_found test (n + 1) slots)
  where
    by : (t : Bool) → is_some (first_from test (n + 1) slots) ≡ list_any test slots → is_some (cond t (Some n) (first_from test (n + 1) slots)) ≡ (t || list_any test slots)
    by true others = refl
    by false others = others

-- another tenant, or none, at a slot
still_none : (test : Option Tenant → Bool) (slots : List (Option Tenant)) (at : ℕ) (new : Option Tenant) → list_any test slots ≡ false → test new ≡ false → list_any test (set slots at new) ≡ false
still_none test [] at new e f = refl
still_none test (x ∷ slots) zero new e f = both_fail (test new) (list_any test slots) f (right_fails (test x) (list_any test slots) e)
still_none test (x ∷ slots) (suc at) new e f =
    both_fail (test x) (list_any test (set slots at new)) (left_fails (test x) (list_any test slots) e) (still_none test slots at new (right_fails (test x) (list_any test slots) e) f)

pub first_stays : (test : Option Tenant → Bool) (n : ℕ) (slots : List (Option Tenant)) (at : ℕ) (old new : Option Tenant) → slice_get slots at ≡ Some old → test old ≡ false → test new ≡ false →
    first_from test n (set slots at new) ≡ first_from test n slots
first_stays test n [] at old new there e f = absurd cc
first_stays test n (x ∷ slots) zero old new there e f =
    let same : x ≡ old = cc in
    ap (λ t. cond t (Some n) (first_from test (n + 1) slots)) (f ∙ sym (ap test same ∙ e))
first_stays test n (x ∷ slots) (suc at) old new there e f = ap (λ found. cond (test x) (Some n) found) (first_stays test (n + 1) slots at old new there e f)

pub first_put : (test : Option Tenant → Bool) (n : ℕ) (slots : List (Option Tenant)) (at : ℕ) (old new : Option Tenant) → slice_get slots at ≡ Some old → list_any test slots ≡ false → test new ≡ true →
    first_from test n (set slots at new) ≡ Some (n + at)
first_put test n [] at old new there e is = absurd cc
first_put test n (x ∷ slots) zero old new there e is = ap (λ t. cond t (Some n) (first_from test (n + 1) slots)) is ∙ ap Some (omega arith)
first_put test n (x ∷ slots) (suc at) old new there e is =
    ap (λ t. cond t (Some n) (first_from test (n + 1) (set slots at new))) (left_fails (test x) (list_any test slots) e)
    ∙ first_put test (n + 1) slots at old new there (right_fails (test x) (list_any test slots) e) is
    ∙ ap Some (omega arith)

-- ---- names and tokens

module _ (text_of : Tenant → List ℕ) where
  pub apart_put : (slots : List (Option Tenant)) (at : ℕ) (tenant : Tenant) → slice_get slots at ≡ Some None → AreApart text_of slots → list_any (has_text text_of (text_of tenant)) slots ≡ false → AreApart text_of (set slots at (Some tenant))
  apart_put [] at tenant there apart fresh = absurd cc
  apart_put (None ∷ slots) zero tenant there apart fresh = (fresh, apart)
  apart_put (Some other ∷ slots) zero tenant there apart fresh = absurd cc
  apart_put (None ∷ slots) (suc at) tenant there apart fresh = apart_put slots at tenant there apart fresh
  apart_put (Some other ∷ slots) (suc at) tenant there apart fresh =
      let differ = left_fails (bytes_eq (text_of other) (text_of tenant)) (list_any (has_text text_of (text_of tenant)) slots) fresh in
      let rest = right_fails (bytes_eq (text_of other) (text_of tenant)) (list_any (has_text text_of (text_of tenant)) slots) fresh in (
        still_none (has_text text_of (text_of other)) slots at (Some tenant) apart.0 (swapped (text_of tenant) (text_of other) ∙ differ),
        apart_put slots at tenant there apart.1 rest,
      )

  pub apart_left : (slots : List (Option Tenant)) (at : ℕ) → AreApart text_of slots → AreApart text_of (set slots at None)
  apart_left [] at apart = tt
  apart_left (None ∷ slots) zero apart = apart
  apart_left (Some other ∷ slots) zero apart = apart.1
  apart_left (None ∷ slots) (suc at) apart = apart_left slots at apart
  apart_left (Some other ∷ slots) (suc at) apart = (still_none (has_text text_of (text_of other)) slots at None apart.0 refl, apart_left slots at apart.1)

  -- no slot has the text of the one that is left
  none_left : (slots : List (Option Tenant)) (at : ℕ) (tenant : Tenant) → slice_get slots at ≡ Some (Some tenant) → AreApart text_of slots → list_any (has_text text_of (text_of tenant)) (set slots at None) ≡ false
  none_left [] at tenant there apart = absurd cc
  none_left (None ∷ slots) zero tenant there apart = absurd cc
  none_left (Some other ∷ slots) zero tenant there apart = let same : other ≡ tenant = cc in subst (λ (t : Tenant). list_any (has_text text_of (text_of t)) slots ≡ false) same apart.0
  none_left (None ∷ slots) (suc at) tenant there apart = none_left slots at tenant there apart
  none_left (Some other ∷ slots) (suc at) tenant there apart =
      let differ = one_fails (has_text text_of (text_of other)) slots at (Some tenant) there apart.0 in
      both_fail (bytes_eq (text_of other) (text_of tenant)) (list_any (has_text text_of (text_of tenant)) (set slots at None)) (swapped (text_of other) (text_of tenant) ∙ differ) (none_left slots at tenant there apart.1)

  -- the table of an admission
  pub found_put : (slots : List (Option Tenant)) (at : ℕ) (tenant : Tenant) (old new : List ℕ → Option ℕ) → slice_get slots at ≡ Some None → list_any (has_text text_of (text_of tenant)) slots ≡ false →
      ((text : List ℕ) → old text ≡ first_from (has_text text_of text) 0 slots) → ((text : List ℕ) → new text ≡ cond (bytes_eq (text_of tenant) text) (Some at) (old text)) →
      (text : List ℕ) → new text ≡ first_from (has_text text_of text) 0 (set slots at (Some tenant))
  found_put slots at tenant old new there fresh found puts text = puts text ∙ by (bytes_eq (text_of tenant) text) refl
    where
      by : (t : Bool) → bytes_eq (text_of tenant) text ≡ t → cond t (Some at) (old text) ≡ first_from (has_text text_of text) 0 (set slots at (Some tenant))
      by true e =
          let same : text_of tenant ≡ text = bytes_from_test (text_of tenant) text e in
          let none = subst (λ x. list_any (has_text text_of x) slots ≡ false) same fresh in
          sym (first_put (has_text text_of text) 0 slots at None (Some tenant) there none e ∙ ap Some (omega arith))
      by false e = found text ∙ sym (first_stays (has_text text_of text) 0 slots at None (Some tenant) there refl e)

  -- the table of a close
  pub found_left : (slots : List (Option Tenant)) (at : ℕ) (tenant : Tenant) (old new : List ℕ → Option ℕ) → slice_get slots at ≡ Some (Some tenant) → AreApart text_of slots →
      ((text : List ℕ) → old text ≡ first_from (has_text text_of text) 0 slots) → ((text : List ℕ) → new text ≡ cond (bytes_eq (text_of tenant) text) None (old text)) →
      (text : List ℕ) → new text ≡ first_from (has_text text_of text) 0 (set slots at None)
  found_left slots at tenant old new there apart found puts text = puts text ∙ by (bytes_eq (text_of tenant) text) refl
    where
      by : (t : Bool) → bytes_eq (text_of tenant) text ≡ t → cond t None (old text) ≡ first_from (has_text text_of text) 0 (set slots at None)
      by true e =
          let same : text_of tenant ≡ text = bytes_from_test (text_of tenant) text e in
          let none = subst (λ x. list_any (has_text text_of x) (set slots at None) ≡ false) same (none_left slots at tenant there apart) in
          sym (none_passes (has_text text_of text) 0 (set slots at None) none)
      by false e = found text ∙ sym (first_stays (has_text text_of text) 0 slots at (Some tenant) None there e refl)

  -- the slot of a tenant with the text is the one that is found
  pub found_there : (slots : List (Option Tenant)) (at : ℕ) (tenant : Tenant) (text : List ℕ) (n : ℕ) → slice_get slots at ≡ Some (Some tenant) → AreApart text_of slots → bytes_eq (text_of tenant) text ≡ true →
      first_from (has_text text_of text) n slots ≡ Some (n + at)
  found_there [] at tenant text n there apart is = absurd cc
  found_there (None ∷ slots) zero tenant text n there apart is = absurd cc
  found_there (Some other ∷ slots) zero tenant text n there apart is =
      let same : other ≡ tenant = cc in
      ap (λ t. cond t (Some n) (first_from (has_text text_of text) (n + 1) slots)) (ap (λ (o : Tenant). bytes_eq (text_of o) text) same ∙ is) ∙ ap Some (omega arith)
  found_there (None ∷ slots) (suc at) tenant text n there apart is = found_there slots at tenant text (n + 1) there apart is ∙ ap Some (omega arith)
  found_there (Some other ∷ slots) (suc at) tenant text n there apart is =
      let same : text_of tenant ≡ text = bytes_from_test (text_of tenant) text is in
      let differ = one_fails (has_text text_of (text_of other)) slots at (Some tenant) there apart.0 in
      let fails : bytes_eq (text_of other) text ≡ false = ap (bytes_eq (text_of other)) (sym same) ∙ swapped (text_of other) (text_of tenant) ∙ differ in
      ap (λ t. cond t (Some n) (first_from (has_text text_of text) (n + 1) slots)) fails ∙ found_there slots at tenant text (n + 1) there apart.1 is ∙ ap Some (omega arith)

-- ---- names

pub named_put : (slots : List (Option Tenant)) (at : ℕ) (new : Option Tenant) → AllByRecursion IsNamed slots → IsNamed new → AllByRecursion IsNamed (set slots at new)
named_put [] at new all named = tt
named_put (x ∷ slots) zero new all named = (named, all.1)
named_put (x ∷ slots) (suc at) new all named = (all.0, named_put slots at new all.1 named)

-- what is no name is the name of no open tenant
other_name : (name text : List ℕ) (t : Bool) → IsTrue (is_name name) → is_name text ≡ false → bytes_eq name text ≡ t → t ≡ false
other_name name text false named is e = refl
other_name name text true named is e = let same = bytes_from_test name text e in absurd (cc (ap is_name same, named, is))

pub none_named : (slots : List (Option Tenant)) (text : List ℕ) → AllByRecursion IsNamed slots → is_name text ≡ false → list_any (has_text (λ tenant. tenant.name) text) slots ≡ false
none_named [] text all is = refl
none_named (None ∷ slots) text all is = none_named slots text all.1 is
none_named (Some tenant ∷ slots) text all is =
    both_fail (bytes_eq tenant.name text) (list_any (has_text (λ (t : Tenant). t.name) text) slots) (other_name tenant.name text (bytes_eq tenant.name text) all.0 is refl) (none_named slots text all.1 is)

-- ---- no tenant

pub no_tenants_apart : (text_of : Tenant → List ℕ) (n : ℕ) → AreApart text_of (replicate n None)
no_tenants_apart text_of zero = tt
no_tenants_apart text_of (suc n) = no_tenants_apart text_of n

pub no_tenants_named : (n : ℕ) → AllByRecursion IsNamed (replicate n None)
no_tenants_named zero = tt
no_tenants_named (suc n) = (tt, no_tenants_named n)

pub no_tenants_found : (text_of : Tenant → List ℕ) (text : List ℕ) (n : ℕ) → list_any (has_text text_of text) (replicate n None) ≡ false
no_tenants_found text_of text zero = refl
no_tenants_found text_of text (suc n) = no_tenants_found text_of text n

no_tenants_long : (n : ℕ) → length (replicate n (let slot : Option Tenant = None in slot)) ≡ n
no_tenants_long zero = refl
no_tenants_long (suc n) = let more = no_tenants_long n in omega (arith, more)

-- ---- the tables

-- nothing is found in an empty table
nothing_found : {S : Type 0} (table : IndexMap (List ℕ) ℕ S) (text : List ℕ) → table.entries ≡ [] → get key_eq table text ≡ None
nothing_found table text empty = ap (λ entries. lookup (key_eq text) entries) empty

pub none_open : {S T : Type 0} (slots : List (Option Tenant)) (names : IndexMap (List ℕ) ℕ S) (tokens : IndexMap (List ℕ) ℕ T) → slots ≡ replicate most_tenants None → names.entries ≡ [] → tokens.entries ≡ [] → AreOpen slots names tokens
none_open {S = S} {T = T} slots names tokens are no_names no_tokens = subst (λ (s : List (Option Tenant)). AreOpen {S = S} {T = T} s names tokens) (sym are) (at most_tenants (omega arith))
  where
    at : (n : ℕ) → most_tenants ≤ n → AreOpen (replicate n None) names tokens
    at n enough = record {
      enough = let long = no_tenants_long n in omega (arith, long, enough);
      named = no_tenants_named n;
      names_apart = no_tenants_apart (λ tenant. tenant.name) n;
      tokens_apart = no_tenants_apart (λ tenant. tenant.token) n;
      names_are = λ name. nothing_found names name no_names ∙ sym (none_passes (has_text (λ (t : Tenant). t.name) name) 0 (replicate n None) (no_tenants_found (λ t. t.name) name n));
      tokens_are = λ token. nothing_found tokens token no_tokens ∙ sym (none_passes (has_text (λ (t : Tenant). t.token) token) 0 (replicate n None) (no_tenants_found (λ t. t.token) token n));
    }

pub open_same : {S T : Type 0} (slots : List (Option Tenant)) (names new_names : IndexMap (List ℕ) ℕ S) (tokens new_tokens : IndexMap (List ℕ) ℕ T) → AreOpen slots names tokens →
    ((name : List ℕ) → get key_eq new_names name ≡ get key_eq names name) → ((token : List ℕ) → get key_eq new_tokens token ≡ get key_eq tokens token) → AreOpen slots new_names new_tokens
open_same slots names new_names tokens new_tokens are same_names same_tokens = record {
  enough = are.enough;
  named = are.named;
  names_apart = are.names_apart;
  tokens_apart = are.tokens_apart;
  names_are = λ name. same_names name ∙ are.names_are name;
  tokens_are = λ token. same_tokens token ∙ are.tokens_are token;
}

-- the tenant of a slot that has one
pub at_open : (slots : List (Option Tenant)) (at : ℕ) (tenant : Tenant) → Some tenant ≡ open_at at slots → slice_get slots at ≡ Some (Some tenant)
at_open [] at tenant e = absurd cc
at_open (x ∷ slots) zero tenant e = ap Some (sym e)
at_open (x ∷ slots) (suc at) tenant e = at_open slots at tenant e

at_free : (slots : List (Option Tenant)) (at : ℕ) → at < length slots → is_none (open_at at slots) ≡ true → slice_get slots at ≡ Some None
at_free [] at low free = absurd (omega arith)
at_free (None ∷ slots) zero low free = refl
at_free (Some tenant ∷ slots) zero low free = absurd cc
at_free (x ∷ slots) (suc at) low free = at_free slots at (omega arith) free

-- what is known of a tenant that is not refused
record Admissible (slots : List (Option Tenant)) (slot : ℕ) (tenant : Tenant) : Type 0 where
  no_name : list_any (has_name tenant.name) slots ≡ false
  no_token : list_any (has_token tenant.token) slots ≡ false
  low : nat_lt slot most_tenants ≡ true
  free : is_none (open_at slot slots) ≡ true

admissible : (slots : List (Option Tenant)) (slot : ℕ) (tenant : Tenant) → admission_refusal slots slot tenant ≡ None → Admissible slots slot tenant
admissible slots slot tenant e =
    let all = by (list_any (has_name tenant.name) slots) (list_any (has_token tenant.token) slots) (nat_lt slot most_tenants) (is_none (open_at slot slots)) e in
    record { no_name = all.0; no_token = all.1; low = all.2; free = all.3 }
  where
    by : (a b c d : Bool) → first_refusal ((not (not a && not b), NameTaken) ∷ (not (c && d), NoSlot) ∷ []) ≡ None → (a ≡ false) × (b ≡ false) × (c ≡ true) × (d ≡ true)
    by true b c d e = absurd cc
    by false true c d e = absurd cc
    by false false false d e = absurd cc
    by false false true false e = absurd cc
    by false false true true e = (refl, refl, refl, refl)

pub open_put : {S T : Type 0} (slots : List (Option Tenant)) (slot : ℕ) (tenant : Tenant) (names new_names : IndexMap (List ℕ) ℕ S) (tokens new_tokens : IndexMap (List ℕ) ℕ T) →
    admission_refusal slots slot tenant ≡ None → IsTrue (is_name tenant.name) → AreOpen slots names tokens →
    ((name : List ℕ) → get key_eq new_names name ≡ cond (key_eq tenant.name name) (Some slot) (get key_eq names name)) →
    ((token : List ℕ) → get key_eq new_tokens token ≡ cond (key_eq tenant.token token) (Some slot) (get key_eq tokens token)) → AreOpen (set slots slot (Some tenant)) new_names new_tokens
open_put slots slot tenant names new_names tokens new_tokens refused named are put_names put_tokens =
    let may = admissible slots slot tenant refused in
    let low : slot < most_tenants = (let test = may.low in grind (arith, nat_tests)) in
    let there = at_free slots slot (let enough = are.enough in omega (arith, low, enough)) may.free in
    record {
      enough = let enough = are.enough in omega (arith, length-set slots slot (Some tenant), enough);
      named = named_put slots slot (Some tenant) are.named named;
      names_apart = apart_put (λ t. t.name) slots slot tenant there are.names_apart may.no_name;
      tokens_apart = apart_put (λ t. t.token) slots slot tenant there are.tokens_apart may.no_token;
      names_are = found_put (λ t. t.name) slots slot tenant (get key_eq names) (get key_eq new_names) there may.no_name are.names_are put_names;
      tokens_are = found_put (λ t. t.token) slots slot tenant (get key_eq tokens) (get key_eq new_tokens) there may.no_token are.tokens_are put_tokens;
    }

pub open_left : {S T : Type 0} (slots : List (Option Tenant)) (slot : ℕ) (tenant : Tenant) (names new_names : IndexMap (List ℕ) ℕ S) (tokens new_tokens : IndexMap (List ℕ) ℕ T) →
    Some tenant ≡ open_at slot slots → AreOpen slots names tokens →
    ((name : List ℕ) → get key_eq new_names name ≡ cond (key_eq tenant.name name) None (get key_eq names name)) →
    ((token : List ℕ) → get key_eq new_tokens token ≡ cond (key_eq tenant.token token) None (get key_eq tokens token)) → AreOpen (set slots slot None) new_names new_tokens
open_left slots slot tenant names new_names tokens new_tokens open_there are left_names left_tokens =
    let there = at_open slots slot tenant open_there in
    record {
      enough = let enough = are.enough in omega (arith, length-set slots slot None, enough);
      named = named_put slots slot None are.named tt;
      names_apart = apart_left (λ t. t.name) slots slot are.names_apart;
      tokens_apart = apart_left (λ t. t.token) slots slot are.tokens_apart;
      names_are = found_left (λ t. t.name) slots slot tenant (get key_eq names) (get key_eq new_names) there are.names_apart are.names_are left_names;
      tokens_are = found_left (λ t. t.token) slots slot tenant (get key_eq tokens) (get key_eq new_tokens) there are.tokens_apart are.tokens_are left_tokens;
    }

pub long_front : (n : ℕ) (slots : List (Option Tenant)) → n ≤ length slots → n ≡ length (take n slots)
long_front zero slots enough = refl
long_front (suc n) [] enough = absurd (omega arith)
long_front (suc n) (x ∷ slots) enough = let more = long_front n slots (omega arith) in omega (arith, more)
