-- The tenants of a head at their slots, and the tables in which they are found.
use Rattle.std.proofs.Common.{◌≡◌, ℕ, zero, suc, ◌+◌, ◌-◌, ◌<◌, ◌≤◌, Bool, true, false, cond, ◌||◌, List, [], ◌∷◌, ◌++◌, length, map, refl, sym, subst, ap, ◌∙◌, arith, true≢false}
use Rattle.std.specs.Prelude.{Option, Some, None, get_or, slice_get, take, replicate}
use Rattle.std.specs.List.{AllByRecursion, list_any}
use Rattle.std.specs.Map.{lookup}
use Rattle.std.specs.Str.{bytes_eq}
use Rattle.std.proofs.lemmas.List.{take_more}
use Rattle.indexmap.specs.IndexMap.{IndexMap}
use Rattle.cops_types.specs.declared.configs.Tenant.{Tenant}
use Rattle.cops_types.specs.HeadLines.{most_tenants}
use Rattle.cops_types.specs.Key.{key_eq}
use Rattle.cops_types.specs.OpenSlots.{AreApart, AreFoundAt, AreOpen, IsNamed, begun_with, first_from, has_text}
use Rattle.cops_types.specs.Slots.{AreDistinct, AreNamed}
use Rattle.cops_types.proofs.WordLemmas.{bytes_from_test}
use Rattle.cops_types.proofs.OpenSlotLemmas.{both_fail, left_fails, one_fails, right_fails, swapped}

-- ---- texts that are apart

module _ (text_of : Tenant → List ℕ) where
  -- one more tenant, with a text of its own
  none_more : (tenants : List Tenant) (tenant : Tenant) (text : List ℕ) → list_any (has_text text_of text) (map Some tenants) ≡ false → bytes_eq (text_of tenant) text ≡ false → list_any (has_text text_of text) (map Some (tenants ++ tenant ∷ [])) ≡ false
  none_more [] tenant text none differ = both_fail (bytes_eq (text_of tenant) text) false differ refl
  none_more (x ∷ tenants) tenant text none differ =
      let here = left_fails (bytes_eq (text_of x) text) (list_any (has_text text_of text) (map Some tenants)) none in
      let rest = right_fails (bytes_eq (text_of x) text) (list_any (has_text text_of text) (map Some tenants)) none in
      both_fail (bytes_eq (text_of x) text) (list_any (has_text text_of text) (map Some (tenants ++ tenant ∷ []))) here (none_more tenants tenant text rest differ)

  pub apart_more : (tenants : List Tenant) (tenant : Tenant) → AreApart text_of (map Some tenants) → list_any (λ (other : Tenant). bytes_eq (text_of other) (text_of tenant)) tenants ≡ false → AreApart text_of (map Some (tenants ++ tenant ∷ []))
  apart_more [] tenant apart fresh = (refl, tt)
  apart_more (x ∷ tenants) tenant apart fresh =
      let differ = left_fails (bytes_eq (text_of x) (text_of tenant)) (list_any (λ (other : Tenant). bytes_eq (text_of other) (text_of tenant)) tenants) fresh in
      let rest = right_fails (bytes_eq (text_of x) (text_of tenant)) (list_any (λ (other : Tenant). bytes_eq (text_of other) (text_of tenant)) tenants) fresh in
      (none_more tenants tenant (text_of x) apart.0 (swapped (text_of tenant) (text_of x) ∙ differ), apart_more tenants tenant apart.1 rest)

  -- no earlier tenant has the text of this one
  none_before : (tenants : List Tenant) (slot : ℕ) (tenant : Tenant) → AreApart text_of (map Some tenants) → slice_get tenants slot ≡ Some tenant → list_any (has_text text_of (text_of tenant)) (map Some (take slot tenants)) ≡ false
  none_before [] slot tenant apart there = absurd cc
  none_before (x ∷ tenants) zero tenant apart there = refl
  none_before (x ∷ tenants) (suc slot) tenant apart there =
      let differ = one_fails (has_text text_of (text_of x)) (map Some tenants) slot (Some tenant) (mapped tenants slot there) apart.0 in
      both_fail (bytes_eq (text_of x) (text_of tenant)) (list_any (has_text text_of (text_of tenant)) (map Some (take slot tenants))) (swapped (text_of x) (text_of tenant) ∙ differ) (none_before tenants slot tenant apart.1 there)
    where
      mapped : (ts : List Tenant) (at : ℕ) → slice_get ts at ≡ Some tenant → slice_get (map Some ts) at ≡ Some (Some tenant)
      mapped [] at e = absurd cc
      mapped (t ∷ ts) zero e = ap Some e
      mapped (t ∷ ts) (suc at) e = mapped ts at e

  -- the first slot with a text, if one more tenant comes
  found_more : (n : ℕ) (tenants : List Tenant) (tenant : Tenant) (text : List ℕ) → (bytes_eq (text_of tenant) text ≡ true → list_any (has_text text_of text) (map Some tenants) ≡ false) →
      cond (bytes_eq (text_of tenant) text) (Some (n + length tenants)) (first_from (has_text text_of text) n (map Some tenants)) ≡ first_from (has_text text_of text) n (map Some (tenants ++ tenant ∷ []))
  found_more n [] tenant text fresh = ap (λ m. cond (bytes_eq (text_of tenant) text) (Some m) None) (omega arith)
  found_more n (x ∷ tenants) tenant text fresh =
      by (bytes_eq (text_of tenant) text) (bytes_eq (text_of x) text) fresh (found_more (n + 1) tenants tenant text (λ e. right_fails (bytes_eq (text_of x) text) (list_any (has_text text_of text) (map Some tenants)) (fresh e)))
    where
      by : (own here : Bool) → (own ≡ true → (here || list_any (has_text text_of text) (map Some tenants)) ≡ false) →
          cond own (Some (n + 1 + length tenants)) (first_from (has_text text_of text) (n + 1) (map Some tenants)) ≡ first_from (has_text text_of text) (n + 1) (map Some (tenants ++ tenant ∷ [])) →
          cond own (Some (n + suc (length tenants))) (cond here (Some n) (first_from (has_text text_of text) (n + 1) (map Some tenants))) ≡ cond here (Some n) (first_from (has_text text_of text) (n + 1) (map Some (tenants ++ tenant ∷ [])))
      by true true none rest = absurd (true≢false (none refl))
      by true false none rest = ap Some (omega arith) ∙ rest
      by false true none rest = refl
      by false false none rest = rest

  -- the table after one more tenant was noted
  pub noted_more : (tenants : List Tenant) (slot : ℕ) (tenant : Tenant) (old new : List ℕ → Option ℕ) → AreApart text_of (map Some tenants) → slot < length tenants → tenant ≡ get_or tenants slot tenant →
      ((text : List ℕ) → old text ≡ first_from (has_text text_of text) 0 (map Some (take slot tenants))) → ((text : List ℕ) → new text ≡ cond (bytes_eq (text_of tenant) text) (Some slot) (old text)) →
      (text : List ℕ) → new text ≡ first_from (has_text text_of text) 0 (map Some (take (slot + 1) tenants))
  noted_more tenants slot tenant old new apart below is found puts text =
      puts text
      ∙ ap (cond (bytes_eq (text_of tenant) text) (Some slot)) (found text)
      ∙ ap (λ n. cond (bytes_eq (text_of tenant) text) (Some n) (first_from (has_text text_of text) 0 (map Some front))) (let is_long = long tenants slot below in omega (arith, is_long))
      ∙ found_more 0 front tenant text (λ same. subst (λ (x : List ℕ). list_any (has_text text_of x) (map Some front) ≡ false) (bytes_from_test (text_of tenant) text same) (none_before tenants slot tenant apart (there tenants slot below is)))
      ∙ ap (λ ts. first_from (has_text text_of text) 0 (map Some ts)) (sym (take_more tenants slot tenant below ∙ ap (λ t. front ++ t ∷ []) (sym is)))
    where
      front : List Tenant
      front = take slot tenants

      long : (ts : List Tenant) (n : ℕ) → n < length ts → length (take n ts) ≡ n
      long [] n lt = absurd (omega arith)
      long (t ∷ ts) zero lt = refl
      long (t ∷ ts) (suc n) lt = ap suc (long ts n (omega arith))

      there : (ts : List Tenant) (n : ℕ) → n < length ts → tenant ≡ get_or ts n tenant → slice_get ts n ≡ Some tenant
      there [] n lt e = absurd (omega arith)
      there (t ∷ ts) zero lt e = ap Some (sym e)
      there (t ∷ ts) (suc n) lt e = there ts n (omega arith) e

  -- ---- free slots behind them

  none_behind : (tenants : List Tenant) (free : ℕ) (text : List ℕ) → list_any (has_text text_of text) (map Some tenants) ≡ false → list_any (has_text text_of text) (map Some tenants ++ replicate free None) ≡ false
  none_behind [] zero text none = refl
  none_behind [] (suc free) text none = none_behind [] free text none
  none_behind (x ∷ tenants) free text none =
      both_fail (bytes_eq (text_of x) text) (list_any (has_text text_of text) (map Some tenants ++ replicate free None)) (left_fails (bytes_eq (text_of x) text) (list_any (has_text text_of text) (map Some tenants)) none)
      (none_behind tenants free text (right_fails (bytes_eq (text_of x) text) (list_any (has_text text_of text) (map Some tenants)) none))

  pub apart_behind : (tenants : List Tenant) (free : ℕ) → AreApart text_of (map Some tenants) → AreApart text_of (map Some tenants ++ replicate free None)
  apart_behind [] zero apart = tt
  apart_behind [] (suc free) apart = apart_behind [] free apart
  apart_behind (x ∷ tenants) free apart = (none_behind tenants free (text_of x) apart.0, apart_behind tenants free apart.1)

  pub found_behind : (n : ℕ) (tenants : List Tenant) (free : ℕ) (text : List ℕ) → first_from (has_text text_of text) n (map Some tenants) ≡ first_from (has_text text_of text) n (map Some tenants ++ replicate free None)
  found_behind n [] zero text = refl
  found_behind n [] (suc free) text = found_behind (n + 1) [] free text
  found_behind n (x ∷ tenants) free text = ap (cond (bytes_eq (text_of x) text) (Some n)) (found_behind (n + 1) tenants free text)

-- ---- the tables

-- nothing is found of nobody
pub found_of_none : {S T : Type 0} (names : IndexMap (List ℕ) ℕ S) (tokens : IndexMap (List ℕ) ℕ T) (tenants : List Tenant) → tenants ≡ [] → names.entries ≡ [] → tokens.entries ≡ [] → AreFoundAt tenants names tokens
found_of_none {S = S} {T = T} names tokens tenants nobody no_names no_tokens =
    subst (λ (ts : List Tenant). AreFoundAt {S = S} {T = T} ts names tokens) (sym nobody)
    (record { names_are = λ name. ap (λ entries. lookup (key_eq name) entries) no_names; tokens_are = λ token. ap (λ entries. lookup (key_eq token) entries) no_tokens })

named_behind : (tenants : List Tenant) (free : ℕ) → AreNamed tenants → AllByRecursion IsNamed (map Some tenants ++ replicate free None)
named_behind [] zero named = tt
named_behind [] (suc free) named = (tt, named_behind [] free named)
named_behind (x ∷ tenants) free named = (named.0, named_behind tenants free named.1)

long_behind : (tenants : List Tenant) (free : ℕ) → length (map (λ (t : Tenant). Some t) tenants ++ replicate free None) ≡ length tenants + free
long_behind [] zero = refl
long_behind [] (suc free) = let more = long_behind [] free in omega (arith, more)
long_behind (x ∷ tenants) free = let more = long_behind tenants free in omega (arith, more)

-- all of them are open, and nobody else
pub open_of : {S T : Type 0} (tenants : List Tenant) (slots : List (Option Tenant)) (names : IndexMap (List ℕ) ℕ S) (tokens : IndexMap (List ℕ) ℕ T) → AreNamed tenants → AreDistinct tenants → AreFoundAt tenants names tokens →
    slots ≡ begun_with tenants → AreOpen slots names tokens
open_of {S = S} {T = T} tenants slots names tokens named distinct found is =
    subst (λ (s : List (Option Tenant)). AreOpen {S = S} {T = T} s names tokens) (sym is) (at (most_tenants - length tenants) (omega arith))
  where
    at : (free : ℕ) → most_tenants ≤ length tenants + free → AreOpen (map Some tenants ++ replicate free None) names tokens
    at free enough = record {
      enough = let long = long_behind tenants free in omega (arith, long, enough);
      named = named_behind tenants free named;
      names_apart = apart_behind (λ t. t.name) tenants free distinct.names_apart;
      tokens_apart = apart_behind (λ t. t.token) tenants free distinct.tokens_apart;
      names_are = λ name. found.names_are name ∙ found_behind (λ t. t.name) 0 tenants free name;
      tokens_are = λ token. found.tokens_are token ∙ found_behind (λ t. t.token) 0 tenants free token;
    }
