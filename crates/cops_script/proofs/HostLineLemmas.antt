-- What the lines of the host say, and that they are short.
use Rattle.std.proofs.Common.{◌≡◌, ℕ, ◌+◌, ◌<◌, ◌≤◌, Bool, true, false, cond, List, [], ◌∷◌, ◌++◌, length, take, refl, sym, subst, ap, ◌∙◌, length-take, arith}
use Rattle.std.specs.Prelude.{IsTrue, codes, decimal, ◌==◌, ◌&&◌, nat_lt, Option, Some, None, IfSome, IfNone}
use Rattle.std.proofs.lemmas.Bool.{eqb-true}
use Rattle.std.proofs.lemmas.Bool.Decides.{nat_tests}
use Rattle.std.proofs.lemmas.List.{take_all}
use Rattle.cops_types.specs.declared.configs.Tenant.{Tenant}
use Rattle.cops_types.specs.HeadLines.{is_tenant, tenant_in, tenant_line}
use Rattle.cops_types.specs.HeadWords.{AreTenantWords, quota_words}
use Rattle.cops_script.specs.HostLines.{admitted_in, closed_in, hyphen, plus}
use Rattle.cops_script.specs.Meaning.{IsAdmissionLine, IsClosingLine}
use Rattle.cops_types.specs.Key.{is_name}
use Rattle.cops_types.specs.Version.{last_clock}
use Rattle.cops_types.specs.Words.{first_word, parts_at, space, spaced}
use Rattle.cops_types.proofs.HeadLemmas.{tenant_fits, tenant_in-finds, tenant_in-is, tenant_line-parts}
use Rattle.cops_types.proofs.HeadLengths.{name-short, tenant-short}
use Rattle.cops_types.proofs.HeadReading.{spelled_by, token_is_word, token_lacks}
use Rattle.cops_types.proofs.WordLemmas.{both, lacks_from_test, parts-more, same_value}

-- ---- a line that admits

pub admitted_in-is : (line : List ℕ) (tenant : Tenant) → admitted_in line ≡ Some tenant → IsAdmissionLine line tenant
admitted_in-is [] tenant e = absurd cc
admitted_in-is (sign ∷ rest) tenant e = by_test (sign == plus) refl e
  where
    by_test : (t : Bool) → (sign == plus) ≡ t → cond t (tenant_in (codes "tenant" ++ rest)) None ≡ Some tenant → IsAdmissionLine (sign ∷ rest) tenant
    by_test true is e = record { rest = rest; signed = ap (λ s. s ∷ rest) (eqb-true sign plus is); said = tenant_in-is (codes "tenant" ++ rest) tenant e }
    by_test false is e = absurd cc

pub admitted_in-finds : (line : List ℕ) (tenant : Tenant) → IsAdmissionLine line tenant → admitted_in line ≡ Some tenant
admitted_in-finds line tenant is = ap admitted_in is.signed ∙ tenant_in-finds (codes "tenant" ++ is.rest) tenant is.said

-- a space follows the sign
pub admission_first : (line : List ℕ) (tenant : Tenant) → IsAdmissionLine line tenant → first_word line ≡ codes "+"
admission_first line tenant is =
    let words : List (List ℕ) = tenant.name ∷ is.said.token ∷ decimal tenant.first_clock ∷ quota_words tenant.quota in
    let rest_is : is.rest ≡ space ∷ spaced words = let whole = is.said.spelled in cc in
    ap first_word (is.signed ∙ ap (λ r. plus ∷ r) rest_is)

-- a tenant's words after a plus
pub admitted_words : (line : List ℕ) (words : List (List ℕ)) (tenant : Tenant) → parts_at space line ≡ codes "+" ∷ words → AreTenantWords last_clock words tenant → admitted_in line ≡ Some tenant
admitted_words line words tenant parts are =
    let each : parts_at space line ≡ codes "+" ∷ tenant.name ∷ are.token ∷ decimal tenant.first_clock ∷ quota_words tenant.quota = parts ∙ ap (λ ws. codes "+" ∷ ws) are.spelled in
    let one_word = token_is_word are.token tenant.token (token_lacks line _ _ are.token _ each) are.parses in
    ap admitted_in (spelled_by line _ each)
    ∙ tenant_in-finds (tenant_line are.token tenant) tenant (record { token = are.token; spelled = refl; one_word = one_word; parses = are.parses; within = are.within })

-- the words of a line that admits
pub words_admitted : (line : List ℕ) (tenant : Tenant) → admitted_in line ≡ Some tenant → (words : List (List ℕ)) × (parts_at space line ≡ codes "+" ∷ words) × AreTenantWords last_clock words tenant
words_admitted line tenant e =
    let is = admitted_in-is line tenant e in
    let token = is.said.token in
    let words : List (List ℕ) = tenant.name ∷ token ∷ decimal tenant.first_clock ∷ quota_words tenant.quota in
    let rest_is : is.rest ≡ space ∷ spaced words = let whole = is.said.spelled in cc in
    let of_tenant = tenant_line-parts token tenant is.said.one_word (tenant_fits last_clock (omega arith) tenant is.said.within) in
    let after_tenant = parts-more space (codes "tenant") (spaced words) (lacks_from_test space (codes "tenant") refl) in
    let parts : parts_at space (spaced words) ≡ words = let both_ways = sym after_tenant ∙ of_tenant in cc in (
      words,
      ap (parts_at space) (is.signed ∙ ap (λ r. plus ∷ r) rest_is)
          ∙ parts-more space (codes "+") (spaced words) (lacks_from_test space (codes "+") refl) ∙ ap (λ ws. codes "+" ∷ ws) parts,
      record { token = token; spelled = refl; parses = is.said.parses; within = is.said.within },
    )

-- a line that admits no tenant
pub admits_none : (line : List ℕ) → ((tenant : Tenant) → admitted_in line ≡ Some tenant → ⊥) → None ≡ admitted_in line
admits_none line none = by_found (admitted_in line) refl
  where
    by_found : (it : Option Tenant) → admitted_in line ≡ it → None ≡ it
    by_found None e = refl
    by_found (Some tenant) e = absurd (none tenant e)

-- what the words after a plus give
pub admission_found : (line : List ℕ) (found : Option Tenant) (words : List (List ℕ)) → parts_at space line ≡ codes "+" ∷ words → IfSome found (AreTenantWords last_clock words) →
    IfNone found ((tenant : Tenant) → AreTenantWords last_clock words tenant → ⊥) → found ≡ admitted_in line
admission_found line (Some tenant) words parts is none = sym (admitted_words line words tenant parts is)
admission_found line None words parts is none = admits_none line (λ tenant e.
    let given = words_admitted line tenant e in
    let same : given.0 ≡ words = let first = given.1 in cc in
    none tenant (subst (λ ws. AreTenantWords last_clock ws tenant) same given.2))

pub admitted-good : (line : List ℕ) (tenant : Tenant) → admitted_in line ≡ Some tenant → IsTrue (is_tenant tenant)
admitted-good line tenant e = (admitted_in-is line tenant e).said.within

admitted-short : (line : List ℕ) (tenant : Tenant) → admitted_in line ≡ Some tenant → length line ≤ 8192
admitted-short line tenant e =
    let is = admitted_in-is line tenant e in
    let whole : length (codes "tenant" ++ is.rest) ≤ 8192 = tenant-short (codes "tenant" ++ is.rest) tenant is.said in
    let signed = ap length is.signed in
    omega (arith, whole, signed)

-- ---- a line that closes

pub closed_in-is : (line name : List ℕ) → closed_in line ≡ Some name → IsClosingLine line name
closed_in-is [] name e = absurd cc
closed_in-is (sign ∷ []) name e = absurd cc
closed_in-is (sign ∷ gap ∷ rest) name e = by_test (sign == hyphen && gap == space && is_name rest) refl e
  where
    by_test : (t : Bool) → (sign == hyphen && gap == space && is_name rest) ≡ t → cond t (Some rest) None ≡ Some name → IsClosingLine (sign ∷ gap ∷ rest) name
    by_test true is e =
        let whole = both (sign == hyphen && gap == space) (is_name rest) is in
        let front = both (sign == hyphen) (gap == space) whole.0 in
        let same : rest ≡ name = same_value rest name e in
        record { signed = λ i. eqb-true sign hyphen front.0 i ∷ eqb-true gap space front.1 i ∷ same i; named = ap is_name (sym same) ∙ whole.1 }
    by_test false is e = absurd cc

pub closed_in-finds : (line name : List ℕ) → IsClosingLine line name → closed_in line ≡ Some name
closed_in-finds line name is = ap closed_in is.signed ∙ rw is.named refl

pub closing_first : (line name : List ℕ) → IsClosingLine line name → first_word line ≡ codes "-"
closing_first line name is = ap first_word is.signed

closed-short : (line name : List ℕ) → closed_in line ≡ Some name → length line ≤ 8192
closed-short line name e =
    let is = closed_in-is line name e in
    let short = name-short name is.named in
    let size = ap length is.signed in
    omega (arith, short, size)

-- ---- lines as they are cut

-- what is found in short lines alone is found in cut ones too
found_in_cut : {A : Type 0} (find : List ℕ → Option A) → ((line : List ℕ) (it : A) → find line ≡ Some it → length line ≤ 8192) → (limit : ℕ) → 8192 ≤ limit → (line : List ℕ) → find (take (limit + 1) line) ≡ find line
found_in_cut {A} find short limit wide line = by_test (nat_lt (limit + 1) (length line)) refl
  where
    none_of : (l : List ℕ) → (length l ≤ 8192 → ⊥) → find l ≡ None
    none_of l long = by_found (find l) refl
      where
        by_found : (it : Option A) → find l ≡ it → it ≡ None
        by_found None e = refl
        by_found (Some it) e = absurd (long (short l it e))

    by_test : (t : Bool) → nat_lt (limit + 1) (length line) ≡ t → find (take (limit + 1) line) ≡ find line
    by_test true is =
        let long : limit + 1 < length line = grind (arith, nat_tests) in
        let size : length (take (limit + 1) line) ≡ limit + 1 = length-take (limit + 1) line ∙ omega arith in
        none_of (take (limit + 1) line) (λ low. omega (arith, size, low)) ∙ sym (none_of line (λ low. omega (arith, low)))
    by_test false is = let low : length line ≤ limit + 1 = grind (arith, nat_tests) in ap find (take_all (limit + 1) line low)

pub admitted_in-cut : (limit : ℕ) → 8192 ≤ limit → (line : List ℕ) → admitted_in (take (limit + 1) line) ≡ admitted_in line
admitted_in-cut limit wide line = found_in_cut admitted_in admitted-short limit wide line

pub closed_in-cut : (limit : ℕ) → 8192 ≤ limit → (line : List ℕ) → closed_in (take (limit + 1) line) ≡ closed_in line
closed_in-cut limit wide line = found_in_cut closed_in closed-short limit wide line
