-- What a line says, its first bytes say: those up to the longest line and one more.
use Rattle.std.proofs.Common.{◌≡◌, ℕ, zero, suc, ◌+◌, ◌<◌, ◌≤◌, Bool, true, false, cond, List, [], ◌∷◌, length, take, refl, sym, ap, ◌∙◌, length-take, arith}
use Rattle.std.specs.Prelude.{codes, nat_le, Option, Some, None}
use Rattle.std.specs.Str.{bytes_eq}
use Rattle.std.proofs.lemmas.Bool.Decides.{nat_tests}
use Rattle.cops_types.proofs.WordLemmas.{both, bytes_from_test}
use Rattle.cops_types.specs.declared.configs.Tenant.{Tenant}
use Rattle.cops_types.specs.Key.{is_key, is_name}
use Rattle.cops_types.specs.Lines.{longest_line}
use Rattle.cops_types.specs.Words.{is_inside, first_word}
use Rattle.cops_model.specs.declared.acts.Act.{Act}
use Rattle.cops_script.specs.ActLines.{act_in}
use Rattle.cops_types.specs.OpenSlots.{has_name, open_slot_of_name}
use Rattle.cops_script.proofs.HostLineLemmas.{admitted_in-cut, closed_in-cut}
use Rattle.cops_types.proofs.OpenSlotLemmas.{none_named, none_passes}
use Rattle.cops_script.specs.Said.{OfHost, admission_of, begins_admission, begins_closing, closing_of, said_found, said_by, said_in}
use Rattle.cops_script.specs.OpenNames.{AreOpenNamed}
use Rattle.cops_script.proofs.ActLemmas.{act_in-is}

take_all : (n : ℕ) (xs : List ℕ) → length xs ≤ n → take n xs ≡ xs
take_all zero [] h = refl
take_all zero (x ∷ xs) h = absurd (omega arith)
take_all (suc n) [] h = refl
take_all (suc n) (x ∷ xs) h = ap (λ l. x ∷ l) (take_all n xs (omega arith))

first_word-take : (n : ℕ) (xs : List ℕ) → first_word (take n xs) ≡ take n (first_word xs)
first_word-take zero xs = refl
first_word-take (suc n) [] = refl
first_word-take (suc n) (x ∷ xs) = by_first (is_inside x) (first_word-take n xs)
  where
    by_first : (t : Bool) → first_word (take n xs) ≡ take n (first_word xs) → cond t (x ∷ first_word (take n xs)) [] ≡ take (suc n) (cond t (x ∷ first_word xs) [])
    by_first true e = ap (λ l. x ∷ l) e
    by_first false e = refl

-- a long word is no name
long_is_no_name : (word : List ℕ) → 16 < length word → is_name word ≡ false
long_is_no_name word long = by_test (is_name word) refl
  where
    by_test : (t : Bool) → is_name word ≡ t → t ≡ false
    by_test false e = refl
    by_test true e =
        let short : length word ≤ 16 = grind (arith, nat_tests, (both (is_key word) (nat_le (length word) 16) e).1) in
        absurd (omega arith)

-- a long word names nobody
pub long_is_nobody : (tenants : List (Option Tenant)) (word : List ℕ) → AreOpenNamed tenants → 16 < length word → open_slot_of_name tenants word ≡ None
long_is_nobody tenants word named long = none_passes (has_name word) 0 tenants (none_named tenants word named (long_is_no_name word long))

-- a long line is no act
pub long_is_no_act : (name line : List ℕ) → longest_line < length line → act_in name line ≡ None
long_is_no_act name line long = by_found (act_in name line) refl
  where
    by_found : (found : Option Act) → act_in name line ≡ found → found ≡ None
    by_found None e = refl
    by_found (Some act) e = let short : length line ≤ 8192 = grind (arith, nat_tests, (act_in-is name line act e).short) in absurd (omega arith)

-- a long line and its first bytes name the same tenant
same_slot : (tenants : List (Option Tenant)) (line : List ℕ) → AreOpenNamed tenants → open_slot_of_name tenants (first_word (take (longest_line + 1) line)) ≡ open_slot_of_name tenants (first_word line)
same_slot tenants line named = by_size (nat_le (length (first_word line)) 8193) refl
  where
    by_size : (t : Bool) → nat_le (length (first_word line)) 8193 ≡ t → open_slot_of_name tenants (first_word (take (longest_line + 1) line)) ≡ open_slot_of_name tenants (first_word line)
    by_size true e = ap (open_slot_of_name tenants) (first_word-take 8193 line ∙ take_all 8193 (first_word line) (grind (arith, nat_tests)))
    by_size false e =
        let long : 8193 < length (first_word line) = grind (arith, nat_tests) in
        let cut : length (take 8193 (first_word line)) ≡ 8193 = length-take 8193 (first_word line) ∙ omega arith in
        ap (open_slot_of_name tenants) (first_word-take 8193 line)
        ∙ long_is_nobody tenants (take 8193 (first_word line)) named (omega (arith, cut))
        ∙ sym (long_is_nobody tenants (first_word line) named (omega arith))

-- a line is of a name if its first bytes are
pub same_first_at : (limit : ℕ) → 16 ≤ limit → (name line : List ℕ) → length name ≤ 16 → bytes_eq (first_word (take (limit + 1) line)) name ≡ bytes_eq (first_word line) name
same_first_at limit wide name line short = by_size (nat_le (length (first_word line)) (limit + 1)) refl
  where
    too_long : (word : List ℕ) → 16 < length word → (t : Bool) → bytes_eq word name ≡ t → t ≡ false
    too_long word long false e = refl
    too_long word long true e = absurd (omega (arith, ap length (bytes_from_test word name e)))

    by_size : (t : Bool) → nat_le (length (first_word line)) (limit + 1) ≡ t → bytes_eq (first_word (take (limit + 1) line)) name ≡ bytes_eq (first_word line) name
    by_size true e = ap (λ word. bytes_eq word name) (first_word-take (limit + 1) line ∙ take_all (limit + 1) (first_word line) (grind (arith, nat_tests)))
    by_size false e =
        let long : limit + 1 < length (first_word line) = grind (arith, nat_tests) in
        let cut : length (take (limit + 1) (first_word line)) ≡ limit + 1 = length-take (limit + 1) (first_word line) ∙ omega arith in
        ap (λ word. bytes_eq word name) (first_word-take (limit + 1) line)
        ∙ too_long (take (limit + 1) (first_word line)) (omega (arith, cut)) (bytes_eq (take (limit + 1) (first_word line)) name) refl
        ∙ sym (too_long (first_word line) (omega arith) (bytes_eq (first_word line) name) refl)

pub same_first : (name line : List ℕ) → length name ≤ 16 → bytes_eq (first_word (take (longest_line + 1) line)) name ≡ bytes_eq (first_word line) name
same_first name line short = same_first_at longest_line (omega arith) name line short

-- a line is the host's if its first bytes are
pub same_admission : (line : List ℕ) → begins_admission (take (longest_line + 1) line) ≡ begins_admission line
same_admission line = same_first (codes "+") line (omega arith)

pub same_closing : (line : List ℕ) → begins_closing (take (longest_line + 1) line) ≡ begins_closing line
same_closing line = same_first (codes "-") line (omega arith)

-- what a tenant's line says, its first bytes say
said_found-cut : (tenants : List (Option Tenant)) (line : List ℕ) → AreOpenNamed tenants → said_found (take (longest_line + 1) line) (open_slot_of_name tenants (first_word (take (longest_line + 1) line))) ≡ said_found line (open_slot_of_name tenants (first_word line))
said_found-cut tenants line named = by_size (nat_le (length line) 8193) refl
  where
    by_size : (t : Bool) → nat_le (length line) 8193 ≡ t → said_found (take (longest_line + 1) line) (open_slot_of_name tenants (first_word (take (longest_line + 1) line))) ≡ said_found line (open_slot_of_name tenants (first_word line))
    by_size true e = ap (λ l. said_found l (open_slot_of_name tenants (first_word l))) (take_all 8193 line (grind (arith, nat_tests)))
    by_size false e =
        let long : 8193 < length line = grind (arith, nat_tests) in
        let cut : length (take 8193 line) ≡ 8193 = length-take 8193 line ∙ omega arith in
        let acts = long_is_no_act (first_word (take 8193 line)) (take 8193 line) (omega (arith, cut)) ∙ sym (long_is_no_act (first_word line) line (omega arith)) in
        ap (said_found (take 8193 line)) (same_slot tenants line named) ∙ by_slot acts (open_slot_of_name tenants (first_word line))
      where
        by_slot : act_in (first_word (take 8193 line)) (take 8193 line) ≡ act_in (first_word line) line → (found : Option ℕ) → said_found (take 8193 line) found ≡ said_found line found
        by_slot acts None = refl
        by_slot acts (Some slot) = ap (said_by slot) acts

-- what a line says, its first bytes say
pub said_in-cut : (tenants : List (Option Tenant)) (line : List ℕ) → AreOpenNamed tenants → said_in tenants (take (longest_line + 1) line) ≡ said_in tenants line
said_in-cut tenants line named =
    let admits = ap (λ t. OfHost (admission_of tenants t)) (admitted_in-cut longest_line (omega arith) line) in
    let closes = ap (λ n. OfHost (closing_of tenants n)) (closed_in-cut longest_line (omega arith) line) in
    let says = said_found-cut tenants line named in
    λ i. cond (same_admission line i) (admits i) (cond (same_closing line i) (closes i) (says i))
