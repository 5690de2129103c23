-- Decimal digits are read into a number.
use Rattle.std.proofs.Common.{◌≡◌, ℕ, ◌+◌, ◌-◌, ◌*◌, ◌<◌, ◌≤◌, ◌^◌, true, false, List, length, take, get_or, refl, sym, subst, ap, ◌∙◌, arith, length-take-le}
use Rattle.std.proofs.Math.Nat.{pow-le-pow_right}
use Rattle.std.specs.Prelude.{decimal, nat_lt, Option, Some, None}
use Rattle.std.specs.Char.{digit_value, is_ascii_digit}
use Rattle.std.specs.Option.{IfSome, IfNone}
use Rattle.std.specs.Str.Parse.{AllDigits, digits_value}
use Rattle.std.proofs.lemmas.Bool.Decides.{nat_tests}
use Rattle.std.proofs.lemmas.Fmt.{decimal_is_IsNumeral, decimal_digit, decimal-digits_value, first_decimal}
use Rattle.std.proofs.lemmas.Int.Digits.{digits_more, digits_value_more, digits_value-lt}
use Rattle.std.proofs.lemmas.Str.Parse.{digit_at, digits_value-take-le, numerals_by_value, tells_digits}
use Rattle.cops_types.specs.Words.{number_of}
use Rattle.cops_types.proofs.WordLemmas.{below, no_number, number_of-decimal}

digit_is : (byte : ℕ) → 48 ≤ byte → byte ≤ 57 → digit_value byte ≡ byte - 48
digit_is byte low high = grind (arith, nat_tests)

-- so many first bytes are digits, of this value
abbrev pub IsRead : List ℕ → ℕ → ℕ → Type 0
IsRead word count value = (value < 2 ^ 64) × AllDigits 10 (take count word) × (value ≡ digits_value 10 (take count word))

pub read_more : (word : List ℕ) (i byte value n : ℕ) → i < length word → byte ≡ get_or word i 0 → IsRead word i value → 48 ≤ byte → byte ≤ 57 → n ≡ value * 10 + (byte - 48) → n < 2 ^ 64 → IsRead word (i + 1) n
read_more word i byte value n inside at read low high is small =
    let digit : digit_value (get_or word i 0) ≡ byte - 48 = ap digit_value (sym at) ∙ digit_is byte low high in (
      small,
      digits_more 10 word i inside read.1 (omega (arith, digit)),
      is ∙ (λ j. read.2 j * 10 + sym digit j) ∙ sym (digits_value_more 10 word i inside),
    )

-- fewer than 19 digits leave room for one more
pub read_small : (word : List ℕ) (i value : ℕ) → i < length word → length word ≤ 19 → IsRead word i value → value < 1000000000000000000
read_small word i value inside short read =
    let size : length (take i word) ≡ i = length-take-le i word (omega arith) in
    let below : length (take i word) ≤ 18 = omega (arith, size, inside, short) in
    let few : 10 ^ length (take i word) ≤ 10 ^ 18 = pow-le-pow_right {n = 10} (omega arith) below in
    let top : 10 ^ 18 ≡ 1000000000000000000 = refl in
    omega (arith, digits_value-lt 10 (take i word) read.1, read.2, few, top)

-- a byte that is a digit, and one that is none
pub in_digits : (byte : ℕ) → is_ascii_digit byte ≡ true → (48 ≤ byte) × (byte ≤ 57)
in_digits byte is = (grind (arith, nat_tests), grind (arith, nat_tests))

pub no_digit : (word : List ℕ) (i : ℕ) → i < length word → is_ascii_digit (get_or word i 0) ≡ false → AllDigits 10 word → ⊥
no_digit word i inside none all =
    let range = digit_at word i all inside in
    let low : 48 ≤ get_or word i 0 = range.0 in
    let high : get_or word i 0 ≤ 57 = range.1 in
    apart (get_or word i 0) low high none
  where
    apart : (byte : ℕ) → 48 ≤ byte → byte ≤ 57 → is_ascii_digit byte ≡ false → ⊥
    apart byte low high none = grind (arith, nat_tests)

-- a number too great ends the reading
pub read_too_great : (word : List ℕ) (i byte value : ℕ) → i < length word → byte ≡ get_or word i 0 → IsRead word i value → (48 ≤ byte → byte ≤ 57 → 2 ^ 64 ≤ value * 10 + (byte - 48)) → AllDigits 10 word → 2 ^ 64 ≤ digits_value 10 word
read_too_great word i byte value inside at read great all =
    let range = digit_at word i all inside in
    let low : 48 ≤ byte = omega (arith, range.0, at) in
    let high : byte ≤ 57 = omega (arith, range.1, at) in
    let digit : digit_value (get_or word i 0) ≡ byte - 48 = ap digit_value (sym at) ∙ digit_is byte low high in
    let whole : value * 10 + (byte - 48) ≡ digits_value 10 (take (i + 1) word) = (λ j. read.2 j * 10 + sym digit j) ∙ sym (digits_value_more 10 word i inside) in
    omega (arith, great low high, whole, digits_value-take-le 10 word (i + 1) (omega arith))

-- the empty word, and a zero with more behind it, write no number
pub empty_writes_none : (word : List ℕ) → length word ≡ 0 → number_of word ≡ None
empty_writes_none word e = no_number word (λ n small is. absurd (omega (arith, (decimal_is_IsNumeral n (below n small)).0.0, ap length is)))

pub zero_writes_none : (word : List ℕ) → 1 < length word → get_or word 0 0 ≡ 48 → number_of word ≡ None
zero_writes_none word long zero = no_number word (λ n small is. none n (below n small) is)
  where
    none : (n : ℕ) → n < 2 ^ 64 → word ≡ decimal n → ⊥
    none n small is = by_test (nat_lt 0 n) refl
      where
        by_test : (t : _) → nat_lt 0 n ≡ t → ⊥
        by_test true e =
            let some : 0 < n = grind (arith, nat_tests) in
            omega (arith, first_decimal n some small, ap (λ w. get_or w 0 0) is)
        by_test false e =
            let none : n ≡ 0 = grind (arith, nat_tests) in
            let one : length (decimal n) ≡ 1 = ap length (decimal_digit n (omega arith)) in
            omega (arith, one, ap length is)

-- a word whose digits were read
pub read_whole : (word : List ℕ) (value : Option ℕ) → 0 < length word → (get_or word 0 0 ≡ 48 → length word ≡ 1) →
    IfSome value (λ n. (n < 2 ^ 64) × AllDigits 10 word × (n ≡ digits_value 10 word)) → IfNone value (AllDigits 10 word → 2 ^ 64 ≤ digits_value 10 word) → value ≡ number_of word
read_whole word None some plain is none =
    sym (no_number word (λ n small e.
    let numeral = decimal_is_IsNumeral n (below n small) in
    absurd (omega (arith, none (subst (AllDigits 10) (sym e) numeral.0.1), numeral.1, ap (digits_value 10) e, below n small))))
read_whole word (Some n) some plain is none =
    let small : digits_value 10 word < 2 ^ 64 = omega (arith, is.0, is.2) in
    let spelled : decimal (digits_value 10 word) ≡ word = decimal-digits_value (numerals_by_value (AllDigits 10) tells_digits) word is.1 some plain small in
    sym (ap number_of (sym spelled) ∙ number_of-decimal (digits_value 10 word) (grind (arith, nat_tests)) ∙ ap Some (sym is.2))
