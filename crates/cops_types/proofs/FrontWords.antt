-- A word at the front of bytes, as far as a space.
use Rattle.std.proofs.Common.{◌≡◌, ℕ, zero, suc, ◌+◌, ◌<◌, ◌≤◌, ◌^◌, Bool, true, false, List, [], ◌∷◌, ◌++◌, length, take, drop, get_or, refl, sym, subst, ap, ◌∙◌, arith, length-append}
use Rattle.std.specs.Prelude.{IsTrue, decimal, ◌==◌, ◌&&◌, nat_lt, Some, None}
use Rattle.std.specs.Char.{is_ascii_digit}
use Rattle.std.specs.List.{list_all}
use Rattle.std.specs.Str.Parse.{AllDigits, digits_value}
use Rattle.std.proofs.Math.Seq.{drop-append-add, take-append_seam}
use Rattle.std.proofs.lemmas.Bool.Decides.{nat_tests}
use Rattle.std.proofs.lemmas.Fmt.{decimal_is_IsNumeral}
use Rattle.std.proofs.lemmas.List.{take-take}
use Rattle.std.proofs.lemmas.Str.Parse.{digit_from_value}
use Rattle.cops_types.specs.Key.{is_key_byte, is_name}
use Rattle.cops_types.specs.Words.{IsUnspaced, first_word, is_u64, number_of, space}
use Rattle.cops_types.proofs.NumberLemmas.{IsRead, read_small, zero_writes_none}
use Rattle.cops_types.proofs.Padded.{is_name-fits}
use Rattle.cops_types.proofs.WordLemmas.{Lacks, and, both, below, first_word-last, first_word-more, lacks_space, number_of-decimal}

-- ---- any word

-- the bytes at the front that pass a test are the word before the space, which doesn't pass it
run_ends : (test : ℕ → Bool) (word rest : List ℕ) (len : ℕ) → test 32 ≡ false → list_all test word ≡ true →
    list_all test (take len (word ++ 32 ∷ rest)) ≡ true → (len < length word → test (get_or (word ++ 32 ∷ rest) len 0) ≡ false) → len ≡ length word
run_ends test [] rest zero out all run ends = refl
run_ends test [] rest (suc len) out all run ends = absurd (let first = (both (test 32) (list_all test (take len rest)) run).0 in cc)
run_ends test (byte ∷ word) rest zero out all run ends = absurd (
    let first = (both (test byte) (list_all test word) all).0 in
    let end : test byte ≡ false = ends (omega arith) in
    cc)
run_ends test (byte ∷ word) rest (suc len) out all run ends =
    let words = both (test byte) (list_all test word) all in
    let runs = both (test byte) (list_all test (take len (word ++ 32 ∷ rest))) run in
    ap suc (run_ends test word rest len out words.1 runs.1 (λ less. ends (omega (arith, less))))

-- the word is so many first bytes
pub word_front : (bytes word rest : List ℕ) (len : ℕ) → length word ≡ len → bytes ≡ word ++ 32 ∷ rest → take len bytes ≡ word
word_front bytes word rest len size e = ap (take len) e ∙ ap (λ n. take n (word ++ 32 ∷ rest)) (sym size) ∙ take-append_seam word (32 ∷ rest)

-- and the rest are those behind it
pub word_rest : (bytes word rest : List ℕ) → bytes ≡ word ++ 32 ∷ rest → bytes ≡ word ++ 32 ∷ drop (length word + 1) bytes
word_rest bytes word rest e =
    let behind : drop (length word + 1) (word ++ 32 ∷ rest) ≡ rest = drop-append-add word (32 ∷ rest) 1 in
    e ∙ ap (λ l. word ++ 32 ∷ l) (sym behind ∙ ap (drop (length word + 1)) (sym e))

-- bytes without a space begin with no word and a space
pub no_front : (bytes word rest : List ℕ) → IsUnspaced bytes → Lacks space word → bytes ≡ word ++ 32 ∷ rest → ⊥
no_front bytes word rest none lacks e =
    let same : word ≡ bytes = sym (first_word-more word rest lacks) ∙ ap first_word (sym e) ∙ first_word-last bytes (lacks_space bytes none) in
    omega (arith, ap length same, ap length e, length-append word (32 ∷ rest))

-- the word before the first space is one
pub same_front : (bytes word rest other more : List ℕ) → Lacks space word → Lacks space other → bytes ≡ word ++ 32 ∷ rest → bytes ≡ other ++ 32 ∷ more → word ≡ other
same_front bytes word rest other more lacks lack e is = sym (first_word-more word rest lacks) ∙ ap first_word (sym e ∙ is) ∙ first_word-more other more lack

-- ---- names

name_bytes : (name : List ℕ) → IsTrue (is_name name) → list_all is_key_byte name ≡ true
name_bytes name is = grind (arith, nat_tests)

pub name_filled : (name : List ℕ) → IsTrue (is_name name) → 0 < length name
name_filled name is = grind (arith, nat_tests)

-- so many bytes are of keys, and the next is not: a name before a space is as long
pub name_ends : (bytes : List ℕ) (len : ℕ) → list_all is_key_byte (take len bytes) ≡ true → (len < 16 → len < length bytes → is_key_byte (get_or bytes len 0) ≡ false) →
    (name rest : List ℕ) → IsTrue (is_name name) → bytes ≡ name ++ 32 ∷ rest → length name ≡ len
name_ends bytes len run ends name rest is e =
    let fits : length name ≤ 16 = is_name-fits name is in
    sym (run_ends is_key_byte name rest len refl (name_bytes name is) (ap (λ bs. list_all is_key_byte (take len bs)) (sym e) ∙ run) (λ less.
    ap (λ bs. is_key_byte (get_or bs len 0)) (sym e) ∙ ends (omega (arith, less, fits)) (omega (arith, less, ap length e, length-append name (32 ∷ rest)))))

-- ---- numbers

-- fewer than 19 digits leave room for one more
pub read_few : (word : List ℕ) (i value : ℕ) → i < length word → i < 19 → IsRead word i value → value < 1000000000000000000
read_few word i value inside few read =
    let same : take i (take 19 word) ≡ take i word = take-take i 19 word (omega (arith, few)) in
    read_small (take 19 word) i value (grind (arith, nat_tests)) (grind (arith, nat_tests)) (subst (λ digits. (value < 2 ^ 64) × AllDigits 10 digits × (value ≡ digits_value 10 digits)) (sym same) read)

digits_pass : (digits : List ℕ) → AllDigits 10 digits → list_all is_ascii_digit digits ≡ true
digits_pass [] all = refl
digits_pass (digit ∷ digits) all = and (is_ascii_digit digit) (list_all is_ascii_digit digits) (is_digit digit (digit_from_value digit all.0)) (digits_pass digits all.1)
  where
    is_digit : (byte : ℕ) → (48 ≤ byte) × (byte ≤ 57) → IsTrue (is_ascii_digit byte)
    is_digit byte range = grind (arith, nat_tests)

pub decimal_filled : (n : ℕ) → IsTrue (is_u64 n) → 0 < length (decimal n)
decimal_filled n is = (decimal_is_IsNumeral n (below n is)).0.0

-- so many bytes are digits, and the next is not: a number before a space is as long
pub number_ends : (bytes : List ℕ) (len : ℕ) → AllDigits 10 (take len bytes) → len < 19 → (len < 19 → len < length bytes → is_ascii_digit (get_or bytes len 0) ≡ false) →
    (n : ℕ) (rest : List ℕ) → IsTrue (is_u64 n) → bytes ≡ decimal n ++ 32 ∷ rest → length (decimal n) ≡ len
number_ends bytes len digits few ends n rest is e =
    let all = digits_pass (decimal n) (decimal_is_IsNumeral n (below n is)).0.1 in
    sym (run_ends is_ascii_digit (decimal n) rest len refl all (ap (λ bs. list_all is_ascii_digit (take len bs)) (sym e) ∙ digits_pass (take len bytes) digits) (λ less.
    ap (λ bs. is_ascii_digit (get_or bs len 0)) (sym e) ∙ ends few (omega (arith, less, ap length e, length-append (decimal n) (32 ∷ rest)))))

-- no number has a zero before more
pub zero_ends : (word : List ℕ) (n : ℕ) → IsTrue (is_u64 n) → (nat_lt 1 (length word) && (get_or word 0 0 == 48)) ≡ true → word ≡ decimal n → ⊥
zero_ends word n is begins e =
    let none : number_of word ≡ None = zero_writes_none word (grind (arith, nat_tests)) (grind (arith, nat_tests)) in
    let some : number_of word ≡ Some n = ap number_of e ∙ number_of-decimal n is in
    cc
