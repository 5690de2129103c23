-- Texts that are put at a place, one after another.
use Rattle.std.proofs.Common.{◌≡◌, ℕ, ◌+◌, ◌≤◌, ◌<◌, ◌/◌, ◌%◌, ◌^◌, List, [], ◌∷◌, ◌++◌, length, take, drop, sym, subst, ap, ◌∙◌, append_assoc, arith, length-take-le}
use Rattle.std.specs.Prelude.{decimal}
use Rattle.std.proofs.Math.Seq.{take-append-add}
use Rattle.std.proofs.lemmas.Fmt.{decimal_digit, decimal_step}
use Rattle.std.proofs.lemmas.List.{take-append-drop, take-append-le, take-take}
use Rattle.cops_types.specs.Placed.{last_four}

-- the first bytes of what is copied over a list stand behind what stood before
pub front_placed : (at count : ℕ) (bytes cells copied rest : List ℕ) → at ≤ length bytes → count ≤ length cells → copied ≡ cells → take (at + count) (take at bytes ++ (copied ++ rest)) ≡ take at bytes ++ take count cells
front_placed at count bytes cells copied rest low within is =
    let size : length (take at bytes) ≡ at = length-take-le at bytes low in
    let fits : count ≤ length copied = subst (λ (l : List ℕ). count ≤ length l) (sym is) within in
    ap (λ n. take (n + count) (take at bytes ++ (copied ++ rest))) (sym size)
    ∙ take-append-add (take at bytes) (copied ++ rest) count
    ∙ ap (λ l. take at bytes ++ l) (take-append-le count copied rest fits ∙ ap (take count) is)

-- a block of the front, and one of the end that begins within it, are the whole
pub blocks_placed : (at size rest : ℕ) (b0 b1 b2 word front end : List ℕ) → at ≤ length b0 → rest + size ≡ length word → rest ≤ size
    → front ≡ take size word → end ≡ drop rest word
    → take (at + size) b1 ≡ take at b0 ++ front → take (at + rest + size) b2 ≡ take (at + rest) b1 ++ end
    → take (at + length word) b2 ≡ take at b0 ++ word
blocks_placed at size rest b0 b1 b2 word front end low sum within front_is end_is e1 e2 =
    let size_at : length (take at b0) ≡ at = length-take-le at b0 low in
    let room : rest ≤ length front = omega (arith, ap length front_is, length-take-le size word (omega arith)) in
    let mid : take (at + rest) b1 ≡ take at b0 ++ take rest word =
    sym (take-take (at + rest) (at + size) b1 (omega arith))
    ∙ ap (take (at + rest)) e1
    ∙ ap (λ n. take (n + rest) (take at b0 ++ front)) (sym size_at)
    ∙ take-append-add (take at b0) front rest
    ∙ ap (λ l. take at b0 ++ take rest l) front_is
    ∙ ap (λ l. take at b0 ++ l) (take-take rest size word within) in
    let sum_at : at + length word ≡ at + rest + size = omega arith in
    ap (λ n. take n b2) sum_at
    ∙ e2
    ∙ ap (λ l. l ++ end) mid
    ∙ append_assoc (take at b0) (take rest word) end
    ∙ ap (λ l. take at b0 ++ (take rest word ++ l)) end_is
    ∙ ap (λ l. take at b0 ++ l) (take-append-drop rest word)

-- two texts, and three
pub two_placed : (t0 t1 t2 a b whole : List ℕ) → t1 ≡ t0 ++ a → t2 ≡ t1 ++ b → whole ≡ a ++ b → t2 ≡ t0 ++ whole
two_placed t0 t1 t2 a b whole e1 e2 is =
    e2 ∙ ap (λ l. l ++ b) e1 ∙ append_assoc t0 a b ∙ ap (λ l. t0 ++ l) (sym is)

pub three_placed : (t0 t1 t2 t3 a b d whole : List ℕ) → t1 ≡ t0 ++ a → t2 ≡ t1 ++ b → t3 ≡ t2 ++ d → whole ≡ a ++ (b ++ d) → t3 ≡ t0 ++ whole
three_placed t0 t1 t2 t3 a b d whole e1 e2 e3 is =
    two_placed t0 t1 t3 a (b ++ d) whole e1 (two_placed t1 t2 t3 b d (b ++ d) e2 e3 (λ i. b ++ d)) is

-- ---- a number's last digits stand behind the others

pub decimal_last : (n : ℕ) → 10 ≤ n → n < 2 ^ 64 → decimal n ≡ decimal (n / 10) ++ decimal (n % 10)
decimal_last n low high =
    decimal_step n low high ∙ ap (λ l. decimal (n / 10) ++ l) (sym (decimal_digit (n % 10) (omega arith)))

pub decimal_last_two : (n : ℕ) → 100 ≤ n → n < 2 ^ 64 → decimal n ≡ decimal (n / 100) ++ (decimal (n / 10 % 10) ++ decimal (n % 10))
decimal_last_two n low high =
    let tens : n / 10 / 10 ≡ n / 100 = omega arith in
    let first : decimal (n / 10) ≡ decimal (n / 100) ++ decimal (n / 10 % 10) =
    decimal_last (n / 10) (omega arith) (omega arith) ∙ ap (λ m. decimal m ++ decimal (n / 10 % 10)) tens in
    decimal_last n (omega arith) high ∙ ap (λ l. l ++ decimal (n % 10)) first ∙ append_assoc (decimal (n / 100)) (decimal (n / 10 % 10)) (decimal (n % 10))

pub decimal_last_three : (n : ℕ) → 1000 ≤ n → n < 2 ^ 64 → decimal n ≡ decimal (n / 1000) ++ (decimal (n / 100 % 10) ++ (decimal (n / 10 % 10) ++ decimal (n % 10)))
decimal_last_three n low high =
    let hundreds : n / 100 / 10 ≡ n / 1000 = omega arith in
    let first : decimal (n / 100) ≡ decimal (n / 1000) ++ decimal (n / 100 % 10) =
    decimal_last (n / 100) (omega arith) (omega arith) ∙ ap (λ m. decimal m ++ decimal (n / 100 % 10)) hundreds in
    let last = decimal (n / 10 % 10) ++ decimal (n % 10) in
    decimal_last_two n (omega arith) high ∙ ap (λ l. l ++ last) first ∙ append_assoc (decimal (n / 1000)) (decimal (n / 100 % 10)) last

pub decimal_last_four : (n : ℕ) → 10000 ≤ n → n < 2 ^ 64 → decimal n ≡ decimal (n / 10000) ++ last_four n
decimal_last_four n low high =
    let thousands : n / 1000 / 10 ≡ n / 10000 = omega arith in
    let first : decimal (n / 1000) ≡ decimal (n / 10000) ++ decimal (n / 1000 % 10) =
    decimal_last (n / 1000) (omega arith) (omega arith) ∙ ap (λ m. decimal m ++ decimal (n / 1000 % 10)) thousands in
    let last = decimal (n / 100 % 10) ++ (decimal (n / 10 % 10) ++ decimal (n % 10)) in
    decimal_last_three n (omega arith) high ∙ ap (λ l. l ++ last) first ∙ append_assoc (decimal (n / 10000)) (decimal (n / 1000 % 10)) last

pub decimal_of_four : (n : ℕ) → 1000 ≤ n → n < 10000 → decimal n ≡ last_four n
decimal_of_four n low high =
    let only : n / 1000 ≡ n / 1000 % 10 = omega arith in
    decimal_last_three n low (omega arith) ∙ ap (λ m. decimal m ++ (decimal (n / 100 % 10) ++ (decimal (n / 10 % 10) ++ decimal (n % 10)))) only

-- ---- a number of few digits, byte by byte

abbrev glyph : ℕ → ℕ
glyph n = 48 + n % 10

last_glyph : (n : ℕ) → decimal (n % 10) ≡ glyph n ∷ []
last_glyph n = decimal_digit (n % 10) (omega arith)

pub decimal_two : (n : ℕ) → 10 ≤ n → n < 100 → decimal n ≡ glyph (n / 10) ∷ glyph n ∷ []
decimal_two n low high =
    let only : n / 10 ≡ n / 10 % 10 = omega arith in
    decimal_last n low (omega arith) ∙ (λ i. decimal (only i) ++ last_glyph n i) ∙ ap (λ l. l ++ glyph n ∷ []) (last_glyph (n / 10))

pub decimal_three : (n : ℕ) → 100 ≤ n → n < 1000 → decimal n ≡ glyph (n / 100) ∷ glyph (n / 10) ∷ glyph n ∷ []
decimal_three n low high =
    let only : n / 100 ≡ n / 100 % 10 = omega arith in
    decimal_last_two n low (omega arith) ∙ (λ i. decimal (only i) ++ (last_glyph (n / 10) i ++ last_glyph n i)) ∙ ap (λ l. l ++ (glyph (n / 10) ∷ glyph n ∷ [])) (last_glyph (n / 100))

pub decimal_four : (n : ℕ) → 1000 ≤ n → n < 10000 → decimal n ≡ glyph (n / 1000) ∷ glyph (n / 100) ∷ glyph (n / 10) ∷ glyph n ∷ []
decimal_four n low high =
    decimal_of_four n low high ∙ (λ i. last_glyph (n / 1000) i ++ (last_glyph (n / 100) i ++ (last_glyph (n / 10) i ++ last_glyph n i)))
