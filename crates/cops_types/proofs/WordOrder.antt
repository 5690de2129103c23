-- Texts that are compared eight bytes at a time, as numbers, and with zeros behind them.
use Rattle.std.proofs.Common.{◌≡◌, ℕ, Bool, true, false, not, ◌&&◌, zero, suc, ◌+◌, ◌*◌, ◌-◌, ◌<◌, ◌≤◌, List, [], ◌∷◌, ◌++◌, length, take, drop, replicate, refl, sym, ◌∙◌, ap, arith, Ordering, get_or, inl, inr, ◌⊎◌}
use Rattle.std.specs.Cmp.Lexicographic.{slice_cmp}
use Rattle.std.specs.Int.{w64, from_be_bytes}
use Rattle.std.specs.Ordering.{nat_cmp, ordering_index, ordering_then, MatchOrdering}
use Rattle.std.specs.declared.cmp.Ordering.TheVariants.{Less, Equal, Greater}
use Rattle.std.proofs.lemmas.Cmp.{ranked, tied_itself, nat_cmp_total, nat_list_cmp_total}
use Rattle.std.proofs.lemmas.List.{length-take-le, length-drop, take-take, drop-take, take-replicate, get_or-drop, drop_all, length-append, length-replicate}
use Rattle.std.proofs.lemmas.Bool.{false≢true, true≢false}
use Rattle.std.proofs.lemmas.Bool.Decides.{nat_tests}
use Rattle.std.specs.Bool.{◌==◌}
use Rattle.std.specs.List.{list_all}
use Rattle.cops_types.specs.BigEndian.{big_endian}
use Rattle.cops_types.specs.Key.{is_key, is_key_byte, is_name, key_cmp}
use Rattle.cops_types.specs.Padding.{IsPadded, padded, padded-take}
use Rattle.cops_types.proofs.Padded.{is_key-fits, is_name-fits}

-- ---- orders of numbers

is_Less : (x y : ℕ) (r : Ordering) → MatchOrdering r (x < y) (x ≡ y) (y < x) → x < y → r ≡ Less
is_Less x y Less h l = refl
is_Less x y Equal h l = let e : x ≡ y = h in absurd (omega arith)
is_Less x y Greater h l = let e : y < x = h in absurd (omega arith)

is_Greater : (x y : ℕ) (r : Ordering) → MatchOrdering r (x < y) (x ≡ y) (y < x) → y < x → r ≡ Greater
is_Greater x y Less h l = let e : x < y = h in absurd (omega arith)
is_Greater x y Equal h l = let e : x ≡ y = h in absurd (omega arith)
is_Greater x y Greater h l = refl

below : (x y : ℕ) → x < y → nat_cmp x y ≡ Less
below x y = is_Less x y (nat_cmp x y) (ranked x y (nat_cmp x y) refl)

above : (x y : ℕ) → y < x → nat_cmp x y ≡ Greater
above x y = is_Greater x y (nat_cmp x y) (ranked x y (nat_cmp x y) refl)

then_Equal : (p : Ordering) → ordering_then p Equal ≡ p
then_Equal Less = refl
then_Equal Equal = refl
then_Equal Greater = refl

then_assoc : (p q r : Ordering) → ordering_then p (ordering_then q r) ≡ ordering_then (ordering_then p q) r
then_assoc Less q r = refl
then_assoc Equal q r = refl
then_assoc Greater q r = refl

-- what a test says of an order
pub apart_by : (o : Ordering) (b : Bool) → b ≡ not (ordering_index o == 1) → b ≡ true → (o ≡ Equal → ⊥)
apart_by o b e t same = true≢false (sym t ∙ e ∙ ap (λ p. not (ordering_index p == 1)) same)

pub alike_by : (o : Ordering) (b : Bool) → b ≡ not (ordering_index o == 1) → b ≡ false → o ≡ Equal
alike_by Less b e f = absurd (true≢false (sym e ∙ f))
alike_by Equal b e f = refl
alike_by Greater b e f = absurd (true≢false (sym e ∙ f))

-- one that isn't `Equal` decides
stays : (o p : Ordering) → (o ≡ Equal → ⊥) → o ≡ ordering_then o p
stays Less p n = refl
stays Equal p n = absurd (n refl)
stays Greater p n = refl

-- one more digit each
digit : (n m x y : ℕ) → x < 256 → y < 256 → nat_cmp (n * 256 + x) (m * 256 + y) ≡ ordering_then (nat_cmp n m) (nat_cmp x y)
digit n m x y small other = by (nat_cmp n m) (ranked n m (nat_cmp n m) refl)
  where
    same : n ≡ m → (o : Ordering) → MatchOrdering o (x < y) (x ≡ y) (y < x) → nat_cmp (n * 256 + x) (m * 256 + y) ≡ o
    same e Less h = let l : x < y = h in below (n * 256 + x) (m * 256 + y) (omega arith)
    same e Equal h = (λ i. nat_cmp (e i * 256 + h i) (m * 256 + y)) ∙ tied_itself nat_cmp_total (m * 256 + y)
    same e Greater h = let l : y < x = h in above (n * 256 + x) (m * 256 + y) (omega arith)

    by : (o : Ordering) → MatchOrdering o (n < m) (n ≡ m) (m < n) → nat_cmp (n * 256 + x) (m * 256 + y) ≡ ordering_then o (nat_cmp x y)
    by Less h = let l : n < m = h in below (n * 256 + x) (m * 256 + y) (omega arith)
    by Equal h = same h (nat_cmp x y) (ranked x y (nat_cmp x y) refl)
    by Greater h = let l : m < n = h in above (n * 256 + x) (m * 256 + y) (omega arith)

-- ---- bytes as numbers

abbrev pub AreBytes : List ℕ → Type 0
AreBytes xs = (k : ℕ) → get_or xs k 0 < 256

-- lists of one length are ordered as the numbers that they spell
spelled : (a b : List ℕ) (n m : ℕ) → length a ≡ length b → AreBytes a → AreBytes b →
    nat_cmp (big_endian n a) (big_endian m b) ≡ ordering_then (nat_cmp n m) (slice_cmp nat_cmp a b)
spelled [] [] n m e f g = sym (then_Equal (nat_cmp n m))
spelled [] (y ∷ b) n m e f g = absurd (omega arith)
spelled (x ∷ a) [] n m e f g = absurd (omega arith)
spelled (x ∷ a) (y ∷ b) n m e f g =
    spelled a b (n * 256 + x) (m * 256 + y) (omega arith) (λ k. f (suc k)) (λ k. g (suc k))
    ∙ ap (λ o. ordering_then o (slice_cmp nat_cmp a b)) (digit n m x y (f 0) (g 0))
    ∙ sym (then_assoc (nat_cmp n m) (nat_cmp x y) (slice_cmp nat_cmp a b))

-- the number that eight bytes are read as
pub eight : (l : List ℕ) → length l ≡ 8 → from_be_bytes w64 l ≡ big_endian 0 l
eight [] e = absurd (omega arith)
eight (a ∷ []) e = absurd (omega arith)
eight (a ∷ b ∷ []) e = absurd (omega arith)
eight (a ∷ b ∷ c ∷ []) e = absurd (omega arith)
eight (a ∷ b ∷ c ∷ d ∷ []) e = absurd (omega arith)
eight (a ∷ b ∷ c ∷ d ∷ p ∷ []) e = absurd (omega arith)
eight (a ∷ b ∷ c ∷ d ∷ p ∷ q ∷ []) e = absurd (omega arith)
eight (a ∷ b ∷ c ∷ d ∷ p ∷ q ∷ r ∷ []) e = absurd (omega arith)
eight (a ∷ b ∷ c ∷ d ∷ p ∷ q ∷ r ∷ s ∷ []) e = omega arith
eight (a ∷ b ∷ c ∷ d ∷ p ∷ q ∷ r ∷ s ∷ t ∷ l) e = absurd (omega arith)

-- ---- parts of lists

-- a list in order before another in its first j items is so as a whole
whole_first : (j : ℕ) (xs ys : List ℕ) → j ≤ length xs → j ≤ length ys →
    slice_cmp nat_cmp xs ys ≡ ordering_then (slice_cmp nat_cmp (take j xs) (take j ys)) (slice_cmp nat_cmp xs ys)
whole_first zero xs ys p q = refl
whole_first (suc j) [] ys p q = absurd (omega arith)
whole_first (suc j) (x ∷ xs) [] p q = absurd (omega arith)
whole_first (suc j) (x ∷ xs) (y ∷ ys) p q = by (nat_cmp x y) (whole_first j xs ys (omega arith) (omega arith))
  where
    by : (o : Ordering) → slice_cmp nat_cmp xs ys ≡ ordering_then (slice_cmp nat_cmp (take j xs) (take j ys)) (slice_cmp nat_cmp xs ys) →
        ordering_then o (slice_cmp nat_cmp xs ys) ≡ ordering_then (ordering_then o (slice_cmp nat_cmp (take j xs) (take j ys))) (ordering_then o (slice_cmp nat_cmp xs ys))
    by Less rest = refl
    by Equal rest = rest
    by Greater rest = refl

-- the first j items decide, or else those from k on, if k is no more than j
by_parts : (j k : ℕ) (xs ys : List ℕ) → k ≤ j → j ≤ length xs → j ≤ length ys →
    slice_cmp nat_cmp xs ys ≡ ordering_then (slice_cmp nat_cmp (take j xs) (take j ys)) (slice_cmp nat_cmp (drop k xs) (drop k ys))
by_parts j zero xs ys l p q = whole_first j xs ys p q
by_parts zero (suc k) xs ys l p q = absurd (omega arith)
by_parts (suc j) (suc k) [] ys l p q = absurd (omega arith)
by_parts (suc j) (suc k) (x ∷ xs) [] l p q = absurd (omega arith)
by_parts (suc j) (suc k) (x ∷ xs) (y ∷ ys) l p q =
    ap (ordering_then (nat_cmp x y)) (by_parts j k xs ys (omega arith) (omega arith) (omega arith))
    ∙ then_assoc (nat_cmp x y) (slice_cmp nat_cmp (take j xs) (take j ys)) (slice_cmp nat_cmp (drop k xs) (drop k ys))

AreBytes-drop : (n : ℕ) (xs : List ℕ) → AreBytes xs → AreBytes (drop n xs)
AreBytes-drop n xs h k = rw (get_or-drop n xs k 0) (h (n + k))

AreBytes-take : (n : ℕ) (xs : List ℕ) → AreBytes xs → AreBytes (take n xs)
AreBytes-take zero xs h k = omega arith
AreBytes-take (suc n) [] h k = omega arith
AreBytes-take (suc n) (x ∷ xs) h zero = h 0
AreBytes-take (suc n) (x ∷ xs) h (suc k) = AreBytes-take n xs (λ i. h (suc i)) k

-- the first bytes of two lists are ordered as the number of the first eight, and if these are the same as that of eight from `second` on
fronts : (xs ys : List ℕ) (second : ℕ) → second ≤ 8 → second + 8 ≤ length xs → second + 8 ≤ length ys → AreBytes xs → AreBytes ys →
    ordering_then (nat_cmp (big_endian 0 (take 8 (drop 0 xs))) (big_endian 0 (take 8 (drop 0 ys)))) (nat_cmp (big_endian 0 (take 8 (drop second xs))) (big_endian 0 (take 8 (drop second ys))))
    ≡ slice_cmp nat_cmp (take (second + 8) xs) (take (second + 8) ys)
fronts xs ys second l p q f g =
    (λ i. ordering_then (number 0 (omega arith) i) (number second (omega arith) i))
    ∙ (λ i. ordering_then (slice_cmp nat_cmp (sym (first xs) i) (sym (first ys) i)) (slice_cmp nat_cmp (sym (drop-take second 8 xs) i) (sym (drop-take second 8 ys) i)))
    ∙ sym (by_parts 8 second (take (second + 8) xs) (take (second + 8) ys) l (long xs p) (long ys q))
  where
    first : (zs : List ℕ) → take 8 (take (second + 8) zs) ≡ take 8 (drop 0 zs)
    first zs = take-take 8 (second + 8) zs (omega arith)

    long : (zs : List ℕ) → second + 8 ≤ length zs → 8 ≤ length (take (second + 8) zs)
    long zs r = omega (arith, length-take-le (second + 8) zs r)

    bytes : (zs : List ℕ) (at : ℕ) → AreBytes zs → AreBytes (take 8 (drop at zs))
    bytes zs at h = AreBytes-take 8 (drop at zs) (AreBytes-drop at zs h)

    size : (zs : List ℕ) (at : ℕ) → at ≤ 8 → at + 8 ≤ length zs → length (take 8 (drop at zs)) ≡ 8
    size zs at r s = length-take-le 8 (drop at zs) (omega (arith, length-drop at zs))

    number : (at : ℕ) → at ≤ second → nat_cmp (big_endian 0 (take 8 (drop at xs))) (big_endian 0 (take 8 (drop at ys))) ≡ slice_cmp nat_cmp (take 8 (drop at xs)) (take 8 (drop at ys))
    number at r = spelled (take 8 (drop at xs)) (take 8 (drop at ys)) 0 0 (size xs at (omega arith) (omega arith) ∙ sym (size ys at (omega arith) (omega arith))) (bytes xs at f) (bytes ys at g)

pub fronts_alike : (xs ys : List ℕ) (second : ℕ) (o r : Ordering) → second ≤ 8 → second + 8 ≤ length xs → second + 8 ≤ length ys → AreBytes xs → AreBytes ys →
    o ≡ nat_cmp (big_endian 0 (take 8 (drop 0 xs))) (big_endian 0 (take 8 (drop 0 ys))) → o ≡ Equal →
    r ≡ nat_cmp (big_endian 0 (take 8 (drop second xs))) (big_endian 0 (take 8 (drop second ys))) →
    r ≡ slice_cmp nat_cmp (take (second + 8) xs) (take (second + 8) ys)
fronts_alike xs ys second o r l p q f g is alike e =
    e ∙ ap (λ o. ordering_then o (nat_cmp (big_endian 0 (take 8 (drop second xs))) (big_endian 0 (take 8 (drop second ys))))) (sym alike ∙ is)
    ∙ fronts xs ys second l p q f g

pub fronts_apart : (xs ys : List ℕ) (second : ℕ) (o : Ordering) → second ≤ 8 → second + 8 ≤ length xs → second + 8 ≤ length ys → AreBytes xs → AreBytes ys →
    o ≡ nat_cmp (big_endian 0 (take 8 (drop 0 xs))) (big_endian 0 (take 8 (drop 0 ys))) → (o ≡ Equal → ⊥) →
    o ≡ slice_cmp nat_cmp (take (second + 8) xs) (take (second + 8) ys)
fronts_apart xs ys second o l p q f g is apart = stays o next apart ∙ ap (λ o. ordering_then o next) is ∙ fronts xs ys second l p q f g
  where
    next : Ordering
    next = nat_cmp (big_endian 0 (take 8 (drop second xs))) (big_endian 0 (take 8 (drop second ys)))

-- eight more bytes decide, if those before do not
eight_more : (xs ys : List ℕ) (at : ℕ) → at + 8 ≤ length xs → at + 8 ≤ length ys → AreBytes xs → AreBytes ys →
    slice_cmp nat_cmp (take (at + 8) xs) (take (at + 8) ys)
    ≡ ordering_then (slice_cmp nat_cmp (take at xs) (take at ys)) (nat_cmp (big_endian 0 (take 8 (drop at xs))) (big_endian 0 (take 8 (drop at ys))))
eight_more xs ys at p q f g =
    by_parts at at (take (at + 8) xs) (take (at + 8) ys) (omega arith) (long xs p) (long ys q)
    ∙ (λ i. ordering_then (slice_cmp nat_cmp (first xs i) (first ys i)) (slice_cmp nat_cmp (drop-take at 8 xs i) (drop-take at 8 ys i)))
    ∙ ap (ordering_then (slice_cmp nat_cmp (take at xs) (take at ys))) (sym number)
  where
    first : (zs : List ℕ) → take at (take (at + 8) zs) ≡ take at zs
    first zs = take-take at (at + 8) zs (omega arith)

    long : (zs : List ℕ) → at + 8 ≤ length zs → at ≤ length (take (at + 8) zs)
    long zs r = omega (arith, length-take-le (at + 8) zs r)

    size : (zs : List ℕ) → at + 8 ≤ length zs → length (take 8 (drop at zs)) ≡ 8
    size zs r = length-take-le 8 (drop at zs) (omega (arith, length-drop at zs))

    number : nat_cmp (big_endian 0 (take 8 (drop at xs))) (big_endian 0 (take 8 (drop at ys))) ≡ slice_cmp nat_cmp (take 8 (drop at xs)) (take 8 (drop at ys))
    number = spelled (take 8 (drop at xs)) (take 8 (drop at ys)) 0 0 (size xs p ∙ sym (size ys q)) (AreBytes-take 8 (drop at xs) (AreBytes-drop at xs f)) (AreBytes-take 8 (drop at ys) (AreBytes-drop at ys g))

-- one more word that is the same
pub words_alike : (xs ys : List ℕ) (word : ℕ) (o : Ordering) → (word + 1) * 8 ≤ length xs → (word + 1) * 8 ≤ length ys → AreBytes xs → AreBytes ys →
    slice_cmp nat_cmp (take (word * 8) xs) (take (word * 8) ys) ≡ Equal →
    o ≡ nat_cmp (big_endian 0 (take 8 (drop (word * 8) xs))) (big_endian 0 (take 8 (drop (word * 8) ys))) → o ≡ Equal →
    slice_cmp nat_cmp (take ((word + 1) * 8) xs) (take ((word + 1) * 8) ys) ≡ Equal
words_alike xs ys word o p q f g before is alike =
    let next : (word + 1) * 8 ≡ word * 8 + 8 = omega arith in
    (λ i. slice_cmp nat_cmp (take (next i) xs) (take (next i) ys))
    ∙ eight_more xs ys (word * 8) (omega arith) (omega arith) f g
    ∙ (λ i. ordering_then (before i) (sym is i))
    ∙ alike

-- the first word that differs decides
pub words_apart : (xs ys : List ℕ) (word words : ℕ) (o : Ordering) → word < words → words * 8 ≤ length xs → words * 8 ≤ length ys → AreBytes xs → AreBytes ys →
    slice_cmp nat_cmp (take (word * 8) xs) (take (word * 8) ys) ≡ Equal →
    o ≡ nat_cmp (big_endian 0 (take 8 (drop (word * 8) xs))) (big_endian 0 (take 8 (drop (word * 8) ys))) → (o ≡ Equal → ⊥) →
    o ≡ slice_cmp nat_cmp (take (words * 8) xs) (take (words * 8) ys)
words_apart xs ys word words o l p q f g before is apart =
    stays o whole apart
    ∙ ap (λ r. ordering_then r whole) (sym decided)
    ∙ (λ i. ordering_then (slice_cmp nat_cmp (first xs i) (first ys i)) whole)
    ∙ sym (whole_first (word * 8 + 8) (take (words * 8) xs) (take (words * 8) ys) (long xs p) (long ys q))
  where
    whole : Ordering
    whole = slice_cmp nat_cmp (take (words * 8) xs) (take (words * 8) ys)

    decided : slice_cmp nat_cmp (take (word * 8 + 8) xs) (take (word * 8 + 8) ys) ≡ o
    decided = eight_more xs ys (word * 8) (omega arith) (omega arith) f g ∙ (λ i. ordering_then (before i) (sym is i))

    first : (zs : List ℕ) → take (word * 8 + 8) zs ≡ take (word * 8 + 8) (take (words * 8) zs)
    first zs = sym (take-take (word * 8 + 8) (words * 8) zs (omega arith))

    long : (zs : List ℕ) → words * 8 ≤ length zs → word * 8 + 8 ≤ length (take (words * 8) zs)
    long zs r = omega (arith, length-take-le (words * 8) zs r)

-- ---- zeros behind

abbrev pub ArePositive : List ℕ → Type 0
ArePositive xs = (k : ℕ) → k < length xs → 0 < get_or xs k 0

-- with zeros behind them, lists of positive items are ordered as without
pads : (n : ℕ) (a b : List ℕ) (m l : ℕ) → n ≤ length a + m → n ≤ length b + l → ArePositive a → ArePositive b →
    slice_cmp nat_cmp a b ≡ ordering_then (slice_cmp nat_cmp (take n (a ++ replicate m 0)) (take n (b ++ replicate l 0))) (slice_cmp nat_cmp (drop n a) (drop n b))
pads zero a b m l p q f g = refl
pads (suc n) [] [] m l p q f g =
    sym ((λ i. ordering_then (slice_cmp nat_cmp (take-replicate (suc n) m 0 (omega arith) i) (take-replicate (suc n) l 0 (omega arith) i)) Equal)
    ∙ then_Equal _ ∙ tied_itself nat_list_cmp_total (replicate (suc n) 0))
pads (suc n) [] (y ∷ b) zero l p q f g = absurd (omega arith)
pads (suc n) [] (y ∷ b) (suc m) l p q f g = rw (below 0 y (g 0 (omega arith))) refl
pads (suc n) (x ∷ a) [] m zero p q f g = absurd (omega arith)
pads (suc n) (x ∷ a) [] m (suc l) p q f g = rw (above x 0 (f 0 (omega arith))) refl
pads (suc n) (x ∷ a) (y ∷ b) m l p q f g =
    ap (ordering_then (nat_cmp x y)) (pads n a b m l (omega arith) (omega arith) (λ k h. f (suc k) (omega arith)) (λ k h. g (suc k) (omega arith)))
    ∙ then_assoc (nat_cmp x y) _ _

-- ---- keys, as they are kept

key_byte-positive : (b : ℕ) → is_key_byte b ≡ true → 0 < b
key_byte-positive b is = grind (arith, nat_tests)

-- the bytes of a key are above 0
key_bytes-positive : (xs : List ℕ) → list_all is_key_byte xs ≡ true → ArePositive xs
key_bytes-positive [] h k l = absurd (omega arith)
key_bytes-positive (x ∷ xs) h k l = by (is_key_byte x) refl h (key_bytes-positive xs) k l
  where
    by : (b : Bool) → is_key_byte x ≡ b → b && list_all is_key_byte xs ≡ true → (list_all is_key_byte xs ≡ true → ArePositive xs) → ArePositive (x ∷ xs)
    by false is h rest k l = absurd (false≢true h)
    by true is h rest zero l = key_byte-positive x is
    by true is h rest (suc k) l = rest h k (omega arith)

key-positive : (xs : List ℕ) → is_key xs ≡ true → ArePositive xs
key-positive xs is = key_bytes-positive xs (grind (arith, nat_tests))

-- two padded texts are ordered by the first n cells, and then by what is left of the texts
pub padded_cmp : (n c d : ℕ) (a b : List ℕ) → n ≤ c → n ≤ d → length a ≤ c → length b ≤ d → is_key a ≡ true → is_key b ≡ true →
    key_cmp a b ≡ ordering_then (slice_cmp nat_cmp (take n (padded c a)) (take n (padded d b))) (slice_cmp nat_cmp (drop n a) (drop n b))
padded_cmp n c d a b l m p q f g = pads n a b (c - length a) (d - length b) (omega arith) (omega arith) (key-positive a f) (key-positive b g)

-- the first cells of a key and those of another decide, if they differ or hold both keys
pub cells_decide : (most : ℕ) (b c : List ℕ) (m n : ℕ) (o : Ordering) → most ≤ 64 → IsPadded 64 is_key b m → IsPadded 64 is_key c n →
    o ≡ slice_cmp nat_cmp (take most b) (take most c) → ((o ≡ Equal → ⊥) ⊎ ((m ≤ most) × (n ≤ most))) → o ≡ key_cmp (take m b) (take n c)
cells_decide most b c m n o within h k is decided = by decided ∙ sym whole
  where
    whole : key_cmp (take m b) (take n c) ≡ ordering_then o (slice_cmp nat_cmp (drop most (take m b)) (drop most (take n c)))
    whole =
        padded_cmp most 64 64 (take m b) (take n c) within within (omega (arith, (padded-take 64 is_key b m h).1, h.fits)) (omega (arith, (padded-take 64 is_key c n k).1, k.fits)) h.formed k.formed
        ∙ (λ i. ordering_then (slice_cmp nat_cmp (take most ((padded-take 64 is_key b m h).0 i)) (take most ((padded-take 64 is_key c n k).0 i))) (slice_cmp nat_cmp (drop most (take m b)) (drop most (take n c))))
        ∙ ap (λ p. ordering_then p (slice_cmp nat_cmp (drop most (take m b)) (drop most (take n c)))) (sym is)

    by : ((o ≡ Equal → ⊥) ⊎ ((m ≤ most) × (n ≤ most))) → o ≡ ordering_then o (slice_cmp nat_cmp (drop most (take m b)) (drop most (take n c)))
    by (inl apart) = stays o _ apart
    by (inr short) =
        sym (then_Equal o)
        ∙ (λ i. ordering_then o (slice_cmp nat_cmp (sym (drop_all most (take m b) (omega (arith, (padded-take 64 is_key b m h).1, short.0))) i) (sym (drop_all most (take n c) (omega (arith, (padded-take 64 is_key c n k).1, short.1))) i)))

is_name-key : (name : List ℕ) → is_name name ≡ true → is_key name ≡ true
is_name-key name is = grind (arith, nat_tests)

-- the cells of a name and those of another decide
pub name_cells_decide : (b c : List ℕ) (m n : ℕ) (o : Ordering) → IsPadded 16 is_name b m → IsPadded 16 is_name c n →
    o ≡ slice_cmp nat_cmp (take 16 b) (take 16 c) → o ≡ key_cmp (take m b) (take n c)
name_cells_decide b c m n o h k is = is ∙ sym whole
  where
    whole : key_cmp (take m b) (take n c) ≡ slice_cmp nat_cmp (take 16 b) (take 16 c)
    whole =
        padded_cmp 16 16 16 (take m b) (take n c) (omega arith) (omega arith) (is_name-fits (take m b) h.formed) (is_name-fits (take n c) k.formed) (is_name-key (take m b) h.formed) (is_name-key (take n c) k.formed)
        ∙ (λ i. ordering_then (slice_cmp nat_cmp (take 16 ((padded-take 16 is_name b m h).0 i)) (take 16 ((padded-take 16 is_name c n k).0 i))) (slice_cmp nat_cmp (drop_all 16 (take m b) (is_name-fits (take m b) h.formed) i) (drop_all 16 (take n c) (is_name-fits (take n c) k.formed) i)))
        ∙ then_Equal _

-- a short key and another
short_cells_cmp : (cells key front : List ℕ) (len : ℕ) (o : Ordering) → IsPadded 15 is_key cells len → is_key key ≡ true → front ≡ take 15 (padded 64 key) →
    o ≡ slice_cmp nat_cmp (take 15 cells) (take 15 front) →
    key_cmp (take len cells) key ≡ ordering_then o (slice_cmp nat_cmp [] (drop 15 key))
short_cells_cmp cells key front len o h is shown e =
    padded_cmp 15 15 64 (take len cells) key (omega arith) (omega arith) (omega (arith, (padded-take 15 is_key cells len h).1, h.fits)) (is_key-fits key is) h.formed is
    ∙ (λ i. ordering_then (slice_cmp nat_cmp (take 15 ((padded-take 15 is_key cells len h).0 i)) (take 15 (padded 64 key))) (slice_cmp nat_cmp (drop_all 15 (take len cells) (omega (arith, (padded-take 15 is_key cells len h).1, h.fits)) i) (drop 15 key)))
    ∙ ap (λ p. ordering_then p (slice_cmp nat_cmp [] (drop 15 key))) (sym (e ∙ ap (λ l. slice_cmp nat_cmp (take 15 cells) (take 15 l)) shown ∙ ap (slice_cmp nat_cmp (take 15 cells)) (take-take 15 15 (padded 64 key) (omega arith))))

pub short_before : (cells key front : List ℕ) (len : ℕ) (o : Ordering) → IsPadded 15 is_key cells len → is_key key ≡ true → front ≡ take 15 (padded 64 key) →
    o ≡ slice_cmp nat_cmp (take 15 cells) (take 15 front) → o ≡ Equal → 15 < length key → Less ≡ key_cmp (take len cells) key
short_before cells key front len o h is shown e alike more = sym (short_cells_cmp cells key front len o h is shown e ∙ ap (λ p. ordering_then p (slice_cmp nat_cmp [] (drop 15 key))) alike ∙ first (drop 15 key) (omega (arith, length-drop 15 key)))
  where
    first : (l : List ℕ) → 0 < length l → slice_cmp nat_cmp [] l ≡ Less
    first [] p = absurd (omega arith)
    first (x ∷ l) p = refl

pub short_decided : (cells key front : List ℕ) (len : ℕ) (o : Ordering) → IsPadded 15 is_key cells len → is_key key ≡ true → front ≡ take 15 (padded 64 key) →
    o ≡ slice_cmp nat_cmp (take 15 cells) (take 15 front) → ((o ≡ Equal → ⊥) ⊎ (length key ≤ 15)) → o ≡ key_cmp (take len cells) key
short_decided cells key front len o h is shown e decided = by decided ∙ sym (short_cells_cmp cells key front len o h is shown e)
  where
    by : ((o ≡ Equal → ⊥) ⊎ (length key ≤ 15)) → o ≡ ordering_then o (slice_cmp nat_cmp [] (drop 15 key))
    by (inl apart) = stays o _ apart
    by (inr short) = sym (then_Equal o) ∙ (λ i. ordering_then o (slice_cmp nat_cmp [] (sym (drop_all 15 key short) i)))

pub front_size : (key front : List ℕ) → is_key key ≡ true → front ≡ take 15 (padded 64 key) → 15 ≤ length front
front_size key front is e =
    let fits = is_key-fits key is in
    let size : length (padded 64 key) ≡ 64 = length-append key (replicate (64 - length key) 0) ∙ omega (arith, length-replicate {A = ℕ} (64 - length key) 0) in
    omega (arith, ap length e, length-take-le 15 (padded 64 key) (omega arith))

-- the cells of two short keys decide
pub shorts_decide : (b c : List ℕ) (m n : ℕ) (o : Ordering) → IsPadded 15 is_key b m → IsPadded 15 is_key c n →
    o ≡ slice_cmp nat_cmp (take 15 b) (take 15 c) → o ≡ key_cmp (take m b) (take n c)
shorts_decide b c m n o h k is = is ∙ sym whole
  where
    fits : (cells : List ℕ) (len : ℕ) → IsPadded 15 is_key cells len → length (take len cells) ≤ 15
    fits cells len p = omega (arith, (padded-take 15 is_key cells len p).1, p.fits)

    whole : key_cmp (take m b) (take n c) ≡ slice_cmp nat_cmp (take 15 b) (take 15 c)
    whole =
        padded_cmp 15 15 15 (take m b) (take n c) (omega arith) (omega arith) (fits b m h) (fits c n k) h.formed k.formed
        ∙ (λ i. ordering_then (slice_cmp nat_cmp (take 15 ((padded-take 15 is_key b m h).0 i)) (take 15 ((padded-take 15 is_key c n k).0 i))) (slice_cmp nat_cmp (drop_all 15 (take m b) (fits b m h) i) (drop_all 15 (take n c) (fits c n k) i)))
        ∙ then_Equal _
