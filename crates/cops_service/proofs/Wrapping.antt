-- Sums and products that wrap.
use Rattle.std.proofs.Common.{ℕ, zero, suc, ◌≡◌, ◌+◌, ◌*◌, ◌%◌, ◌<◌, ◌≤◌, ◌⊎◌, inl, inr, min, mul-suc, mul-zero, sym, ap, ◌∙◌, arith}
use Rattle.std.proofs.Math.Nat.{mod-add-mod}
use Rattle.std.proofs.lemmas.Nat.{mul-mod_first}
use Rattle.std.proofs.lemmas.Bool.Decides.{leb_tells}

-- a number that wrapped, times another, and a third
pub times_wrapped : (n a b m : ℕ) → (n % m * a % m + b) % m ≡ (n * a + b) % m
times_wrapped n a b m = ap (λ x. (x + b) % m) (mul-mod_first n a m) ∙ mod-add-mod (n * a) m b

-- two such steps
pub place_wrapped : (a b c d e m : ℕ) → ((a * b % m + c) % m * d % m + e) % m ≡ ((a * b + c) * d + e) % m
place_wrapped a b c d e m =
    ap (λ x. (x * d % m + e) % m) (mod-add-mod (a * b) m c)
    ∙ times_wrapped (a * b + c) d e m

-- what is at least a bound is at least the bound times more
at_least : (m c : ℕ) → m ≤ m * suc c
at_least m c = omega (arith, mul-suc)

-- a bound twice is a bound once
pub bounded_times : (x c m : ℕ) → min (min x m * c) m ≡ min (x * c) m
bounded_times x zero m = let none : min x m * zero ≡ x * zero = mul-zero (min x m) ∙ sym (mul-zero x) in ap (λ y. min y m) none
bounded_times x (suc c) m = elim (leb_tells x m) [
  | inl below ↦ let same : min x m ≡ x = omega arith in ap (λ y. min (y * suc c) m) same
  | inr above ↦
      let whole : min x m ≡ m = omega arith in
      let short : m ≤ m * suc c = at_least m c in
      let long : x ≤ x * suc c = at_least x c in
      let left : min (m * suc c) m ≡ m = omega arith in
      let right : m ≡ min (x * suc c) m = omega arith in
      ap (λ y. min (y * suc c) m) whole ∙ left ∙ right
]

-- the number of all places, each product of it within the bound
pub bounded_three : (x b c d m : ℕ) → min (min (min (x * b) m * c) m * d) m ≡ min (x * b * c * d) m
bounded_three x b c d m = ap (λ y. min (y * d) m) (bounded_times (x * b) c m) ∙ bounded_times (x * b * c) d m
