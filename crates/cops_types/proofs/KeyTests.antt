-- The test whether two keys are the same.
use Rattle.std.proofs.Common.{◌≡◌, ℕ, true, false, List, refl, sym, ◌∙◌, ap}
use Rattle.std.proofs.lemmas.Slice.Eq.{bytes_eq-Decides}
use Rattle.cops_types.specs.Key.{key_eq}

pub key_eq-true : (a b : List ℕ) → key_eq a b ≡ true → a ≡ b
key_eq-true a b e = (bytes_eq-Decides a b).0 e

pub key_eq-refl : (a : List ℕ) → key_eq a a ≡ true
key_eq-refl a = (bytes_eq-Decides a a).1 refl

pub key_eq-false : (a b : List ℕ) → key_eq a b ≡ false → key_eq b a ≡ false
key_eq-false a b e =
    elim (key_eq b a) as (λ t. key_eq b a ≡ t → t ≡ false) [
      | true ↦ λ is. let same : b ≡ a = key_eq-true b a is in sym (key_eq-refl a) ∙ ap (key_eq a) (sym same) ∙ e
      | false ↦ λ is. refl
    ] refl
