-- Two lists side by side, as far as the second goes.
use Rattle.std.proofs.Common.{◌≡◌, ◌≤◌, List, [], ◌∷◌, ◌++◌, length, drop, sym, subst, arith}
use Rattle.std.specs.Prelude.{Some, slice_get}

module _ {A B : Type 0} where
  -- each reply, as far as there are, is so related to what was asked
  abbrev pub Zipped : (A → B → Type 0) → List A → List B → Type 0
  Zipped R [] rs = Unit {0}
  Zipped R (q ∷ qs) [] = Unit {0}
  Zipped R (q ∷ qs) (r ∷ rs) = R q r × Zipped R qs rs

  pub Zipped-left : (R : A → B → Type 0) (qs more : List A) (rs : List B) → Zipped R (qs ++ more) rs → Zipped R qs rs
  Zipped-left R [] more rs z = tt
  Zipped-left R (q ∷ qs) more [] z = tt
  Zipped-left R (q ∷ qs) more (r ∷ rs) z = (z.0, Zipped-left R qs more rs z.1)

  pub Zipped-right : (R : A → B → Type 0) (qs more : List A) (rs : List B) → Zipped R (qs ++ more) rs → Zipped R more (drop (length qs) rs)
  Zipped-right R [] more rs z = z
  Zipped-right R (q ∷ qs) [] [] z = tt
  Zipped-right R (q ∷ qs) (m ∷ more) [] z = tt
  Zipped-right R (q ∷ qs) more (r ∷ rs) z = Zipped-right R qs more rs z.1

  -- no reply is beside what comes later
  pub Zipped-front : (R : A → B → Type 0) (qs more : List A) (rs : List B) → length rs ≤ length qs → Zipped R qs rs → Zipped R (qs ++ more) rs
  Zipped-front R [] [] rs within z = tt
  Zipped-front R [] (m ∷ more) [] within z = tt
  Zipped-front R [] (m ∷ more) (r ∷ rs) within z = absurd (omega arith)
  Zipped-front R (q ∷ qs) more [] within z = tt
  Zipped-front R (q ∷ qs) more (r ∷ rs) within z = (z.0, Zipped-front R qs more rs (omega arith) z.1)

  -- one more reply
  pub Zipped-push : (R : A → B → Type 0) (qs : List A) (rs : List B) (q : A) (r : B) → Zipped R qs rs → slice_get qs (length rs) ≡ Some q → R q r → Zipped R qs (rs ++ r ∷ [])
  Zipped-push R [] rs q r z at new = tt
  Zipped-push R (p ∷ qs) [] q r z at new = let same : p ≡ q = cc in (subst (λ s. R s r) (sym same) new, none qs)
    where
      none : (qs : List A) → Zipped R qs []
      none [] = tt
      none (q ∷ qs) = tt
  Zipped-push R (p ∷ qs) (s ∷ rs) q r z at new = (z.0, Zipped-push R qs rs q r z.1 at new)
