-- Elements of a list with those before them.
use Rattle.std.proofs.Common.{◌≡◌, ℕ, ◌<◌, arith, List, [], ◌∷◌, ◌++◌, map, length, refl, sym, ap, subst, append-nil, append_assoc}
use Rattle.std.specs.Prelude.{Some, zero, suc, slice_get}

module _ {A : Type 0} where
  -- each element stands so to those before it
  abbrev pub EachAfter : (List A → A → Type 0) → List A → List A → Type 0
  EachAfter P before [] = Unit {0}
  EachAfter P before (x ∷ xs) = P before x × EachAfter P (before ++ x ∷ []) xs

  pub each_after-push : (P : List A → A → Type 0) (before xs : List A) (x : A) → EachAfter P before xs → P (before ++ xs) x → EachAfter P before (xs ++ x ∷ [])
  each_after-push P before [] x each is = (subst (λ ys. P ys x) (append-nil before) is, tt)
  each_after-push P before (y ∷ xs) x each is = (each.0, each_after-push P (before ++ y ∷ []) xs x each.1 (subst (λ ys. P ys x) (sym (append_assoc before (y ∷ []) xs)) is))

  pub each_after-at : (P : List A → A → Type 0) (before front after : List A) (x : A) → EachAfter P before (front ++ x ∷ after) → P (before ++ front) x
  each_after-at P before [] after x each = subst (λ ys. P ys x) (sym (append-nil before)) each.0
  each_after-at P before (y ∷ front) after x each = subst (λ ys. P ys x) (append_assoc before (y ∷ []) front) (each_after-at P (before ++ y ∷ []) front after x each.1)

  -- a place of a list, with what stands before and after it
  pub record Place (xs : List A) (i : ℕ) (x : A) : Type 0 where
    pub before : List A
    pub after : List A
    pub whole : xs ≡ before ++ x ∷ after
    pub counted : length before ≡ i

  pub place_of : (xs : List A) (i : ℕ) (x : A) → slice_get xs i ≡ Some x → Place xs i x
  place_of [] i x at = cc
  place_of (y ∷ xs) zero x at = let same : y ≡ x = cc in record { before = []; after = xs; whole = ap (λ z. z ∷ xs) same; counted = refl }
  place_of (y ∷ xs) (suc i) x at =
      let later = place_of xs i x at in
      record { before = y ∷ later.before; after = later.after; whole = ap (λ zs. y ∷ zs) later.whole; counted = ap suc later.counted }

  -- what stands at an earlier place is before it
  pub get-left : (front rest : List A) (i : ℕ) (x : A) → slice_get (front ++ rest) i ≡ Some x → i < length front → slice_get front i ≡ Some x
  get-left [] rest i x at within = absurd (omega arith)
  get-left (y ∷ front) rest zero x at within = at
  get-left (y ∷ front) rest (suc i) x at within = get-left front rest i x at (omega arith)

  pub get-in_front : (front rest : List A) (i : ℕ) (x : A) → slice_get front i ≡ Some x → slice_get (front ++ rest) i ≡ Some x
  get-in_front [] rest i x at = cc
  get-in_front (y ∷ front) rest zero x at = at
  get-in_front (y ∷ front) rest (suc i) x at = get-in_front front rest i x at

  pub get-at : (front rest : List A) (x : A) → slice_get (front ++ x ∷ rest) (length front) ≡ Some x
  get-at [] rest x = refl
  get-at (y ∷ front) rest x = get-at front rest x

-- places of a map
pub map-get : {A B : Type 0} (f : A → B) (xs : List A) (i : ℕ) (x : A) → slice_get xs i ≡ Some x → slice_get (map f xs) i ≡ Some (f x)
map-get f [] i x at = cc
map-get f (y ∷ xs) zero x at = let same : y ≡ x = cc in ap (λ z. Some (f z)) same
map-get f (y ∷ xs) (suc i) x at = map-get f xs i x at

pub get-map : {A B : Type 0} (f : A → B) (xs : List A) (i : ℕ) (y : B) → slice_get (map f xs) i ≡ Some y → (x : A) × (slice_get xs i ≡ Some x) × (f x ≡ y)
get-map f [] i y at = cc
get-map f (x ∷ xs) zero y at = (x, refl, cc)
get-map f (x ∷ xs) (suc i) y at = get-map f xs i y at
