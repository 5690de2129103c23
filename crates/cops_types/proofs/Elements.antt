-- Words on lists: what holds of each element, and which elements a list has.
use Rattle.std.proofs.Common.{◌≡◌, ℕ, ◌<◌, arith, length, Bool, true, false, cond, ◌&&◌, ◌||◌, List, [], ◌∷◌, ◌++◌, map, ◌⊎◌, inl, inr, refl, sym, ◌∙◌, ap, subst}
use Rattle.std.specs.Prelude.{Some, zero, suc, filter, find, slice_get}
use Rattle.std.specs.List.{AllByRecursion, list_any, list_all, flat_map, fold}
use Rattle.std.proofs.lemmas.List.Folds.{list_any-append}

pub or_left : (b c : Bool) → b ≡ true → (b || c) ≡ true
or_left true c e = refl
or_left false c e = cc

pub or_right : (b c : Bool) → c ≡ true → (b || c) ≡ true
or_right true c e = refl
or_right false c e = e

pub or_cases : (b c : Bool) → (b || c) ≡ true → (b ≡ true) ⊎ (c ≡ true)
or_cases true c e = inl refl
or_cases false c e = inr e

pub and_left : (b c : Bool) → (b && c) ≡ true → b ≡ true
and_left true c e = refl
and_left false c e = cc

pub and_right : (b c : Bool) → (b && c) ≡ true → c ≡ true
and_right true c e = e
and_right false c e = cc

pub and_true : (b c : Bool) → b ≡ true → c ≡ true → (b && c) ≡ true
and_true true c e f = f
and_true false c e f = cc

-- tests that imply each other are the same
pub same_test : (b c : Bool) → (b ≡ true → c ≡ true) → (c ≡ true → b ≡ true) → b ≡ c
same_test true c there back = sym (there refl)
same_test false true there back = back refl
same_test false false there back = refl

module _ {A : Type 0} where
  -- the element is in the list
  abbrev pub Among : A → List A → Type 0
  Among x [] = ⊥
  Among x (y ∷ ys) = (y ≡ x) ⊎ Among x ys

  pub Among-left : (x : A) (xs ys : List A) → Among x xs → Among x (xs ++ ys)
  Among-left x [] ys at = absurd at
  Among-left x (y ∷ xs) ys (inl e) = inl e
  Among-left x (y ∷ xs) ys (inr at) = inr (Among-left x xs ys at)

  pub Among-right : (x : A) (xs ys : List A) → Among x ys → Among x (xs ++ ys)
  Among-right x [] ys at = at
  Among-right x (y ∷ xs) ys at = inr (Among-right x xs ys at)

  pub Among-cases : (x : A) (xs ys : List A) → Among x (xs ++ ys) → Among x xs ⊎ Among x ys
  Among-cases x [] ys at = inr at
  Among-cases x (y ∷ xs) ys (inl e) = inl (inl e)
  Among-cases x (y ∷ xs) ys (inr at) = elim (Among-cases x xs ys at) [ inl a ↦ inl (inr a) | inr a ↦ inr a ]

  pub Among-find : (test : A → Bool) (x : A) (xs : List A) → find test xs ≡ Some x → Among x xs × (test x ≡ true)
  Among-find test x [] e = cc
  Among-find test x (y ∷ ys) e =
      elim (test y) as (λ b. test y ≡ b → cond b (Some y) (find test ys) ≡ Some x → Among x (y ∷ ys) × (test x ≡ true)) [
        | true ↦ λ is e. let same : y ≡ x = cc in (inl same, subst (λ z. test z ≡ true) same is)
        | false ↦ λ is e. let later = Among-find test x ys e in (inr later.0, later.1)
      ] refl e

  pub Among-filter : (test : A → Bool) (x : A) (xs : List A) → Among x (filter test xs) → Among x xs × (test x ≡ true)
  Among-filter test x [] at = absurd at
  Among-filter test x (y ∷ ys) at =
      elim (test y) as (λ b. test y ≡ b → Among x (cond b (y ∷ filter test ys) (filter test ys)) → Among x (y ∷ ys) × (test x ≡ true)) [
        | true ↦ λ is at. elim at [ inl e ↦ (inl e, subst (λ z. test z ≡ true) e is) | inr a ↦ let later = Among-filter test x ys a in (inr later.0, later.1) ]
        | false ↦ λ is at. let later = Among-filter test x ys at in (inr later.0, later.1)
      ] refl at

  pub filter-Among : (test : A → Bool) (x : A) (xs : List A) → Among x xs → test x ≡ true → Among x (filter test xs)
  filter-Among test x [] at is = absurd at
  filter-Among test x (y ∷ ys) (inl e) is = let there : test y ≡ true = ap test e ∙ is in rw there (inl e)
  filter-Among test x (y ∷ ys) (inr at) is =
      elim (test y) as (λ b. Among x (cond b (y ∷ filter test ys) (filter test ys))) [ true ↦ inr (filter-Among test x ys at is) | false ↦ filter-Among test x ys at is ]

  -- some element passes the test
  pub any_intro : (p : A → Bool) (x : A) (xs : List A) → Among x xs → p x ≡ true → list_any p xs ≡ true
  any_intro p x [] at is = absurd at
  any_intro p x (y ∷ ys) (inl e) is = or_left (p y) (list_any p ys) (ap p e ∙ is)
  any_intro p x (y ∷ ys) (inr at) is = or_right (p y) (list_any p ys) (any_intro p x ys at is)

  pub any_elim : {C : Type 0} (p : A → Bool) (xs : List A) → ((x : A) → Among x xs → p x ≡ true → C) → list_any p xs ≡ true → C
  any_elim p [] each e = cc
  any_elim p (x ∷ xs) each e =
      elim (or_cases (p x) (list_any p xs) e) [ inl is ↦ each x (inl refl) is | inr later ↦ any_elim p xs (λ y at is. each y (inr at) is) later ]

  pub list_any-flat_map : {B : Type 0} (p : A → Bool) (f : B → List A) (ys : List B) → list_any p (flat_map f ys) ≡ list_any (λ y. list_any p (f y)) ys
  list_any-flat_map p f [] = refl
  list_any-flat_map p f (y ∷ ys) = list_any-append p (f y) (flat_map f ys) ∙ ap (λ b. list_any p (f y) || b) (list_any-flat_map p f ys)

  -- what holds of each element
  pub Every-append : (P : A → Type 0) (xs ys : List A) → AllByRecursion P xs → AllByRecursion P ys → AllByRecursion P (xs ++ ys)
  Every-append P [] ys ps qs = qs
  Every-append P (x ∷ xs) ys ps qs = (ps.0, Every-append P xs ys ps.1 qs)

  pub Every-weaker : (P Q : A → Type 0) (xs : List A) → ((x : A) → Among x xs → P x → Q x) → AllByRecursion P xs → AllByRecursion Q xs
  Every-weaker P Q [] weaker ps = tt
  Every-weaker P Q (x ∷ xs) weaker ps = (weaker x (inl refl) ps.0, Every-weaker P Q xs (λ y at p. weaker y (inr at) p) ps.1)

  pub Every-at : (P : A → Type 0) (x : A) (xs : List A) → AllByRecursion P xs → Among x xs → P x
  Every-at P x [] ps at = absurd at
  Every-at P x (y ∷ ys) ps (inl e) = subst P e ps.0
  Every-at P x (y ∷ ys) ps (inr at) = Every-at P x ys ps.1 at

  pub Every-from : (P : A → Type 0) (xs : List A) → ((x : A) → Among x xs → P x) → AllByRecursion P xs
  Every-from P [] each = tt
  Every-from P (x ∷ xs) each = (each x (inl refl), Every-from P xs (λ y at. each y (inr at)))

  pub Every-find : (P : A → Type 0) (test : A → Bool) (x : A) (xs : List A) → AllByRecursion P xs → find test xs ≡ Some x → P x
  Every-find P test x xs ps found = Every-at P x xs ps (Among-find test x xs found).0

  pub Every-filter : (P : A → Type 0) (test : A → Bool) (xs : List A) → AllByRecursion P xs → AllByRecursion P (filter test xs)
  Every-filter P test xs ps = Every-from P (filter test xs) (λ x at. Every-at P x xs ps (Among-filter test x xs at).0)

  pub Every-map : {B : Type 0} (P : B → Type 0) (f : A → B) (xs : List A) → AllByRecursion (λ x. P (f x)) xs → AllByRecursion P (map f xs)
  Every-map P f [] ps = tt
  Every-map P f (x ∷ xs) ps = (ps.0, Every-map P f xs ps.1)

  pub fold-push : {B : Type 0} (f : B → A → B) (b : B) (xs : List A) (x : A) → fold f b (xs ++ x ∷ []) ≡ f (fold f b xs) x
  fold-push f b [] x = refl
  fold-push f b (y ∷ xs) x = fold-push f (f b y) xs x

  -- a test that each element passes, by either word for it
  pub all_true : (p : A → Bool) (xs : List A) → ((x : A) → Among x xs → p x ≡ true) → list_all p xs ≡ true
  all_true p [] each = refl
  all_true p (x ∷ xs) each = and_true (p x) (list_all p xs) (each x (inl refl)) (all_true p xs (λ y at. each y (inr at)))

  pub Every-true : (p : A → Bool) (xs : List A) → AllByRecursion (λ x. p x ≡ true) xs → list_all p xs ≡ true
  Every-true p xs each = all_true p xs (λ x at. Every-at (λ y. p y ≡ true) x xs each at)

-- ---- elements of a map, and at a place

pub Among-map : {A B : Type 0} (f : A → B) (x : A) (xs : List A) → Among x xs → Among (f x) (map f xs)
Among-map f x [] there = absurd there
Among-map f x (y ∷ xs) (inl e) = inl (ap f e)
Among-map f x (y ∷ xs) (inr there) = inr (Among-map f x xs there)

pub map-Among : {A B : Type 0} (f : A → B) (y : B) (xs : List A) → Among y (map f xs) → (x : A) × Among x xs × (f x ≡ y)
map-Among f y [] there = absurd there
map-Among f y (x ∷ xs) (inl e) = (x, inl refl, e)
map-Among f y (x ∷ xs) (inr there) = let found = map-Among f y xs there in (found.0, inr found.1, found.2)

pub slice_get-Among : {A : Type 0} (xs : List A) (i : ℕ) (x : A) → slice_get xs i ≡ Some x → Among x xs
slice_get-Among [] i x e = cc
slice_get-Among (y ∷ xs) zero x e = inl cc
slice_get-Among (y ∷ xs) (suc i) x e = inr (slice_get-Among xs i x e)

pub slice_get-within : {A : Type 0} (xs : List A) (i : ℕ) (x : A) → slice_get xs i ≡ Some x → i < length xs
slice_get-within [] i x e = cc
slice_get-within (y ∷ xs) zero x e = omega arith
slice_get-within (y ∷ xs) (suc i) x e = let later = slice_get-within xs i x e in omega arith
