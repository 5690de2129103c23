-- How long the list of a context is after a put.
use Rattle.std.proofs.Common.{◌≡◌, ℕ, zero, suc, ◌+◌, ◌<◌, ◌≤◌, true, false, cond, ◌||◌, List, [], ◌∷◌, ◌++◌, length, map, get_or, inl, inr, sym, ◌∙◌, ap, arith, length-append, length-set}
use Rattle.std.specs.Prelude.{nat_lt}
use Rattle.std.specs.declared.cmp.Ordering.{Ordering}
use Rattle.std.specs.declared.cmp.Ordering.TheVariants.{Equal}
use Rattle.std.specs.Cmp.{Equal-is}
use Rattle.std.specs.Ordering.{is_eq, is_lt}
use Rattle.std.proofs.lemmas.Bool.Decides.{nat_tests}
use Rattle.std.proofs.lemmas.List.{length-map}
use Rattle.cops_types.specs.declared.pairs.Pair.{Pair}
use Rattle.cops_types.specs.Key.{key_cmp, key_eq}
use Rattle.cops_types.specs.Pairs.{IsDeps, greatest_per_key, has_key, version_of}
use Rattle.cops_types.specs.Search.{add_item, sorted_set}
use Rattle.cops_types.specs.Version.{version_max}
use Rattle.cops_types.proofs.Elements.{or_cases}
use Rattle.cops_types.proofs.GreatestLists.{greatest_per_key-set}
use Rattle.cops_types.proofs.KeyTests.{key_eq-refl, key_eq-true}
use Rattle.cops_types.proofs.PairLists.{key_eq-tie}

length-add_item : {A : Type 0} (cmp : A → A → Ordering) (x : A) (ys : List A) → length (add_item cmp x ys) ≤ suc (length ys)
length-add_item cmp x [] = omega arith
length-add_item cmp x (y ∷ ys) =
    elim (is_lt (cmp x y)) as (λ b. length (cond b (x ∷ y ∷ ys) (cond (is_eq (cmp x y)) (y ∷ ys) (y ∷ add_item cmp x ys))) ≤ suc (suc (length ys))) [
      | true ↦ omega arith
      | false ↦ elim (is_eq (cmp x y)) as (λ b. length (cond b (y ∷ ys) (y ∷ add_item cmp x ys)) ≤ suc (suc (length ys))) [
        | true ↦ omega arith
        | false ↦ (let more = length-add_item cmp x ys in omega arith)
      ]
    ]

length-sorted_set : {A : Type 0} (cmp : A → A → Ordering) (xs : List A) → length (sorted_set cmp xs) ≤ length xs
length-sorted_set cmp [] = omega arith
length-sorted_set cmp (x ∷ xs) = let rest = length-sorted_set cmp xs in let one = length-add_item cmp x (sorted_set cmp xs) in omega arith

length-greatest : (ps : List Pair) → length (greatest_per_key ps) ≤ length ps
length-greatest ps =
    let keys = map (λ (p : Pair). p.key) ps in
    let all : length (greatest_per_key ps) ≡ length (sorted_set key_cmp keys) = length-map (sorted_set key_cmp keys) (λ (key : List ℕ). record { key = key; version = version_of key ps }) in
    let same : length keys ≡ length ps = length-map ps (λ (p : Pair). p.key) in
    let few = length-sorted_set key_cmp keys in
    omega arith

-- the place of a key that is there
key_place : (ps : List Pair) (key : List ℕ) → has_key ps key ≡ true → (i : ℕ) × (i < length ps) × ((d : Pair) → (get_or ps i d).key ≡ key)
key_place [] key h = cc
key_place (p ∷ ps) key h = elim (or_cases (key_eq p.key key) (has_key ps key) h) [
  | inl here ↦ (zero, omega arith, λ d. key_eq-true p.key key here)
  | inr later ↦ (let found = key_place ps key later in (suc found.0, omega arith, found.2))
]

same_key : (key : List ℕ) → key_cmp key key ≡ Equal
same_key key = is_equal (key_cmp key key) (sym (key_eq-tie key key) ∙ key_eq-refl key)
  where
    is_equal : (o : Ordering) → is_eq o ≡ true → o ≡ Equal
    is_equal o e = (Equal-is o).0 e

-- if there was room for the put of a key, the list is still within the limit
pub put_within : (limit : ℕ) (ps : List Pair) (p : Pair) → IsDeps ps → length ps ≤ limit → (has_key ps p.key || nat_lt (length ps) limit) ≡ true → length (greatest_per_key (ps ++ p ∷ [])) ≤ limit
put_within limit ps p in_order within room = elim (or_cases (has_key ps p.key) (nat_lt (length ps) limit) room) [
  | inl has ↦
      let found = key_place ps p.key has in
      let v = version_max (get_or ps found.0 p).version p.version in
      let set_is = greatest_per_key-set ps found.0 p in_order found.1 (λ d. ap (λ k. key_cmp k p.key) (found.2 d) ∙ same_key p.key) in
      let same : length (greatest_per_key (ps ++ p ∷ [])) ≡ length ps = ap (λ (qs : List Pair). length qs) (sym set_is) ∙ length-set ps found.0 (record { key = p.key; version = v }) in
      omega arith
  | inr less ↦
      let small : length ps < limit = grind (arith, nat_tests) in
      let few = length-greatest (ps ++ p ∷ []) in
      let one : length (ps ++ p ∷ []) ≡ length ps + 1 = length-append ps (p ∷ []) in
      omega arith
]

-- a list with a key has a pair
pub some_pair : (ps : List Pair) (key : List ℕ) → has_key ps key ≡ true → 0 < length ps
some_pair ps key h = let found = key_place ps key h in omega arith
