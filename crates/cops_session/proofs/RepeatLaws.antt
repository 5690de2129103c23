-- Keys that are there twice.
use Rattle.std.proofs.Common.{◌≡◌, ℕ, suc, zero, ◌+◌, ◌<◌, ◌≤◌, Bool, true, false, ◌||◌, List, [], ◌∷◌, length, drop, get_or, refl, sym, ◌∙◌, ap, arith, add-one, drop-cons}
use Rattle.std.specs.Prelude.{nat_lt, if◌then◌else◌}
use Rattle.std.specs.List.{list_any}
use Rattle.std.specs.Cmp.{IsTotalOrder}
use Rattle.std.specs.declared.cmp.Ordering.{Ordering}
use Rattle.std.specs.declared.cmp.Ordering.TheVariants.{Less, Equal, Greater}
use Rattle.std.specs.Ordering.{eq_by_cmp}
use Rattle.std.proofs.lemmas.Bool.{false≢true}
use Rattle.std.proofs.lemmas.Bool.Decides.{nat_tests}
use Rattle.cops_types.specs.Key.{key_eq, key_cmp}
use Rattle.cops_types.specs.Search.{add_item, sorted_set}
use Rattle.cops_types.proofs.PairLists.{key_cmp_total, key_eq-tie}
use Rattle.cops_types.proofs.SortedSet.{AllAbove, Rises, Rises-sorted_set, contained-sorted_set}
use Rattle.cops_model.specs.Session.{has_repeats}
use Rattle.cops_session.specs.Stands.{AreDistinctKeys}

module _ {K : Type 0} {R : K → K → Ordering} (o : IsTotalOrder R) where
  none_above : (k : K) (ys : List K) → AllAbove o k ys → list_any (eq_by_cmp R k) ys ≡ false
  none_above k [] above = refl
  none_above k (y ∷ ys) above = rw above.0 (none_above k ys above.1)

  AllAbove-below : (k y : K) (ys : List K) → R k y ≡ Less → AllAbove o y ys → AllAbove o k ys
  AllAbove-below k y [] less above = tt
  AllAbove-below k y (z ∷ zs) less above = (o.trans k y z less above.0, AllAbove-below k y zs less above.1)

  length-add_item : (k : K) (ys : List K) → Rises o ys → length (add_item R k ys) ≡ (if list_any (eq_by_cmp R k) ys then length ys else length ys + 1)
  length-add_item k [] rises = refl
  length-add_item k (y ∷ ys) rises =
      elim (R k y) as (λ r. R k y ≡ r → length (add_item R k (y ∷ ys)) ≡ (if list_any (eq_by_cmp R k) (y ∷ ys) then length (y ∷ ys) else length (y ∷ ys) + 1)) [
        | Less ↦ λ is. rw (is, none_above k ys (AllAbove-below k y ys is rises.0)) (omega arith)
        | Equal ↦ λ is. rw is refl
        | Greater ↦ λ is. rw (is, length-add_item k ys rises.1) (by (list_any (eq_by_cmp R k) ys))
      ] refl
    where
      by : (b : Bool) → suc (if b then length ys else length ys + 1) ≡ (if b then suc (length ys) else suc (length ys) + 1)
      by true = refl
      by false = omega arith

-- some key comes again later
abbrev pub comes_again : List (List ℕ) → Bool
comes_again [] = false
comes_again (key ∷ keys) = list_any (key_eq key) keys || comes_again keys

any-tie : (key : List ℕ) (keys : List (List ℕ)) → list_any (key_eq key) keys ≡ list_any (eq_by_cmp key_cmp key) (sorted_set key_cmp keys)
any-tie key keys = (λ i. list_any (λ q. key_eq-tie key q i) keys) ∙ sym (contained-sorted_set key_cmp_total keys key)

length-sorted_set : (key : List ℕ) (keys : List (List ℕ)) →
    length (sorted_set key_cmp (key ∷ keys)) ≡ (if list_any (key_eq key) keys then length (sorted_set key_cmp keys) else length (sorted_set key_cmp keys) + 1)
length-sorted_set key keys = rw (any-tie key keys) (length-add_item key_cmp_total key (sorted_set key_cmp keys) (Rises-sorted_set key_cmp_total keys))

set_is_shorter : (keys : List (List ℕ)) → length (sorted_set key_cmp keys) ≤ length keys
set_is_shorter [] = omega arith
set_is_shorter (key ∷ keys) = by (list_any (key_eq key) keys) (length (sorted_set key_cmp (key ∷ keys))) (length (sorted_set key_cmp keys)) (length keys) (length-sorted_set key keys) (set_is_shorter keys)
  where
    by : (b : Bool) (a s n : ℕ) → a ≡ (if b then s else s + 1) → s ≤ n → a ≤ suc n
    by true a s n e le = omega (arith, e, le)
    by false a s n e le = omega (arith, e, le)

pub has_repeats-again : (keys : List (List ℕ)) → has_repeats keys ≡ comes_again keys
has_repeats-again [] = refl
has_repeats-again (key ∷ keys) =
    by (list_any (key_eq key) keys) (comes_again keys) (length (sorted_set key_cmp (key ∷ keys))) (length (sorted_set key_cmp keys)) (length keys) (length-sorted_set key keys) (set_is_shorter keys) (has_repeats-again keys)
  where
    one_more : (a s n : ℕ) → a ≡ s + 1 → nat_lt a (suc n) ≡ nat_lt s n
    one_more a s n e = grind (arith, nat_tests)

    by : (b again : Bool) (a s n : ℕ) → a ≡ (if b then s else s + 1) → s ≤ n → nat_lt s n ≡ again → nat_lt a (suc n) ≡ (b || again)
    by true again a s n e le h = grind (arith, nat_tests)
    by false again a s n e le h = one_more a s n e ∙ h

AreDistinct-again : (keys : List (List ℕ)) → comes_again keys ≡ false → AreDistinctKeys keys
AreDistinct-again [] none = tt
AreDistinct-again (key ∷ keys) none =
    let parts = neither (list_any (key_eq key) keys) (comes_again keys) none in
    (parts.0, AreDistinct-again keys parts.1)
  where
    neither : (b c : Bool) → (b || c) ≡ false → (b ≡ false) × (c ≡ false)
    neither false c e = (refl, e)
    neither true c e = absurd (false≢true (sym e))

pub AreDistinct-no_repeats : (keys : List (List ℕ)) → has_repeats keys ≡ false → AreDistinctKeys keys
AreDistinct-no_repeats keys none = AreDistinct-again keys (sym (has_repeats-again keys) ∙ none)

-- ---- the walk from the front

pub comes_again-here : (keys : List (List ℕ)) (i : ℕ) (key : List ℕ) → i < length keys → key ≡ get_or keys i key → list_any (key_eq key) (drop (i + 1) keys) ≡ true → comes_again (drop i keys) ≡ true
comes_again-here keys i key within is found =
    ap comes_again (drop-cons keys i key within ∙ ap (λ k. k ∷ drop (suc i) keys) (sym is)) ∙ rw (ap (λ n. list_any (key_eq key) (drop n keys)) (sym (add-one i)) ∙ found) refl

pub comes_again-later : (keys : List (List ℕ)) (i : ℕ) (key : List ℕ) → i < length keys → key ≡ get_or keys i key → list_any (key_eq key) (drop (i + 1) keys) ≡ false → comes_again (drop i keys) ≡ comes_again (drop (i + 1) keys)
comes_again-later keys i key within is not =
    ap comes_again (drop-cons keys i key within ∙ ap (λ k. k ∷ drop (suc i) keys) (sym is))
    ∙ rw (ap (λ n. list_any (key_eq key) (drop n keys)) (sym (add-one i)) ∙ not) (ap (λ n. comes_again (drop n keys)) (sym (add-one i)))

pub nothing_again : (keys : List (List ℕ)) (i : ℕ) → length keys ≤ i → comes_again (drop i keys) ≡ false
nothing_again [] zero past = refl
nothing_again [] (suc i) past = refl
nothing_again (key ∷ keys) zero past = absurd (omega arith)
nothing_again (key ∷ keys) (suc i) past = nothing_again keys i (omega arith)
