-- The keys of a transaction are distinct, and so are what it reads of them.
use Rattle.std.proofs.Common.{◌≡◌, ℕ, ◌≤◌, true, false, cond, List, [], ◌∷◌, length, inl, inr, refl, sym, ◌∙◌, ap, subst, arith}
use Rattle.std.specs.Prelude.{suc}
use Rattle.std.specs.List.{list_any}
use Rattle.std.specs.Ordering.{eq_by_cmp, is_lt, is_eq}
use Rattle.std.proofs.lemmas.Bool.Decides.{nat_tests}
use Rattle.cops_types.specs.declared.contexts.ReadParts.{ReadParts as Read}
use Rattle.cops_types.specs.Key.{key_cmp}
use Rattle.cops_types.specs.Search.{add_item, sorted_set}
use Rattle.cops_types.proofs.PairLists.{key_cmp_total, key_cmp-IsAntisymmetric}
use Rattle.cops_types.proofs.SortedSet.{sorted_set-same}
use Rattle.cops_model.specs.declared.calls.NodeReply.{NodeReply}
use Rattle.cops_model.specs.declared.calls.NodeReply.TheVariants.{Found}
use Rattle.cops_model.specs.Session.{has_repeats}
use Rattle.cops_model.specs.Transaction.{read_of, reads_of}
use Rattle.cops_types.proofs.Elements.{Among, any_intro, or_cases, or_right, same_test}

abbrev pub IsDistinct : List (List ℕ) → Type 0
IsDistinct [] = Unit {0}
IsDistinct (key ∷ keys) = (Among key keys → ⊥) × IsDistinct keys

-- a key that is there adds nothing to the set
set-again : (key : List ℕ) (keys : List (List ℕ)) → Among key keys → sorted_set key_cmp (key ∷ keys) ≡ sorted_set key_cmp keys
set-again key keys there =
    sorted_set-same key_cmp_total key_cmp-IsAntisymmetric (key ∷ keys) keys
    (λ q. same_test (list_any (eq_by_cmp key_cmp q) (key ∷ keys)) (list_any (eq_by_cmp key_cmp q) keys)
    (λ e. elim (or_cases (eq_by_cmp key_cmp q key) (list_any (eq_by_cmp key_cmp q) keys) e) [
      | inl is ↦ any_intro (eq_by_cmp key_cmp q) key keys there is
      | inr later ↦ later
    ])
    (λ e. or_right (eq_by_cmp key_cmp q key) (list_any (eq_by_cmp key_cmp q) keys) e))

-- a key more adds one at most
add-one_more : (key : List ℕ) (keys : List (List ℕ)) → length (add_item key_cmp key keys) ≤ suc (length keys)
add-one_more key [] = omega arith
add-one_more key (k ∷ keys) =
    let later = add-one_more key keys in
    elim (is_lt (key_cmp key k)) as (λ b. length (cond b (key ∷ k ∷ keys) (cond (is_eq (key_cmp key k)) (k ∷ keys) (k ∷ add_item key_cmp key keys))) ≤ suc (length (k ∷ keys))) [
      | true ↦ omega arith
      | false ↦ elim (is_eq (key_cmp key k)) as (λ b. length (cond b (k ∷ keys) (k ∷ add_item key_cmp key keys)) ≤ suc (length (k ∷ keys))) [
        | true ↦ omega arith
        | false ↦ omega arith
      ]
    ]

set-shorter : (keys : List (List ℕ)) → length (sorted_set key_cmp keys) ≤ length keys
set-shorter [] = omega arith
set-shorter (key ∷ keys) = let one = add-one_more key (sorted_set key_cmp keys) in let later = set-shorter keys in omega arith

-- keys with as many in their set are distinct
distinct-by_length : (keys : List (List ℕ)) → length keys ≤ length (sorted_set key_cmp keys) → IsDistinct keys
distinct-by_length [] all = tt
distinct-by_length (key ∷ keys) all = (
  λ there. (let same = ap length (set-again key keys there) in let shorter = set-shorter keys in absurd (omega arith)),
  distinct-by_length keys (let one = add-one_more key (sorted_set key_cmp keys) in omega arith),
)

pub no_repeats : (keys : List (List ℕ)) → has_repeats keys ≡ false → IsDistinct keys
no_repeats keys none = distinct-by_length keys (grind (arith, nat_tests))

-- ---- reads

pub key-read_of : (key : List ℕ) (r : NodeReply) → (read_of key r).key ≡ key
key-read_of key (Found f) = refl
key-read_of key r = refl

-- each read is of one of the keys
pub key-among : (keys : List (List ℕ)) (rs : List NodeReply) (read : Read) → Among read (reads_of keys rs) → Among read.key keys
key-among [] rs read there = absurd there
key-among (key ∷ keys) [] read there = absurd there
key-among (key ∷ keys) (r ∷ rs) read (inl e) = inl (sym (key-read_of key r) ∙ ap (λ (x : Read). x.key) e)
key-among (key ∷ keys) (r ∷ rs) read (inr later) = inr (key-among keys rs read later)

-- of each key there is one read
pub one_read : (keys : List (List ℕ)) (rs : List NodeReply) → IsDistinct keys → (x y : Read) → Among x (reads_of keys rs) → Among y (reads_of keys rs) → x.key ≡ y.key → x ≡ y
one_read [] rs distinct x y at_x at_y same = absurd at_x
one_read (key ∷ keys) [] distinct x y at_x at_y same = absurd at_x
one_read (key ∷ keys) (r ∷ rs) distinct x y (inl e) (inl f) same = sym e ∙ f
one_read (key ∷ keys) (r ∷ rs) distinct x y (inl e) (inr later) same =
    absurd (distinct.0 (subst (λ k. Among k keys) (sym (sym (key-read_of key r) ∙ ap (λ (z : Read). z.key) e ∙ same)) (key-among keys rs y later)))
one_read (key ∷ keys) (r ∷ rs) distinct x y (inr later) (inl f) same =
    absurd (distinct.0 (subst (λ k. Among k keys) (same ∙ ap (λ (z : Read). z.key) (sym f) ∙ key-read_of key r) (key-among keys rs x later)))
one_read (key ∷ keys) (r ∷ rs) distinct x y (inr first) (inr second) same = one_read keys rs distinct.1 x y first second same
