-- Pairs as sets: lists with the same pairs have the same greatest version of each key.
use Rattle.std.proofs.Common.{◌≡◌, ℕ, Bool, true, false, cond, List, [], ◌∷◌, map, ◌⊎◌, inl, inr, refl, sym, ◌∙◌, ap, subst}
use Rattle.std.specs.Prelude.{filter}
use Rattle.std.specs.List.{list_any}
use Rattle.std.specs.Ordering.{eq_by_cmp}
use Rattle.cops_types.specs.declared.pairs.Pair.{Pair}
use Rattle.cops_types.specs.Key.{key_eq, key_cmp}
use Rattle.cops_types.specs.Pairs.{pair_eq, holds, version_of, greatest_per_key}
use Rattle.cops_types.specs.Search.{sorted_set}
use Rattle.cops_types.specs.Version.{Timestamp, no_version, version_eq, version_le, version_max, greatest}
use Rattle.cops_types.proofs.PairLists.{key_cmp_total, key_cmp-IsAntisymmetric, key_eq-tie}
use Rattle.cops_types.proofs.SortedSet.{sorted_set-same, contained-sorted_set}
use Rattle.cops_types.proofs.VersionOrder.{version_eq-true, version_eq-refl, version_le-trans, version_le-antisym, version_max-left, version_max-right, version_max_is_one, no_version-least}
use Rattle.cops_types.proofs.KeyTests.{key_eq-true, key_eq-refl}
use Rattle.cops_types.proofs.Elements.{or_left, or_right, or_cases, and_left, and_right, and_true, same_test, Among, any_intro}

abbrev pub at : List ℕ → Timestamp → Pair
at key version = record { key = key; version = version }

pub pair_eq-true : (p q : Pair) → pair_eq p q ≡ true → p ≡ q
pair_eq-true p q e =
    let keys = key_eq-true p.key q.key (and_left (key_eq p.key q.key) (version_eq p.version q.version) e) in
    let versions = version_eq-true p.version q.version (and_right (key_eq p.key q.key) (version_eq p.version q.version) e) in
    λ i. record { key = keys i; version = versions i }

pub pair_eq-refl : (p : Pair) → pair_eq p p ≡ true
pair_eq-refl p = and_true (key_eq p.key p.key) (version_eq p.version p.version) (key_eq-refl p.key) (version_eq-refl p.version)

pub holds-Among : (ps : List Pair) (p : Pair) → holds ps p ≡ true → Among p ps
holds-Among [] p e = cc
holds-Among (q ∷ ps) p e = elim (or_cases (pair_eq p q) (holds ps p) e) [ inl is ↦ inl (sym (pair_eq-true p q is)) | inr later ↦ inr (holds-Among ps p later) ]

pub Among-holds : (ps : List Pair) (p : Pair) → Among p ps → holds ps p ≡ true
Among-holds ps p there = any_intro (pair_eq p) p ps there (pair_eq-refl p)

-- no version of a key among the pairs is above their greatest
pub le-version_of : (key : List ℕ) (ps : List Pair) (v : Timestamp) → Among (at key v) ps → version_le v (version_of key ps) ≡ true
le-version_of key [] v there = absurd there
le-version_of key (p ∷ ps) v (inl e) =
    subst (λ (q : Pair). version_le v (version_of key (q ∷ ps)) ≡ true) (sym e) (rw (key_eq-refl key) (version_max-left v (version_of key ps)))
le-version_of key (p ∷ ps) v (inr there) =
    let later = le-version_of key ps v there in
    elim (key_eq p.key key) as (λ b. key_eq p.key key ≡ b → version_le v (version_of key (p ∷ ps)) ≡ true) [
      | true ↦ λ is. rw is (version_le-trans v (version_of key ps) (version_max p.version (version_of key ps)) later (version_max-right p.version (version_of key ps)))
      | false ↦ λ is. rw is later
    ] refl

version_of-cons : (key : List ℕ) (p : Pair) (ps : List Pair) → version_of key (p ∷ ps) ≡ cond (key_eq p.key key) (version_max p.version (version_of key ps)) (version_of key ps)
version_of-cons key p ps =
    elim (key_eq p.key key) as (λ b. greatest (map (λ (q : Pair). q.version) (cond b (p ∷ filter (λ q. key_eq q.key key) ps) (filter (λ q. key_eq q.key key) ps))) ≡ cond b (version_max p.version (version_of key ps)) (version_of key ps)) [
      | true ↦ refl
      | false ↦ refl
    ]

-- the greatest version of a key is among the pairs, unless they have none
abbrev Attains : List ℕ → List Pair → Timestamp → Type 0
Attains key ps v = (v ≡ no_version) ⊎ Among (at key v) ps

pub version_of-Among : (key : List ℕ) (ps : List Pair) → Attains key ps (version_of key ps)
version_of-Among key [] = inl refl
version_of-Among key (p ∷ ps) =
    subst (Attains key (p ∷ ps)) (sym (version_of-cons key p ps))
    (elim (key_eq p.key key) as (λ b. key_eq p.key key ≡ b → Attains key (p ∷ ps) (cond b (version_max p.version (version_of key ps)) (version_of key ps))) [
      | true ↦ λ is. by_max is (version_max_is_one p.version (version_of key ps)) (version_of-Among key ps)
      | false ↦ λ is. later (version_of key ps) (version_of-Among key ps)
    ] refl)
  where
    later : (v : Timestamp) → Attains key ps v → Attains key (p ∷ ps) v
    later v (inl none) = inl none
    later v (inr there) = inr (inr there)

    by_max : key_eq p.key key ≡ true → (version_max p.version (version_of key ps) ≡ p.version) ⊎ (version_max p.version (version_of key ps) ≡ version_of key ps) → Attains key ps (version_of key ps) →
        Attains key (p ∷ ps) (version_max p.version (version_of key ps))
    by_max is (inl e) rest = subst (Attains key (p ∷ ps)) (sym e) (inr (inl (λ i. record { key = key_eq-true p.key key is i; version = p.version })))
    by_max is (inr e) rest = subst (Attains key (p ∷ ps)) (sym e) (later (version_of key ps) rest)

-- every pair of the one list is in the other
abbrev pub Within : List Pair → List Pair → Type 0
Within ps qs = (p : Pair) → Among p ps → Among p qs

pub version_of-grows : (key : List ℕ) (ps qs : List Pair) → Within ps qs → version_le (version_of key ps) (version_of key qs) ≡ true
version_of-grows key ps qs within =
    elim (version_of-Among key ps) [
      | inl none ↦ ap (λ v. version_le v (version_of key qs)) none ∙ no_version-least (version_of key qs)
      | inr there ↦ le-version_of key qs (version_of key ps) (within (at key (version_of key ps)) there)
    ]

abbrev among_keys : List ℕ → List Pair → Bool
among_keys q ps = list_any (eq_by_cmp key_cmp q) (map (λ p. p.key) ps)

key_of-Among : (q : List ℕ) (ps : List Pair) → among_keys q ps ≡ true → (p : Pair) × Among p ps × (p.key ≡ q)
key_of-Among q [] e = cc
key_of-Among q (p ∷ ps) e =
    elim (or_cases (eq_by_cmp key_cmp q p.key) (among_keys q ps) e) [
      | inl is ↦ (p, inl refl, sym (key_eq-true q p.key (key_eq-tie q p.key ∙ is)))
      | inr later ↦ let found = key_of-Among q ps later in (found.0, inr found.1, found.2)
    ]

among_keys-at : (p : Pair) (ps : List Pair) → Among p ps → among_keys p.key ps ≡ true
among_keys-at p [] there = absurd there
among_keys-at p (q ∷ ps) (inl e) =
    or_left (eq_by_cmp key_cmp p.key q.key) (among_keys p.key ps) (sym (key_eq-tie p.key q.key) ∙ ap (λ (r : Pair). key_eq p.key r.key) e ∙ key_eq-refl p.key)
among_keys-at p (q ∷ ps) (inr there) = or_right (eq_by_cmp key_cmp p.key q.key) (among_keys p.key ps) (among_keys-at p ps there)

keys-grow : (q : List ℕ) (ps qs : List Pair) → Within ps qs → among_keys q ps ≡ true → among_keys q qs ≡ true
keys-grow q ps qs within e =
    let found = key_of-Among q ps e in
    subst (λ k. among_keys k qs ≡ true) found.2 (among_keys-at found.0 qs (within found.0 found.1))

-- the same pairs have the same greatest version of each key
pub greatest_per_key-same : (ps qs : List Pair) → Within ps qs → Within qs ps → greatest_per_key ps ≡ greatest_per_key qs
greatest_per_key-same ps qs there back =
    let keys = sorted_set-same key_cmp_total key_cmp-IsAntisymmetric (map (λ (p : Pair). p.key) ps) (map (λ (p : Pair). p.key) qs)
    (λ q. same_test (among_keys q ps) (among_keys q qs) (keys-grow q ps qs there) (keys-grow q qs ps back)) in
    let versions : (key : List ℕ) → version_of key ps ≡ version_of key qs =
    λ key. version_le-antisym (version_of key ps) (version_of key qs) (version_of-grows key ps qs there) (version_of-grows key qs ps back) in
    λ i. map (λ key. record { key = key; version = versions key i }) (keys i)

-- each key of the pairs stands among their greatest versions
pub greatest-has : (ps : List Pair) (q : Pair) → Among q ps → Among (at q.key (version_of q.key ps)) (greatest_per_key ps)
greatest-has ps q there = by_key (sorted_set key_cmp keys) (contained-sorted_set key_cmp_total keys q.key ∙ among_keys-at q ps there)
  where
    keys : List (List ℕ)
    keys = map (λ (p : Pair). p.key) ps

    by_key : (ks : List (List ℕ)) → list_any (eq_by_cmp key_cmp q.key) ks ≡ true → Among (at q.key (version_of q.key ps)) (map (λ key. record { key = key; version = version_of key ps }) ks)
    by_key [] e = cc
    by_key (k ∷ ks) e =
        elim (or_cases (eq_by_cmp key_cmp q.key k) (list_any (eq_by_cmp key_cmp q.key) ks) e) [
          | inl is ↦ inl (ap (λ key. at key (version_of key ps)) (sym (key_eq-true q.key k (key_eq-tie q.key k ∙ is))))
          | inr later ↦ inr (by_key ks later)
        ]

-- the greatest versions are among the pairs
pub greatest-within : (ps : List Pair) → Within (greatest_per_key ps) ps
greatest-within ps n there = by_key (sorted_set key_cmp keys) (λ k among. subst (λ b. b ≡ true) (contained-sorted_set key_cmp_total keys k) among) there
  where
    keys : List (List ℕ)
    keys = map (λ (p : Pair). p.key) ps

    at_key : (k : List ℕ) → among_keys k ps ≡ true → Among (at k (version_of k ps)) ps
    at_key k among =
        elim (version_of-Among k ps) [
          | inr there ↦ there
          | inl none ↦
              let found = key_of-Among k ps among in
              let p = found.0 in
              let same_key : p ≡ at k p.version = λ i. record { key = found.2 i; version = p.version } in
              let low = le-version_of k ps p.version (subst (λ q. Among q ps) same_key found.1) in
              let zero_version : p.version ≡ no_version = version_le-antisym p.version no_version (ap (version_le p.version) (sym none) ∙ low) (no_version-least p.version) in
              subst (λ q. Among q ps) (same_key ∙ ap (at k) (zero_version ∙ sym none)) found.1
        ]

    by_key : (ks : List (List ℕ)) → ((k : List ℕ) → list_any (eq_by_cmp key_cmp k) ks ≡ true → among_keys k ps ≡ true) → Among n (map (λ key. record { key = key; version = version_of key ps }) ks) → Among n ps
    by_key [] in_keys at' = absurd at'
    by_key (k ∷ ks) in_keys at' =
        elim at' [
          | inl e ↦ subst (λ q. Among q ps) e (at_key k (in_keys k (or_left (eq_by_cmp key_cmp k k) (list_any (eq_by_cmp key_cmp k) ks) (sym (key_eq-tie k k) ∙ key_eq-refl k))))
          | inr later ↦ by_key ks (λ j among. in_keys j (or_right (eq_by_cmp key_cmp j k) (list_any (eq_by_cmp key_cmp j) ks) among)) later
        ]
