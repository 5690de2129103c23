-- Two lists in order are merged, and their merge is the greatest version of each key.
use Rattle.std.proofs.Common.{◌≡◌, ◌⊎◌, inl, inr, ℕ, zero, suc, ◌+◌, ◌-◌, ◌<◌, ◌≤◌, arith, take, drop, length, get_or, Bool, true, false, cond, ◌||◌, List, [], ◌∷◌, ◌++◌, refl, sym, subst, ap, ◌∙◌, append_assoc, append-nil}
use Rattle.std.proofs.Math.ListN.{drop_of_length-le}
use Rattle.std.proofs.Math.Seq.{take-length}
use Rattle.std.proofs.lemmas.List.{length-drop, drop_more}
use Rattle.std.specs.declared.cmp.Ordering.TheVariants.{Less, Equal, Greater}
use Rattle.std.specs.Ordering.{ordering_reverse}
use Rattle.cops_types.specs.declared.pairs.Pair.{Pair}
use Rattle.cops_types.specs.Key.{key_eq, key_cmp}
use Rattle.cops_types.specs.Pairs.{IsDeps, has_key, joined, newer_pair, version_of}
use Rattle.cops_types.specs.Version.{no_version, version_lt, version_max}
use Rattle.cops_types.proofs.GreatestLists.{Rises-keys, is_greatest_per_key, is_rising-keys, keys_of}
use Rattle.cops_types.proofs.PairLists.{has_key-append, key_cmp-IsAntisymmetric, key_cmp_total, version_of-append}
use Rattle.cops_types.proofs.SortedSet.{AllAbove, AllAbove-trans, Rises, is_rising-Rises}
use Rattle.cops_types.proofs.VersionOrder.{version_max-assoc, version_max-comm, version_max-lt, version_max-no_version_right}

-- ---- lists that show the same keys at the same versions

pub record AreAlike (ps qs : List Pair) : Type 0 where
  pub keys : (key : List ℕ) → has_key ps key ≡ has_key qs key
  pub versions : (key : List ℕ) → version_of key ps ≡ version_of key qs

alike_from : (ps qs rs : List Pair) → AreAlike ps qs → AreAlike qs rs → AreAlike ps rs
alike_from ps qs rs one other = record { keys = λ key. one.keys key ∙ other.keys key; versions = λ key. one.versions key ∙ other.versions key }

alike_same : (ps qs : List Pair) → ps ≡ qs → AreAlike ps qs
alike_same ps qs same = record { keys = λ key. ap (λ (l : List Pair). has_key l key) same; versions = λ key. ap (version_of key) same }

-- the same front before both
alike_after : (front ps qs : List Pair) → AreAlike ps qs → AreAlike (front ++ ps) (front ++ qs)
alike_after front ps qs h = record {
  keys = λ key. has_key-append front ps key ∙ ap (λ b. has_key front key || b) (h.keys key) ∙ sym (has_key-append front qs key);
  versions = λ key. version_of-append key front ps ∙ ap (version_max (version_of key front)) (h.versions key) ∙ sym (version_of-append key front qs);
}

or-swap : (a b c : Bool) → (a || (b || c)) ≡ (b || (a || c))
or-swap true true c = refl
or-swap true false c = refl
or-swap false b c = refl

-- a pair from the middle comes first
alike_middle : (ps : List Pair) (q : Pair) (qs : List Pair) → AreAlike (ps ++ q ∷ qs) (q ∷ ps ++ qs)
alike_middle ps q qs = record {
  keys = λ key. has_key-append ps (q ∷ qs) key ∙ or-swap (has_key ps key) (key_eq q.key key) (has_key qs key) ∙ ap (λ b. key_eq q.key key || b) (sym (has_key-append ps qs key));
  versions = λ key.
      version_of-append key ps (q ∷ qs) ∙ ap (version_max (version_of key ps)) (version_of-append key (q ∷ []) qs)
      ∙ sym (version_max-assoc (version_of key ps) (version_of key (q ∷ [])) (version_of key qs))
      ∙ ap (λ v. version_max v (version_of key qs)) (version_max-comm (version_of key ps) (version_of key (q ∷ [])))
      ∙ version_max-assoc (version_of key (q ∷ [])) (version_of key ps) (version_of key qs)
      ∙ ap (version_max (version_of key (q ∷ []))) (sym (version_of-append key ps qs)) ∙ sym (version_of-append key (q ∷ []) (ps ++ qs));
}

turned : (ps qs : List Pair) → AreAlike ps qs → AreAlike qs ps
turned ps qs h = record { keys = λ key. sym (h.keys key); versions = λ key. sym (h.versions key) }

-- ---- the newer of two pairs

newer_key : (p q : Pair) → p.key ≡ q.key → (newer_pair p q).key ≡ p.key
newer_key p q same = by (version_lt p.version q.version)
  where
    by : (b : Bool) → (cond b q p).key ≡ p.key
    by true = sym same
    by false = refl

newer_version : (p q : Pair) → (newer_pair p q).version ≡ version_max q.version p.version
newer_version p q = picked (version_lt p.version q.version) ∙ sym (version_max-lt p.version q.version) ∙ version_max-comm p.version q.version
  where
    picked : (b : Bool) → (cond b q p).version ≡ cond b q.version p.version
    picked true = refl
    picked false = refl

-- it stands for both
alike_newer : (p q : Pair) (rest : List Pair) → p.key ≡ q.key → AreAlike (newer_pair p q ∷ rest) (q ∷ p ∷ rest)
alike_newer p q rest same = record {
  keys = λ key. ap (λ k. key_eq k key || has_key rest key) (newer_key p q same) ∙ or-twice (key_eq p.key key) (has_key rest key) ∙ ap (λ k. key_eq k key || (key_eq p.key key || has_key rest key)) same;
  versions = λ key.
      version_of-append key (newer_pair p q ∷ []) rest ∙ ap (λ v. version_max v (version_of key rest)) (both_at key)
      ∙ version_max-assoc (version_of key (q ∷ [])) (version_of key (p ∷ [])) (version_of key rest)
      ∙ ap (version_max (version_of key (q ∷ []))) (sym (version_of-append key (p ∷ []) rest)) ∙ sym (version_of-append key (q ∷ []) (p ∷ rest));
}
  where
    or-twice : (a b : Bool) → (a || b) ≡ (a || (a || b))
    or-twice true b = refl
    or-twice false b = refl

    alone : (r : Pair) (key : List ℕ) (b : Bool) → key_eq r.key key ≡ b → version_of key (r ∷ []) ≡ cond b r.version no_version
    alone r key true e = rw e (version_max-no_version_right r.version)
    alone r key false e = rw e refl

    both_at : (key : List ℕ) → version_of key (newer_pair p q ∷ []) ≡ version_max (version_of key (q ∷ [])) (version_of key (p ∷ []))
    both_at key =
        let b = key_eq p.key key in
        alone (newer_pair p q) key b (ap (λ k. key_eq k key) (newer_key p q same))
        ∙ pick b
        ∙ (λ i. version_max (sym (alone q key b (ap (λ k. key_eq k key) (sym same))) i) (sym (alone p key b refl) i))
      where
        pick : (b : Bool) → cond b (newer_pair p q).version no_version ≡ version_max (cond b q.version no_version) (cond b p.version no_version)
        pick true = newer_version p q
        pick false = sym (version_max-no_version_right no_version)

-- ---- order

keys_with : (done : List Pair) (p z : Pair) (ps : List Pair) → p.key ≡ z.key → keys_of ((done ++ p ∷ []) ++ ps) ≡ keys_of ((done ++ z ∷ []) ++ ps)
keys_with [] p z ps same = ap (λ k. k ∷ keys_of ps) same
keys_with (d ∷ done) p z ps same = ap (λ ks. d.key ∷ ks) (keys_with done p z ps same)

above_insert : (key : List ℕ) (done : List Pair) (p : Pair) (ps : List Pair) (q : Pair) (qs : List Pair) → AllAbove key_cmp_total key (keys_of (done ++ p ∷ ps)) → AllAbove key_cmp_total key (keys_of (done ++ q ∷ qs)) →
    AllAbove key_cmp_total key (keys_of (done ++ p ∷ q ∷ qs))
above_insert key [] p ps q qs one other = (one.0, other)
above_insert key (d ∷ done) p ps q qs one other = (one.0, above_insert key done p ps q qs one.1 other.1)

rises_insert : (done : List Pair) (p : Pair) (ps : List Pair) (q : Pair) (qs : List Pair) → Rises key_cmp_total (keys_of (done ++ p ∷ ps)) → Rises key_cmp_total (keys_of (done ++ q ∷ qs)) → key_cmp p.key q.key ≡ Less →
    Rises key_cmp_total (keys_of (done ++ p ∷ q ∷ qs))
rises_insert [] p ps q qs one other less = ((less, AllAbove-trans key_cmp_total p.key q.key (keys_of qs) less other.0), other)
rises_insert (d ∷ done) p ps q qs one other less = (above_insert d.key done p ps q qs one.0 other.0, rises_insert done p ps q qs one.1 other.1 less)

greater_is_less : (a b : List ℕ) → key_cmp a b ≡ Greater → key_cmp b a ≡ Less
greater_is_less a b greater = key_cmp_total.antisymm b a ∙ ap ordering_reverse greater

deps_of_rises : (ps : List Pair) → Rises key_cmp_total (keys_of ps) → IsDeps ps
deps_of_rises ps rises = is_rising-keys ps ∙ is_rising-Rises key_cmp_total (keys_of ps) rises

-- ---- a merge

-- these pairs are done, and these of each list are left
pub record IsMerging (pairs more done ps qs : List Pair) : Type 0 where
  pub alike : AreAlike (done ++ (ps ++ qs)) (pairs ++ more)
  pub first : Rises key_cmp_total (keys_of (done ++ ps))
  pub second : Rises key_cmp_total (keys_of (done ++ qs))

pub merging_start : (pairs more : List Pair) → IsDeps pairs → IsDeps more → IsMerging pairs more [] pairs more
merging_start pairs more one other = record { alike = alike_same (pairs ++ more) (pairs ++ more) refl; first = Rises-keys pairs one; second = Rises-keys more other }

module _ (pairs more done : List Pair) (p : Pair) (ps : List Pair) (q : Pair) (qs : List Pair) (h : IsMerging pairs more done (p ∷ ps) (q ∷ qs)) where
  -- the first list has the lesser key
  pub merging_first : key_cmp p.key q.key ≡ Less → IsMerging pairs more (done ++ p ∷ []) ps (q ∷ qs)
  merging_first less = record {
    alike = alike_from ((done ++ p ∷ []) ++ (ps ++ q ∷ qs)) (done ++ (p ∷ ps ++ q ∷ qs)) (pairs ++ more) (alike_same ((done ++ p ∷ []) ++ (ps ++ q ∷ qs)) (done ++ (p ∷ ps ++ q ∷ qs)) (append_assoc done (p ∷ []) (ps ++ q ∷ qs))) h.alike;
    first = subst (λ l. Rises key_cmp_total (keys_of l)) (sym (append_assoc done (p ∷ []) ps)) h.first;
    second = subst (λ l. Rises key_cmp_total (keys_of l)) (sym (append_assoc done (p ∷ []) (q ∷ qs))) (rises_insert done p ps q qs h.first h.second less);
  }

  -- the second list has it
  pub merging_second : key_cmp p.key q.key ≡ Greater → IsMerging pairs more (done ++ q ∷ []) (p ∷ ps) qs
  merging_second greater = record {
    alike =
        alike_from ((done ++ q ∷ []) ++ (p ∷ ps ++ qs)) (done ++ (q ∷ p ∷ ps ++ qs)) (pairs ++ more) (alike_same ((done ++ q ∷ []) ++ (p ∷ ps ++ qs)) (done ++ (q ∷ p ∷ ps ++ qs)) (append_assoc done (q ∷ []) (p ∷ ps ++ qs)))
        (alike_from (done ++ (q ∷ p ∷ ps ++ qs)) (done ++ (p ∷ ps ++ q ∷ qs)) (pairs ++ more) (alike_after done (q ∷ p ∷ ps ++ qs) (p ∷ ps ++ q ∷ qs) (turned (p ∷ ps ++ q ∷ qs) (q ∷ p ∷ ps ++ qs) (alike_middle (p ∷ ps) q qs))) h.alike);
    first = subst (λ l. Rises key_cmp_total (keys_of l)) (sym (append_assoc done (q ∷ []) (p ∷ ps))) (rises_insert done q qs p ps h.second h.first (greater_is_less p.key q.key greater));
    second = subst (λ l. Rises key_cmp_total (keys_of l)) (sym (append_assoc done (q ∷ []) qs)) h.second;
  }

  -- both have it: the pair with the greater version stands for both
  pub merging_both : key_cmp p.key q.key ≡ Equal → IsMerging pairs more (done ++ newer_pair p q ∷ []) ps qs
  merging_both equal =
      let same : p.key ≡ q.key = key_cmp-IsAntisymmetric p.key q.key equal in
      let z = newer_pair p q in
      let own = newer_key p q same in
      let one = alike_newer p q (ps ++ qs) same in
      record {
        alike =
            alike_from ((done ++ z ∷ []) ++ (ps ++ qs)) (done ++ (z ∷ ps ++ qs)) (pairs ++ more) (alike_same ((done ++ z ∷ []) ++ (ps ++ qs)) (done ++ (z ∷ ps ++ qs)) (append_assoc done (z ∷ []) (ps ++ qs)))
            (alike_from (done ++ (z ∷ ps ++ qs)) (done ++ (q ∷ p ∷ ps ++ qs)) (pairs ++ more) (alike_after done (z ∷ ps ++ qs) (q ∷ p ∷ ps ++ qs) one)
            (alike_from (done ++ (q ∷ p ∷ ps ++ qs)) (done ++ (p ∷ ps ++ q ∷ qs)) (pairs ++ more) (alike_after done (q ∷ p ∷ ps ++ qs) (p ∷ ps ++ q ∷ qs) (turned (p ∷ ps ++ q ∷ qs) (q ∷ p ∷ ps ++ qs) (alike_middle (p ∷ ps) q qs))) h.alike));
        first = subst (Rises key_cmp_total) (keys_with done p z ps (sym own)) (subst (λ l. Rises key_cmp_total (keys_of l)) (sym (append_assoc done (p ∷ []) ps)) h.first);
        second = subst (Rises key_cmp_total) (keys_with done q z qs (sym same ∙ sym own)) (subst (λ l. Rises key_cmp_total (keys_of l)) (sym (append_assoc done (q ∷ []) qs)) h.second);
      }

-- one list is at its end
pub merged_first : (pairs more done ps : List Pair) → IsMerging pairs more done ps [] → done ++ ps ≡ joined pairs more
merged_first pairs more done ps h =
    is_greatest_per_key (done ++ ps) (pairs ++ more) (deps_of_rises (done ++ ps) h.first)
    (λ key. ap (λ l. has_key (done ++ l) key) (sym (append-nil ps)) ∙ h.alike.keys key)
    (λ key. ap (λ l. version_of key (done ++ l)) (sym (append-nil ps)) ∙ h.alike.versions key)

pub merged_second : (pairs more done qs : List Pair) → IsMerging pairs more done [] qs → done ++ qs ≡ joined pairs more
merged_second pairs more done qs h = is_greatest_per_key (done ++ qs) (pairs ++ more) (deps_of_rises (done ++ qs) h.second) h.alike.keys h.alike.versions

-- ---- what is left of a list

-- the item at a place, and those after it
pub left_at : (l : List Pair) (i : ℕ) (p : Pair) → i < length l → p ≡ get_or l i p → drop i l ≡ p ∷ drop (suc i) l
left_at [] i p below read = absurd (omega arith)
left_at (x ∷ l) zero p below read = ap (λ y. y ∷ l) (sym read)
left_at (x ∷ l) (suc i) p below read = left_at l i p (omega arith) read

pub none_left : (l : List Pair) (i : ℕ) → length l ≤ i → drop i l ≡ []
none_left l i beyond = drop_of_length-le l beyond

-- the item at a place joins those that are done
pub moved : (done l : List Pair) (i : ℕ) (p : Pair) → i < length l → p ≡ get_or l i p → (done ++ p ∷ []) ++ drop (i + 1) l ≡ done ++ drop i l
moved done l i p below read =
    append_assoc done (p ∷ []) (drop (i + 1) l) ∙ ap (λ qs. done ++ qs) (ap (λ q. q ∷ drop (i + 1) l) read ∙ sym (drop_more l i p below))

pub whole_left : (l : List Pair) (i : ℕ) → take (length l - i) (drop i l) ≡ drop i l
whole_left l i = ap (λ n. take n (drop i l)) (sym (length-drop i l)) ∙ take-length (drop i l)

-- the merge and what is left of both lists, if one is at its end
pub merged_all : (pairs more done : List Pair) (i j : ℕ) → IsMerging pairs more done (drop i pairs) (drop j more) → (length pairs ≤ i) ⊎ (length more ≤ j) →
    (done ++ take (length pairs - i) (drop i pairs)) ++ drop j more ≡ joined pairs more
merged_all pairs more done i j h (inr beyond) =
    let none = none_left more j beyond in
    (λ k. (done ++ whole_left pairs i k) ++ none k) ∙ append-nil (done ++ drop i pairs)
    ∙ merged_first pairs more done (drop i pairs) (subst (λ l. IsMerging pairs more done (drop i pairs) l) none h)
merged_all pairs more done i j h (inl beyond) =
    let none = none_left pairs i beyond in
    (λ k. (done ++ (whole_left pairs i ∙ none) k) ++ drop j more) ∙ ap (λ l. l ++ drop j more) (append-nil done)
    ∙ merged_second pairs more done (drop j more) (subst (λ l. IsMerging pairs more done l (drop j more)) none h)
