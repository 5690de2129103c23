-- The account of seats: what each split and each end of a seat does to it.
use Rattle.std.proofs.Common.{◌≡◌, ◌≢◌, ℕ, zero, suc, ◌+◌, ◌<◌, ◌≤◌, ◌⊎◌, inl, inr, ⊎_elim, Bool, true, false, List, [], ◌∷◌, ◌++◌, set, sym, refl, ap, ◌∙◌, subst, arith, eqb, eq-eqb, cond, length, length-append, append-nil}
use mathlib.Core.Logic.{dite}
use mathlib.Core.Option.{some, some-injective, some-ne-none}
use native.Mathlib.Decide.{ℕ_discrete}
use lib.ListN.{get_elem?}
use Rattle.std.specs.List.{AllByRecursion}
use Rattle.std.proofs.lemmas.List.Elements.{filter-append}
use Rattle.atomic_table.proofs.Lists.{at_set, set_else, at_longer, at_snoc}
use Rattle.cops_gate.specs.declared.board.Account.{Account}
use Rattle.cops_gate.specs.declared.board.View.{View}
use Rattle.cops_gate.specs.declared.history.Turn.{Turn}
use Rattle.cops_gate.specs.Accounts.{IsComplete, account_if_counted, no_account}
use Rattle.cops_gate.specs.History.{StartsWith, turns_of}
use Rattle.cops_gate.specs.Rule.{AreCounted, AreCovered, AreDistinctNumbers, AreJoinedOnce, CountsAll, IsCovered, Met, all_counted}
use Rattle.cops_gate.specs.Plays.{ended_view, fork_view, forked_view, joined_view}
use Rattle.cops_gate.specs.Seats.{AreMadeBy}
use Rattle.cops_gate.proofs.Ending.{all_split, all_weaker}

true_false : true ≡ false → ⊥
true_false e = cc

bool_cases : (b : Bool) → (b ≡ true) ⊎ (b ≡ false)
bool_cases true = inl refl
bool_cases false = inr refl

fork_is_not_first : (b : Bool) → (account_if_counted b).is_first ≡ false
fork_is_not_first true = refl
fork_is_not_first false = refl

pub fork_joined_none : (b : Bool) → (account_if_counted b).joined ≡ []
fork_joined_none true = refl
fork_joined_none false = refl

pub met_parts : (j : ℕ) (xs ys : List ℕ) → Met j (xs ++ ys) → Met j xs ⊎ Met j ys
met_parts j [] ys met = inr met
met_parts j (x ∷ xs) ys (inl here) = inl (inl here)
met_parts j (x ∷ xs) ys (inr there) = ⊎_elim (λ l. inl (inr l)) inr (met_parts j xs ys there)

pub met_left : (j : ℕ) (xs ys : List ℕ) → Met j xs → Met j (xs ++ ys)
met_left j [] ys met = absurd met
met_left j (x ∷ xs) ys (inl here) = inl here
met_left j (x ∷ xs) ys (inr there) = inr (met_left j xs ys there)

pub met_right : (j : ℕ) (xs ys : List ℕ) → Met j ys → Met j (xs ++ ys)
met_right j [] ys met = met
met_right j (x ∷ xs) ys met = inr (met_right j xs ys met)

distinct_both : (xs ys : List ℕ) → AreDistinctNumbers xs → AreDistinctNumbers ys → ((n : ℕ) → Met n xs → Met n ys → ⊥) → AreDistinctNumbers (xs ++ ys)
distinct_both [] ys one two apart = two
distinct_both (x ∷ xs) ys one two apart = ((λ met. ⊎_elim one.0 (apart x (inl refl)) (met_parts x xs ys met)), distinct_both xs ys one.1 two (λ n p q. apart n (inr p) q))

put_at : {A : Type 0} (l : List A) (i : ℕ) (a b : A) → get_elem? l i ≡ some a → get_elem? (set l i b) i ≡ some b
put_at [] i a b e = absurd (some-ne-none a (sym e))
put_at (x ∷ xs) zero a b e = refl
put_at (x ∷ xs) (suc i) a b e = put_at xs i a b e

module _ {M C R : Type 0} where
  -- ---- how many are counted

  count_set : (vs : List (View M C R)) (i : ℕ) (v w : View M C R) → get_elem? vs i ≡ some v → all_counted (set vs i w) + v.account.counted ≡ all_counted vs + w.account.counted
  count_set [] i v w e = absurd (some-ne-none v (sym e))
  count_set (x ∷ xs) zero v w e = let same : x.account.counted ≡ v.account.counted = ap (λ (u : View M C R). u.account.counted) (some-injective x v e) in omega arith
  count_set (x ∷ xs) (suc i) v w e = let h = count_set xs i v w e in omega arith

  count_more : (vs : List (View M C R)) (w : View M C R) → all_counted (vs ++ w ∷ []) ≡ all_counted vs + w.account.counted
  count_more [] w = omega arith
  count_more (x ∷ xs) w = let h = count_more xs w in omega arith

  one_counts : (vs : List (View M C R)) (i : ℕ) (v : View M C R) → get_elem? vs i ≡ some v → v.account.counted ≤ all_counted vs
  one_counts [] i v e = absurd (some-ne-none v (sym e))
  one_counts (x ∷ xs) zero v e = let same : x.account.counted ≡ v.account.counted = ap (λ (u : View M C R). u.account.counted) (some-injective x v e) in omega arith
  one_counts (x ∷ xs) (suc i) v e = let h = one_counts xs i v e in omega arith

  -- ---- a seat whose account stays

  module _ (vs : List (View M C R)) (id : ℕ) (v w : View M C R) (at : get_elem? vs id ≡ some v) (account : w.account ≡ v.account) (seat : w.is_seat ≡ v.is_seat) where
    was : (k : ℕ) (c : View M C R) → get_elem? (set vs id w) k ≡ some c → (d : View M C R) × (get_elem? vs k ≡ some d) × (c.account ≡ d.account) × (c.is_seat ≡ d.is_seat)
    was k c e = ⊎_elim
        (λ (h : (k ≡ id) × (w ≡ c)). (v, ap (get_elem? vs) h.0 ∙ at, sym (ap (λ (u : View M C R). u.account) h.1) ∙ account, sym (ap (λ (u : View M C R). u.is_seat) h.1) ∙ seat))
        (λ (h : (k ≢ id) × (get_elem? vs k ≡ some c)). (c, h.1, refl, refl)) (at_set vs id k w c e)

    same_count : all_counted (set vs id w) ≡ all_counted vs
    same_count = let a = count_set vs id v w at in let b : w.account.counted ≡ v.account.counted = ap (λ (x : Account). x.counted) account in omega arith

    pub counted_again : AreCounted vs → AreCounted (set vs id w)
    counted_again k = record {
      one = λ i j a b ai bj fa fb. let p = was i a ai in let q = was j b bj in k.one i j p.0 q.0 p.1 q.1 (sym (ap (λ (x : Account). x.is_first) p.2) ∙ fa) (sym (ap (λ (x : Account). x.is_first) q.2) ∙ fb);
      all = λ i a ai fa.
          let p = was i a ai in
          let all = k.all i p.0 p.1 (sym (ap (λ (x : Account). x.is_first) p.2) ∙ fa) in
          let few : all_counted vs ≤ p.0.account.unjoined = all.counted in
          let n : a.account.unjoined ≡ p.0.account.unjoined = ap (λ (x : Account). x.unjoined) p.2 in
          let total = same_count in record {
            counted = omega arith;
            others = λ j b bj is none.
                let q = was j b bj in
                ⊎_elim inl (λ (less : all_counted vs < p.0.account.unjoined). inr (omega arith)) (all.others j q.0 q.1 (sym q.3 ∙ is) (sym (ap (λ (x : Account). x.counted) q.2) ∙ none));
          };
      gone = λ i a j ai met.
          let p = was i a ai in
          let g = k.gone i p.0 j p.1 (subst (λ (x : Account). Met j x.joined) p.2 met) in
          dite (ℕ_discrete j id)
          (λ here. (w, ap (get_elem? (set vs id w)) here ∙ put_at vs id v w at, seat ∙ (ap (λ (u : View M C R). u.is_seat) (some-injective v g.0 (sym at ∙ (ap (get_elem? vs) (sym here) ∙ g.1))) ∙ g.2)))
          (λ other. (g.0, set_else vs id j w other ∙ g.1, g.2));
    }

    pub covered_again : (v.numbered ≡ true → (w.numbered ≡ true) × (w.number ≡ v.number)) → (n : ℕ) → IsCovered vs n → IsCovered (set vs id w) n
    covered_again numbers n (i, u, ui, known, met) = dite (ℕ_discrete i id)
        (λ here.
        let same : v ≡ u = some-injective v u (sym at ∙ (ap (get_elem? vs) (sym here) ∙ ui)) in
        let mine = numbers (ap (λ (x : View M C R). x.numbered) same ∙ known) in
        (id, w, put_at vs id v w at, mine.0, subst (λ (x : ℕ × Account). Met n (x.0 ∷ x.1.joined)) (λ k. (sym mine.1 k, sym account k)) (subst (λ (x : View M C R). Met n (x.number ∷ x.account.joined)) (sym same) met)))
        (λ other. (i, u, set_else vs id i w other ∙ ui, known, met))

  -- ---- which seats ended into it

  -- a seat into which the same ones ended
  module _ (vs : List (View M C R)) (id : ℕ) (v w : View M C R) (at : get_elem? vs id ≡ some v) (joined : w.account.joined ≡ v.account.joined) where
    joined_was : (k : ℕ) (c : View M C R) → get_elem? (set vs id w) k ≡ some c → (d : View M C R) × (get_elem? vs k ≡ some d) × (c.account.joined ≡ d.account.joined)
    joined_was k c e = ⊎_elim
        (λ (h : (k ≡ id) × (w ≡ c)). (v, ap (get_elem? vs) h.0 ∙ at, sym (ap (λ (u : View M C R). u.account.joined) h.1) ∙ joined))
        (λ (h : (k ≢ id) × (get_elem? vs k ≡ some c)). (c, h.1, refl)) (at_set vs id k w c e)

    pub once_again : AreJoinedOnce vs → AreJoinedOnce (set vs id w)
    once_again k = record {
      here = λ i a ai. let p = joined_was i a ai in subst AreDistinctNumbers (sym p.2) (k.here i p.0 p.1);
      elsewhere = λ i j n a b ai bj ma mb. let p = joined_was i a ai in let q = joined_was j b bj in k.elsewhere i j n p.0 q.0 p.1 q.1 (subst (Met n) p.2 ma) (subst (Met n) q.2 mb);
    }

  -- a view comes into which no seat has ended
  pub once_more : (vs : List (View M C R)) (w : View M C R) → w.account.joined ≡ [] → AreJoinedOnce vs → AreJoinedOnce (vs ++ w ∷ [])
  once_more vs w none k =
      let empty : (c : View M C R) → w ≡ c → c.account.joined ≡ [] = λ c same. sym (ap (λ (u : View M C R). u.account.joined) same) ∙ none in
      let never : (n : ℕ) (c : View M C R) → w ≡ c → Met n c.account.joined → ⊥ = λ n c same met. subst (Met n) (empty c same) met in
      record {
        here = λ i a ai. ⊎_elim (λ p. k.here i a p) (λ p. subst AreDistinctNumbers (sym (empty a p)) tt) (at_snoc vs w a i ai);
        elsewhere = λ i j n a b ai bj ma mb.
            ⊎_elim (λ p. ⊎_elim (λ q. k.elsewhere i j n a b p q ma mb) (λ q. absurd (never n b q mb)) (at_snoc vs w b j bj)) (λ p. absurd (never n a p ma)) (at_snoc vs w a i ai);
      }

  -- the number of a seat, and of those that ended into it
  pub all_distinct : (vs : List (View M C R)) (id : ℕ) (v : View M C R) → AreCounted vs → AreJoinedOnce vs → get_elem? vs id ≡ some v → v.is_seat ≡ true → v.number ≡ id → AreDistinctNumbers (v.number ∷ v.account.joined)
  all_distinct vs id v k once at seat number = (
    (λ met.
        let g = k.gone id v v.number at met in
        true_false (sym seat ∙ (ap (λ (u : View M C R). u.is_seat) (some-injective v g.0 (sym at ∙ (ap (get_elem? vs) (sym number) ∙ g.1))) ∙ g.2))),
    once.here id v at,
  )

  -- ---- a note of what a seat has seen

  pub counted_more : (vs : List (View M C R)) (w : View M C R) → w.is_seat ≡ false → w.account ≡ no_account → AreCounted vs → AreCounted (vs ++ w ∷ [])
  counted_more vs w not_seat none k =
      let never_first : (c : View M C R) → w ≡ c → c.account.is_first ≡ true → ⊥ = λ c same first. true_false (sym first ∙ (ap (λ (u : View M C R). u.account.is_first) (sym same) ∙ ap (λ (x : Account). x.is_first) none)) in
      record {
        one = λ i j a b ai bj fa fb.
            ⊎_elim (λ p. ⊎_elim (λ q. k.one i j a b p q fa fb) (λ q. absurd (never_first b q fb)) (at_snoc vs w b j bj)) (λ p. absurd (never_first a p fa)) (at_snoc vs w a i ai);
        all = λ i a ai fa. ⊎_elim
            (λ p.
            let all = k.all i a p fa in
            let few : all_counted vs ≤ a.account.unjoined = all.counted in
            let total = count_more vs w in
            let zero_more : w.account.counted ≡ 0 = ap (λ (x : Account). x.counted) none in
            record {
              counted = omega arith;
              others = λ j b bj is zero. ⊎_elim
                  (λ q. ⊎_elim inl (λ (less : all_counted vs < a.account.unjoined). inr (omega arith)) (all.others j b q is zero))
                  (λ q. absurd (true_false (sym is ∙ (ap (λ (u : View M C R). u.is_seat) (sym q) ∙ not_seat))))
                  (at_snoc vs w b j bj);
            })
            (λ p. absurd (never_first a p fa)) (at_snoc vs w a i ai);
        gone = λ i a j ai met. ⊎_elim
            (λ p. let g = k.gone i a j p met in (g.0, at_longer vs (w ∷ []) j g.0 g.1, g.2))
            (λ p. absurd (subst (Met j) (ap (λ (u : View M C R). u.account.joined) (sym p) ∙ ap (λ (x : Account). x.joined) none) met))
            (at_snoc vs w a i ai);
      }

  pub covered_more : (vs : List (View M C R)) (w : View M C R) (n : ℕ) → IsCovered vs n → IsCovered (vs ++ w ∷ []) n
  covered_more vs w n (i, u, ui, known, met) = (i, u, at_longer vs (w ∷ []) i u ui, known, met)

  -- ---- a seat is split

  module _ (vs : List (View M C R)) (id : ℕ) (v : View M C R) (at : get_elem? vs id ≡ some v) (seat : v.is_seat ≡ true) (k : AreCounted vs) where
    abbrev left : View M C R
    left = forked_view v

    abbrev right : View M C R
    right = fork_view v

    abbrev both : List (View M C R)
    both = set vs id left ++ right ∷ []

    fork_count : all_counted both + v.account.counted ≡ all_counted vs + right.account.counted
    fork_count = let a = count_set vs id v left at in let b = count_more (set vs id left) right in omega arith

    seen_in : (i : ℕ) (c : View M C R) → get_elem? both i ≡ some c → ((i ≡ id) × (left ≡ c)) ⊎ ((i ≢ id) × (get_elem? vs i ≡ some c)) ⊎ (right ≡ c)
    seen_in i c e = ⊎_elim (λ old. ⊎_elim inl (λ h. inr (inl h)) (at_set vs id i left c old)) (λ new. inr (inr new)) (at_snoc (set vs id left) right c i e)

    new_not_first : (c : View M C R) → right ≡ c → c.account.is_first ≡ true → ⊥
    new_not_first c same first = true_false (sym first ∙ (ap (λ (u : View M C R). u.account.is_first) (sym same) ∙ fork_is_not_first v.account.is_first))

    first_was : (i : ℕ) (c : View M C R) → get_elem? both i ≡ some c → c.account.is_first ≡ true → (d : View M C R) × (get_elem? vs i ≡ some d) × (d.account.is_first ≡ true)
    first_was i c e first = ⊎_elim
        (λ (h : (i ≡ id) × (left ≡ c)). (v, ap (get_elem? vs) h.0 ∙ at, ap (λ (u : View M C R). u.account.is_first) h.1 ∙ first))
        (⊎_elim (λ (h : (i ≢ id) × (get_elem? vs i ≡ some c)). (c, h.1, first)) (λ new. absurd (new_not_first c new first))) (seen_in i c e)

    -- the first seat was split
    first_splits : v.account.is_first ≡ true → CountsAll both id left
    first_splits first =
        let all = k.all id v at first in
        let few : all_counted vs ≤ v.account.unjoined = all.counted in
        let one : right.account.counted ≡ 1 = ap (λ b. (account_if_counted b).counted) first in
        let total = fork_count in record {
          counted = omega arith;
          others = λ j b bj is zero. ⊎_elim
              (λ (h : (j ≡ id) × (left ≡ b)). inl h.0)
              (⊎_elim
              (λ (h : (j ≢ id) × (get_elem? vs j ≡ some b)). ⊎_elim inl (λ (less : all_counted vs < v.account.unjoined). inr (omega arith)) (all.others j b h.1 is zero))
              (λ new. let counts : right.account.counted ≡ b.account.counted = ap (λ (u : View M C R). u.account.counted) new in absurd (omega arith)))
              (seen_in j b bj);
        }

    -- another seat was split
    other_splits : (i : ℕ) (a : View M C R) → i ≢ id → get_elem? vs i ≡ some a → a.account.is_first ≡ true → CountsAll both i a
    other_splits i a apart ai first =
        let all = k.all i a ai first in
        let few : all_counted vs ≤ a.account.unjoined = all.counted in
        let not_first : v.account.is_first ≡ false = ⊎_elim (λ yes. absurd (apart (k.one i id a v ai at first yes))) (λ no. no) (bool_cases v.account.is_first) in
        let none : right.account.counted ≡ 0 = ap (λ b. (account_if_counted b).counted) not_first in
        let total = fork_count in
        let fewer : all_counted both < a.account.unjoined = dite (ℕ_discrete v.account.counted 0)
        (λ (zero : v.account.counted ≡ 0). ⊎_elim (λ same. absurd (apart (sym same))) (λ (less : all_counted vs < a.account.unjoined). omega arith) (all.others id v at seat zero))
        (λ some_more. omega arith) in
        record { counted = omega arith; others = λ j b bj is zero. inr fewer }

    pub counted_fork : AreCounted both
    counted_fork = record {
      one = λ i j a b ai bj fa fb. let p = first_was i a ai fa in let q = first_was j b bj fb in k.one i j p.0 q.0 p.1 q.1 p.2 q.2;
      all = λ i a ai fa. ⊎_elim
          (λ (h : (i ≡ id) × (left ≡ a)). subst (λ (x : ℕ × View M C R). CountsAll both x.0 x.1) (λ n. (sym h.0 n, h.1 n)) (first_splits (ap (λ (u : View M C R). u.account.is_first) h.1 ∙ fa)))
          (⊎_elim (λ (h : (i ≢ id) × (get_elem? vs i ≡ some a)). other_splits i a h.0 h.1 fa) (λ new. absurd (new_not_first a new fa))) (seen_in i a ai);
      gone = λ i a j ai met.
          let still : (x : View M C R) → get_elem? vs j ≡ some x → x.is_seat ≡ false → (w : View M C R) × (get_elem? both j ≡ some w) × (w.is_seat ≡ false)
          = λ x xj ended. dite (ℕ_discrete j id)
          (λ here. absurd (true_false (sym seat ∙ (ap (λ (u : View M C R). u.is_seat) (some-injective v x (sym at ∙ (ap (get_elem? vs) (sym here) ∙ xj))) ∙ ended))))
          (λ other. (x, at_longer (set vs id left) (right ∷ []) j x (set_else vs id j left other ∙ xj), ended)) in
          ⊎_elim
          (λ (h : (i ≡ id) × (left ≡ a)). let g = k.gone id v j at (subst (λ (u : View M C R). Met j u.account.joined) (sym h.1) met) in still g.0 g.1 g.2)
          (⊎_elim (λ (h : (i ≢ id) × (get_elem? vs i ≡ some a)). let g = k.gone i a j h.1 met in still g.0 g.1 g.2)
          (λ new. absurd (subst (Met j) (ap (λ (u : View M C R). u.account.joined) (sym new) ∙ fork_joined_none v.account.is_first) met))) (seen_in i a ai);
    }

    pub once_fork : AreJoinedOnce vs → AreJoinedOnce both
    once_fork once = once_more (set vs id left) right (fork_joined_none v.account.is_first) (once_again vs id v left at refl once)

    pub covered_fork : (n : ℕ) → IsCovered vs n → IsCovered both n
    covered_fork n (i, u, ui, known, met) = dite (ℕ_discrete i id)
        (λ here.
        let same : v ≡ u = some-injective v u (sym at ∙ (ap (get_elem? vs) (sym here) ∙ ui)) in (
          id,
          left,
          at_longer (set vs id left) (right ∷ []) id left (put_at vs id v left at),
          ap (λ (x : View M C R). x.numbered) same ∙ known,
          subst (λ (x : View M C R). Met n (x.number ∷ x.account.joined)) (sym same) met,
        ))
        (λ other. (i, u, at_longer (set vs id left) (right ∷ []) i u (set_else vs id i left other ∙ ui), known, met))

  -- ---- a seat ends into another

  module _ (vs : List (View M C R)) (id other : ℕ) (v w : View M C R) (apart : other ≢ id) (at : get_elem? vs id ≡ some v) (there : get_elem? vs other ≡ some w) (seat : v.is_seat ≡ true) (number : w.number ≡ other) where
    abbrev into : View M C R
    into = joined_view v w

    abbrev after : List (View M C R)
    after = set (set vs id into) other ended_view

    still_there : get_elem? (set vs id into) other ≡ some w
    still_there = set_else vs id other into apart ∙ there

    into_there : get_elem? after id ≡ some into
    into_there = set_else (set vs id into) other id ended_view (λ e. apart (sym e)) ∙ put_at vs id v into at

    ended_there : get_elem? after other ≡ some ended_view
    ended_there = put_at (set vs id into) other w ended_view still_there

    old_there : (j : ℕ) (x : View M C R) → j ≢ id → j ≢ other → get_elem? vs j ≡ some x → get_elem? after j ≡ some x
    old_there j x not_id not_other xj = set_else (set vs id into) other j ended_view not_other ∙ (set_else vs id j into not_id ∙ xj)

    end_count : all_counted after + w.account.counted ≡ all_counted vs
    end_count = let a = count_set vs id v into at in let b = count_set (set vs id into) other w ended_view still_there in omega arith

    met_in : (i : ℕ) (c : View M C R) → get_elem? after i ≡ some c → (ended_view ≡ c) ⊎ ((i ≡ id) × (into ≡ c)) ⊎ ((i ≢ id) × (i ≢ other) × (get_elem? vs i ≡ some c))
    met_in i c e = ⊎_elim (λ (h : (i ≡ other) × (ended_view ≡ c)). inl h.1)
        (λ (h : (i ≢ other) × (get_elem? (set vs id into) i ≡ some c)). ⊎_elim (λ here. inr (inl here)) (λ (o : (i ≢ id) × (get_elem? vs i ≡ some c)). inr (inr (o.0, h.0, o.1))) (at_set vs id i into c h.1)) (at_set (set vs id into) other i ended_view c e)

    ended_not_first : (c : View M C R) → ended_view ≡ c → c.account.is_first ≡ true → ⊥
    ended_not_first c same first = true_false (sym first ∙ ap (λ (u : View M C R). u.account.is_first) (sym same))

    ended_no_seat : (c : View M C R) → ended_view ≡ c → c.is_seat ≡ true → ⊥
    ended_no_seat c same is = true_false (sym is ∙ ap (λ (u : View M C R). u.is_seat) (sym same))

    one_was : (i : ℕ) (c : View M C R) → get_elem? after i ≡ some c → c.account.is_first ≡ true → (d : View M C R) × (get_elem? vs i ≡ some d) × (d.account.is_first ≡ true)
    one_was i c e first = ⊎_elim (λ ended. absurd (ended_not_first c ended first))
        (⊎_elim (λ (h : (i ≡ id) × (into ≡ c)). (v, ap (get_elem? vs) h.0 ∙ at, ap (λ (u : View M C R). u.account.is_first) h.1 ∙ first)) (λ (h : (i ≢ id) × (i ≢ other) × (get_elem? vs i ≡ some c)). (c, h.2, first))) (met_in i c e)

    -- it ended into the first seat
    first_joins : AreCounted vs → v.account.is_first ≡ true → CountsAll after id into
    first_joins k first =
        let all = k.all id v at first in
        let few : all_counted vs ≤ v.account.unjoined = all.counted in
        let total = end_count in record {
          counted = omega arith;
          others = λ j b bj is zero. ⊎_elim (λ ended. absurd (ended_no_seat b ended is))
              (⊎_elim (λ (h : (j ≡ id) × (into ≡ b)). inl h.0)
              (λ (h : (j ≢ id) × (j ≢ other) × (get_elem? vs j ≡ some b)). ⊎_elim inl (λ (less : all_counted vs < v.account.unjoined). inr (omega arith)) (all.others j b h.2 is zero))) (met_in j b bj);
        }

    -- it ended into another seat
    other_joins : AreCounted vs → (i : ℕ) (a : View M C R) → get_elem? vs i ≡ some a → a.account.is_first ≡ true → CountsAll after i a
    other_joins k i a ai first =
        let all = k.all i a ai first in
        let few : all_counted vs ≤ a.account.unjoined = all.counted in
        let total = end_count in
        let less : (all_counted vs < a.account.unjoined) → all_counted after < a.account.unjoined = λ h. omega arith in record {
          counted = omega arith;
          others = λ j b bj is zero. ⊎_elim (λ ended. absurd (ended_no_seat b ended is))
              (⊎_elim
              (λ (h : (j ≡ id) × (into ≡ b)). ⊎_elim (λ same. inl (h.0 ∙ same)) (λ l. inr (less l)) (all.others id v at seat (ap (λ (u : View M C R). u.account.counted) h.1 ∙ zero)))
              (λ (h : (j ≢ id) × (j ≢ other) × (get_elem? vs j ≡ some b)). ⊎_elim inl (λ l. inr (less l)) (all.others j b h.2 is zero))) (met_in j b bj);
        }

    pub counted_end : AreCounted vs → AreCounted after
    counted_end k =
        let still : (j : ℕ) (x : View M C R) → get_elem? vs j ≡ some x → x.is_seat ≡ false → (u : View M C R) × (get_elem? after j ≡ some u) × (u.is_seat ≡ false)
        = λ j x xj ended. dite (ℕ_discrete j other) (λ here. (ended_view, ap (get_elem? after) here ∙ ended_there, refl))
        (λ not_other. dite (ℕ_discrete j id)
        (λ here. absurd (true_false (sym seat ∙ (ap (λ (u : View M C R). u.is_seat) (some-injective v x (sym at ∙ (ap (get_elem? vs) (sym here) ∙ xj))) ∙ ended))))
        (λ not_id. (x, old_there j x not_id not_other xj, ended))) in record {
          one = λ i j a b ai bj fa fb. let p = one_was i a ai fa in let q = one_was j b bj fb in k.one i j p.0 q.0 p.1 q.1 p.2 q.2;
          all = λ i a ai fa. ⊎_elim (λ ended. absurd (ended_not_first a ended fa))
              (⊎_elim
              (λ (h : (i ≡ id) × (into ≡ a)). subst (λ (x : ℕ × View M C R). CountsAll after x.0 x.1) (λ n. (sym h.0 n, h.1 n)) (first_joins k (ap (λ (u : View M C R). u.account.is_first) h.1 ∙ fa)))
              (λ (h : (i ≢ id) × (i ≢ other) × (get_elem? vs i ≡ some a)). other_joins k i a h.2 fa)) (met_in i a ai);
          gone = λ i a j ai met. ⊎_elim (λ ended. absurd (subst (λ (u : View M C R). Met j u.account.joined) (sym ended) met))
              (⊎_elim
              (λ (h : (i ≡ id) × (into ≡ a)). ⊎_elim
              (λ this. (ended_view, ap (get_elem? after) (this ∙ number) ∙ ended_there, refl))
              (λ earlier. ⊎_elim (λ of_w. let g = k.gone other w j there of_w in still j g.0 g.1 g.2) (λ of_v. let g = k.gone id v j at of_v in still j g.0 g.1 g.2) (met_parts j w.account.joined v.account.joined earlier))
              (subst (λ (u : View M C R). Met j u.account.joined) (sym h.1) met))
              (λ (h : (i ≢ id) × (i ≢ other) × (get_elem? vs i ≡ some a)). let g = k.gone i a j h.2 met in still j g.0 g.1 g.2)) (met_in i a ai);
        }

    pub once_end : AreCounted vs → w.is_seat ≡ true → AreJoinedOnce vs → AreJoinedOnce after
    once_end k was_seat once =
        let never : (i : ℕ) (a : View M C R) → get_elem? vs i ≡ some a → Met other a.account.joined → ⊥
        = λ i a ai met. let g = k.gone i a other ai met in true_false (sym was_seat ∙ (ap (λ (u : View M C R). u.is_seat) (some-injective w g.0 (sym there ∙ g.1)) ∙ g.2)) in
        let of_both : (n : ℕ) → Met n w.account.joined → Met n v.account.joined → ⊥ = λ n of_w of_v. apart (once.elsewhere other id n w v there at of_w of_v) in
        let into_once : AreDistinctNumbers into.account.joined
        = (
          (λ met. ⊎_elim (never other w there) (never id v at) (met_parts other w.account.joined v.account.joined (subst (λ n. Met n (w.account.joined ++ v.account.joined)) number met))),
          distinct_both w.account.joined v.account.joined (once.here other w there) (once.here id v at) of_both,
        ) in
        let beside : (j n : ℕ) (b : View M C R) → (j ≢ id) × (j ≢ other) × (get_elem? vs j ≡ some b) → Met n into.account.joined → Met n b.account.joined → ⊥
        = λ j n b h mi mb. ⊎_elim
        (λ this. never j b h.2 (subst (λ m. Met m b.account.joined) (this ∙ number) mb))
        (λ earlier. ⊎_elim
        (λ of_w. h.1 (sym (once.elsewhere other j n w b there h.2 of_w mb)))
        (λ of_v. h.0 (sym (once.elsewhere id j n v b at h.2 of_v mb)))
        (met_parts n w.account.joined v.account.joined earlier)) mi in
        let empty : (n : ℕ) (c : View M C R) → ended_view ≡ c → Met n c.account.joined → ⊥ = λ n c ended met. subst (λ (u : View M C R). Met n u.account.joined) (sym ended) met in
        record {
          here = λ i a ai. ⊎_elim (λ ended. subst (λ (u : View M C R). AreDistinctNumbers u.account.joined) ended tt)
              (⊎_elim (λ (h : (i ≡ id) × (into ≡ a)). subst (λ (u : View M C R). AreDistinctNumbers u.account.joined) h.1 into_once)
              (λ (h : (i ≢ id) × (i ≢ other) × (get_elem? vs i ≡ some a)). once.here i a h.2)) (met_in i a ai);
          elsewhere = λ i j n a b ai bj ma mb. ⊎_elim (λ ended. absurd (empty n a ended ma))
              (λ p. ⊎_elim (λ ended. absurd (empty n b ended mb))
              (λ q. ⊎_elim
              (λ (g : (i ≡ id) × (into ≡ a)). ⊎_elim
              (λ (h : (j ≡ id) × (into ≡ b)). g.0 ∙ sym h.0)
              (λ (h : (j ≢ id) × (j ≢ other) × (get_elem? vs j ≡ some b)). absurd (beside j n b h (subst (λ (u : View M C R). Met n u.account.joined) (sym g.1) ma) mb)) q)
              (λ (g : (i ≢ id) × (i ≢ other) × (get_elem? vs i ≡ some a)). ⊎_elim
              (λ (h : (j ≡ id) × (into ≡ b)). absurd (beside i n a g (subst (λ (u : View M C R). Met n u.account.joined) (sym h.1) mb) ma))
              (λ (h : (j ≢ id) × (j ≢ other) × (get_elem? vs j ≡ some b)). once.elsewhere i j n a b g.2 h.2 ma mb) q) p) (met_in j b bj)) (met_in i a ai);
        }

    pub covered_end : v.numbered ≡ true → (n : ℕ) → IsCovered vs n → IsCovered after n
    covered_end numbered n (i, u, ui, known, met) = dite (ℕ_discrete i other)
        (λ here.
        let same : w ≡ u = some-injective w u (sym there ∙ (ap (get_elem? vs) (sym here) ∙ ui)) in
        let of_w : Met n (w.number ∷ w.account.joined) = subst (λ (x : View M C R). Met n (x.number ∷ x.account.joined)) (sym same) met in
        (id, into, into_there, numbered, inr (⊎_elim inl (λ earlier. inr (met_left n w.account.joined v.account.joined earlier)) of_w)))
        (λ not_other. dite (ℕ_discrete i id)
        (λ here.
        let same : v ≡ u = some-injective v u (sym at ∙ (ap (get_elem? vs) (sym here) ∙ ui)) in
        let of_v : Met n (v.number ∷ v.account.joined) = subst (λ (x : View M C R). Met n (x.number ∷ x.account.joined)) (sym same) met in
        (id, into, into_there, numbered, ⊎_elim inl (λ earlier. inr (inr (met_right n w.account.joined v.account.joined earlier))) of_v))
        (λ not_id. (i, u, old_there i u not_id not_other ui, known, met)))

  -- ---- the first seat, when all have ended into it

  pub only_seat : (vs : List (View M C R)) (id : ℕ) (v : View M C R) → AreCounted vs → get_elem? vs id ≡ some v → IsComplete v.account → (j : ℕ) (w : View M C R) → get_elem? vs j ≡ some w → w.is_seat ≡ true → j ≡ id
  only_seat vs id v k at complete j w wj seat =
      let all = k.all id v at complete.first in
      let few : all_counted vs ≤ v.account.unjoined = all.counted in
      let none : v.account.unjoined ≡ 0 = complete.joined in
      let one = one_counts vs j w wj in
      ⊎_elim (λ same. same) (λ (less : all_counted vs < v.account.unjoined). absurd (omega arith)) (all.others j w wj seat (omega arith))

  pub all_by_it : (vs : List (View M C R)) (id : ℕ) (v : View M C R) (log : List (Turn C R)) → AreCounted vs → get_elem? vs id ≡ some v → IsComplete v.account
      → ((j : ℕ) (w : View M C R) → get_elem? vs j ≡ some w → w.numbered ≡ true → w.is_seat ≡ true) → AreCovered vs log → AreMadeBy (v.number ∷ v.account.joined) log
  all_by_it vs id v log k at complete seated covered =
      all_weaker (λ (t : Turn C R). IsCovered vs t.seat) (λ (t : Turn C R). Met t.seat (v.number ∷ v.account.joined)) log
      (λ t c.
      let here : c.0 ≡ id = only_seat vs id v k at complete c.0 c.1 c.2 (seated c.0 c.1 c.2 c.3) in
      let same : c.1 ≡ v = some-injective c.1 v (sym c.2 ∙ (ap (get_elem? vs) here ∙ at)) in
      subst (λ (x : View M C R). Met t.seat (x.number ∷ x.account.joined)) same c.4) covered

nothing_more : {A : Type 0} (xs rest : List A) → xs ++ rest ≡ xs → rest ≡ []
nothing_more xs [] e = refl
nothing_more xs (r ∷ rest) e = let l = ap length e in let a = length-append xs (r ∷ rest) in absurd (omega arith)

module _ {C R : Type 0} where
  of_parts : (n : ℕ) (xs ys : List (Turn C R)) → turns_of n (xs ++ ys) ≡ turns_of n xs ++ turns_of n ys
  of_parts n xs ys = filter-append (λ t. eqb t.seat n) xs ys

  own_turn : (t : Turn C R) (ts : List (Turn C R)) → turns_of t.seat (t ∷ ts) ≡ [] → ⊥
  own_turn t ts none =
      let first : turns_of t.seat (t ∷ ts) ≡ t ∷ turns_of t.seat ts = ap (λ b. cond b (t ∷ turns_of t.seat ts) (turns_of t.seat ts)) (eq-eqb t.seat t.seat refl) in
      let l = ap length (sym first ∙ none) in absurd (omega arith)

  -- a history, each turn of which is by a seat whose turns were all seen, was all seen
  pub all_seen : (numbers : List ℕ) (log seen : List (Turn C R)) → StartsWith log seen → AreMadeBy numbers log → ((j : ℕ) → Met j numbers → turns_of j log ≡ turns_of j seen) → log ≡ seen
  all_seen numbers log seen (rest, is) made known = is ∙ (ap (λ l. seen ++ l) (no_rest rest is) ∙ append-nil seen)
    where
      no_rest : (rest : List (Turn C R)) → log ≡ seen ++ rest → rest ≡ []
      no_rest [] is = refl
      no_rest (t ∷ ts) is =
          let later = (all_split (λ (t : Turn C R). Met t.seat numbers) seen (t ∷ ts) (subst (AllByRecursion (λ (t : Turn C R). Met t.seat numbers)) is made)).1 in
          let parts : turns_of t.seat log ≡ turns_of t.seat seen ++ turns_of t.seat (t ∷ ts) = ap (turns_of t.seat) is ∙ of_parts t.seat seen (t ∷ ts) in
          absurd (own_turn t ts (nothing_more (turns_of t.seat seen) (turns_of t.seat (t ∷ ts)) (sym parts ∙ known t.seat later.0)))
