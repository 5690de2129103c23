-- Seats that threads give back.
use Rattle.std.proofs.Common.{◌≡◌, ◌∙◌, ℕ, ◌+◌, ◌-◌, ◌==◌, true, false, List, [], ◌∷◌, ◌++◌, map, length, length-append, append-nil, cond, true≢false, inl, inr, refl, sym, ap, subst, arith}
use Rattle.std.specs.Prelude.{Option, Some, None, IfSome, IsSomeAnd}
use Rattle.std.specs.List.{AllByRecursion}
use Rattle.std.proofs.lemmas.Bool.Decides.{Decides-eqb}
use Rattle.cops_gate.specs.declared.board.Account.{Account}
use Rattle.cops_gate.specs.declared.history.Turn.{Turn}
use Rattle.cops_gate.specs.Accounts.{IsComplete, counted_account, first_of, forked}
use Rattle.cops_gate.specs.History.{turns_of}
use Rattle.cops_gate.specs.Rule.{AreDistinctNumbers, Met}
use Rattle.cops_gate.specs.Seats.{AreMadeBy, HasAllOf, HasAllTurns, Known, Origin, all_joined, all_spent, first_seat, split_off}
use Rattle.cops_gate.proofs.Ending.{all_joined as all_parts}
use Rattle.cops_service.specs.Gates.{HasSplitOff}
use Rattle.cops_service.specs.SeatsDone.{AreThenOne, HasSeenAll}

-- ---- the first seat counts those that are split off from it

module _ {M C R : Type 0} where
  pub none_split : (gate : Origin M) (seat : Known M C R) → seat ≡ first_seat gate → HasSplitOff 0 seat
  none_split gate seat is = subst (HasSplitOff 0) (sym is) (refl, refl, refl)

  pub one_more_split : (count : ℕ) (old new : Known M C R) → HasSplitOff count old → new ≡ split_off old → HasSplitOff (count + 1) new
  one_more_split count old new h is = subst (HasSplitOff (count + 1)) (sym is) (h.0, ap forked h.1, h.2)

  pub is_the_first : (count : ℕ) (seat : Known M C R) → HasSplitOff count seat → seat.account.is_first ≡ true
  is_the_first count seat h = ap (λ (a : Account). a.is_first) h.1

-- ---- and so it knows when all have ended

module _ {M C R : Type 0} (account : Account) where
  first_still : (seats : List (Known M C R)) → (all_joined account seats).is_first ≡ account.is_first
  first_still [] = refl
  first_still (s ∷ seats) = first_still seats

  unjoined_are : (seats : List (Known M C R)) → AllByRecursion (λ (s : Known M C R). s.account ≡ counted_account) seats → (all_joined account seats).unjoined ≡ account.unjoined - length seats
  unjoined_are [] all = omega arith
  unjoined_are (s ∷ seats) all = let one : s.account.counted ≡ 1 = ap (λ (a : Account). a.counted) all.0 in let rest = unjoined_are seats all.1 in omega arith

  joined_are : (seats : List (Known M C R)) → AllByRecursion (λ (s : Known M C R). s.account ≡ counted_account) seats → (all_joined account seats).joined ≡ map (λ (s : Known M C R). s.number) seats ++ account.joined
  joined_are [] all = refl
  joined_are (s ∷ seats) all = λ i. s.number ∷ ((ap (λ (a : Account). a.joined) all.0 i) ++ joined_are seats all.1 i)

-- a seat that made no turn made none of these
not_by : {C R : Type 0} (number : ℕ) (numbers : List ℕ) (log : List (Turn C R)) → turns_of number log ≡ [] → AreMadeBy (number ∷ numbers) log → AreMadeBy numbers log
not_by number numbers [] none made = tt
not_by number numbers (t ∷ ts) none made = (elim (t.seat == number) as (λ b. (t.seat == number) ≡ b → cond b (t ∷ turns_of number ts) (turns_of number ts) ≡ [] → Met t.seat numbers × AreMadeBy numbers ts) [
  | true ↦ λ is some. absurd (not_empty t (turns_of number ts) some)
  | false ↦ λ is rest. (
    elim made.0 [
      | inl same ↦ absurd (true≢false (sym ((Decides-eqb t.seat number).1 same) ∙ is))
      | inr other ↦ other
    ],
    not_by number numbers ts rest made.1,
  )
]) refl none
  where
    not_empty : {A : Type 0} (x : A) (xs : List A) → x ∷ xs ≡ [] → ⊥
    not_empty x xs e = let l = ap length e in omega arith

-- ---- these seats and one more

module _ {S : Type 0} (Are : List S → Type 0) (Is : S → Type 0) where
  pub all_then_one : (P : S → Type 0) → ((seats : List S) → Are seats → AllByRecursion P seats) → ((seat : S) → Is seat → P seat) → (seats : List S) → AreThenOne Are Is seats → AllByRecursion P seats
  all_then_one P each one seats h = subst (AllByRecursion P) (sym h.are) (all_parts P h.others (h.one ∷ []) (each h.others h.those) (one h.one h.that, tt))

  pub one_more : (count : ℕ) → ((seats : List S) → Are seats → length seats ≡ count) → (seats : List S) → AreThenOne Are Is seats → length seats ≡ count + 1
  one_more count many seats h = let all = ap length h.are in let both = length-append h.others (h.one ∷ []) in let those = many h.others h.those in omega arith

-- if seats are there, these are they, and the one that was added to them
pub added : {F S : Type 0} (seats_in : F → List S) (Are : List S → Type 0) (Is : S → Type 0) (one : S) → Is one → (old new : Option F) → IfSome old (λ f. Are (seats_in f)) → IfSome new (λ f. IsSomeAnd old (λ g. seats_in f ≡ seats_in g ++ one ∷ []))
    → IfSome new (λ f. AreThenOne Are Is (seats_in f))
added seats_in Are Is one is old None are behind = tt
added seats_in Are Is one is None (Some new) are behind = absurd behind
added seats_in Are Is one is (Some old) (Some new) are behind = record { others = seats_in old; one = one; are = behind; those = are; that = is }

-- ---- the seat that they ended into

module _ {M C R : Type 0} (Are : List (Known M C R) → Type 0) (count : ℕ) where
  pub seen_all : (old new : Known M C R) (seats : List (Known M C R)) → Are seats → HasSplitOff count old → AllByRecursion (λ seat. HasAllOf new.history seat) seats → turns_of new.number new.history ≡ turns_of old.number old.history
      → new.account ≡ all_joined old.account seats → new.spent ≡ all_spent old.spent seats → HasSeenAll Are count new
  seen_all old new seats are first all same account spent = record {
    seats = seats;
    crew = are;
    all = all;
    no_turn = same ∙ first.0;
    account = account ∙ ap (λ a. all_joined a seats) first.1;
    spent = spent ∙ ap (λ met. all_spent met seats) first.2;
  }

  module _ (many : (seats : List (Known M C R)) → Are seats → length seats ≡ count) (counted : (seats : List (Known M C R)) → Are seats → AllByRecursion (λ (s : Known M C R). s.account ≡ counted_account) seats)
      (seat : Known M C R) (seen : HasSeenAll Are count seat) where
    all_ended : IsComplete seat.account
    all_ended =
        let there = many seen.seats seen.crew in
        let out = unjoined_are (first_of count) seen.seats (counted seen.seats seen.crew) in
        let none : (all_joined (first_of count) seen.seats).unjoined ≡ 0 = omega arith in record {
          first = ap (λ (a : Account). a.is_first) seen.account ∙ first_still (first_of count) seen.seats;
          joined = ap (λ (a : Account). a.unjoined) seen.account ∙ none;
        }

    -- so the history of the gate is theirs
    pub whole_of_all : (log : List (Turn C R)) → turns_of seat.number log ≡ turns_of seat.number seat.history → HasAllTurns log seat
        → (log ≡ seat.history) × AreMadeBy (map (λ (s : Known M C R). s.number) seen.seats) log × AreDistinctNumbers (map (λ (s : Known M C R). s.number) seen.seats)
    whole_of_all log same has =
        let whole = has all_ended in
        let joined : seat.account.joined ≡ map (λ (s : Known M C R). s.number) seen.seats
        = ap (λ (a : Account). a.joined) seen.account ∙ (joined_are (first_of count) seen.seats (counted seen.seats seen.crew) ∙ append-nil (map (λ (s : Known M C R). s.number) seen.seats)) in
        (whole.0, subst (λ numbers. AreMadeBy numbers log) joined (not_by seat.number seat.account.joined log (same ∙ seen.no_turn) whole.1), subst AreDistinctNumbers joined whole.2.1)
