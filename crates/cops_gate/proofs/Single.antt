-- A gate of one machine: what a history of one node says.
use Rattle.std.proofs.Common.{arith, ◌≡◌, ℕ, eqb, cond, true, false, ◌+◌, ◌^◌, ◌≤◌, [], ◌∷◌, List, length, ap, sym, refl, ◌∙◌, subst, Option, Some, None, Result, Ok, Err, IfOk, IfSome}
use lib.ListN.{get_elem?}
use Rattle.cops_gate.specs.declared.board.Account.{Account}
use Rattle.cops_gate.specs.declared.history.Entry.{Entry}
use Rattle.cops_gate.specs.declared.history.Turn.{Turn}
use Rattle.cops_gate.specs.Filtered.{GrowsThere}
use Rattle.cops_gate.specs.History.{entry, turns_of, turns_at, StartsWith, Leads, Grows}
use Rattle.cops_gate.specs.Plays.{HasRoom}
use Rattle.cops_gate.specs.Rule.{AreDistinctNumbers, Met}
use Rattle.cops_gate.specs.Accounts.{IsComplete}
use Rattle.cops_gate.specs.Seats.{AreMadeBy, ClosesWith, GateHome, Known, Origin}
use Rattle.cops_gate.specs.Single.{ClosesAlone, SingleOrigin, only, single_home}
use Rattle.cops_gate.proofs.Filtering.{of_at, turns_are_of_one_node}
use Rattle.cops_gate.proofs.Histories.{node_parts}

module _ {M : Type 0} where
  -- a list of one has its only item
  pub only_is : (xs : List M) (one : length xs ≡ 1) → xs ≡ only xs one ∷ []
  only_is [] none = absurd (omega arith)
  only_is (x ∷ []) one = refl
  only_is (x ∷ y ∷ ys) more = absurd (omega arith)

module _ {C R : Type 0} where
  pub starts_there : (log seen : List (Turn C R)) → StartsWith log seen → StartsWith (turns_at 0 log) (turns_at 0 seen)
  starts_there log seen p = (turns_at 0 p.0, ap (turns_at 0) p.1 ∙ node_parts 0 seen p.0)

  -- turns of a seat at the node, as the seat's turns in all
  pub same_turns : (n m : ℕ) (log seen : List (Turn C R)) → turns_of n log ≡ turns_of m seen → turns_of n (turns_at 0 log) ≡ turns_of m (turns_at 0 seen)
  same_turns n m log seen same = of_at n 0 log ∙ ap (turns_at 0) same ∙ sym (of_at m 0 seen)

  -- the turns at the node were made by the same seats
  made_at : (numbers : List ℕ) (log : List (Turn C R)) → AreMadeBy numbers log → AreMadeBy numbers (turns_at 0 log)
  made_at numbers [] made = tt
  made_at numbers (t ∷ ts) made = elim (eqb t.node 0) as (λ b. AreMadeBy numbers (cond b (t ∷ turns_at 0 ts) (turns_at 0 ts))) [
    | true ↦ (made.0, made_at numbers ts made.1)
    | false ↦ made_at numbers ts made.1
  ]

  pub no_turns : (n : ℕ) (log : List (Turn C R)) → turns_of n log ≡ [] → turns_of n (turns_at 0 log) ≡ []
  no_turns n log none = of_at n 0 log ∙ ap (turns_at 0) none

module _ {M C R : Type 0} (turns : M → ℕ → ℕ → C → R → M → Type 0) (m : M) where
  pub grows_there : (states : List M) (number : ℕ) (before after : List (Turn C R)) (e : Option (Entry C R)) → states ≡ m ∷ [] → Grows turns states number 0 before e after
      → GrowsThere turns m number 0 (turns_at 0 before) e (turns_at 0 after)
  grows_there states number before after e is grown = turns_are_of_one_node turns states m number 0 before after e (ap (λ l. get_elem? l 0) is) grown

  pub replies_there : (states : List M) (number slot moment : ℕ) (call : C) {E : Type 0} (answer : Result R E) (before after : List (Turn C R)) → states ≡ m ∷ []
      → IfOk answer (λ r. Grows turns states number 0 before (Some (entry slot moment call r)) after)
      → IfOk answer (λ r. GrowsThere turns m number 0 (turns_at 0 before) (Some (entry slot moment call r)) (turns_at 0 after))
  replies_there states number slot moment call (Ok r) before after is grown = grows_there states number before after (Some (entry slot moment call r)) is grown
  replies_there states number slot moment call (Err e) before after is grown = tt

  pub closes_alone : {P : Type 0} (place : M → P) (gate : Origin M) (single : SingleOrigin M) (seat : Known M C R) (mine : Known M C R) (result : Option M) → gate.opening ≡ m ∷ [] → single.opening ≡ m → single.ticket ≡ gate.ticket
      → mine.number ≡ seat.number → mine.history ≡ turns_at 0 seat.history → mine.spent ≡ seat.spent → mine.account ≡ seat.account
      → ClosesWith turns place gate seat (result ∷ []) → IfSome result (λ machine. ClosesAlone turns single mine machine × (place machine ≡ place m))
  closes_alone place gate single seat mine None opened is ticket number history spent account ends = tt
  closes_alone place gate single seat mine (Some machine) opened is ticket number history spent account ends =
      let log = turns_at 0 ends.0 in
      let left = ends.4 0 m machine (ap (λ l. get_elem? l 0) opened) refl in (
        (
          log,
          subst (StartsWith log) (sym history) (starts_there ends.0 seat.history ends.1),
          subst (λ o. Leads turns o log machine) (sym is) left.0,
          subst (λ n. turns_of n log ≡ turns_of n mine.history) (sym number) (same_turns seat.number seat.number ends.0 seat.history ends.2 ∙ ap (turns_of seat.number) (sym history)),
          (λ complete.
              let all = ends.3 (subst IsComplete account complete) in (
                ap (turns_at 0) all.0 ∙ sym history,
                subst (λ (x : ℕ × Account). AreMadeBy (x.0 ∷ x.1.joined) log) (λ i. (sym number i, sym account i)) (made_at (seat.number ∷ seat.account.joined) ends.0 all.1),
                subst (λ (x : ℕ × Account). AreDistinctNumbers (x.0 ∷ x.1.joined)) (λ i. (sym number i, sym account i)) all.2,
              )),
          (λ met. ap (λ t. t + length log) ticket ∙ left.2 (subst (Met 0) spent met)),
        ),
        left.1,
      )

module _ {A : Type 0} (P Q : A → Type 0) where
  pub first_part : (o : Option A) → IfSome o (λ x. P x × Q x) → IfSome o P
  first_part None h = tt
  first_part (Some x) h = h.0

  pub second_part : (o : Option A) → IfSome o (λ x. P x × Q x) → IfSome o Q
  second_part None h = tt
  second_part (Some x) h = h.1

-- there are no more turns than tickets below 2^62
pub room_there : {M C R : Type 0} (home : GateHome M) (gate : SingleOrigin M) (seen : List (Turn C R)) → home ≡ single_home gate → HasRoom home.opening seen → gate.ticket + length (turns_at 0 seen) ≤ 2 ^ 62
room_there home gate seen is room = room (record { states = gate.opening ∷ []; ticket = gate.ticket }) (ap (λ h. h.opening) is) 0 gate.opening refl
