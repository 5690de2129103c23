-- Each step at the gate keeps its rule.
use Rattle.std.proofs.Common.{◌≡◌, ◌≢◌, ℕ, zero, suc, ◌+◌, ◌*◌, ◌^◌, ◌<◌, ◌≤◌, ◌⊎◌, inl, inr, ⊎_elim, eqb, true, false, List, [], ◌∷◌, ◌++◌, length, get_or, set, append-nil, sym, refl, ap, ◌∙◌, subst, arith, length-set, length-append, Option, Some, IfSome, replicate}
use mathlib.Core.Logic.{dite}
use mathlib.Core.Option.{some, none, some-injective, some-ne-none}
use mathlib.Core.Option as option
use native.Mathlib.Decide.{ℕ_discrete}
use lib.ListN.{get_elem?}
use lib.Seq.{set-get_or}
use prog.Atomic.{either}
use Rattle.atomic_table.specs.Table.{State, Act, keeps, takes, gives, step, stepped, Valid, carried_after, Allows, Splits, Joins, opening, Final, Seen, rest, put_back}
use Rattle.atomic_table.proofs.Lists.{at_set, exchanged, set_else, set_again, at_longer, at_map}
use Rattle.cops_gate.specs.declared.history.Entry.{Entry}
use Rattle.cops_gate.specs.declared.history.Turn.{Turn}
use Rattle.cops_gate.specs.declared.board.Account.{Account}
use Rattle.cops_gate.specs.declared.board.Opening.{Opening}
use Rattle.cops_gate.specs.declared.board.Stage.{Stage}
use Rattle.cops_gate.specs.declared.board.Stage.TheVariants.{Idle, Waits, Holds}
use Rattle.cops_gate.specs.declared.board.View.{View}
use Rattle.cops_gate.specs.History.{turn, turns_of, turns_at, StartsWith, Leads, IsLegal, IsWhole}
use Rattle.cops_gate.specs.Accounts.{IsComplete, no_account}
use Rattle.cops_gate.specs.Rule.{ticket_at, serving_at, Apart, AreCovered, AreDistinctNumbers, HasTicket, HoldsItsTicket, AreCounted, IsCovered, IsHeld, IsOut, Kept, Knows, Met, Rests, Stands, newcomer}
use Rattle.cops_gate.specs.Plays.{Sat, at_stage, spent_view, published_view, fresh_view, fork_view, forked_view, numbered_view, told_view, joined_view, ended_view, KnowsTurnsOf, DrawnAt, HasRoom, PublishedAt, learned, glanced, drawn, published, looked, Gets}
use Rattle.cops_gate.specs.Seats.{AreAtRest, AreMadeBy, ClosesWith, Known, Origin}
use Rattle.cops_gate.proofs.Accounts.{all_by_it, all_distinct, all_seen, counted_again, counted_end, counted_fork, counted_more, covered_again, covered_end, covered_fork, covered_more, fork_joined_none, met_parts, only_seat, once_again, once_end, once_fork, once_more}
use Rattle.cops_gate.proofs.Ending.{all_joined, all_weaker}
use Rattle.cops_gate.proofs.Histories.{starts_on, turns_other, turns_mine, node_other, node_mine, node_parts, none_before, placed_on}
use Rattle.cops_gate.proofs.Words.{apart_words, word_at, word_there, ticket_else, ticket_here, ticket_serving, serving_ticket, serving_else, serving_here, true_not_false, waits_not_holds, idle_not_holds, waits_same, holds_same}

-- lists read by `get_elem?`
module _ {A : Type 0} where
  pub at_below : (l : List A) (i : ℕ) (a : A) → get_elem? l i ≡ some a → i < length l
  at_below [] i a e = absurd (some-ne-none a (sym e))
  at_below (x ∷ xs) zero a e = omega arith
  at_below (x ∷ xs) (suc i) a e = let h = at_below xs i a e in omega arith

  pub set_at : (l : List A) (i : ℕ) (a b : A) → get_elem? l i ≡ some a → get_elem? (set l i b) i ≡ some b
  set_at [] i a b e = absurd (some-ne-none a (sym e))
  set_at (x ∷ xs) zero a b e = refl
  set_at (x ∷ xs) (suc i) a b e = set_at xs i a b e

  -- an element of a list that is one longer
  pub at_end : (l : List A) (a b : A) (j : ℕ) → get_elem? (l ++ a ∷ []) j ≡ some b → (get_elem? l j ≡ some b) ⊎ ((j ≡ length l) × (a ≡ b))
  at_end [] a b zero e = inr (refl, some-injective a b e)
  at_end [] a b (suc j) e = absurd (some-ne-none b (sym e))
  at_end (x ∷ xs) a b zero e = inl e
  at_end (x ∷ xs) a b (suc j) e = ⊎_elim inl (λ (t : (j ≡ length xs) × (a ≡ b)). let n = t.0 in inr (omega arith, t.1)) (at_end xs a b j e)

  -- a fact of each element, where one is replaced
  each_set : (F : ℕ → A → Type 0) (l : List A) (i : ℕ) (b : A) → F i b → ((j : ℕ) (a : A) → j ≢ i → get_elem? l j ≡ some a → F j a) → (j : ℕ) (a : A) → get_elem? (set l i b) j ≡ some a → F j a
  each_set F l i b here else j a e = ⊎_elim (λ (t : (j ≡ i) × (b ≡ a)). subst (λ (x : ℕ × A). F x.0 x.1) (λ k. (sym t.0 k, t.1 k)) here)
      (λ (t : (j ≢ i) × (get_elem? l j ≡ some a)). else j a t.0 t.1) (at_set l i j b a e)

-- the element at a place in a list
pub there_at : {A : Type 0} (l : List A) (i : ℕ) → i < length l → (a : A) × (get_elem? l i ≡ some a)
there_at [] i h = absurd (omega arith)
there_at (x ∷ xs) zero h = (x, refl)
there_at (x ∷ xs) (suc i) h = there_at xs i (omega arith)

-- the slot that was taken last
pub slot_out : {A : Type 0} (xs : List (ℕ × A)) (n : ℕ) (a : A) → ◌≡◌ {A = List (ℕ × A)} xs ((n, a) ∷ []) → (b : A) × ◌≡◌ {A = List (ℕ × A)} xs ((n, b) ∷ rest xs)
slot_out {A} xs n a e = let P : List (ℕ × A) → Type 0 = λ l. ◌≡◌ {A = List (ℕ × A)} xs ((n, a) ∷ l) in (a, subst P (ap rest (sym e)) e)

module _ {C R : Type 0} where
  -- a ticket was drawn
  queues_grow : (ws ws' : List ℕ) (log seen : List (Turn C R)) (st : Stage) → ((m : ℕ) → serving_at ws' m ≡ serving_at ws m) → ((m : ℕ) → ticket_at ws m ≤ ticket_at ws' m) → HoldsItsTicket ws log seen st → HoldsItsTicket ws' log seen st
  queues_grow ws ws' log seen Idle same more q = tt
  queues_grow ws ws' log seen (Waits n t) same more q = let a : serving_at ws n ≤ t = q.0 in let b : t < ticket_at ws n = q.1 in let c : serving_at ws' n ≡ serving_at ws n = same n in let d : ticket_at ws n ≤ ticket_at ws' n = more n in (omega arith, omega arith)
  queues_grow ws ws' log seen (Holds n t) same more q = let b : t < ticket_at ws n = q.1 in let d : ticket_at ws n ≤ ticket_at ws' n = more n in (same n ∙ q.0, omega arith, q.2)

  has_below : (ws : List ℕ) (n t : ℕ) (log seen : List (Turn C R)) (st : Stage) → HoldsItsTicket ws log seen st → HasTicket n t st → t < ticket_at ws n
  has_below ws n t log seen Idle q h = absurd h
  has_below ws n t log seen (Waits m u) q h = subst (λ (x : ℕ × ℕ). x.1 < ticket_at ws x.0) (λ i. (h.0 i, h.1 i)) q.1
  has_below ws n t log seen (Holds m u) q h = subst (λ (x : ℕ × ℕ). x.1 < ticket_at ws x.0) (λ i. (h.0 i, h.1 i)) q.1

  -- The turn of the ticket that the node n serves was made, by another seat
  queues_on : (ws ws' : List ℕ) (log log' seen : List (Turn C R)) (st : Stage) (n : ℕ) → ((m : ℕ) → ticket_at ws' m ≡ ticket_at ws m) → ((m : ℕ) → m ≢ n → serving_at ws' m ≡ serving_at ws m) → ((m : ℕ) → m ≢ n → turns_at m log' ≡ turns_at m log)
      → serving_at ws' n ≡ serving_at ws n + 1 → (HasTicket n (serving_at ws n) st → ⊥) → HoldsItsTicket ws log seen st → HoldsItsTicket ws' log' seen st
  queues_on ws ws' log log' seen Idle n tk sv lg next other q = tt
  queues_on ws ws' log log' seen (Waits m t) n tk sv lg next other q = dite (ℕ_discrete m n)
      (λ here. let a : serving_at ws n ≤ t = subst (λ x. serving_at ws x ≤ t) here q.0 in
      let c : serving_at ws' m ≡ serving_at ws n + 1 = subst (λ x. serving_at ws' x ≡ serving_at ws n + 1) (sym here) next in
      dite (ℕ_discrete t (serving_at ws n)) (λ e. absurd (other (here, e))) (λ ne. (omega arith, subst (λ x. t < x) (sym (tk m)) q.1)))
      (λ there. (subst (λ x. x ≤ t) (sym (sv m there)) q.0, subst (λ x. t < x) (sym (tk m)) q.1))
  queues_on ws ws' log log' seen (Holds m t) n tk sv lg next other q = dite (ℕ_discrete m n)
      (λ here. absurd (other (here, sym q.0 ∙ ap (serving_at ws) here)))
      (λ there. (sv m there ∙ q.0, subst (λ x. t < x) (sym (tk m)) q.1, lg m there ∙ q.2))

module _ {M C R P : Type 0} (turns : M → ℕ → ℕ → C → R → M → Type 0) (place : M → P) (from : Opening M) where
  abbrev V : Type 0
  V = View M C R

  abbrev St : Type 0
  St = State M V

  abbrev Rule : St → Type 0
  Rule = Kept turns place from

  apart_set : (vs : List V) (id : ℕ) (v w : V) → get_elem? vs id ≡ some v → ((n t : ℕ) → HasTicket n t w.stage → HasTicket n t v.stage) → Apart vs → Apart (set vs id w)
  apart_set vs id v w at less apart i j a b n t ai bj ha hb =
      let was : (k : ℕ) (c : V) → get_elem? (set vs id w) k ≡ some c → HasTicket n t c.stage → (d : V) × (get_elem? vs k ≡ some d) × HasTicket n t d.stage
      = each_set (λ k c. HasTicket n t c.stage → (d : V) × (get_elem? vs k ≡ some d) × HasTicket n t d.stage) vs id w (λ h. (v, at, less n t h)) (λ k c _ at' h. (c, at', h)) in
      let p = was i a ai ha in let q = was j b bj hb in apart i j p.0 q.0 n t p.1 q.1 p.2 q.2

  apart_new : (vs : List V) (id n ticket : ℕ) (w : V) → ((j : ℕ) (v : V) (t : ℕ) → get_elem? vs j ≡ some v → HasTicket n t v.stage → t < ticket) → ((m t : ℕ) → HasTicket m t w.stage → (m ≡ n) × (t ≡ ticket))
      → Apart vs → Apart (set vs id w)
  apart_new vs id n ticket w below mine apart i j a b m t ai bj ha hb =
      let was : (k : ℕ) (c : V) → get_elem? (set vs id w) k ≡ some c → HasTicket m t c.stage → ((k ≡ id) × (m ≡ n) × (t ≡ ticket)) ⊎ ((m ≡ n → t < ticket) × (get_elem? vs k ≡ some c) × HasTicket m t c.stage)
      = each_set (λ k c. HasTicket m t c.stage → ((k ≡ id) × (m ≡ n) × (t ≡ ticket)) ⊎ ((m ≡ n → t < ticket) × (get_elem? vs k ≡ some c) × HasTicket m t c.stage)) vs id w
      (λ h. let x = mine m t h in inl (refl, x.0, x.1)) (λ k c _ at' h. inr ((λ e. below k c t at' (subst (λ x. HasTicket x t c.stage) e h)), at', h)) in
      ⊎_elim
      (λ p. ⊎_elim (λ q. p.0 ∙ sym q.0) (λ q. let x = p.2 in let y = q.0 p.1 in absurd (omega arith)) (was j b bj hb))
      (λ p. ⊎_elim (λ q. let x = q.2 in let y = p.0 q.1 in absurd (omega arith)) (λ q. apart i j a b m t p.1 q.1 p.2 q.2) (was j b bj hb))
      (was i a ai ha)

  out_stays : (vs : List V) (id n serving : ℕ) (v w : V) → get_elem? vs id ≡ some v → (v.stage ≡ Holds n serving → w.stage ≡ Holds n serving) → IsOut n serving vs → IsOut n serving (set vs id w)
  out_stays vs id n serving v w at still out = dite (ℕ_discrete out.0 id)
      (λ here. (id, w, set_at vs id v w at, still (ap (λ (x : V). x.stage) (some-injective v out.1 (sym at ∙ subst (λ k. get_elem? vs k ≡ some out.1) here out.2)) ∙ out.3)))
      (λ other. (out.0, out.1, set_else vs id out.0 w other ∙ out.2, out.3))

  -- a seat that stays keeps its tickets
  held_stays : (vs : List V) (id n t : ℕ) (v w : V) → get_elem? vs id ≡ some v → (v.is_seat ≡ true → HasTicket n t v.stage → (w.is_seat ≡ true) × HasTicket n t w.stage) → IsHeld n t vs → IsHeld n t (set vs id w)
  held_stays vs id n t v w at still held = dite (ℕ_discrete held.0 id)
      (λ here.
      let same : held.1 ≡ v = some-injective held.1 v (sym held.2 ∙ (ap (get_elem? vs) here ∙ at)) in
      let kept = still (ap (λ (x : V). x.is_seat) (sym same) ∙ held.3) (subst (λ (x : V). HasTicket n t x.stage) same held.4) in
      (id, w, set_at vs id v w at, kept.0, kept.1))
      (λ other. (held.0, held.1, set_else vs id held.0 w other ∙ held.2, held.3, held.4))

  -- a view comes
  held_beside : (vs : List V) (n t : ℕ) (w : V) → IsHeld n t vs → IsHeld n t (vs ++ w ∷ [])
  held_beside vs n t w held = (held.0, held.1, at_longer vs (w ∷ []) held.0 held.1 held.2, held.3, held.4)

  -- a node at which the step did nothing
  stands_else : (s s' : St) (log log' : List (Turn C R)) (m : ℕ) (first : M) → ticket_at s'.words m ≡ ticket_at s.words m → serving_at s'.words m ≡ serving_at s.words m → turns_at m log' ≡ turns_at m log → get_elem? s'.homes m ≡ get_elem? s.homes m
      → (IsOut m (serving_at s.words m) s.views → IsOut m (serving_at s.words m) s'.views) → Stands turns place from.ticket s log m first → Stands turns place from.ticket s' log' m first
  stands_else s s' log log' m first tk sv lg hm still k = record {
    most = subst (λ x. x ≤ 2 ^ 62) (sym tk) k.most;
    served = subst (λ (x : ℕ × ℕ). x.0 ≤ x.1) (λ i. (sym sv i, sym tk i)) k.served;
    legal = subst (IsLegal turns first) (sym lg) k.legal;
    count = sv ∙ (k.count ∙ ap (λ (l : List (Turn C R)). from.ticket + length l) (sym lg));
    slot = ⊎_elim
        (λ (home : (h : M) × (get_elem? s.homes m ≡ some (some h)) × Rests turns place first (turns_at m log) h). inl (home.0, hm ∙ home.1, subst (λ l. Rests turns place first l home.0) (sym lg) home.2))
        (λ (out : (get_elem? s.homes m ≡ some none) × IsOut m (serving_at s.words m) s.views). inr (hm ∙ out.0, subst (λ x. IsOut m x s'.views) (sym sv) (still out.1)))
        k.slot;
  }

  -- the second is the same seat, with the same account
  abbrev IsSeatStill : V → V → Type 0
  IsSeatStill v w = (w.account ≡ v.account) × (w.is_seat ≡ v.is_seat) × (v.numbered ≡ true → (w.numbered ≡ true) × (w.number ≡ v.number))

  still_covered : (vs : List V) (id : ℕ) (v w : V) (log : List (Turn C R)) → get_elem? vs id ≡ some v → IsSeatStill v w → AreCovered vs log → AreCovered (set vs id w) log
  still_covered vs id v w log at still covered =
      all_weaker (λ (t : Turn C R). IsCovered vs t.seat) (λ (t : Turn C R). IsCovered (set vs id w) t.seat) log (λ t c. covered_again vs id v w at still.0 still.1 still.2 t.seat c) covered

  -- a seat knows something else
  reseat : (s : St) (r : Rule s) (id : ℕ) (v w : V) → get_elem? s.views id ≡ some v → Knows from s.words r.log id w → w.stage ≡ v.stage → IsSeatStill v w → Rule record { words = s.words; homes = s.homes; views = set s.views id w }
  reseat s r id v w at mine same still = record {
    log = r.log;
    placed = r.placed;
    wide = r.wide;
    each_seat = each_set (Knows from s.words r.log) s.views id w mine (λ j u _. r.each_seat j u);
    unmade = λ j l. r.unmade j (subst (λ k. k ≤ j) (length-set s.views id w) l);
    apart = apart_set s.views id v w at (λ n t h. subst (HasTicket n t) same h) r.apart;
    held = λ n t inside due below. held_stays s.views id n t v w at (λ seat has. (still.1 ∙ seat, subst (HasTicket n t) (sym same) has)) (r.held n t inside due below);
    counted = counted_again s.views id v w at still.0 still.1 r.counted;
    once = once_again s.views id v w at (ap (λ (x : Account). x.joined) still.0) r.once;
    covered = still_covered s.views id v w r.log at still r.covered;
    each_node = λ m first there. stands_else s record { words = s.words; homes = s.homes; views = set s.views id w } r.log r.log m first refl refl refl refl
        (λ o. out_stays s.views id m (serving_at s.words m) v w at (λ e. same ∙ e) o) (r.each_node m first there);
  }

  -- a step that changes no word
  unmoved : (s : St) (r : Rule s) (i id : ℕ) (cs : List (ℕ × M)) (v w : V) → get_elem? s.views id ≡ some v → Knows from s.words r.log id w → w.stage ≡ v.stage → IsSeatStill v w
      → Rule (stepped s i (get_or s.words i 0) id cs w keeps)
  unmoved s r i id cs v w at mine same still = subst (λ (ws : List ℕ). Rule record { words = ws; homes = s.homes; views = set s.views id w }) (sym (set-get_or s.words i 0)) (reseat s r id v w at mine same still)

  -- a view comes that has made no turn
  arrived : (s : St) (r : Rule s) (w : V) → w.stage ≡ Idle → ((j : ℕ) → turns_of j r.log ≡ [] → Knows from s.words r.log j w) → AreCounted (s.views ++ w ∷ []) → w.account.joined ≡ [] → AreCovered (s.views ++ w ∷ []) r.log
      → Rule record { words = s.words; homes = s.homes; views = s.views ++ w ∷ [] }
  arrived s r w idle new counted none_joined covered = record {
    log = r.log;
    placed = r.placed;
    wide = r.wide;
    each_seat = λ j u e. ⊎_elim (λ old. r.each_seat j u old)
        (λ (t : (j ≡ length s.views) × (w ≡ u)). subst (Knows from s.words r.log j) t.1 (let end = t.0 in new j (r.unmade j (omega arith)))) (at_end s.views w u j e);
    unmade = λ j l. let more = length-append s.views (w ∷ []) in r.unmade j (omega arith);
    apart = λ i j a b n t ai bj ha hb.
        let old : (k : ℕ) (c : V) → get_elem? (s.views ++ w ∷ []) k ≡ some c → HasTicket n t c.stage → get_elem? s.views k ≡ some c
        = λ k c e h. ⊎_elim (λ o. o) (λ (y : (k ≡ length s.views) × (w ≡ c)). absurd (subst (HasTicket n t) (ap (λ (z : V). z.stage) (sym y.1) ∙ idle) h)) (at_end s.views w c k e) in
        r.apart i j a b n t (old i a ai ha) (old j b bj hb) ha hb;
    held = λ n t inside due below. held_beside s.views n t w (r.held n t inside due below);
    counted = counted;
    once = once_more s.views w none_joined r.once;
    covered = covered;
    each_node = λ m first there. stands_else s record { words = s.words; homes = s.homes; views = s.views ++ w ∷ [] } r.log r.log m first refl refl refl refl
        (λ out. (out.0, out.1, at_longer s.views (w ∷ []) out.0 out.1 out.2, out.3)) (r.each_node m first there);
  }

  -- a seat that has ended knows nothing
  ended_knows : (s : St) (r : Rule s) (j : ℕ) → Knows from s.words r.log j ended_view
  ended_knows s r j = record {
    same = tt;
    seen = (r.log, refl);
    told = (r.log, refl);
    owns = ((λ e. absurd (true_not_false (sym e))), (λ e. absurd (true_not_false (sym e))));
    seated = λ e. absurd (true_not_false (sym e));
    joined = λ i met. absurd met;
    queues = tt;
    spent = λ n met. absurd met;
  }

  pub splits : (id : ℕ) (v : V) → Splits Rule id v v (fresh_view v)
  splits id v s r at =
      let k = r.each_seat id v at in
      subst (λ (vs : List V). Rule record { words = s.words; homes = s.homes; views = vs ++ fresh_view v ∷ [] }) (sym (set_again s.views id v at))
      (arrived s r (fresh_view v) refl
      (λ j none_made. record {
        same = k.same;
        seen = k.seen;
        told = k.told;
        owns = ((λ e. absurd (true_not_false (sym e))), (λ e. absurd (true_not_false (sym e))));
        seated = λ e. absurd (true_not_false (sym e));
        joined = λ j met. absurd met;
        queues = tt;
        spent = k.spent;
      })
      (counted_more s.views (fresh_view v) refl refl r.counted)
      refl
      (all_weaker (λ (t : Turn C R). IsCovered s.views t.seat) (λ (t : Turn C R). IsCovered (s.views ++ fresh_view v ∷ []) t.seat) r.log (λ t c. covered_more s.views (fresh_view v) t.seat c) r.covered))

  -- A split changes the account of the seat alone, so all else is that of a seat that stays beside a view that comes
  pub forks : (id : ℕ) (v : V) → v.numbered ≡ true → Splits Rule id v (forked_view v) (fork_view v)
  forks id v numbered s r at =
      let k = r.each_seat id v at in
      let seat : v.is_seat ≡ true = k.seated numbered in
      let w : V = forked_view v in let new : V = fork_view v in
      let vs : List V = set s.views id w in
      let all : List V = vs ++ new ∷ [] in
      let counts = counted_fork s.views id v at seat r.counted in
      let covers : AreCovered all r.log
      = all_weaker (λ (t : Turn C R). IsCovered s.views t.seat) (λ (t : Turn C R). IsCovered all t.seat) r.log (λ t c. covered_fork s.views id v at seat r.counted t.seat c) r.covered in
      let fresh : (j : ℕ) → turns_of j r.log ≡ [] → Knows from s.words r.log j new
      = λ j none_made. record {
        same = k.same;
        seen = k.seen;
        told = k.told;
        owns = ((λ e. absurd (true_not_false (sym e))), (λ _ _. none_made));
        seated = λ _. refl;
        joined = λ i met. absurd (subst (Met i) (fork_joined_none v.account.is_first) met);
        queues = tt;
        spent = k.spent;
      } in record {
        log = r.log;
        placed = r.placed;
        wide = r.wide;
        each_seat = λ j u e. ⊎_elim
            (λ old. each_set (Knows from s.words r.log) s.views id w record { same = k.same; seen = k.seen; told = k.told; owns = k.owns; seated = k.seated; joined = k.joined; queues = k.queues; spent = k.spent } (λ i x _. r.each_seat i x) j u old)
            (λ (t : (j ≡ length vs) × (new ≡ u)). subst (Knows from s.words r.log j) t.1 (let end = t.0 in let same = length-set s.views id w in fresh j (r.unmade j (omega arith)))) (at_end vs new u j e);
        unmade = λ j l. let more = length-append vs (new ∷ []) in let same = length-set s.views id w in r.unmade j (omega arith);
        apart = λ i j a b n t ai bj ha hb.
            let old : (x : ℕ) (c : V) → get_elem? all x ≡ some c → HasTicket n t c.stage → get_elem? vs x ≡ some c = λ x c e h. ⊎_elim (λ o. o) (λ (y : (x ≡ length vs) × (new ≡ c)). absurd (subst (HasTicket n t) (ap (λ (z : V). z.stage) (sym y.1)) h)) (at_end vs new c x e) in
            apart_set s.views id v w at (λ m y h. h) r.apart i j a b n t (old i a ai ha) (old j b bj hb) ha hb;
        held = λ n t inside due below. held_beside vs n t new (held_stays s.views id n t v w at (λ is has. (is, has)) (r.held n t inside due below));
        counted = counts;
        once = once_fork s.views id v at seat r.counted r.once;
        covered = covers;
        each_node = λ m first there. stands_else s record { words = s.words; homes = s.homes; views = all } r.log r.log m first refl refl refl refl
            (λ o. let out = out_stays s.views id m (serving_at s.words m) v w at (λ e. e) o in (out.0, out.1, at_longer vs (new ∷ []) out.0 out.1 out.2, out.3)) (r.each_node m first there);
      }

  pub joins : (id : ℕ) (v : V) (other : ℕ) (w : V) → w.stage ≡ Idle → w.numbered ≡ false → w.is_seat ≡ false → w.account ≡ no_account → Joins Rule id v other w (told_view v w) ended_view
  unfolding reseat
  joins id v other w idle new note empty s r at apart there =
      let k = r.each_seat id v at in
      let o = r.each_seat other w (sym (set_else s.views id other (told_view v w) apart) ∙ there) in
      let heard : Rule record { words = s.words; homes = s.homes; views = set s.views id (told_view v w) }
      = reseat s r id v (told_view v w) at record { same = k.same; seen = k.seen; told = o.seen; owns = k.owns; seated = k.seated; joined = k.joined; queues = k.queues; spent = k.spent } refl (refl, refl, (λ e. (e, refl))) in
      reseat record { words = s.words; homes = s.homes; views = set s.views id (told_view v w) } heard other w ended_view there
      (ended_knows s r other)
      (sym idle)
      (sym empty, sym note, (λ e. absurd (true_not_false (sym e ∙ new))))

  pub ends : (id : ℕ) (v : V) (other : ℕ) (w : V) → w.stage ≡ Idle → v.numbered ≡ true → w.numbered ≡ true → KnowsTurnsOf v.seen w → Joins Rule id v other w (joined_view v w) ended_view
  ends id v other w idle numbered known sees s r at apart there =
      let k = r.each_seat id v at in
      let there_before : get_elem? s.views other ≡ some w = sym (set_else s.views id other (joined_view v w) apart) ∙ there in
      let o = r.each_seat other w there_before in
      let seat : v.is_seat ≡ true = k.seated numbered in
      let number : w.number ≡ other = (o.owns.0 known).0 in
      let into : V = joined_view v w in
      let vs : List V = set s.views id into in
      let all : List V = set vs other ended_view in
      let of_w : (j : ℕ) → Met j (w.number ∷ w.account.joined) → turns_of j r.log ≡ turns_of j v.seen
      = λ j met. ⊎_elim (λ this. subst (λ n. turns_of n r.log ≡ turns_of n w.seen) (sym (this ∙ number)) (o.owns.0 known).1) (λ earlier. o.joined j earlier) met ∙ sym (sees j met) in
      let mine : Knows from s.words r.log id into
      = record {
        same = k.same;
        seen = k.seen;
        told = k.told;
        owns = k.owns;
        seated = k.seated;
        joined = λ j met. ⊎_elim (λ this. of_w j (inl this)) (λ earlier. ⊎_elim (λ by_w. of_w j (inr by_w)) (λ by_v. k.joined j by_v) (met_parts j w.account.joined v.account.joined earlier)) met;
        queues = k.queues;
        spent = λ n met. ⊎_elim (λ by_w. o.spent n by_w) (λ by_v. k.spent n by_v) (met_parts n w.spent v.spent met);
      } in record {
        log = r.log;
        placed = r.placed;
        wide = r.wide;
        each_seat = each_set (Knows from s.words r.log) vs other ended_view (ended_knows s r other) (λ j u _. each_set (Knows from s.words r.log) s.views id into mine (λ i x _. r.each_seat i x) j u);
        unmade = λ j l. let one = length-set s.views id into in let two = length-set vs other ended_view in r.unmade j (omega arith);
        apart = apart_set vs other w ended_view there (λ n t h. absurd h) (apart_set s.views id v into at (λ n t h. h) r.apart);
        held = λ n t inside due below. held_stays vs other n t w ended_view there (λ _ has. absurd (subst (HasTicket n t) idle has)) (held_stays s.views id n t v into at (λ is has. (is, has)) (r.held n t inside due below));
        counted = counted_end s.views id other v w apart at there_before seat number r.counted;
        once = once_end s.views id other v w apart at there_before seat number r.counted (o.seated known) r.once;
        covered = all_weaker (λ (t : Turn C R). IsCovered s.views t.seat) (λ (t : Turn C R). IsCovered all t.seat) r.log (λ t c. covered_end s.views id other v w apart at there_before seat number numbered t.seat c) r.covered;
        each_node = λ m first at_node. stands_else s record { words = s.words; homes = s.homes; views = all } r.log r.log m first refl refl refl refl
            (λ o. out_stays vs other m (serving_at s.words m) w ended_view there (λ e. absurd (idle_not_holds m (serving_at s.words m) (sym idle ∙ e))) (out_stays s.views id m (serving_at s.words m) v into at (λ e. e) o)) (r.each_node m first at_node);
      }

  pub learns : (slots id : ℕ) (me : Sat M C R) → me.0.is_seat ≡ true → me.0.numbered ≡ false → Allows Rule slots id me 0 (λ x. x) (learned (step slots 0 0 0 none) me)
  learns slots id me seat new s r wide at small =
      let v : V = me.0 in
      let k = r.each_seat id v at in
      let none_made = k.owns.1 seat new in
      let none_seen : turns_of id v.seen ≡ [] = none_before r.log v.seen id k.seen none_made in (
        numbered_view id v,
        keeps,
        tt,
        unmoved s r 0 id me.1 v (numbered_view id v) at
            record {
              same = k.same;
              seen = k.seen;
              told = k.told;
              owns = ((λ _. (refl, none_made ∙ sym none_seen)), (λ _ e. absurd (true_not_false e)));
              seated = λ _. seat;
              joined = k.joined;
              queues = k.queues;
              spent = k.spent;
            }
            refl (refl, refl, (λ e. absurd (true_not_false (sym e ∙ new)))),
        (refl, (id, refl, none_seen)),
      )

  -- what a seat knows of the beginning
  known_opening : (v : V) (o : Opening M) → IfSome v.opening (λ b. b ≡ from) → v.opening ≡ Some o → o ≡ from
  known_opening v o same known = subst (λ (y : Option (Opening M)). IfSome y (λ b. b ≡ from)) known same

  -- what was seen has no more turns at a node than there are tickets
  has_room : (s : St) (r : Rule s) (v : V) (seen : List (Turn C R)) → IfSome v.opening (λ b. b ≡ from) → StartsWith r.log seen → HasRoom v.opening seen
  has_room s r v seen same begins o known n first there =
      let is : o ≡ from = known_opening v o same known in
      let k = r.each_node n first (ap (λ (b : Opening M). get_elem? b.states n) (sym is) ∙ there) in
      let long : length (turns_at n r.log) ≡ length (turns_at n seen ++ turns_at n begins.0) = ap (λ l. length (turns_at n l)) begins.1 ∙ ap length (node_parts n seen begins.0) in
      let more = length-append (turns_at n seen) (turns_at n begins.0) in
      let count : serving_at s.words n ≡ from.ticket + length (turns_at n r.log) = k.count in let served : serving_at s.words n ≤ ticket_at s.words n = k.served in let most : ticket_at s.words n ≤ 2 ^ 62 = k.most in
      subst (λ (b : Opening M). b.ticket + length (turns_at n seen) ≤ 2 ^ 62) (sym is) (omega arith)

  -- the history is legal at each node
  is_whole : (s : St) (r : Rule s) → IsWhole turns from.states r.log
  is_whole s r = (r.placed, λ n first there. (r.each_node n first there).legal)

  known_whole : (v : V) (o : Opening M) (log : List (Turn C R)) → IfSome v.opening (λ b. b ≡ from) → v.opening ≡ Some o → IsWhole turns from.states log → IsWhole turns o.states log
  known_whole v o log same known whole = subst (λ (b : Opening M). IsWhole turns b.states log) (sym (known_opening v o same known)) whole

  seeing : List (Turn C R) → V → V
  seeing log v = record { opening = v.opening; is_seat = v.is_seat; account = v.account; number = v.number; numbered = v.numbered; seen = log; told = v.told; stage = v.stage; spent = v.spent }

  pub glances : (slots id : ℕ) (me : Sat M C R) → me.0.stage ≡ Idle → me.0.numbered ≡ true → Allows Rule slots id me 0 (λ x. x) (glanced turns place (step slots 0 0 0 none) me)
  unfolding seeing
  glances slots id me idle numbered s r wide at small =
      let v : V = me.0 in
      let k = r.each_seat id v at in (
        seeing r.log v,
        keeps,
        tt,
        unmoved s r 0 id me.1 v (seeing r.log v) at
            record { same = k.same; seen = ([], sym (append-nil r.log)); told = k.told; owns = ((λ e. ((k.owns.0 e).0, refl)), k.owns.1); seated = k.seated; joined = λ j met. refl; queues = subst (HoldsItsTicket s.words r.log r.log) (sym idle) tt; spent = k.spent } refl
            (refl, refl, (λ e. (e, refl))),
        (
          refl,
          (refl, refl, numbered, refl, k.seen, k.told, subst (λ n. turns_of n r.log ≡ turns_of n v.seen) (sym (k.owns.0 numbered).0) (k.owns.0 numbered).1, refl, k.joined),
          idle,
          (λ o known. known_whole v o r.log k.same known (is_whole s r)),
          has_room s r v r.log k.same ([], sym (append-nil r.log)),
        ),
      )

  -- a fact of each node, from that of the node n and of the others
  nodes_at : (F : ℕ → M → Type 0) (n : ℕ) → ((first : M) → get_elem? from.states n ≡ some first → F n first) → ((m : ℕ) (first : M) → m ≢ n → get_elem? from.states m ≡ some first → F m first) → (m : ℕ) (first : M) → get_elem? from.states m ≡ some first → F m first
  nodes_at F n here else m first there = dite (ℕ_discrete m n)
      (λ e. subst (λ k. F k first) (sym e) (here first (subst (λ k. get_elem? from.states k ≡ some first) e there)))
      (λ ne. else m first ne there)

  -- the words of a node are in the table
  inside : (s : St) (r : Rule s) (n : ℕ) (first : M) → get_elem? from.states n ≡ some first → 16 * n + 1 < length s.words
  inside s r n first known = let a : n < length from.states = at_below from.states n first known in let b : length s.words ≡ 16 * length from.states = r.wide in omega arith

  -- the ticket t of the node n is drawn
  drew : (s : St) (r : Rule s) (id n t x : ℕ) (first : M) (cs : List (ℕ × M)) (v : V) → get_elem? from.states n ≡ some first → get_elem? s.views id ≡ some v → v.stage ≡ Idle → v.numbered ≡ true → t ≡ ticket_at s.words n → t < 2 ^ 62 → x ≡ t + 1
      → Rule (stepped s (16 * n) x id cs (at_stage (Waits n t) v) keeps)
  drew s r id n t x first cs v known at idle numbered is left next =
      let w : V = at_stage (Waits n t) v in
      let ws : List ℕ = set s.words (16 * n) x in
      let within : 16 * n < length s.words = let a : 16 * n + 1 < length s.words = inside s r n first known in omega arith in
      let mine : ticket_at ws n ≡ x = ticket_here s.words n x within in
      let sv : (m : ℕ) → serving_at ws m ≡ serving_at s.words m = λ m. ticket_serving s.words n m x in
      let tk : (m : ℕ) → m ≢ n → ticket_at ws m ≡ ticket_at s.words m = λ m other. ticket_else s.words n m x other in
      let more : (m : ℕ) → ticket_at s.words m ≤ ticket_at ws m
      = λ m. dite (ℕ_discrete m n) (λ e. subst (λ k. ticket_at s.words k ≤ ticket_at ws k) (sym e) (omega arith)) (λ ne. let same : ticket_at ws m ≡ ticket_at s.words m = tk m ne in omega arith) in
      let later : (u : V) → ((m : ℕ) → Met m u.spent → ticket_at s.words m ≡ 2 ^ 62) → (m : ℕ) → Met m u.spent → ticket_at ws m ≡ 2 ^ 62
      = λ u k m met. dite (ℕ_discrete m n) (λ e. let y : ticket_at s.words n ≡ 2 ^ 62 = subst (λ j. ticket_at s.words j ≡ 2 ^ 62) e (k m met) in absurd (omega arith)) (λ ne. tk m ne ∙ k m met) in
      let not_out : (m j : ℕ) → v.stage ≡ Holds m j → w.stage ≡ Holds m j = λ m j e. absurd (idle_not_holds m j (sym idle ∙ e)) in
      let s' : St = record { words = ws; homes = s.homes; views = set s.views id w } in
      let k = r.each_seat id v at in record {
        log = r.log;
        placed = r.placed;
        wide = length-set s.words (16 * n) x ∙ r.wide;
        each_seat = each_set (Knows from ws r.log) s.views id w
            (let y : serving_at s.words n ≤ ticket_at s.words n = (r.each_node n first known).served in let z : serving_at ws n ≡ serving_at s.words n = sv n in
            record { same = k.same; seen = k.seen; told = k.told; owns = k.owns; seated = k.seated; joined = k.joined; queues = (omega arith, omega arith); spent = later v k.spent })
            (λ j u _ e. let q = r.each_seat j u e in
            record { same = q.same; seen = q.seen; told = q.told; owns = q.owns; seated = q.seated; joined = q.joined; queues = queues_grow s.words ws r.log u.seen u.stage sv more q.queues; spent = later u q.spent });
        unmade = λ j l. r.unmade j (subst (λ y. y ≤ j) (length-set s.views id w) l);
        apart = apart_new s.views id n t w (λ j u y e h. subst (λ z. y < z) (sym is) (has_below s.words n y r.log u.seen u.stage (r.each_seat j u e).queues h)) (λ m y h. (sym h.0, sym h.1)) r.apart;
        held = λ m y inside due below.
            let due_before : serving_at s.words m ≤ y = subst (λ z. z ≤ y) (sv m) due in
            let stays : IsHeld m y s.views → IsHeld m y (set s.views id w) = held_stays s.views id m y v w at (λ _ has. absurd (subst (HasTicket m y) idle has)) in
            dite (ℕ_discrete m n)
            (λ here. dite (ℕ_discrete y t)
            (λ new. (id, w, set_at s.views id v w at, k.seated numbered, (sym here, sym new)))
            (λ older. let top : y < x = subst (λ z. y < z) (ap (ticket_at ws) here ∙ mine) below in
            stays (r.held m y inside due_before (subst (λ j. y < ticket_at s.words j) (sym here) (omega arith)))))
            (λ there. stays (r.held m y inside due_before (subst (λ z. y < z) (tk m there) below)));
        counted = counted_again s.views id v w at refl refl r.counted;
        once = once_again s.views id v w at refl r.once;
        covered = still_covered s.views id v w r.log at (refl, refl, (λ e. (e, refl))) r.covered;
        each_node = nodes_at (Stands turns place from.ticket s' r.log) n
            (λ f there. let q = r.each_node n f there in
            let y : serving_at s.words n ≤ ticket_at s.words n = q.served in let z : serving_at ws n ≡ serving_at s.words n = sv n in record {
              most = omega arith;
              served = omega arith;
              legal = q.legal;
              count = sv n ∙ q.count;
              slot = ⊎_elim inl (λ (o : (get_elem? s.homes n ≡ some none) × IsOut n (serving_at s.words n) s.views). inr (o.0, subst (λ y. IsOut n y (set s.views id w)) (sym (sv n)) (out_stays s.views id n (serving_at s.words n) v w at (not_out n (serving_at s.words n)) o.1))) q.slot;
            })
            (λ m f other there. stands_else s s' r.log r.log m f (tk m other) (sv m) refl refl (λ o. out_stays s.views id m (serving_at s.words m) v w at (not_out m (serving_at s.words m)) o) (r.each_node m f there));
      }

  pub draws : (slots id : ℕ) (me : Sat M C R) (n : ℕ) (first : M) (old new : ℕ) → get_elem? from.states n ≡ some first → me.0.stage ≡ Idle → me.0.numbered ≡ true → old < 2 ^ 62 → new ≡ old + 1
      → Allows Rule slots id me (16 * n) (λ x. either (eqb x old) new x) (drawn (step slots (16 * n) old new none) me)
  draws slots id me n first old new known idle numbered left next s r wide at small =
      let x : ℕ = ticket_at s.words n in
      let k = r.each_seat id me.0 at in let most : x ≤ 2 ^ 62 = (r.each_node n first known).most in
      let gone : Met n me.0.spent → x ≡ 2 ^ 62 = k.spent n in
      let room : HasRoom me.0.opening me.0.seen = has_room s r me.0 me.0.seen k.same k.seen in
      let st = step slots (16 * n) old new none in
      let tells : (m' : Sat M C R) → DrawnAt n st me x m' → drawn st me x m' = λ m' told o j f is there same. subst (λ i. DrawnAt i st me x m') (apart_words n j same) told in
      exchanged x old new (λ y. (w : V) × (a : Act M) × Valid s.homes me.1 a × Rule (stepped s (16 * n) y id me.1 w a) × drawn st me x (w, carried_after me.1 a))
      (λ hit. (
        at_stage (Waits n x) me.0,
        keeps,
        tt,
        drew s r id n x new first me.1 me.0 known at idle numbered refl (omega arith) (omega arith),
        tells (at_stage (Waits n x) me.0, me.1) (refl, most, gone, room, (λ _. refl), (λ ne _. absurd (ne hit)), (λ ne _. absurd (ne hit))),
      ))
      (λ miss. dite (ℕ_discrete x (2 ^ 62))
      (λ end. (
        spent_view n me.0,
        keeps,
        tt,
        unmoved s r (16 * n) id me.1 me.0 (spent_view n me.0) at
            record { same = k.same; seen = k.seen; told = k.told; owns = k.owns; seated = k.seated; joined = k.joined; queues = k.queues; spent = λ m met. ⊎_elim (λ e. ap (ticket_at s.words) e ∙ end) (λ old_one. k.spent m old_one) met } refl
            (refl, refl, (λ e. (e, refl))),
        tells (spent_view n me.0, me.1) (refl, most, gone, room, (λ hit. absurd (miss hit)), (λ _ ne. absurd (ne end)), (λ _ _. refl)),
      ))
      (λ more. (
        me.0,
        keeps,
        tt,
        unmoved s r (16 * n) id me.1 me.0 me.0 at k refl (refl, refl, (λ e. (e, refl))),
        tells (me.0, me.1) (refl, most, gone, room, (λ hit. absurd (miss hit)), (λ _ _. refl), (λ _ e. absurd (more e))),
      )))

  -- the seat has the slot of the node n, and has seen all
  abbrev holding : List (Turn C R) → ℕ → ℕ → V → V
  holding log n t v = record { opening = v.opening; is_seat = v.is_seat; account = v.account; number = v.number; numbered = v.numbered; seen = log; told = v.told; stage = Holds n t; spent = v.spent }

  -- the ticket t of the node n is served, and the slot goes to its seat
  taken : (s : St) (r : Rule s) (id n t : ℕ) (cs : List (ℕ × M)) (v : V) (h : M) → get_elem? s.views id ≡ some v → v.stage ≡ Waits n t → serving_at s.words n ≡ t → get_elem? s.homes n ≡ some (some h)
      → Rule (stepped s (16 * n + 1) (get_or s.words (16 * n + 1) 0) id cs (holding r.log n t v) (takes n h))
  taken s r id n t cs v h at waits now home =
      let w : V = holding r.log n t v in let k = r.each_seat id v at in
      let q : (serving_at s.words n ≤ t) × (t < ticket_at s.words n) = subst (HoldsItsTicket s.words r.log v.seen) waits k.queues in
      let hs : List (option.Option M) = set s.homes n none in
      let s' : St = record { words = s.words; homes = hs; views = set s.views id w } in
      subst (λ (ws : List ℕ). Rule record { words = ws; homes = hs; views = set s.views id w }) (sym (set-get_or s.words (16 * n + 1) 0)) record {
        log = r.log;
        placed = r.placed;
        wide = r.wide;
        each_seat = each_set (Knows from s.words r.log) s.views id w
            record {
              same = k.same;
              seen = ([], sym (append-nil r.log));
              told = k.told;
              owns = ((λ e. ((k.owns.0 e).0, refl)), k.owns.1);
              seated = k.seated;
              joined = λ j met. refl;
              queues = (now, q.1, refl);
              spent = k.spent;
            }
            (λ j u _. r.each_seat j u);
        unmade = λ j l. r.unmade j (subst (λ x. x ≤ j) (length-set s.views id w) l);
        apart = apart_set s.views id v w at (λ m x e. subst (HasTicket m x) (sym waits) e) r.apart;
        held = λ m y inside due below. held_stays s.views id m y v w at (λ is has. (is, subst (HasTicket m y) waits has)) (r.held m y inside due below);
        counted = counted_again s.views id v w at refl refl r.counted;
        once = once_again s.views id v w at refl r.once;
        covered = still_covered s.views id v w r.log at (refl, refl, (λ e. (e, refl))) r.covered;
        each_node = nodes_at (Stands turns place from.ticket s' r.log) n
            (λ f there. let p = r.each_node n f there in record {
              most = p.most;
              served = p.served;
              legal = p.legal;
              count = p.count;
              slot = inr (set_at s.homes n (some h) none home, (id, w, set_at s.views id v w at, ap (Holds n) (sym now)));
            })
            (λ m f other there. stands_else s s' r.log r.log m f refl refl refl (set_else s.homes n m none other)
            (λ o. out_stays s.views id m (serving_at s.words m) v w at (λ e. absurd (waits_not_holds n t m (serving_at s.words m) (sym waits ∙ e))) o) (r.each_node m f there));
      }

  pub looks : (slots id : ℕ) (me : Sat M C R) (n t : ℕ) (first : M) → get_elem? from.states n ≡ some first → me.0.stage ≡ Waits n t → Allows Rule slots id me (16 * n + 1) (λ x. x) (looked turns place (step slots (16 * n + 1) 0 0 none) me)
  looks slots id me n t first known waits s r wide at small =
      let v : V = me.0 in
      let x : ℕ = serving_at s.words n in
      let p = r.each_node n first known in
      let k = r.each_seat id v at in
      let st = step slots (16 * n + 1) 0 0 none in
      let tells : (m' : Sat M C R) → (v.numbered ≡ true → (x ≡ t → Gets turns place first n t me m') × (x ≢ t → m' ≡ me)) → looked turns place st me x m'
      = λ m' told o j u f is there stage numbered.
      let same : (n ≡ j) × (t ≡ u) = waits_same n t j u (sym waits ∙ stage) in
      let one : first ≡ f = some-injective first f (sym known ∙ (ap (λ (b : Opening M). get_elem? b.states n) (sym (known_opening v o k.same is)) ∙ (ap (get_elem? o.states) same.0 ∙ there))) in
      subst (λ (y : ℕ × ℕ × M). (x ≡ y.1 → Gets turns place y.2 y.0 y.1 me m') × (x ≢ y.1 → m' ≡ me)) (λ i. (same.0 i, same.1 i, one i)) (told numbered) in
      dite (ℕ_discrete x t)
      (λ hit. ⊎_elim
      (λ (home : (h : M) × (get_elem? s.homes n ≡ some (some h)) × Rests turns place first (turns_at n r.log) h). let rests = home.2 in (
        holding r.log n t v,
        takes n home.0,
        home.1,
        taken s r id n t me.1 v home.0 at waits hit home.1,
        tells (holding r.log n t v, (n, home.0) ∷ me.1) (λ numbered. (
          (λ _. (
            home.0,
            refl,
            (
              (refl, refl, numbered, refl, k.seen, k.told, subst (λ j. turns_of j r.log ≡ turns_of j v.seen) (sym (k.owns.0 numbered).0) (k.owns.0 numbered).1, refl, k.joined),
              refl,
              rests.0,
              rests.1,
            ),
          )),
          (λ miss. absurd (miss hit)),
        )),
      ))
      (λ (out : (get_elem? s.homes n ≡ some none) × IsOut n (serving_at s.words n) s.views).
      let o = out.1 in
      let own : id ≡ o.0 = r.apart id o.0 v o.1 n t at o.2 (subst (HasTicket n t) (sym waits) (refl, refl)) (subst (HasTicket n t) (sym o.3) (refl, hit)) in
      let u : v ≡ o.1 = some-injective v o.1 (sym at ∙ subst (λ i. get_elem? s.views i ≡ some o.1) (sym own) o.2) in
      absurd (waits_not_holds n t n x (sym waits ∙ (ap (λ (y : V). y.stage) u ∙ o.3))))
      p.slot)
      (λ miss. (v, keeps, tt, unmoved s r (16 * n + 1) id me.1 v v at k refl (refl, refl, (λ e. (e, refl))), tells (v, me.1) (λ numbered. ((λ hit. absurd (miss hit)), (λ _. refl)))))

  -- The slot of the node n comes back, and its next ticket is served. Others may have gone on at other nodes, so the history is what the seat had seen, what they did, and this turn
  served_next : (s : St) (r : Rule s) (id n t x : ℕ) (first : M) (cs : List (ℕ × M)) (v : V) (h : M) (e : Option (Entry C R)) (between : List (Turn C R)) → get_elem? from.states n ≡ some first → get_elem? s.views id ≡ some v
      → v.stage ≡ Holds n t → v.numbered ≡ true → x ≡ t + 1 → cs ≡ (n, h) ∷ [] → r.log ≡ v.seen ++ between
      → Leads turns first (turns_at n v.seen ++ turn v.number n e ∷ []) h → place h ≡ place first → Rule (stepped s (16 * n + 1) x id cs (published_view n e between v) gives)
  served_next s r id n t x first cs v h e between known at holds numbered next out all_seen leads same_place =
      let it : Turn C R = turn v.number n e in
      let w : V = published_view n e between v in
      let k = r.each_seat id v at in
      let here = r.each_node n first known in
      let q : (serving_at s.words n ≡ t) × (t < ticket_at s.words n) × (turns_at n r.log ≡ turns_at n v.seen) = subst (HoldsItsTicket s.words r.log v.seen) holds k.queues in
      let now : serving_at s.words n ≡ t = q.0 in let below : t < ticket_at s.words n = q.1 in
      let log : List (Turn C R) = r.log ++ it ∷ [] in
      let all : log ≡ w.seen = ap (λ l. l ++ it ∷ []) all_seen in
      let here_log : turns_at n log ≡ turns_at n v.seen ++ it ∷ [] = node_mine r.log v.number n e ∙ ap (λ l. l ++ it ∷ []) q.2 in
      let on : Leads turns first (turns_at n log) h = subst (λ l. Leads turns first l h) (sym here_log) leads in
      let mine : v.number ≡ id = (k.owns.0 numbered).0 in
      let others : (j : ℕ) → j ≢ id → turns_of j log ≡ turns_of j r.log = λ j other. turns_other r.log v.number n j e (λ y. other (sym y ∙ mine)) in
      let elsewhere : (m : ℕ) → m ≢ n → turns_at m log ≡ turns_at m r.log = λ m other. node_other r.log v.number n m e other in
      let ws : List ℕ = set s.words (16 * n + 1) x in
      let hs : List (option.Option M) = set s.homes n (some h) in
      let tk : (m : ℕ) → ticket_at ws m ≡ ticket_at s.words m = λ m. serving_ticket s.words n m x in
      let sv : (m : ℕ) → m ≢ n → serving_at ws m ≡ serving_at s.words m = λ m other. serving_else s.words n m x other in
      let sn : serving_at ws n ≡ x = serving_here s.words n x (inside s r n first known) in
      let after : serving_at ws n ≡ serving_at s.words n + 1 = sn ∙ (next ∙ ap (λ y. y + 1) (sym now)) in
      let home : get_elem? hs n ≡ some (some h) =
      ⊎_elim (λ (y : (g : M) × (get_elem? s.homes n ≡ some (some g)) × Rests turns place first (turns_at n r.log) g). set_at s.homes n (some y.0) (some h) y.1)
      (λ (y : (get_elem? s.homes n ≡ some none) × IsOut n (serving_at s.words n) s.views). set_at s.homes n none (some h) y.0) here.slot in
      let s' : St = record { words = ws; homes = hs; views = set s.views id w } in
      subst (λ (l : List (option.Option M)). Rule record { words = ws; homes = l; views = set s.views id w }) (sym (ap (put_back s.homes) out)) record {
        log = log;
        placed = placed_on (length from.states) r.log it (at_below from.states n first known) r.placed;
        wide = length-set s.words (16 * n + 1) x ∙ r.wide;
        each_seat = each_set (Knows from ws log) s.views id w
            record {
              same = k.same;
              seen = ([], all ∙ sym (append-nil w.seen));
              told = starts_on r.log v.told it k.told;
              owns = ((λ _. (mine, ap (turns_of id) all)), (λ _ f. absurd (true_not_false (sym numbered ∙ f))));
              seated = k.seated;
              joined = λ j met. ap (turns_of j) all;
              queues = tt;
              spent = λ m met. tk m ∙ k.spent m met;
            }
            (λ j u other f. let o = r.each_seat j u f in record {
              same = o.same;
              seen = starts_on r.log u.seen it o.seen;
              told = starts_on r.log u.told it o.told;
              owns = ((λ y. ((o.owns.0 y).0, others j other ∙ (o.owns.0 y).1)), (λ y z. others j other ∙ o.owns.1 y z));
              seated = o.seated;
              joined = λ i met.
                  let gone = r.counted.gone j u i f met in
                  others i (λ same. true_not_false (sym (k.seated numbered) ∙ (ap (λ (y : V). y.is_seat) (some-injective v gone.0 (sym at ∙ (ap (get_elem? s.views) (sym same) ∙ gone.1))) ∙ gone.2))) ∙ o.joined i met;
              queues = queues_on s.words ws r.log log u.seen u.stage n tk sv elsewhere after (λ has. other (r.apart j id u v n (serving_at s.words n) f at has (subst (HasTicket n (serving_at s.words n)) (sym holds) (refl, sym now)))) o.queues;
              spent = λ m met. tk m ∙ o.spent m met;
            });
        unmade = λ j l. let far : length s.views ≤ j = subst (λ y. y ≤ j) (length-set s.views id w) l in let in_range = at_below s.views id v at in others j (λ y. omega arith) ∙ r.unmade j far;
        apart = apart_set s.views id v w at (λ m y f. absurd f) r.apart;
        held = λ m y inside due below.
            let below_before : y < ticket_at s.words m = subst (λ z. y < z) (tk m) below in
            dite (ℕ_discrete m n)
            (λ this. let later : serving_at s.words n + 1 ≤ y = subst (λ z. z ≤ y) (ap (serving_at ws) this ∙ after) due in
            held_stays s.views id m y v w at (λ _ has. let own : (n ≡ m) × (t ≡ y) = subst (HasTicket m y) holds has in let same : t ≡ y = own.1 in absurd (omega arith))
            (r.held m y inside (subst (λ j. serving_at s.words j ≤ y) (sym this) (omega arith)) below_before))
            (λ there. held_stays s.views id m y v w at (λ _ has. let own : (n ≡ m) × (t ≡ y) = subst (HasTicket m y) holds has in absurd (there (sym own.0)))
            (r.held m y inside (subst (λ z. z ≤ y) (sv m there) due) below_before));
        counted = counted_again s.views id v w at refl refl r.counted;
        once = once_again s.views id v w at refl r.once;
        covered = all_joined (λ (y : Turn C R). IsCovered (set s.views id w) y.seat) r.log (it ∷ []) (still_covered s.views id v w r.log at (refl, refl, (λ f. (f, refl))) r.covered) ((id, w, set_at s.views id v w at, numbered, inl refl), tt);
        each_node = nodes_at (Stands turns place from.ticket s' log) n
            (λ f there. let p = r.each_node n f there in
            let one : first ≡ f = some-injective first f (sym known ∙ there) in
            let on' : Leads turns f (turns_at n log) h = subst (λ y. Leads turns y (turns_at n log) h) one on in
            let most : ticket_at s.words n ≤ 2 ^ 62 = p.most in let same : ticket_at ws n ≡ ticket_at s.words n = tk n in
            let count : serving_at s.words n ≡ from.ticket + length (turns_at n r.log) = p.count in
            let longer : length (turns_at n log) ≡ length (turns_at n r.log ++ it ∷ []) = ap length (node_mine r.log v.number n e) in
            let more = length-append (turns_at n r.log) (it ∷ []) in record {
              most = omega arith;
              served = omega arith;
              legal = (h, on');
              count = omega arith;
              slot = inl (h, home, (on', same_place ∙ ap place one));
            })
            (λ m f other there. stands_else s s' r.log log m f (tk m) (sv m other) (elsewhere m other) (set_else s.homes n m (some h) other)
            (λ o. out_stays s.views id m (serving_at s.words m) v w at (λ y. absurd (other (sym (holds_same n t m (serving_at s.words m) (sym holds ∙ y)).0))) o) (r.each_node m f there));
      }

  whole_next : (log : List (Turn C R)) (number n : ℕ) (first h : M) (e : Option (Entry C R)) → get_elem? from.states n ≡ some first → IsWhole turns from.states log → Leads turns first (turns_at n log ++ turn number n e ∷ []) h
      → IsWhole turns from.states (log ++ turn number n e ∷ [])
  whole_next log number n first h e known whole leads = (
    placed_on (length from.states) log (turn number n e) (at_below from.states n first known) whole.0,
    nodes_at (λ m f. IsLegal turns f (turns_at m (log ++ turn number n e ∷ []))) n
        (λ f there. (h, subst (λ (x : M × List (Turn C R)). Leads turns x.0 x.1 h) (λ i. (some-injective first f (sym known ∙ there) i, sym (node_mine log number n e) i)) leads))
        (λ m f other there. subst (IsLegal turns f) (sym (node_other log number n m e other)) (whole.1 m f there)),
  )

  -- the one slot that is out
  slot_node : List (ℕ × M) → ℕ
  slot_node [] = 0
  slot_node (x ∷ xs) = x.0

  pub publishes : (slots id : ℕ) (me : Sat M C R) (n t x : ℕ) (first h : M) (e : Option (Entry C R)) → get_elem? from.states n ≡ some first → me.0.stage ≡ Holds n t → me.0.numbered ≡ true → x ≡ t + 1 → me.1 ≡ (n, h) ∷ []
      → Leads turns first (turns_at n me.0.seen ++ turn me.0.number n e ∷ []) h → place h ≡ place first
      → Allows Rule slots id me (16 * n + 1) (λ _. x) (λ _. published turns place e (step slots (16 * n + 1) x 0 none) me x)
  unfolding slot_node
  publishes slots id me n t x first h e known holds numbered next out leads same_place s r wide at small =
      let v : V = me.0 in
      let k = r.each_seat id v at in
      let between : List (Turn C R) = k.seen.0 in
      let all_seen : r.log ≡ v.seen ++ between = k.seen.1 in
      let q : (serving_at s.words n ≡ t) × (t < ticket_at s.words n) × (turns_at n r.log ≡ turns_at n v.seen) = subst (HoldsItsTicket s.words r.log v.seen) holds k.queues in
      let w : V = published_view n e between v in
      let after : Rule (stepped s (16 * n + 1) x id me.1 w gives) = served_next s r id n t x first me.1 v h e between known at holds numbered next out all_seen leads same_place in
      let mine = (k.owns.0 numbered) in
      let whole : IsWhole turns from.states w.seen = subst (IsWhole turns from.states) (ap (λ l. l ++ turn v.number n e ∷ []) all_seen)
      (whole_next r.log v.number n first h e known (is_whole s r) (subst (λ l. Leads turns first (l ++ turn v.number n e ∷ []) h) (sym q.2) leads)) in
      let begins : StartsWith after.log w.seen = (after.each_seat id w (set_at s.views id v w at)).seen in (
        w,
        gives,
        tt,
        after,
        (
          (λ o j g is slot.
              let same : n ≡ j = ap slot_node (sym out ∙ slot) in (
                ap rest out,
                subst (λ i. PublishedAt turns place o i e v w) same (
                  between,
                  refl,
                  ap (turns_at n) (sym all_seen) ∙ q.2,
                  turns_mine (v.seen ++ between) v.number n e ∙ ap (λ l. l ++ turn v.number n e ∷ []) (ap (turns_of v.number) (sym all_seen) ∙ subst (λ i. turns_of i r.log ≡ turns_of i v.seen) (sym mine.0) mine.1),
                  known_whole v o w.seen k.same is whole,
                ),
              )),
          has_room (stepped s (16 * n + 1) x id me.1 w gives) after w w.seen k.same begins,
        ),
      )

  only_one : (w v : V) (i : ℕ) → get_elem? (w ∷ []) i ≡ some v → (i ≡ 0) × (w ≡ v)
  only_one w v zero e = (refl, some-injective w v e)
  only_one w v (suc i) e = absurd (some-ne-none v (sym e))

  pub opens : (ws : List ℕ) → length ws ≡ 16 * length from.states → ((i : ℕ) → i < length ws → get_or ws i 0 ≡ from.ticket) → from.ticket ≤ 2 ^ 62 → Rule (opening ws from.states (newcomer from))
  opens ws wide each most = record {
    log = [];
    placed = tt;
    wide = wide;
    each_seat = λ j u e. let p = only_one (newcomer from) u j e in subst (λ (x : ℕ × V). Knows from ws [] x.0 x.1) (λ i. (sym p.0 i, p.1 i))
        record { same = refl; seen = ([], refl); told = ([], refl); owns = ((λ _. (refl, refl)), (λ _ _. refl)); seated = λ _. refl; joined = λ j met. absurd met; queues = tt; spent = λ n met. absurd met };
    unmade = λ j l. refl;
    apart = λ i j a b n x ai bj ha hb. (only_one (newcomer from) a i ai).0 ∙ sym (only_one (newcomer from) b j bj).0;
    held = λ n t inside due below.
        let tk : ticket_at ws n ≡ from.ticket = each (16 * n) (omega arith) in
        let sv : serving_at ws n ≡ from.ticket = each (16 * n + 1) (omega arith) in
        let least : serving_at ws n ≤ t = due in let most_of_it : t < ticket_at ws n = below in absurd (omega arith);
    counted = record {
      one = λ i j a b ai bj fa fb. (only_one (newcomer from) a i ai).0 ∙ sym (only_one (newcomer from) b j bj).0;
      all = λ i a ai fa.
          let p = only_one (newcomer from) a i ai in record {
            counted = omega arith;
            others = λ j b bj is none. inl ((only_one (newcomer from) b j bj).0 ∙ sym p.0);
          };
      gone = λ i a j ai met. absurd (subst (λ (x : V). Met j x.account.joined) (sym (only_one (newcomer from) a i ai).1) met);
    };
    once = record {
      here = λ i a ai. subst (λ (x : V). AreDistinctNumbers x.account.joined) (only_one (newcomer from) a i ai).1 tt;
      elsewhere = λ i j n a b ai bj ma mb. (only_one (newcomer from) a i ai).0 ∙ sym (only_one (newcomer from) b j bj).0;
    };
    covered = tt;
    each_node = λ n first there.
        let a : n < length from.states = at_below from.states n first there in
        let tk : ticket_at ws n ≡ from.ticket = each (16 * n) (omega arith) in
        let sv : serving_at ws n ≡ from.ticket = each (16 * n + 1) (omega arith) in record {
          most = omega arith;
          served = omega arith;
          legal = (first, refl);
          count = omega arith;
          slot = inl (first, at_map some from.states n first there, (refl, refl));
        };
  }

  all_same : (t k : ℕ) (i : ℕ) → i < k → get_or (replicate k t) i 0 ≡ t
  all_same t zero i h = absurd (omega arith)
  all_same t (suc k) zero h = refl
  all_same t (suc k) (suc i) h = all_same t k i (omega arith)

  as_many : (t k : ℕ) → length (replicate k t) ≡ k
  as_many t zero = refl
  as_many t (suc k) = ap suc (as_many t k)

  pub opens_with : (t count : ℕ) (ws : List ℕ) (slots : List M) → ws ≡ replicate (16 * count) t → count ≡ length slots → from.states ≡ slots → from.ticket ≡ t → t ≤ 2 ^ 62 → Rule (opening ws slots (newcomer from))
  opens_with t count ws slots is many same start most =
      let long : length ws ≡ 16 * count = ap length is ∙ as_many t (16 * count) in
      let here : length slots ≡ length from.states = ap length (sym same) in
      subst (λ (hs : List M). Rule (opening ws hs (newcomer from))) same
      (opens ws (omega arith) (λ i h. ap (λ l. get_or l i 0) is ∙ (all_same t (16 * count) i (omega arith) ∙ sym start)) (subst (λ x. x ≤ 2 ^ 62) (sym start) most))

  -- Where all tickets of a node were served, its machine is one that the turns there leave. There is one history for all nodes, which begins with all that the seat has seen
  abbrev Left : List (Turn C R) → ℕ → List ℕ → Account → List ℕ → List M → Type 0
  Left seen number spent account ws hs =
      (log : List (Turn C R)) × StartsWith log seen × (turns_of number log ≡ turns_of number seen)
      × (IsComplete account → (log ≡ seen) × AreMadeBy (number ∷ account.joined) log × AreDistinctNumbers (number ∷ account.joined))
      × ((n x : ℕ) (first h : M) → get_elem? from.states n ≡ some first → get_or ws (16 * n) 0 ≡ x → get_or ws (16 * n + 1) 0 ≡ x → get_elem? hs n ≡ some h
      → Leads turns first (turns_at n log) h × (place h ≡ place first) × (Met n spent → from.ticket + length (turns_at n log) ≡ 2 ^ 62))
      × ((n : ℕ) → Met n spent → n < length from.states)

  -- a node has words if one of them isn't 0
  met_there : (s : St) (r : Rule s) (n : ℕ) → ticket_at s.words n ≡ 2 ^ 62 → n < length from.states
  met_there s r n full = let within : 16 * n < length s.words = word_there s.words (16 * n) (2 ^ 62) full (omega arith) in let wide : length s.words ≡ 16 * length from.states = r.wide in omega arith

  pub closes : (id : ℕ) (v : V) (ws : List ℕ) (hs : List M) → v.numbered ≡ true → Final (Seen Rule id v) ws hs → Left v.seen v.number v.spent v.account ws hs
  closes id v ws hs numbered final =
      let s : St = final.0 in let r : Rule s = final.1.0 in let k = r.each_seat id v final.1.1 in (
        r.log,
        k.seen,
        subst (λ j. turns_of j r.log ≡ turns_of j v.seen) (sym (k.owns.0 numbered).0) (k.owns.0 numbered).1,
        (λ complete.
            let made = all_by_it s.views id v r.log r.counted final.1.1 complete (λ j w wj is. (r.each_seat j w wj).seated is) r.covered in
            let number : v.number ≡ id = (k.owns.0 numbered).0 in (
              all_seen (v.number ∷ v.account.joined) r.log v.seen k.seen made
                  (λ j met. ⊎_elim (λ this. subst (λ i. turns_of i r.log ≡ turns_of i v.seen) (sym (this ∙ number)) (k.owns.0 numbered).1) (λ earlier. k.joined j earlier) met),
              made,
              all_distinct s.views id v r.counted r.once final.1.1 (k.seated numbered) number,
            )),
        (λ n x first h known ticket serving there.
            let p = r.each_node n first known in
            let t : ticket_at s.words n ≡ x = ap (λ l. ticket_at l n) final.2 ∙ ticket in
            let u : serving_at s.words n ≡ x = ap (λ l. serving_at l n) final.2 ∙ serving in
            let count : serving_at s.words n ≡ from.ticket + length (turns_at n r.log) = p.count in
            ⊎_elim
            (λ (home : (g : M) × (get_elem? s.homes n ≡ some (some g)) × Rests turns place first (turns_at n r.log) g).
            let same : home.0 ≡ h = some-injective home.0 h (sym (final.4 n home.0 home.1) ∙ there) in (
              subst (Leads turns first (turns_at n r.log)) same home.2.0,
              ap place (sym same) ∙ home.2.1,
              (λ met. let full : ticket_at s.words n ≡ 2 ^ 62 = k.spent n met in omega arith),
            ))
            (λ (out : (get_elem? s.homes n ≡ some none) × IsOut n (serving_at s.words n) s.views).
            let o = out.1 in
            let q : (serving_at s.words n ≡ serving_at s.words n) × (serving_at s.words n < ticket_at s.words n) × (turns_at n r.log ≡ turns_at n o.1.seen) = subst (HoldsItsTicket s.words r.log o.1.seen) o.3 (r.each_seat o.0 o.1 o.2).queues in
            let below : serving_at s.words n < ticket_at s.words n = q.1 in absurd (omega arith))
            p.slot),
        (λ n met. met_there s r n (k.spent n met)),
      )

  -- Once each seat that was split off from the first one has ended into it, and it makes no turn, each ticket that was drawn has been served
  pub all_served : (id : ℕ) (v : V) (ws : List ℕ) (hs : List M) → v.stage ≡ Idle → Final (Seen Rule id v) ws hs → IsComplete v.account → (n : ℕ) → n < length from.states → ticket_at ws n ≡ serving_at ws n
  all_served id v ws hs idle final complete n inside =
      let s : St = final.0 in let r : Rule s = final.1.0 in
      let node = there_at from.states n inside in
      let served : serving_at s.words n ≤ ticket_at s.words n = (r.each_node n node.0 node.1).served in
      let none : IsHeld n (serving_at s.words n) s.views → ⊥
      = λ held.
      let here : held.0 ≡ id = only_seat s.views id v r.counted final.1.1 complete held.0 held.1 held.2 held.3 in
      let same : held.1 ≡ v = some-injective held.1 v (sym held.2 ∙ (ap (get_elem? s.views) here ∙ final.1.1)) in
      subst (HasTicket n (serving_at s.words n)) (ap (λ (x : V). x.stage) same ∙ idle) held.4 in
      subst (λ l. ticket_at l n ≡ serving_at l n) final.2
      (dite (ℕ_discrete (ticket_at s.words n) (serving_at s.words n)) (λ e. e) (λ ne. absurd (none (r.held n (serving_at s.words n) inside (omega arith) (omega arith)))))

  -- the same of the machines that are taken out, with what the gate and the seat say of themselves
  pub gives_back : (id : ℕ) (v : V) (ws : List ℕ) (hs : List M) (given : List (Option M)) (gate : Origin M) (seat : Known M C R) → v.numbered ≡ true → Final (Seen Rule id v) ws hs → AreAtRest ws hs given
      → from.states ≡ gate.opening → from.ticket ≡ gate.ticket → v.seen ≡ seat.history → v.number ≡ seat.number → v.spent ≡ seat.spent → v.account ≡ seat.account → ClosesWith turns place gate seat given
  gives_back id v ws hs given gate seat numbered final left opened begun saw number spent account =
      let r = closes id v ws hs numbered final in
      subst (λ (x : List M × ℕ × List (Turn C R) × ℕ × List ℕ × Account).
      (log : List (Turn C R)) × StartsWith log x.2 × (turns_of x.3 log ≡ turns_of x.3 x.2)
      × (IsComplete x.5 → (log ≡ x.2) × AreMadeBy (x.3 ∷ x.5.joined) log × AreDistinctNumbers (x.3 ∷ x.5.joined))
      × ((node : ℕ) (first machine : M) → get_elem? x.0 node ≡ some first → get_elem? given node ≡ some (Some machine)
      → Leads turns first (turns_at node log) machine × (place machine ≡ place first) × (Met node x.4 → x.1 + length (turns_at node log) ≡ 2 ^ 62))
      × ((node : ℕ) → Met node x.4 → node < length x.0)) (λ i. (opened i, begun i, saw i, number i, spent i, account i))
      (r.0, r.1, r.2, r.3, (λ node first machine known at. let l = left node machine at in r.4 node l.0 first machine known (word_at ws (16 * node) l.0 l.1) (word_at ws (16 * node + 1) l.0 l.2) l.3), r.5)
