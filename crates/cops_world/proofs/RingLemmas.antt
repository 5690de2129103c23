-- Rows in rings: one leaves, one comes to another place, one joins.
use Rattle.std.proofs.Common.{◌≡◌, ◌≢◌, ◌⊎◌, inl, inr, ℕ, ◌<◌, Bool, true, false, true≢false, cond, refl, sym, subst, ap, ◌∙◌}
use Rattle.std.specs.Prelude.{Option, Some, None, is_some, nat_eq}
use Rattle.std.specs.Option.{option_map}
use Rattle.std.proofs.lemmas.Bool.Decides.{Decides-eqb, eqb_tells}
use Rattle.cops_types.proofs.WordLemmas.{same_value}
use Rattle.cops_world.specs.ActorRings.{AreRings, IsBetween, IsOneRing, Links, linked}

pub test_same : (a b : ℕ) → a ≡ b → nat_eq a b ≡ true
test_same a b is = (Decides-eqb a b).1 is

pub test_other : (a b : ℕ) → a ≢ b → nat_eq a b ≡ false
test_other a b differ = elim (eqb_tells a b) [
  | inl is ↦ absurd (differ is.1)
  | inr apart ↦ apart.0
]

-- a test of a choice is the choice of the tests
chosen : (Has : ℕ → Bool) (t : Bool) (a b : ℕ) → cond t (Has a) (Has b) ≡ Has (cond t a b)
chosen Has true a b = refl
chosen Has false a b = refl

same_choice : (t b : Bool) → cond t b b ≡ b
same_choice true b = refl
same_choice false b = refl

abbrev before_of : Links → ℕ
before_of l = l.before

abbrev behind_of : Links → ℕ
behind_of l = l.behind

abbrev slot_in : Links → ℕ
slot_in l = l.slot

-- a row lies one way from another, which lies the other way from it
abbrev Beside : (ℕ → Option Links) → (Links → ℕ) → (Links → ℕ) → ℕ → Links → Type 0
Beside rows forth back place own = (other : Links) × (rows (forth own) ≡ Some other) × (other.slot ≡ own.slot) × (back other ≡ place)

no_row : (rows : ℕ → Option Links) (place : ℕ) (own : Links) → rows place ≡ Some own → rows place ≡ None → ⊥
no_row rows place own at none = true≢false (ap is_some (sym at ∙ none))

one_row : (rows : ℕ → Option Links) (place other : ℕ) (a b : Links) → place ≡ other → rows place ≡ Some a → rows other ≡ Some b → a ≡ b
one_row rows place other a b same at there = same_value a b (sym at ∙ ap rows same ∙ there)

-- the row before a row is the one that has it behind, and the other way round
module _ (rows : ℕ → Option Links) (slots : ℕ) (first : ℕ → ℕ) (are : AreRings rows slots first) (p : ℕ) (n : Links) (here : rows p ≡ Some n) where
  before_tells : (q : ℕ) (m : Links) → rows q ≡ Some m → nat_eq q n.before ≡ nat_eq m.behind p
  before_tells q m at = elim (eqb_tells q n.before) [
    | inl is ↦
        let b = (are.between p n here).before_it in
        is.0 ∙ sym (test_same m.behind p (ap behind_of (one_row rows q n.before m b.0 is.1 at b.1) ∙ b.3))
    | inr apart ↦
        let b = (are.between q m at).behind_it in
        apart.0 ∙ sym (test_other m.behind p (λ e. apart.1 (sym b.3 ∙ ap before_of (one_row rows m.behind p b.0 n e b.1 here))))
  ]

  behind_tells : (q : ℕ) (m : Links) → rows q ≡ Some m → nat_eq q n.behind ≡ nat_eq m.before p
  behind_tells q m at = elim (eqb_tells q n.behind) [
    | inl is ↦
        let b = (are.between p n here).behind_it in
        is.0 ∙ sym (test_same m.before p (ap before_of (one_row rows q n.behind m b.0 is.1 at b.1) ∙ b.3))
    | inr apart ↦
        let b = (are.between q m at).before_it in
        apart.0 ∙ sym (test_other m.before p (λ e. apart.1 (sym b.3 ∙ ap behind_of (one_row rows m.before p b.0 n e b.1 here))))
  ]

-- ---- one leaves

-- what led to the row that leaves leads past it
record Passed (p : ℕ) (n m after : Links) : Type 0 where
  slot_is : after.slot ≡ m.slot
  before_is : after.before ≡ cond (nat_eq m.before p) n.before m.before
  behind_is : after.behind ≡ cond (nat_eq m.behind p) n.behind m.behind

-- one way round
module _ (rows new : ℕ → Option Links) (p : ℕ) (n : Links) (here : rows p ≡ Some n) (forth back : Links → ℕ)
    (beside : (q : ℕ) (m : Links) → rows q ≡ Some m → Beside rows forth back q m)
    (left : (q : ℕ) (m : Links) → new q ≡ Some m → (was : Links) × (rows q ≡ Some was) × (q ≢ p) × (m.slot ≡ was.slot) × (forth m ≡ cond (nat_eq (forth was) p) (forth n) (forth was)))
    (kept : (q : ℕ) (m : Links) → rows q ≡ Some m → q ≢ p → (is : Links) × (new q ≡ Some is) × (is.slot ≡ m.slot) × (back is ≡ cond (nat_eq (back m) p) (back n) (back m))) where
  beside_left : (q : ℕ) (m : Links) → new q ≡ Some m → Beside new forth back q m
  beside_left q m at =
      let h = left q m at in
      let a = beside q h.0 h.1 in
      elim (eqb_tells (forth h.0) p) [
        | inl is ↦
            let same = one_row rows (forth h.0) p a.0 n is.1 a.1 here in
            let back_is : back n ≡ q = ap back (sym same) ∙ a.3 in
            let b = beside p n here in
            let differ : forth n ≢ p = λ e. h.2 (sym back_is ∙ ap back (one_row rows p (forth n) n b.0 (sym e) here b.1) ∙ b.3) in
            let k = kept (forth n) b.0 b.1 differ in (
              k.0,
              ap new (h.4 ∙ ap (λ t. cond t (forth n) (forth h.0)) is.0) ∙ k.1,
              k.2 ∙ b.2 ∙ ap slot_in (sym same) ∙ a.2 ∙ sym h.3,
              k.3 ∙ ap (λ t. cond t (back n) (back b.0)) (test_same (back b.0) p b.3) ∙ back_is,
            )
        | inr apart ↦
            let k = kept (forth h.0) a.0 a.1 apart.1 in (
              k.0,
              ap new (h.4 ∙ ap (λ t. cond t (forth n) (forth h.0)) apart.0) ∙ k.1,
              k.2 ∙ a.2 ∙ sym h.3,
              k.3 ∙ ap (λ t. cond t (back n) (back a.0)) (test_other (back a.0) p (λ e. h.2 (sym a.3 ∙ e))) ∙ a.3,
            )
      ]

module _ (rows : ℕ → Option Links) (slots : ℕ) (first : ℕ → ℕ) (are : AreRings rows slots first) (p : ℕ) (n : Links) (here : rows p ≡ Some n) (new : ℕ → Option Links) (first_now : ℕ → ℕ)
    (gone : new p ≡ None) (rest : (q : ℕ) → q ≢ p → new q ≡ option_map (linked n.before n.behind q) (rows q))
    (own : first_now n.slot ≡ cond (nat_eq (first n.slot) p) n.behind (first n.slot)) (others : (slot : ℕ) → slot ≢ n.slot → first_now slot ≡ first slot) where
  passed : (q : ℕ) (m : Links) → rows q ≡ Some m → Passed p n m (linked n.before n.behind q m)
  passed q m at = record {
    slot_is = refl;
    before_is = ap (λ t. cond t n.before m.before) (behind_tells rows slots first are p n here q m at);
    behind_is = ap (λ t. cond t n.behind m.behind) (before_tells rows slots first are p n here q m at);
  }

  kept : (q : ℕ) (m : Links) → rows q ≡ Some m → q ≢ p → (is : Links) × (new q ≡ Some is) × Passed p n m is
  kept q m at differ = (linked n.before n.behind q m, rest q differ ∙ ap (option_map (linked n.before n.behind q)) at, passed q m at)

  left : (q : ℕ) (m : Links) → new q ≡ Some m → (was : Links) × (rows q ≡ Some was) × (q ≢ p) × Passed p n was m
  left q m at = elim (eqb_tells q p) [
    | inl is ↦ absurd (no_row new q m at (ap new is.1 ∙ gone))
    | inr apart ↦ by (rows q) refl apart.1
  ]
    where
      by : (o : Option Links) → rows q ≡ o → q ≢ p → (was : Links) × (rows q ≡ Some was) × (q ≢ p) × Passed p n was m
      by None e differ = absurd (no_row new q m at (rest q differ ∙ ap (option_map (linked n.before n.behind q)) e))
      by (Some was) e differ =
          let k = kept q was e differ in
          (was, e, differ, subst (Passed p n was) (same_value k.0 m (sym k.1 ∙ at)) k.2)

  between_left : (q : ℕ) (m : Links) → new q ≡ Some m → IsBetween new q m
  between_left q m at = record {
    behind_it = beside_left rows new p n here behind_of before_of (λ q m at. (are.between q m at).behind_it)
        (λ q m at. let h = left q m at in (h.0, h.1, h.2, h.3.slot_is, h.3.behind_is)) (λ q m at differ. let k = kept q m at differ in (k.0, k.1, k.2.slot_is, k.2.before_is)) q m at;
    before_it = beside_left rows new p n here before_of behind_of (λ q m at. (are.between q m at).before_it)
        (λ q m at. let h = left q m at in (h.0, h.1, h.2, h.3.slot_is, h.3.before_is)) (λ q m at differ. let k = kept q m at differ in (k.0, k.1, k.2.slot_is, k.2.behind_is)) q m at;
  }

  -- where the ring goes on from the row that leaves, unless it is the only one
  goes_past : (q : ℕ) (m : Links) → rows q ≡ Some m → m.slot ≡ n.slot → q ≢ p → first n.slot ≡ p → n.behind ≢ p
  goes_past q m at of differ is alone =
      differ ((Decides-eqb q p).0 (are.one n.slot (λ x. nat_eq x p) (test_same (first n.slot) p is)
      (λ place row there same has. test_same row.behind p (ap behind_of (one_row rows place p row n ((Decides-eqb place p).0 has) there here) ∙ alone)) q m at of))

  led_left : (q : ℕ) (m : Links) → new q ≡ Some m → (other : Links) × (new (first_now m.slot) ≡ Some other) × (other.slot ≡ m.slot)
  led_left q m at =
      let h = left q m at in
      let l = are.led q h.0 h.1 in
      elim (eqb_tells h.0.slot n.slot) [
        | inl same ↦
            let there = h.3.slot_is ∙ same.1 in
            elim (eqb_tells (first n.slot) p) [
              | inl is ↦
                  let b = (are.between p n here).behind_it in
                  let k = kept n.behind b.0 b.1 (goes_past q h.0 h.1 same.1 h.2 is.1) in
                  (k.0, ap new (ap first_now there ∙ own ∙ ap (λ t. cond t n.behind (first n.slot)) is.0) ∙ k.1, k.2.slot_is ∙ b.2 ∙ sym there)
              | inr apart ↦
                  let o = are.led p n here in
                  let k = kept (first n.slot) o.0 o.1 apart.1 in
                  (k.0, ap new (ap first_now there ∙ own ∙ ap (λ t. cond t n.behind (first n.slot)) apart.0) ∙ k.1, k.2.slot_is ∙ o.2 ∙ sym there)
            ]
        | inr apart ↦
            let k = kept (first h.0.slot) l.0 l.1 (λ e. apart.1 (sym l.2 ∙ ap slot_in (one_row rows (first h.0.slot) p l.0 n e l.1 here))) in
            (k.0, ap new (ap first_now h.3.slot_is ∙ others h.0.slot apart.1) ∙ k.1, k.2.slot_is ∙ l.2 ∙ sym h.3.slot_is)
      ]

  one_left : IsOneRing new first_now
  one_left slot Has start closed q m at of =
      let h = left q m at in
      let was_of : h.0.slot ≡ slot = sym h.3.slot_is ∙ of in
      sym (ap (λ t. cond t (Has n.behind) (Has q)) (test_other q p h.2))
      ∙ are.one slot Had (begins h.0 h.1 was_of) goes_on q h.0 h.1 was_of
    where
      Had : ℕ → Bool
      Had x = cond (nat_eq x p) (Has n.behind) (Has x)

      begins : (was : Links) → rows q ≡ Some was → was.slot ≡ slot → Had (first slot) ≡ true
      begins was at_first of_it = elim (eqb_tells slot n.slot) [
        | inl same ↦
            chosen Has (nat_eq (first slot) p) n.behind (first slot)
            ∙ ap Has (ap (λ s. cond (nat_eq (first s) p) n.behind (first s)) same.1 ∙ sym own ∙ ap first_now (sym same.1)) ∙ start
        | inr apart ↦
            let l = are.led q was at_first in
            let elsewhere : first slot ≢ p = λ e. apart.1 (sym of_it ∙ sym l.2 ∙ ap slot_in (one_row rows (first was.slot) p l.0 n (ap first of_it ∙ e) l.1 here)) in
            ap (λ t. cond t (Has n.behind) (Has (first slot))) (test_other (first slot) p elsewhere) ∙ ap Has (sym (others slot apart.1)) ∙ start
      ]

      goes_on : (place : ℕ) (row : Links) → rows place ≡ Some row → row.slot ≡ slot → Had place ≡ true → Had row.behind ≡ true
      goes_on place row there same has = elim (eqb_tells place p) [
        | inl is ↦
            ap (λ (l : Links). Had l.behind) (one_row rows place p row n is.1 there here)
            ∙ same_choice (nat_eq n.behind p) (Has n.behind) ∙ sym (ap (λ t. cond t (Has n.behind) (Has place)) is.0) ∙ has
        | inr apart ↦
            let k = kept place row there apart.1 in
            chosen Has (nat_eq row.behind p) n.behind row.behind ∙ ap Has (sym k.2.behind_is)
            ∙ closed place k.0 k.1 (k.2.slot_is ∙ same) (sym (ap (λ t. cond t (Has n.behind) (Has place)) apart.0) ∙ has)
      ]

  pub rings_left : AreRings new slots first_now
  rings_left = record {
    between = between_left;
    within = λ q m at. let h = left q m at in subst (λ s. s < slots) (sym h.3.slot_is) (are.within q h.0 h.1);
    led = led_left;
    one = one_left;
  }

-- ---- one comes to another place

-- the place of a row once the one at `from` is at `to`
abbrev place_now : ℕ → ℕ → ℕ → ℕ
place_now from to x = cond (nat_eq x from) to x

record Moved (from to : ℕ) (m after : Links) : Type 0 where
  slot_is : after.slot ≡ m.slot
  before_is : after.before ≡ place_now from to m.before
  behind_is : after.behind ≡ place_now from to m.behind

module _ (rows : ℕ → Option Links) (slots : ℕ) (first : ℕ → ℕ) (are : AreRings rows slots first) (from to : ℕ) (vacant : rows to ≡ None) (n : Links) (here : rows from ≡ Some n)
    (new : ℕ → Option Links) (first_now : ℕ → ℕ) (gone : new from ≡ None)
    (came : new to ≡ option_map (λ l. linked to n.behind from (linked n.before to from l)) (rows from))
    (rest : (q : ℕ) → q ≢ to → q ≢ from → new q ≡ option_map (λ l. linked to n.behind q (linked n.before to q l)) (rows q))
    (own : first_now n.slot ≡ cond (nat_eq (first n.slot) from) to (first n.slot)) (others : (slot : ℕ) → slot ≢ n.slot → first_now slot ≡ first slot) where
  not_vacant : (q : ℕ) (m : Links) → rows q ≡ Some m → q ≢ to
  not_vacant q m at e = no_row rows q m at (ap rows e ∙ vacant)

  moved : (q : ℕ) (m : Links) → rows q ≡ Some m → Moved from to m (linked to n.behind q (linked n.before to q m))
  moved q m at =
      let other = test_other q to (not_vacant q m at) in
      record {
        slot_is = refl;
        before_is = (λ i. cond (behind_tells rows slots first are from n here q m at i) to (cond (other i) n.before m.before));
        behind_is = (λ i. cond (other i) n.behind (cond (before_tells rows slots first are from n here q m at i) to m.behind));
      }

  now_at : (q : ℕ) (m : Links) → rows q ≡ Some m → (is : Links) × (new (place_now from to q) ≡ Some is) × Moved from to m is
  now_at q m at = elim (eqb_tells q from) [
    | inl is ↦ (
      linked to n.behind q (linked n.before to q m),
      ap (λ t. new (cond t to q)) is.0 ∙ came ∙ (λ i. option_map (λ l. linked to n.behind (sym is.1 i) (linked n.before to (sym is.1 i) l)) (rows (sym is.1 i)))
          ∙ ap (option_map (λ l. linked to n.behind q (linked n.before to q l))) at,
      moved q m at,
    )
    | inr apart ↦ (
      linked to n.behind q (linked n.before to q m),
      ap (λ t. new (cond t to q)) apart.0 ∙ rest q (not_vacant q m at) apart.1 ∙ ap (option_map (λ l. linked to n.behind q (linked n.before to q l))) at,
      moved q m at,
    )
  ]

  abbrev WasAt : ℕ → Links → Type 0
  WasAt q m = (place : ℕ) × (was : Links) × (rows place ≡ Some was) × (q ≡ place_now from to place) × Moved from to was m

  was_at : (q : ℕ) (m : Links) → new q ≡ Some m → WasAt q m
  was_at q m at = elim (eqb_tells q to) [
    | inl is ↦
        let to_is : q ≡ place_now from to from = is.1 ∙ sym (ap (λ t. cond t to from) (test_same from from refl)) in
        told from n here to_is
    | inr apart ↦ elim (eqb_tells q from) [
      | inl is ↦ absurd (no_row new q m at (ap new is.1 ∙ gone))
      | inr differ ↦ by (rows q) refl apart.1 differ.1
    ]
  ]
    where
      told : (place : ℕ) (was : Links) → rows place ≡ Some was → q ≡ place_now from to place → WasAt q m
      told place was there same =
          let k = now_at place was there in
          (place, was, there, same, subst (Moved from to was) (same_value k.0 m (sym k.1 ∙ ap new (sym same) ∙ at)) k.2)

      by : (o : Option Links) → rows q ≡ o → q ≢ to → q ≢ from → WasAt q m
      by None e other differ = absurd (no_row new q m at (rest q other differ ∙ ap (option_map (λ l. linked to n.behind q (linked n.before to q l))) e))
      by (Some was) e other differ = told q was e (sym (ap (λ t. cond t to q) (test_other q from differ)))

  first_moved : (slot q : ℕ) (m : Links) → rows q ≡ Some m → m.slot ≡ slot → first_now slot ≡ place_now from to (first slot)
  first_moved slot q m at of = elim (eqb_tells slot n.slot) [
    | inl same ↦ ap first_now same.1 ∙ own ∙ ap (λ s. cond (nat_eq (first s) from) to (first s)) (sym same.1)
    | inr apart ↦
        let l = are.led q m at in
        let elsewhere : first slot ≢ from = λ e. apart.1 (sym of ∙ sym l.2 ∙ ap slot_in (one_row rows (first m.slot) from l.0 n (ap first of ∙ e) l.1 here)) in
        others slot apart.1 ∙ sym (ap (λ t. cond t to (first slot)) (test_other (first slot) from elsewhere))
  ]

  pub rings_moved : AreRings new slots first_now
  rings_moved = record {
    between = λ q m at.
        let h = was_at q m at in
        let b = are.between h.0 h.1 h.2 in
        let s = b.behind_it in
        let p = b.before_it in
        let k = now_at h.1.behind s.0 s.1 in
        let j = now_at h.1.before p.0 p.1 in
        record {
          behind_it = (k.0, ap new h.4.behind_is ∙ k.1, k.2.slot_is ∙ s.2 ∙ sym h.4.slot_is, k.2.before_is ∙ ap (place_now from to) s.3 ∙ sym h.3);
          before_it = (j.0, ap new h.4.before_is ∙ j.1, j.2.slot_is ∙ p.2 ∙ sym h.4.slot_is, j.2.behind_is ∙ ap (place_now from to) p.3 ∙ sym h.3);
        };
    within = λ q m at. let h = was_at q m at in subst (λ s. s < slots) (sym h.4.slot_is) (are.within h.0 h.1 h.2);
    led = λ q m at.
        let h = was_at q m at in
        let l = are.led h.0 h.1 h.2 in
        let k = now_at (first h.1.slot) l.0 l.1 in
        (k.0, ap new (ap first_now h.4.slot_is ∙ first_moved h.1.slot h.0 h.1 h.2 refl) ∙ k.1, k.2.slot_is ∙ l.2 ∙ sym h.4.slot_is);
    one = λ slot Has start closed q m at of.
        let h = was_at q m at in
        let was_of : h.1.slot ≡ slot = sym h.4.slot_is ∙ of in
        ap Has h.3
        ∙ are.one slot (λ x. Has (place_now from to x)) (ap Has (sym (first_moved slot h.0 h.1 h.2 was_of)) ∙ start)
        (λ place row there same has. let k = now_at place row there in ap Has (sym k.2.behind_is) ∙ closed (place_now from to place) k.0 k.1 (k.2.slot_is ∙ same) has)
        h.0 h.1 h.2 was_of;
  }

-- ---- one joins

-- the only one of its slot
module _ (rows : ℕ → Option Links) (slots : ℕ) (first : ℕ → ℕ) (are : AreRings rows slots first) (at slot : ℕ) (vacant : rows at ≡ None) (within_it : slot < slots)
    (nobody : (q : ℕ) (m : Links) → rows q ≡ Some m → m.slot ≢ slot) (new : ℕ → Option Links) (first_now : ℕ → ℕ)
    (came : new at ≡ Some (record { slot = slot; before = at; behind = at })) (rest : (q : ℕ) → q ≢ at → new q ≡ rows q)
    (own : first_now slot ≡ at) (others : (other : ℕ) → other ≢ slot → first_now other ≡ first other) where
  still : (q : ℕ) (m : Links) → rows q ≡ Some m → new q ≡ Some m
  still q m there = rest q (λ e. no_row rows q m there (ap rows e ∙ vacant)) ∙ there

  abbrev alone : Links
  alone = record { slot = slot; before = at; behind = at }

  split : (q : ℕ) (m : Links) → new q ≡ Some m → ((q ≡ at) × (alone ≡ m)) ⊎ (rows q ≡ Some m)
  split q m there = elim (eqb_tells q at) [
    | inl is ↦ inl (is.1, one_row new at q alone m (sym is.1) came there)
    | inr apart ↦ inr (sym (rest q apart.1) ∙ there)
  ]

  pub rings_begun : AreRings new slots first_now
  rings_begun = record {
    between = λ q m there. elim (split q m there) [
      | inl is ↦
          let own_behind : m.behind ≡ at = ap behind_of (sym is.1) in
          let own_before : m.before ≡ at = ap before_of (sym is.1) in
          record {
            behind_it = (alone, ap new own_behind ∙ came, ap slot_in is.1, sym is.0);
            before_it = (alone, ap new own_before ∙ came, ap slot_in is.1, sym is.0);
          }
      | inr was ↦
          let b = are.between q m was in
          let s = b.behind_it in
          let p = b.before_it in
          record { behind_it = (s.0, still m.behind s.0 s.1, s.2, s.3); before_it = (p.0, still m.before p.0 p.1, p.2, p.3) }
    ];
    within = λ q m there. elim (split q m there) [
      | inl is ↦ subst (λ s. s < slots) (ap slot_in is.1) within_it
      | inr was ↦ are.within q m was
    ];
    led = λ q m there. elim (split q m there) [
      | inl is ↦ (alone, ap new (ap first_now (ap slot_in (sym is.1)) ∙ own) ∙ came, ap slot_in is.1)
      | inr was ↦ let l = are.led q m was in (l.0, ap new (others m.slot (nobody q m was)) ∙ still (first m.slot) l.0 l.1, l.2)
    ];
    one = λ ring Has start closed q m there of. elim (split q m there) [
      | inl is ↦ ap Has (is.0 ∙ sym own ∙ ap first_now (ap slot_in is.1 ∙ of)) ∙ start
      | inr was ↦
          let apart : ring ≢ slot = λ e. nobody q m was (of ∙ e) in
          are.one ring Has (ap Has (sym (others ring apart)) ∙ start) (λ place row old same has. closed place row (still place row old) same has) q m was of
    ];
  }

-- between the last and the first
module _ (rows : ℕ → Option Links) (slots : ℕ) (first : ℕ → ℕ) (are : AreRings rows slots first) (at slot : ℕ) (vacant : rows at ≡ None) (k : Links) (start_is : rows (first slot) ≡ Some k) (k_of : k.slot ≡ slot)
    (new : ℕ → Option Links) (first_now : ℕ → ℕ)
    (came : new at ≡ Some (linked at (first slot) at (linked k.before at at (record { slot = slot; before = at; behind = at }))))
    (rest : (q : ℕ) → q ≢ at → new q ≡ option_map (λ l. linked at (first slot) q (linked k.before at q l)) (rows q))
    (firsts : (other : ℕ) → first_now other ≡ first other) where
  in_rows : (q : ℕ) (m : Links) → rows q ≡ Some m → q ≢ at
  in_rows q m there e = no_row rows q m there (ap rows e ∙ vacant)

  abbrev joined : Links
  joined = record { slot = slot; before = k.before; behind = first slot }

  there_now : new at ≡ Some joined
  there_now =
      came ∙ (λ i. Some (record {
        slot = slot;
        before = cond (test_other at (first slot) (λ e. in_rows (first slot) k start_is (sym e)) i) at (cond (test_same at at refl i) k.before at);
        behind = cond (test_same at at refl i) (first slot) (cond (nat_eq at k.before) at at);
      }))

  record Opened (q : ℕ) (m after : Links) : Type 0 where
    slot_is : after.slot ≡ m.slot
    before_is : after.before ≡ cond (nat_eq q (first slot)) at m.before
    behind_is : after.behind ≡ cond (nat_eq q k.before) at m.behind

  opened : (q : ℕ) (m : Links) → rows q ≡ Some m → (is : Links) × (new q ≡ Some is) × Opened q m is
  opened q m there =
      let other = test_other q at (in_rows q m there) in (
        linked at (first slot) q (linked k.before at q m),
        rest q (in_rows q m there) ∙ ap (option_map (λ l. linked at (first slot) q (linked k.before at q l))) there,
        record {
          slot_is = refl;
          before_is = ap (λ t. cond (nat_eq q (first slot)) at (cond t k.before m.before)) other;
          behind_is = ap (λ t. cond t (first slot) (cond (nat_eq q k.before) at m.behind)) other;
        },
      )

  abbrev WasThere : ℕ → Links → Type 0
  WasThere q m = (was : Links) × (rows q ≡ Some was) × Opened q was m

  parted : (q : ℕ) (m : Links) → new q ≡ Some m → ((q ≡ at) × (joined ≡ m)) ⊎ WasThere q m
  parted q m there = elim (eqb_tells q at) [
    | inl is ↦ inl (is.1, one_row new at q joined m (sym is.1) there_now there)
    | inr apart ↦ inr (by (rows q) refl apart.1)
  ]
    where
      by : (o : Option Links) → rows q ≡ o → q ≢ at → WasThere q m
      by None e differ = absurd (no_row new q m there (rest q differ ∙ ap (option_map (λ l. linked at (first slot) q (linked k.before at q l))) e))
      by (Some was) e differ = let o = opened q was e in (was, e, subst (Opened q was) (same_value o.0 m (sym o.1 ∙ there)) o.2)

  behind_joined : (q : ℕ) (m : Links) → new q ≡ Some m → Beside new behind_of before_of q m
  behind_joined q m there = elim (parted q m there) [
    | inl is ↦
        let o = opened (first slot) k start_is in (
          o.0,
          ap new (ap behind_of (sym is.1)) ∙ o.1,
          o.2.slot_is ∙ k_of ∙ ap slot_in is.1,
          o.2.before_is ∙ ap (λ t. cond t at k.before) (test_same (first slot) (first slot) refl) ∙ sym is.0,
        )
    | inr h ↦ elim (eqb_tells q k.before) [
      | inl is ↦
          let b = (are.between (first slot) k start_is).before_it in
          let same = one_row rows q k.before h.0 b.0 is.1 h.1 b.1 in (
            joined,
            ap new (h.2.behind_is ∙ ap (λ t. cond t at h.0.behind) is.0) ∙ there_now,
            sym k_of ∙ sym b.2 ∙ ap slot_in (sym same) ∙ sym h.2.slot_is,
            sym is.1,
          )
      | inr apart ↦
          let a = (are.between q h.0 h.1).behind_it in
          let o = opened h.0.behind a.0 a.1 in
          let elsewhere : h.0.behind ≢ first slot = λ e. apart.1 (sym a.3 ∙ ap before_of (one_row rows h.0.behind (first slot) a.0 k e a.1 start_is)) in (
            o.0,
            ap new (h.2.behind_is ∙ ap (λ t. cond t at h.0.behind) apart.0) ∙ o.1,
            o.2.slot_is ∙ a.2 ∙ sym h.2.slot_is,
            o.2.before_is ∙ ap (λ t. cond t at a.0.before) (test_other h.0.behind (first slot) elsewhere) ∙ a.3,
          )
    ]
  ]

  before_joined : (q : ℕ) (m : Links) → new q ≡ Some m → Beside new before_of behind_of q m
  before_joined q m there = elim (parted q m there) [
    | inl is ↦
        let b = (are.between (first slot) k start_is).before_it in
        let o = opened k.before b.0 b.1 in (
          o.0,
          ap new (ap before_of (sym is.1)) ∙ o.1,
          o.2.slot_is ∙ b.2 ∙ k_of ∙ ap slot_in is.1,
          o.2.behind_is ∙ ap (λ t. cond t at b.0.behind) (test_same k.before k.before refl) ∙ sym is.0,
        )
    | inr h ↦ elim (eqb_tells q (first slot)) [
      | inl is ↦
          let same = one_row rows q (first slot) h.0 k is.1 h.1 start_is in (
            joined,
            ap new (h.2.before_is ∙ ap (λ t. cond t at h.0.before) is.0) ∙ there_now,
            sym k_of ∙ ap slot_in (sym same) ∙ sym h.2.slot_is,
            sym is.1,
          )
      | inr apart ↦
          let a = (are.between q h.0 h.1).before_it in
          let b = (are.between (first slot) k start_is).before_it in
          let o = opened h.0.before a.0 a.1 in
          let elsewhere : h.0.before ≢ k.before = λ e. apart.1 (sym a.3 ∙ ap behind_of (one_row rows h.0.before k.before a.0 b.0 e a.1 b.1) ∙ b.3) in (
            o.0,
            ap new (h.2.before_is ∙ ap (λ t. cond t at h.0.before) apart.0) ∙ o.1,
            o.2.slot_is ∙ a.2 ∙ sym h.2.slot_is,
            o.2.behind_is ∙ ap (λ t. cond t at a.0.behind) (test_other h.0.before k.before elsewhere) ∙ a.3,
          )
    ]
  ]

  one_joined : IsOneRing new first_now
  one_joined ring Has start closed q m there of = elim (parted q m there) [
    | inl is ↦
        let b = (are.between (first slot) k start_is).before_it in
        let ring_is : ring ≡ slot = sym of ∙ ap slot_in (sym is.1) in
        let o = opened k.before b.0 b.1 in
        let last_of : b.0.slot ≡ ring = b.2 ∙ k_of ∙ sym ring_is in
        ap Has (is.0 ∙ sym (o.2.behind_is ∙ ap (λ t. cond t at b.0.behind) (test_same k.before k.before refl)))
        ∙ closed k.before o.0 o.1 (o.2.slot_is ∙ last_of) (old_has k.before b.0 b.1 last_of)
    | inr h ↦ old_has q h.0 h.1 (sym h.2.slot_is ∙ of)
  ]
    where
      goes_on : (place : ℕ) (row : Links) → rows place ≡ Some row → row.slot ≡ ring → Has place ≡ true → Has row.behind ≡ true
      goes_on place row was same has =
          let o = opened place row was in
          let next = closed place o.0 o.1 (o.2.slot_is ∙ same) has in
          elim (eqb_tells place k.before) [
            | inl is ↦
                let b = (are.between (first slot) k start_is).before_it in
                let row_is = one_row rows place k.before row b.0 is.1 was b.1 in
                let at_has : Has at ≡ true = ap Has (sym (o.2.behind_is ∙ ap (λ t. cond t at row.behind) is.0)) ∙ next in
                let of_ring : slot ≡ ring = sym k_of ∙ sym b.2 ∙ ap slot_in (sym row_is) ∙ same in
                ap Has (ap behind_of row_is ∙ b.3) ∙ closed at joined there_now of_ring at_has
            | inr apart ↦ ap Has (sym (o.2.behind_is ∙ ap (λ t. cond t at row.behind) apart.0)) ∙ next
          ]

      old_has : (place : ℕ) (row : Links) → rows place ≡ Some row → row.slot ≡ ring → Has place ≡ true
      old_has = are.one ring Has (ap Has (sym (firsts ring)) ∙ start) goes_on

  pub rings_joined : AreRings new slots first_now
  rings_joined = record {
    between = λ q m there. record { behind_it = behind_joined q m there; before_it = before_joined q m there };
    within = λ q m there. elim (parted q m there) [
      | inl is ↦ subst (λ s. s < slots) (k_of ∙ ap slot_in is.1) (are.within (first slot) k start_is)
      | inr h ↦ subst (λ s. s < slots) (sym h.2.slot_is) (are.within q h.0 h.1)
    ];
    led = λ q m there. elim (parted q m there) [
      | inl is ↦
          let o = opened (first slot) k start_is in
          (o.0, ap new (firsts m.slot ∙ ap first (ap slot_in (sym is.1))) ∙ o.1, o.2.slot_is ∙ k_of ∙ ap slot_in is.1)
      | inr h ↦
          let l = are.led q h.0 h.1 in
          let o = opened (first h.0.slot) l.0 l.1 in
          (o.0, ap new (firsts m.slot ∙ ap first h.2.slot_is) ∙ o.1, o.2.slot_is ∙ l.2 ∙ sym h.2.slot_is)
    ];
    one = one_joined;
  }
