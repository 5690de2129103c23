-- What the calls on one line of garbage-collection entries do to it, and to those of others.
use Rattle.std.proofs.Common.{◌≡◌, ◌≢◌, inl, inr, ℕ, zero, suc, ◌+◌, ◌-◌, ◌<◌, ◌≤◌, List, [], ◌∷◌, ◌++◌, length, refl, sym, ap, ◌∙◌, subst, arith, get_or, set, false, cond, sum_by}
use Rattle.std.specs.Prelude.{Option, Some, None, IsSome, ◌==◌, if◌then◌else◌, drop, count_by, is_some}
use Rattle.std.proofs.lemmas.Bool.{cases_eq, cases_lt}
use Rattle.std.proofs.lemmas.Bool.Decides.{nat_tests}
use Rattle.std.proofs.lemmas.List.{get_or_past, get_or-set_same, get_or-set_other}
use Rattle.std.proofs.lemmas.List.Sums.{sum_by-set}
use Rattle.cops_store.specs.declared.table.Due.{Due}
use Rattle.cops_store.specs.declared.due_rows.DueRow.{DueRow}
use Rattle.cops_store.specs.declared.due_rows.DueLine.{DueLine}
use Rattle.cops_store.specs.Dues.{IsDueAdded, IsDueChain, IsDueGone, IsDueLine, IsDueMoved, IsDueTurn, IsDueRowOf, due_cell, due_in, dues_from, dues_in, next_due, passed}
use Rattle.cops_store.proofs.DueChains.{added_elsewhere, apart, chain_front, chain_head, chain_last, chain_length, chain_rest, gone_behind, gone_elsewhere, line_longer}

-- ---- where rows are
pub some_there : (rows : List (Option DueRow)) (slot at : ℕ) → IsDueRowOf rows slot at → IsSome (due_cell rows at)
some_there rows slot at h = subst IsSome (sym h.1) refl

within : (rows : List (Option DueRow)) (at : ℕ) (r : DueRow) → due_cell rows at ≡ Some r → at < length rows
within rows at r read = elim (cases_lt at (length rows)) [
  | inl lt ↦ lt
  | inr past ↦ let none : due_cell rows at ≡ None = get_or_past rows at None past in let both : Some r ≡ None = sym read ∙ none in absurd (cc)
]

-- a row that is written over still counts
pub count_written : (rows : List (Option DueRow)) (at : ℕ) (r new : DueRow) → due_cell rows at ≡ Some r → count_by is_some (set rows at (Some new)) ≡ count_by is_some rows
count_written rows at r new read =
    let sums : sum_by (λ (o : Option DueRow). cond (is_some o) 1 0) (set rows at (Some new)) + cond (is_some (get_or rows at None)) 1 0 ≡ sum_by (λ (o : Option DueRow). cond (is_some o) 1 0) rows + 1 = sum_by-set (λ (o : Option DueRow). cond (is_some o) 1 0) rows at (Some new) None (within rows at r read) in
    let was : ◌≡◌ {A = ℕ} (cond (is_some (get_or rows at None)) 1 0) 1 = ap (λ (o : Option DueRow). cond (is_some o) 1 0) read in
    omega (arith, sums, was)

pub first_there : (rows : List (Option DueRow)) (slot : ℕ) (line : DueLine) → 0 < line.count → IsDueLine rows slot line → IsDueRowOf rows slot line.first
first_there rows slot line some h = by line.count some h
  where
    by : (n : ℕ) → 0 < n → IsDueChain rows slot line.last n line.first → IsDueRowOf rows slot line.first
    by zero lt h = absurd (omega arith)
    by (suc n) lt h = chain_head rows slot line.last n line.first h

pub last_there : (rows : List (Option DueRow)) (slot : ℕ) (line : DueLine) → 0 < line.count → IsDueLine rows slot line → IsDueRowOf rows slot line.last
last_there rows slot line some h = by line.count some h
  where
    by : (n : ℕ) → 0 < n → IsDueChain rows slot line.last n line.first → IsDueRowOf rows slot line.last
    by zero lt h = absurd (omega arith)
    by (suc n) lt h = chain_last rows slot line.last n line.first h

-- the first entry
pub first_is : (rows : List (Option DueRow)) (slot : ℕ) (line : DueLine) (r : DueRow) → 0 < line.count → IsDueLine rows slot line → due_cell rows line.first ≡ Some r → dues_in rows line ≡ r.due ∷ dues_from rows (line.count - 1) r.next
first_is rows slot line r some h read = by line.count some h
  where
    by : (n : ℕ) → 0 < n → IsDueChain rows slot line.last n line.first → dues_from rows n line.first ≡ r.due ∷ dues_from rows (n - 1) r.next
    by zero lt h = absurd (omega arith)
    by (suc n) lt h =
        let e : suc n - 1 ≡ n = omega arith in
        ap (λ o. due_in o ++ dues_from rows n (next_due o)) read ∙ ap (λ m. r.due ∷ dues_from rows m r.next) (sym e)

-- ---- one more entry
-- the last row, once the table has a new one
pub last_still : (rows rows1 : List (Option DueRow)) (slot at : ℕ) (line : DueLine) → due_cell rows at ≡ None → ((x : ℕ) → x ≢ at → due_cell rows1 x ≡ due_cell rows x) → 0 < line.count → IsDueLine rows slot line → IsSome (due_cell rows1 line.last)
last_still rows rows1 slot at line vacant others some h =
    let there = last_there rows slot line some h in
    subst IsSome (sym (others line.last (apart rows slot at line.last vacant there) ∙ there.1)) refl

pub linked_is_added : (rows rows1 : List (Option DueRow)) (slot at : ℕ) (line : DueLine) (due : Due) (r : DueRow) → due_cell rows at ≡ None → due_cell rows1 at ≡ Some (record { slot = slot; due = due; next = 0 })
    → ((x : ℕ) → x ≢ at → due_cell rows1 x ≡ due_cell rows x) → due_cell rows1 line.last ≡ Some r → 0 < line.count → IsDueLine rows slot line
    → IsDueAdded rows (set rows1 line.last (Some (record r { next = at }))) slot line.last line.count at due
linked_is_added rows rows1 slot at line due r vacant new others read some h =
    let last : ℕ = line.last in
    let there = last_there rows slot line some h in
    let differ : line.last ≢ at = apart rows slot at line.last vacant there in
    let new' : due_cell (set rows1 line.last (Some (record r { next = at }))) at ≡ Some (record { slot = slot; due = due; next = 0 }) = get_or-set_other rows1 line.last at (Some (record r { next = at })) None (λ same. differ (sym same)) ∙ new in
    let was : due_cell rows line.last ≡ Some r = sym (others line.last differ) ∙ read in
    record {
      vacant = vacant;
      added = (record { slot = slot; due = due; next = 0 }, new', refl);
      holds = ap due_in new';
      linked = λ q some' is.
          let both : Some q ≡ Some r = sym is ∙ was in
          let same : q ≡ r = cc in
          get_or-set_same rows1 line.last (Some (record r { next = at })) None (within rows1 line.last r read) ∙ ap (λ (x : DueRow). Some (record x { next = at })) (sym same);
      others = λ x apart' end. elim (cases_eq x line.last) [
        | inl same ↦ let none : line.count ≡ 0 = end same in absurd (omega arith)
        | inr other ↦ get_or-set_other rows1 line.last x (Some (record r { next = at })) None other ∙ others x apart'
      ];
    }

pub alone_is_added : (rows rows1 : List (Option DueRow)) (slot at : ℕ) (line : DueLine) (due : Due) → due_cell rows at ≡ None → due_cell rows1 at ≡ Some (record { slot = slot; due = due; next = 0 })
    → ((x : ℕ) → x ≢ at → due_cell rows1 x ≡ due_cell rows x) → line.count ≤ 0 → IsDueAdded rows rows1 slot line.last line.count at due
alone_is_added rows rows1 slot at line due vacant new others none = record {
  vacant = vacant;
  added = (record { slot = slot; due = due; next = 0 }, new, refl);
  holds = ap due_in new;
  linked = λ q some is. absurd (omega arith);
  others = λ x apart' end. others x apart';
}

module _ (rows rows' : List (Option DueRow)) (slot at : ℕ) (due : Due) (line line' : DueLine) (h : IsDueLine rows slot line) (is : IsDueAdded rows rows' slot line.last line.count at due)
    (first : line'.first ≡ (if line.count == 0 then at else line.first)) (last : line'.last ≡ at) (count : line'.count ≡ line.count + 1) (more : count_by is_some rows' ≡ count_by is_some rows + 1) where
  longer : IsDueChain rows' slot at (line.count + 1) line'.first × (dues_from rows' (line.count + 1) line'.first ≡ dues_in rows line ++ due ∷ [])
  longer = line_longer rows rows' slot line.last line.count at due line.first is h line'.first first

  pub added_turn : IsDueTurn rows rows' slot line line'
  added_turn = record {
    stays = rw (last, count) longer.0;
    others = λ other end n x differ c. added_elsewhere rows rows' slot line.last line.count at due line.first other end n x is h differ c;
    counted = omega (arith, count, more);
  }

  pub added_dues : dues_in rows' line' ≡ dues_in rows line ++ due ∷ []
  added_dues = ap (λ n. dues_from rows' n line'.first) count ∙ longer.1

-- ---- the first entry goes
module _ (rows rows' : List (Option DueRow)) (slot : ℕ) (line line' : DueLine) (h : IsDueLine rows slot line) (some : 0 < line.count) (gone : IsDueGone rows rows' line.first)
    (first : line'.first ≡ next_due (due_cell rows line.first)) (last : line'.last ≡ line.last) (count : line'.count ≡ line.count - 1) (less : count_by is_some rows' + 1 ≡ count_by is_some rows) where
  abbrev Goal : ℕ → Type 0
  Goal n = IsDueChain rows' slot line.last (n - 1) (next_due (due_cell rows line.first)) × (dues_from rows' (n - 1) (next_due (due_cell rows line.first)) ≡ drop 1 (dues_from rows n line.first))
      × ((other end m x : ℕ) → other ≢ slot → IsDueChain rows other end m x → IsDueChain rows' other end m x × (dues_from rows' m x ≡ dues_from rows m x))

  shorter : (n : ℕ) → 0 < n → IsDueChain rows slot line.last n line.first → Goal n
  shorter zero lt h = absurd (omega arith)
  shorter (suc n) lt h =
      let rest = gone_behind rows rows' slot line.last n line.first n (next_due (due_cell rows line.first)) gone h (omega arith) (chain_rest rows slot line.last n line.first h) in
      let front = chain_front rows slot line.last n line.first h in
      let e : suc n - 1 ≡ n = omega arith in
      rw e (rest.0, rest.1 ∙ sym (ap (λ o. drop 1 (due_in o ++ dues_from rows n (next_due (due_cell rows line.first)))) front.1), λ other end m x differ c. gone_elsewhere rows rows' slot line.last n line.first other end m x gone h differ c)

  pub gone_turn : IsDueTurn rows rows' slot line line'
  gone_turn = record {
    stays = rw (first, last, count) (shorter line.count some h).0;
    others = (shorter line.count some h).2;
    counted = omega (arith, some, count, less);
  }

  pub gone_dues : dues_in rows' line' ≡ drop 1 (dues_in rows line)
  gone_dues = rw (first, count) (shorter line.count some h).1

-- ---- the first entry goes to the end
-- it is still there once the last leads to it
pub still_there : (rows : List (Option DueRow)) (first last slot : ℕ) (l : DueRow) → IsDueRowOf rows slot first → due_cell rows last ≡ Some l → IsSome (due_cell (set rows last (Some (record l { next = first }))) first)
still_there rows first last slot l h read = elim (cases_eq first last) [
  | inl same ↦ subst (λ n. IsSome (due_cell (set rows last (Some (record l { next = first }))) n)) (sym same) (subst IsSome (sym (get_or-set_same rows last (Some (record l { next = first })) None (within rows last l read))) refl)
  | inr differ ↦ subst IsSome (sym (get_or-set_other rows last first (Some (record l { next = first })) None differ ∙ h.1)) refl
]

pub moved_is : (rows : List (Option DueRow)) (first last stale : ℕ) (l f : DueRow) → due_cell rows last ≡ Some l → due_cell (set rows last (Some (record l { next = first }))) first ≡ Some f
    → IsDueMoved rows (set (set rows last (Some (record l { next = first }))) first (Some (record f { due = record { key = f.due.key; stale = stale } }))) first last stale f.next
moved_is rows first last stale l f at_last at_first = record {
  others = λ x not_first not_last. get_or-set_other rows1 first x (Some new) None not_first ∙ get_or-set_other rows last x (Some linked) None not_last;
  linked = λ r differ is.
      let both : Some r ≡ Some l = sym is ∙ at_last in
      let same : r ≡ l = cc in
      get_or-set_other rows1 first last (Some new) None (λ e. differ (sym e)) ∙ get_or-set_same rows last (Some linked) None (within rows last l at_last) ∙ ap (λ (x : DueRow). Some (record x { next = first })) (sym same);
  moved = λ r is. let both = moved_row r is in (new, get_or-set_same rows1 first (Some new) None (within rows1 first f at_first), both.0, both.1);
  alone = λ same. ap (λ (x : DueRow). x.next) (alone_row same);
  rest = λ differ. ap next_due (sym at_first ∙ get_or-set_other rows last first (Some linked) None differ);
}
  where
    linked : DueRow
    linked = record l { next = first }

    rows1 : List (Option DueRow)
    rows1 = set rows last (Some (record l { next = first }))

    new : DueRow
    new = record f { due = record { key = f.due.key; stale = stale } }

    stamped : DueRow → Due
    stamped x = record { key = x.due.key; stale = stale }

    both_some : (a b : DueRow) → Some a ≡ Some b → a ≡ b
    both_some a b e = cc

    alone_row : first ≡ last → f ≡ record l { next = first }
    alone_row same = both_some f (record l { next = first }) (sym at_first ∙ ap (due_cell rows1) same ∙ get_or-set_same rows last (Some (record l { next = first })) None (within rows last l at_last))

    moved_row : (r : DueRow) → due_cell rows first ≡ Some r → (f.slot ≡ r.slot) × (stamped f ≡ stamped r)
    moved_row r is = elim (cases_eq first last) [
      | inl same ↦
          let r_is : r ≡ l = both_some r l (sym is ∙ ap (due_cell rows) same ∙ at_last) in
          let f_is : f ≡ record l { next = first } = alone_row same in
          (ap (λ (x : DueRow). x.slot) f_is ∙ ap (λ (x : DueRow). x.slot) (sym r_is), ap stamped f_is ∙ ap stamped (sym r_is))
      | inr differ ↦
          let f_is : f ≡ r = both_some f r (sym at_first ∙ get_or-set_other rows last first (Some (record l { next = first })) None differ ∙ is) in
          (ap (λ (x : DueRow). x.slot) f_is, ap stamped f_is)
    ]

module _ (rows rows' : List (Option DueRow)) (slot stale next : ℕ) (line : DueLine) (h : IsDueLine rows slot line) (some : 0 < line.count) (is : IsDueMoved rows rows' line.first line.last stale next) where
  abbrev Moved : ℕ → Type 0
  Moved n = IsDueChain rows' slot line.first n next × (dues_from rows' n next ≡ passed stale (dues_from rows n line.first))
      × ((other end m x : ℕ) → other ≢ slot → IsDueChain rows other end m x → IsDueChain rows' other end m x × (dues_from rows' m x ≡ dues_from rows m x))

  start : IsDueRowOf rows slot line.first
  start = first_there rows slot line some h

  gone : IsDueGone rows (set rows line.first None) line.first
  gone = λ x differ. get_or-set_other rows line.first x None None differ

  -- the only entry is the last
  only : (n : ℕ) → IsDueChain rows slot line.last (suc n) line.first → n ≡ 0 → line.first ≡ line.last
  only zero c none = c.1
  only (suc n) c none = absurd (omega arith)

  several : (n : ℕ) → IsDueChain rows slot line.last (suc n) line.first → 0 < n → line.first ≢ line.last
  several zero c lt = absurd (omega arith)
  several (suc n) c lt = c.1

  added : (n : ℕ) → IsDueChain rows slot line.last (suc n) line.first → IsDueAdded (set rows line.first None) rows' slot line.last n line.first (record { key = start.0.due.key; stale = stale })
  added n c =
      let q = is.moved start.0 start.1 in
      record {
        vacant = get_or-set_same rows line.first None None (within rows line.first start.0 start.1);
        added = (q.0, q.1, q.2 ∙ start.2);
        holds = ap due_in q.1 ∙ ap (λ d. d ∷ []) q.3;
        linked = λ r lt read. is.linked r (several n c lt) (sym (get_or-set_other rows line.first line.last None None (λ same. several n c lt (sym same))) ∙ read);
        others = λ x differ end. is.others x differ (λ same. differ (same ∙ sym (only n c (end same)))) ∙ sym (gone x differ);
      }

  next_is : (n : ℕ) → IsDueChain rows slot line.last (suc n) line.first → next ≡ (if n == 0 then line.first else next_due (due_cell rows line.first))
  next_is zero c = is.alone c.1
  next_is (suc n) c = let test : (suc n == 0) ≡ false = grind (arith, nat_tests) in rw test (is.rest c.1)

  whole : (n : ℕ) → 0 < n → IsDueChain rows slot line.last n line.first → Moved n
  whole zero lt c = absurd (omega arith)
  whole (suc n) lt c =
      let rest = gone_behind rows (set rows line.first None) slot line.last n line.first n (next_due (due_cell rows line.first)) gone c (omega arith) (chain_rest rows slot line.last n line.first c) in
      let long = line_longer (set rows line.first None) rows' slot line.last n line.first (record { key = start.0.due.key; stale = stale }) (next_due (due_cell rows line.first)) (added n c) rest.0 next (next_is n c) in
      let one : n + 1 ≡ suc n = omega arith in (
        subst (λ m. IsDueChain rows' slot line.first m next) one long.0,
        subst (λ m. dues_from rows' m next ≡ dues_from (set rows line.first None) n (next_due (due_cell rows line.first)) ++ record { key = start.0.due.key; stale = stale } ∷ []) one long.1
            ∙ ap (λ es. es ++ record { key = start.0.due.key; stale = stale } ∷ []) rest.1
            ∙ sym (ap (λ o. passed stale (due_in o ++ dues_from rows n (next_due (due_cell rows line.first)))) start.1),
        λ other end m x differ k.
            let before = gone_elsewhere rows (set rows line.first None) slot line.last n line.first other end m x gone c differ k in
            let after = added_elsewhere (set rows line.first None) rows' slot line.last n line.first (record { key = start.0.due.key; stale = stale }) (next_due (due_cell rows line.first)) other end m x (added n c) rest.0 differ before.0 in
            (after.0, after.1 ∙ before.1),
      )

  module _ (line' : DueLine) (first : line'.first ≡ next) (last : line'.last ≡ line.first) (count : line'.count ≡ line.count) (same : count_by is_some rows' ≡ count_by is_some rows) where
    pub moved_turn : IsDueTurn rows rows' slot line line'
    moved_turn = record {
      stays = rw (first, last, count) (whole line.count some h).0;
      others = (whole line.count some h).2;
      counted = omega (arith, count, same);
    }

    pub moved_dues : dues_in rows' line' ≡ passed stale (dues_in rows line)
    moved_dues = rw (first, count) (whole line.count some h).1

-- ---- one call after another
pub due_turn_none : (rows : List (Option DueRow)) (slot : ℕ) (line : DueLine) → IsDueLine rows slot line → IsDueTurn rows rows slot line line
due_turn_none rows slot line h = record { stays = h; others = λ other end n x differ c. (c, refl); counted = refl }

pub due_turn_then : (rows middle rows' : List (Option DueRow)) (slot : ℕ) (line line1 line' : DueLine) → IsDueTurn rows middle slot line line1 → IsDueTurn middle rows' slot line1 line' → IsDueTurn rows rows' slot line line'
due_turn_then rows middle rows' slot line line1 line' a b = record {
  stays = b.stays;
  others = λ other end n x differ c. let one = a.others other end n x differ c in let two = b.others other end n x differ one.0 in (two.0, two.1 ∙ one.1);
  counted = let first = a.counted in let second = b.counted in omega arith;
}

-- a line without entries
pub due_turn_empty : (rows rows' : List (Option DueRow)) (slot : ℕ) (line line1 line' : DueLine) → IsDueTurn rows rows' slot line line1 → line1.count ≡ 0 → line'.count ≡ 0 → IsDueTurn rows rows' slot line line'
due_turn_empty rows rows' slot line line1 line' turn none none' = record {
  stays = subst (λ n. IsDueChain rows' slot line'.last n line'.first) (sym none') tt;
  others = turn.others;
  counted = let before = turn.counted in omega arith;
}

-- as many entries as the line says
pub dues_long : (rows : List (Option DueRow)) (slot : ℕ) (line : DueLine) → IsDueLine rows slot line → length (dues_in rows line) ≡ line.count
dues_long rows slot line h = chain_length rows slot line.last line.count line.first h
