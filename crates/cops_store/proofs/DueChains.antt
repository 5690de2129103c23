-- Facts about the garbage-collection entries of a slot, linked from each to the next.
use Rattle.std.proofs.Common.{◌≡◌, ◌≢◌, ℕ, zero, suc, ◌+◌, ◌<◌, ◌≤◌, List, [], ◌∷◌, ◌++◌, length, refl, sym, ap, ◌∙◌, subst, arith}
use Rattle.std.specs.Prelude.{Option, Some, None, ◌==◌, if◌then◌else◌, false}
use Rattle.std.proofs.lemmas.Bool.Decides.{nat_tests}
use Rattle.cops_store.specs.declared.table.Due.{Due}
use Rattle.cops_store.specs.declared.due_rows.DueRow.{DueRow}
use Rattle.cops_store.specs.Dues.{IsDueAdded, IsDueChain, IsDueGone, IsDueRowOf, due_cell, due_in, dues_from, next_due}

-- ---- one chain
pub chain_head : (rows : List (Option DueRow)) (slot last n at : ℕ) → IsDueChain rows slot last (suc n) at → IsDueRowOf rows slot at
chain_head rows slot last zero at h = h.0
chain_head rows slot last (suc n) at h = h.0

pub chain_last : (rows : List (Option DueRow)) (slot last n at : ℕ) → IsDueChain rows slot last (suc n) at → IsDueRowOf rows slot last
chain_last rows slot last zero at h = subst (IsDueRowOf rows slot) h.1 h.0
chain_last rows slot last (suc n) at h = chain_last rows slot last n (next_due (due_cell rows at)) h.2

-- a place is so far from the last in one way
pub chain_unique : (rows : List (Option DueRow)) (slot last n m at : ℕ) → IsDueChain rows slot last (suc n) at → IsDueChain rows slot last (suc m) at → n ≡ m
chain_unique rows slot last zero zero at h k = refl
chain_unique rows slot last zero (suc m) at h k = absurd (k.1 h.1)
chain_unique rows slot last (suc n) zero at h k = absurd (h.1 k.1)
chain_unique rows slot last (suc n) (suc m) at h k = ap suc (chain_unique rows slot last n m (next_due (due_cell rows at)) h.2 k.2)

row_kept : (rows rows' : List (Option DueRow)) (slot at : ℕ) → due_cell rows' at ≡ due_cell rows at → IsDueRowOf rows slot at → IsDueRowOf rows' slot at
row_kept rows rows' slot at same h = (h.0, same ∙ h.1, h.2)

-- a chain stays if its rows stay
pub chain_kept : (rows rows' : List (Option DueRow)) (slot last n at : ℕ) → ((m x : ℕ) → m < n → IsDueChain rows slot last (suc m) x → due_cell rows' x ≡ due_cell rows x) → IsDueChain rows slot last n at
    → IsDueChain rows' slot last n at × (dues_from rows' n at ≡ dues_from rows n at)
chain_kept rows rows' slot last zero at same h = (tt, refl)
chain_kept rows rows' slot last (suc zero) at same h =
    let here = same 0 at (omega arith) h in
    ((row_kept rows rows' slot at here h.0, h.1), ap (λ r. due_in r ++ []) here)
chain_kept rows rows' slot last (suc (suc n)) at same h =
    let here = same (suc n) at (omega arith) h in
    let rest = chain_kept rows rows' slot last (suc n) (next_due (due_cell rows at)) (λ m x lt. same m x (omega arith)) h.2 in (
      (row_kept rows rows' slot at here h.0, h.1, subst (λ r. IsDueChain rows' slot last (suc n) (next_due r)) (sym here) rest.0),
      ap (λ r. due_in r ++ dues_from rows' (suc n) (next_due r)) here ∙ ap (λ es. due_in (due_cell rows at) ++ es) rest.1,
    )

-- as many entries as rows
pub chain_length : (rows : List (Option DueRow)) (slot last n at : ℕ) → IsDueChain rows slot last n at → length (dues_from rows n at) ≡ n
chain_length rows slot last zero at h = refl
chain_length rows slot last (suc zero) at h = ap (λ r. length (due_in r ++ [])) h.0.1
chain_length rows slot last (suc (suc n)) at h =
    ap (λ r. length (due_in r ++ dues_from rows (suc n) (next_due (due_cell rows at)))) h.0.1 ∙ ap suc (chain_length rows slot last (suc n) (next_due (due_cell rows at)) h.2)

-- the first entry
pub chain_front : (rows : List (Option DueRow)) (slot last n at : ℕ) → IsDueChain rows slot last (suc n) at → (r : DueRow) × (due_cell rows at ≡ Some r) × (dues_from rows (suc n) at ≡ r.due ∷ dues_from rows n r.next)
chain_front rows slot last n at h =
    let head = chain_head rows slot last n at h in
    (head.0, head.1, ap (λ r. due_in r ++ dues_from rows n (next_due r)) head.1)

-- without its first
pub chain_rest : (rows : List (Option DueRow)) (slot last n at : ℕ) → IsDueChain rows slot last (suc n) at → IsDueChain rows slot last n (next_due (due_cell rows at))
chain_rest rows slot last zero at h = tt
chain_rest rows slot last (suc n) at h = h.2

some_none : (r : DueRow) → Some r ≡ None → ⊥
some_none r h = cc

-- ---- one more row

pub apart : (rows : List (Option DueRow)) (slot at x : ℕ) → due_cell rows at ≡ None → IsDueRowOf rows slot x → x ≢ at
apart rows slot at x vacant h same = some_none h.0 (sym h.1 ∙ ap (due_cell rows) same ∙ vacant)

longer : (rows rows' : List (Option DueRow)) (slot last count at : ℕ) (due : Due) → IsDueAdded rows rows' slot last count at due → 0 < count → (n x : ℕ) → IsDueChain rows slot last (suc n) x
    → IsDueChain rows' slot at (suc (suc n)) x × (dues_from rows' (suc (suc n)) x ≡ dues_from rows (suc n) x ++ due ∷ [])
longer rows rows' slot last count at due is some zero x h =
    let r : DueRow = h.0.0 in
    let moved : due_cell rows' x ≡ Some (record r { next = at }) = ap (due_cell rows') h.1 ∙ is.linked r some (ap (due_cell rows) (sym h.1) ∙ h.0.1) in (
      ((record r { next = at }, moved, h.0.2), apart rows slot at x is.vacant h.0, subst (λ o. IsDueChain rows' slot at (suc zero) (next_due o)) (sym moved) (is.added, refl)),
      ap (λ o. due_in o ++ (due_in (due_cell rows' (next_due o)) ++ [])) moved ∙ ap (λ es. r.due ∷ es ++ []) is.holds ∙ ap (λ o. (due_in o ++ []) ++ due ∷ []) (sym h.0.1),
    )
longer rows rows' slot last count at due is some (suc n) x h =
    let same : due_cell rows' x ≡ due_cell rows x = is.others x (apart rows slot at x is.vacant h.0) (λ e. absurd (h.1 e)) in
    let rest = longer rows rows' slot last count at due is some n (next_due (due_cell rows x)) h.2 in (
      (row_kept rows rows' slot x same h.0, apart rows slot at x is.vacant h.0, subst (λ o. IsDueChain rows' slot at (suc (suc n)) (next_due o)) (sym same) rest.0),
      ap (λ o. due_in o ++ dues_from rows' (suc (suc n)) (next_due o)) same
          ∙ ap (λ o. due_in o ++ dues_from rows' (suc (suc n)) (next_due (due_cell rows x))) h.0.1
          ∙ ap (λ es. h.0.0.due ∷ es) rest.1
          ∙ ap (λ o. (due_in o ++ dues_from rows (suc n) (next_due (due_cell rows x))) ++ due ∷ []) (sym h.0.1),
    )

-- the line with the entry behind it
pub line_longer : (rows rows' : List (Option DueRow)) (slot last count at : ℕ) (due : Due) (first : ℕ) → IsDueAdded rows rows' slot last count at due → IsDueChain rows slot last count first
    → (first' : ℕ) → first' ≡ (if count == 0 then at else first) → IsDueChain rows' slot at (count + 1) first' × (dues_from rows' (count + 1) first' ≡ dues_from rows count first ++ due ∷ [])
line_longer rows rows' slot last count at due first is h first' start = subst Goal (sym start) (by count is h)
  where
    Goal : ℕ → Type 0
    Goal x = IsDueChain rows' slot at (count + 1) x × (dues_from rows' (count + 1) x ≡ dues_from rows count first ++ due ∷ [])

    by : (n : ℕ) → IsDueAdded rows rows' slot last n at due → IsDueChain rows slot last n first
        → IsDueChain rows' slot at (n + 1) (if n == 0 then at else first) × (dues_from rows' (n + 1) (if n == 0 then at else first) ≡ dues_from rows n first ++ due ∷ [])
    by zero is h = ((is.added, refl), ap (λ es. es ++ []) is.holds)
    by (suc n) is h =
        let some : 0 < suc n = omega arith in
        let long = longer rows rows' slot last (suc n) at due is some n first h in
        let one : suc n + 1 ≡ suc (suc n) = omega arith in
        let test : (suc n == 0) ≡ false = grind (arith, nat_tests) in
        rw (test, one) long

-- a chain of another slot
pub added_elsewhere : (rows rows' : List (Option DueRow)) (slot last count at : ℕ) (due : Due) (first other end n x : ℕ) → IsDueAdded rows rows' slot last count at due → IsDueChain rows slot last count first → other ≢ slot → IsDueChain rows other end n x
    → IsDueChain rows' other end n x × (dues_from rows' n x ≡ dues_from rows n x)
added_elsewhere rows rows' slot last count at due first other end n x is own differ h = chain_kept rows rows' other end n x (λ m y lt k. let head = chain_head rows other end m y k in is.others y (apart rows other at y is.vacant head) (λ same. none count own y head same)) h
  where
    none : (c : ℕ) → IsDueChain rows slot last c first → (y : ℕ) → IsDueRowOf rows other y → y ≡ last → c ≡ 0
    none zero own y head same = refl
    none (suc c) own y head same =
        let end : IsDueRowOf rows slot last = chain_last rows slot last c first own in
        let rows_same : Some head.0 ≡ Some end.0 = sym head.1 ∙ ap (due_cell rows) same ∙ end.1 in
        let row_same : head.0 ≡ end.0 = cc in
        absurd (differ (sym head.2 ∙ ap (λ (r : DueRow). r.slot) row_same ∙ end.2))

-- ---- one row less

-- a shorter span of the line
pub gone_behind : (rows rows' : List (Option DueRow)) (slot last n first m x : ℕ) → IsDueGone rows rows' first → IsDueChain rows slot last (suc n) first → m ≤ n → IsDueChain rows slot last m x
    → IsDueChain rows' slot last m x × (dues_from rows' m x ≡ dues_from rows m x)
gone_behind rows rows' slot last n first m x is own le h = chain_kept rows rows' slot last m x (λ k y lt c. is y (λ same. let far = chain_unique rows slot last k n first (subst (IsDueChain rows slot last (suc k)) same c) own in absurd (omega arith))) h

-- a chain of another slot
pub gone_elsewhere : (rows rows' : List (Option DueRow)) (slot last n first other end m x : ℕ) → IsDueGone rows rows' first → IsDueChain rows slot last (suc n) first → other ≢ slot → IsDueChain rows other end m x
    → IsDueChain rows' other end m x × (dues_from rows' m x ≡ dues_from rows m x)
gone_elsewhere rows rows' slot last n first other end m x is own differ h = chain_kept rows rows' other end m x (λ k y lt c. is y (λ same. let head = chain_head rows other end k y c in let start = chain_head rows slot last n first own in
    let rows_same : Some head.0 ≡ Some start.0 = sym head.1 ∙ ap (due_cell rows) same ∙ start.1 in
    let row_same : head.0 ≡ start.0 = cc in
    absurd (differ (sym head.2 ∙ ap (λ (r : DueRow). r.slot) row_same ∙ start.2)))) h
