-- Rows that are in the order in which they became stale.
use Rattle.std.proofs.Common.{◌≡◌, ℕ, zero, suc, ◌+◌, ◌-◌, ◌^◌, ◌<◌, ◌≤◌, Bool, true, false, cond, not, List, [], ◌∷◌, ◌++◌, length, refl, sym, ap, ◌∙◌, subst, filter, arith, get_or, take, drop, rules, sum_by, true≢false}
use Rattle.std.specs.Prelude.{Option, Some, None}
use Rattle.std.specs.List.{fold, AllByRecursion, prefix_len, insert}
use Rattle.std.specs.List.Sorted.{IsPartitionedBy}
use Rattle.std.proofs.lemmas.Bool.Decides.{nat_tests}
use Rattle.std.proofs.lemmas.List.{take-append-drop}
use Rattle.std.proofs.lemmas.List.Edits.{insert_end}
use Rattle.std.proofs.lemmas.List.Elements.{filter-append}
use Rattle.std.proofs.lemmas.List.Sums.{sum_by-append, sum_by-cons}
use Rattle.cops_types.specs.declared.records.Record.{Record}
use Rattle.cops_types.specs.declared.records.Dated.{Dated}
use Rattle.cops_store.specs.declared.usage.InUse.{InUse}
use Rattle.cops_store.specs.Chains.{AreStaleInOrder, HasLatest, is_by, is_covered, earlier, is_no_later, latest_row, oldest_of}
use Rattle.cops_store.specs.Contents.{is_ripe}
use Rattle.cops_store.specs.Tables.{gone_use}
use Rattle.cops_store.proofs.Lists.{each_append}

no_later-refl : (o : Option ℕ) → is_no_later o o ≡ true
no_later-refl None = refl
no_later-refl (Some m) = grind (arith, nat_tests)

no_later-trans : (a b c : Option ℕ) → is_no_later a b ≡ true → is_no_later b c ≡ true → is_no_later a c ≡ true
no_later-trans a b None h k = refl
no_later-trans None None (Some p) h k = absurd (true≢false (sym k))
no_later-trans None (Some n) (Some p) h k = absurd (true≢false (sym h))
no_later-trans (Some m) None (Some p) h k = absurd (true≢false (sym k))
no_later-trans (Some m) (Some n) (Some p) h k = grind (arith, nat_tests, h, k)

no_later_at : (o : Option ℕ) (rows : List Dated) (j : ℕ) (d : Dated) → AllByRecursion (λ l. is_no_later o l.stale ≡ true) rows → j < length rows → is_no_later o (get_or rows j d).stale ≡ true
no_later_at o [] j d h lt = absurd (omega arith)
no_later_at o (k ∷ rows) zero d h lt = h.0
no_later_at o (k ∷ rows) (suc j) d h lt = no_later_at o rows j d h.1 (omega arith)

by_place : (rows : List Dated) → AreStaleInOrder rows → (i j : ℕ) (d : Dated) → i ≤ j → j < length rows → is_no_later (get_or rows i d).stale (get_or rows j d).stale ≡ true
by_place [] h i j d le lt = absurd (omega arith)
by_place (k ∷ rows) h zero zero d le lt = no_later-refl k.stale
by_place (k ∷ rows) h zero (suc j) d le lt = no_later_at k.stale rows j d h.0 (omega arith)
by_place (k ∷ rows) h (suc i) zero d le lt = absurd (omega arith)
by_place (k ∷ rows) h (suc i) (suc j) d le lt = by_place rows h.1 i j d (omega arith) (omega arith)

-- ---- rows that are stale by a timestamp
is_by-later : (m n : ℕ) (o : Option ℕ) → m ≤ n → is_by m o ≡ true → is_by n o ≡ true
is_by-later m n None le e = absurd (true≢false (sym e))
is_by-later m n (Some a) le e = grind (arith, nat_tests, e, le)

all_by-later : (m n : ℕ) (rows : List Dated) → m ≤ n → AllByRecursion (λ k. is_by m k.stale ≡ true) rows → AllByRecursion (λ k. is_by n k.stale ≡ true) rows
all_by-later m n [] le h = tt
all_by-later m n (k ∷ rows) le h = (is_by-later m n k.stale le h.0, all_by-later m n rows le h.1)

no_later-by : (m : ℕ) (o : Option ℕ) → is_no_later o (Some m) ≡ true → is_by m o ≡ true
no_later-by m None e = absurd (true≢false (sym e))
no_later-by m (Some a) e = e

by-no_later : (m n : ℕ) (o : Option ℕ) → m ≤ n → is_by m o ≡ true → is_no_later o (Some n) ≡ true
by-no_later m n None le e = absurd (true≢false (sym e))
by-no_later m n (Some a) le e = grind (arith, nat_tests, e, le)

-- by the last, if they are in order
pub by_last : (rows : List Dated) (last : Dated) (m i : ℕ) → AreStaleInOrder rows → last.stale ≡ Some m → i + 1 ≡ length rows → last ≡ get_or rows i last → AllByRecursion (λ k. is_by m k.stale ≡ true) rows
by_last [] last m i h is len at = tt
by_last (k ∷ []) last m zero h is len at = (no_later-by m k.stale (subst (λ o. is_no_later k.stale o ≡ true) (ap (λ (x : Dated). x.stale) (sym at) ∙ is) (no_later-refl k.stale)), tt)
by_last (k ∷ []) last m (suc j) h is len at = absurd (omega (arith, len))
by_last (k ∷ l ∷ rows) last m zero h is len at = absurd (omega (arith, len))
by_last (k ∷ l ∷ rows) last m (suc j) h is len at =
    let up = no_later_at k.stale (l ∷ rows) j last h.0 (omega (arith, len)) in
    (no_later-by m k.stale (subst (λ o. is_no_later k.stale o ≡ true) (ap (λ (x : Dated). x.stale) (sym at) ∙ is) up), by_last (l ∷ rows) last m j h.1 is (omega (arith, len)) at)

-- ---- one more at the end
with_last : (rows : List Dated) (row : Dated) (m n : ℕ) → row.stale ≡ Some n → m ≤ n → AreStaleInOrder rows → AllByRecursion (λ k. is_by m k.stale ≡ true) rows → AreStaleInOrder (rows ++ row ∷ [])
with_last [] row m n is le h by = (tt, tt)
with_last (k ∷ rows) row m n is le h by =
    (each_append (λ (x : Dated). is_no_later k.stale x.stale ≡ true) rows (row ∷ []) h.0 (subst (λ o. is_no_later k.stale o ≡ true) (sym is) (by-no_later m n k.stale le by.0), tt), with_last rows row m n is le h.1 by.1)

pub in_order_with : (rows : List Dated) (row : Dated) (m n i : ℕ) → i ≡ length rows → row.stale ≡ Some n → m ≤ n → AreStaleInOrder rows × AllByRecursion (λ k. is_by m k.stale ≡ true) rows
    → AreStaleInOrder (insert rows i row) × AllByRecursion (λ k. is_by n k.stale ≡ true) (insert rows i row)
in_order_with rows row m n i end is le h =
    subst (λ j. AreStaleInOrder (insert rows j row) × AllByRecursion (λ k. is_by n k.stale ≡ true) (insert rows j row)) (sym end)
    (subst (λ xs. AreStaleInOrder xs × AllByRecursion (λ k. is_by n k.stale ≡ true) xs) (sym (insert_end rows row))
    (with_last rows row m n is le h.0 h.1, each_append (λ (k : Dated). is_by n k.stale ≡ true) rows (row ∷ []) (all_by-later m n rows le h.1) (last, tt)))
  where
    itself : is_by n (Some n) ≡ true
    itself = grind (arith, nat_tests)

    last : is_by n row.stale ≡ true
    last = subst (λ o. is_by n o ≡ true) (sym is) itself

-- ---- whether a commit needs a new note
pub covered_by : (at m : ℕ) (latest : Option Record) (older : List Dated) → 0 < length older → m ≤ at → AllByRecursion (λ k. is_by m k.stale ≡ true) older → is_covered at (older ++ latest_row latest) ≡ true
covered_by at m latest [] some le h = absurd (omega (arith, some))
covered_by at m latest (k ∷ older) some le h = is_by-later m at k.stale le h.0

default_free : (rows : List Dated) (i : ℕ) (d e : Dated) → i < length rows → get_or rows i d ≡ get_or rows i e
default_free [] i d e lt = absurd (omega arith)
default_free (k ∷ rows) zero d e lt = refl
default_free (k ∷ rows) (suc i) d e lt = default_free rows i d e (omega arith)

-- rows stay in order with one more that is stale no earlier than the last
pub one_more : (rows : List Dated) (k l : Dated) (i : ℕ) → 0 < i → i < length rows → k ≡ get_or rows (i - 1) k → l ≡ get_or rows i l → is_no_later k.stale l.stale ≡ true
    → AreStaleInOrder (take i rows) → AreStaleInOrder (take (i + 1) rows)
one_more rows k l zero some lt first second next h = absurd (omega arith)
one_more rows k l (suc j) some lt first second next h =
    let place : suc j - 1 ≡ j = omega arith in
    let before : k ≡ get_or rows j k = first ∙ ap (λ n. get_or rows n k) place in
    let after : l ≡ get_or rows (suc j) k = second ∙ default_free rows (suc j) l k lt in
    let both = (λ i. is_no_later (sym before i).stale (sym after i).stale) ∙ next in
    let same : suc (suc j) ≡ suc j + 1 = omega arith in
    subst (λ n. AreStaleInOrder (take n rows)) same (by rows j lt h both)
  where
    all_with : (o : Option ℕ) (rows : List Dated) (j : ℕ) → suc j < length rows → AllByRecursion (λ x. is_no_later o x.stale ≡ true) (take (suc j) rows) → is_no_later (get_or rows j k).stale (get_or rows (suc j) k).stale ≡ true → AllByRecursion (λ x. is_no_later o x.stale ≡ true) (take (suc (suc j)) rows)
    all_with o [] j lt h next = absurd (omega arith)
    all_with o (x ∷ []) j lt h next = absurd (omega arith)
    all_with o (x ∷ y ∷ rows) zero lt h next = (h.0, (no_later-trans o x.stale y.stale h.0 next, tt))
    all_with o (x ∷ y ∷ rows) (suc j) lt h next = (h.0, all_with o (y ∷ rows) j (omega arith) h.1 next)

    by : (rows : List Dated) (j : ℕ) → suc j < length rows → AreStaleInOrder (take (suc j) rows) → is_no_later (get_or rows j k).stale (get_or rows (suc j) k).stale ≡ true → AreStaleInOrder (take (suc (suc j)) rows)
    by [] j lt h next = absurd (omega arith)
    by (x ∷ []) j lt h next = absurd (omega arith)
    by (x ∷ y ∷ rows) zero lt h next = ((next, tt), (tt, tt))
    by (x ∷ y ∷ rows) (suc j) lt h next = (all_with x.stale (y ∷ rows) j (omega arith) h.0 next, by (y ∷ rows) j (omega arith) h.1 next)

-- ---- what may go
ripe_before : (now trans_time : ℕ) (a b : Option ℕ) → is_no_later a b ≡ true → is_ripe now trans_time b ≡ true → is_ripe now trans_time a ≡ true
ripe_before now trans_time a None h r = absurd (true≢false (sym r))
ripe_before now trans_time None (Some n) h r = absurd (true≢false (sym h))
ripe_before now trans_time (Some m) (Some n) h r = grind (arith, nat_tests, h, r)

-- a front of the rows
pub ripe_parted : (now trans_time : ℕ) (rows : List Dated) → AreStaleInOrder rows → IsPartitionedBy (λ k. is_ripe now trans_time k.stale) rows
ripe_parted now trans_time rows h i j d le lt e = ripe_before now trans_time (get_or rows i d).stale (get_or rows j d).stale (by_place rows h i j d le lt) e

none_ripe : (now trans_time : ℕ) (o : Option ℕ) (rows : List Dated) → is_ripe now trans_time o ≡ false → AllByRecursion (λ l. is_no_later o l.stale ≡ true) rows → AllByRecursion (λ l. is_ripe now trans_time l.stale ≡ false) rows
none_ripe now trans_time o [] e h = tt
none_ripe now trans_time o (l ∷ rows) e h = (by (is_ripe now trans_time l.stale) refl, none_ripe now trans_time o rows e h.1)
  where
    by : (b : Bool) → is_ripe now trans_time l.stale ≡ b → b ≡ false
    by true r = absurd (true≢false (sym (ripe_before now trans_time o l.stale h.0 r) ∙ e))
    by false r = refl

all_stay : (now trans_time : ℕ) (rows : List Dated) → AllByRecursion (λ l. is_ripe now trans_time l.stale ≡ false) rows → filter (λ k. not (is_ripe now trans_time k.stale)) rows ≡ rows
all_stay now trans_time [] h = refl
all_stay now trans_time (l ∷ rows) h =
    ap (λ b. cond (not b) (l ∷ filter (λ (k : Dated). not (is_ripe now trans_time k.stale)) rows) (filter (λ (k : Dated). not (is_ripe now trans_time k.stale)) rows)) h.0
    ∙ ap (λ xs. l ∷ xs) (all_stay now trans_time rows h.1)

pub front_dropped : (now trans_time : ℕ) (rows : List Dated) → AreStaleInOrder rows
    → drop (prefix_len (λ k. is_ripe now trans_time k.stale) rows) rows ≡ filter (λ k. not (is_ripe now trans_time k.stale)) rows
front_dropped now trans_time [] h = refl
front_dropped now trans_time (k ∷ rows) h = by (is_ripe now trans_time k.stale) refl (front_dropped now trans_time rows h.1)
  where
    count : ℕ
    count = prefix_len (λ (x : Dated). is_ripe now trans_time x.stale) rows

    rest : List Dated
    rest = filter (λ (x : Dated). not (is_ripe now trans_time x.stale)) rows

    by : (b : Bool) → is_ripe now trans_time k.stale ≡ b → drop count rows ≡ rest → drop (cond b (1 + count) 0) (k ∷ rows) ≡ cond (not b) (k ∷ rest) rest
    by true e same = let s : 1 + count ≡ suc count = omega arith in ap (λ m. drop m (k ∷ rows)) s ∙ same
    by false e same = ap (λ xs. k ∷ xs) (sym (all_stay now trans_time rows (none_ripe now trans_time k.stale rows e h.0)))

-- the use of what may go is that of the front
module _ (now trans_time : ℕ) (part : InUse → ℕ) (nothing : part (record { records = 0; bytes = 0 }) ≡ 0) where
  abbrev use_at : Dated → ℕ
  use_at k = part (gone_use now trans_time k)

  no_use : (k : Dated) → is_ripe now trans_time k.stale ≡ false → part (gone_use now trans_time k) ≡ 0
  no_use k e = search (e, nothing, rules)

  no_uses : (rows : List Dated) → AllByRecursion (λ l. is_ripe now trans_time l.stale ≡ false) rows → sum_by (λ k. part (gone_use now trans_time k)) rows ≡ 0
  no_uses [] h = refl
  no_uses (l ∷ rows) h = sum_by-cons (λ k. part (gone_use now trans_time k)) l rows ∙ (λ i. no_use l h.0 i + no_uses rows h.1 i)

  pub front_use : (rows : List Dated) → AreStaleInOrder rows
      → sum_by (λ k. part (gone_use now trans_time k)) (take (prefix_len (λ k. is_ripe now trans_time k.stale) rows) rows) ≡ sum_by (λ k. part (gone_use now trans_time k)) rows
  front_use [] h = refl
  front_use (k ∷ rows) h = by (is_ripe now trans_time k.stale) refl (front_use rows h.1)
    where
      count : ℕ
      count = prefix_len (λ (x : Dated). is_ripe now trans_time x.stale) rows

      by : (b : Bool) → is_ripe now trans_time k.stale ≡ b → sum_by (λ k. part (gone_use now trans_time k)) (take count rows) ≡ sum_by (λ k. part (gone_use now trans_time k)) rows
          → sum_by (λ k. part (gone_use now trans_time k)) (take (cond b (1 + count) 0) (k ∷ rows)) ≡ sum_by (λ k. part (gone_use now trans_time k)) (k ∷ rows)
      by true e same = let s : 1 + count ≡ suc count = omega arith in
          ap (λ m. sum_by (λ (k : Dated). part (gone_use now trans_time k)) (take m (k ∷ rows))) s
          ∙ sum_by-cons (λ k. part (gone_use now trans_time k)) k (take count rows) ∙ ap (λ n. part (gone_use now trans_time k) + n) same ∙ sym (sum_by-cons (λ k. part (gone_use now trans_time k)) k rows)
      by false e same = sym (sum_by-cons (λ k. part (gone_use now trans_time k)) k rows ∙ (λ i. no_use k e i + no_uses rows (none_ripe now trans_time k.stale rows e h.0) i))

-- ---- the timestamp from which something is stale is the first's
stays_oldest : (o : Option ℕ) (rows : List Dated) → AllByRecursion (λ l. is_no_later o l.stale ≡ true) rows → fold (λ o k. earlier o k.stale) o rows ≡ o
stays_oldest o [] h = refl
stays_oldest o (l ∷ rows) h = ap (λ a. fold (λ o (k : Dated). earlier o k.stale) a rows) (by o l.stale h.0) ∙ stays_oldest o rows h.1
  where
    by : (a b : Option ℕ) → is_no_later a b ≡ true → earlier a b ≡ a
    by None None e = refl
    by (Some m) None e = refl
    by None (Some n) e = absurd (true≢false (sym e))
    by (Some m) (Some n) e = let le : m ≤ n = grind (arith, nat_tests, e) in ap Some (omega (arith, le))

pub oldest_first : (rows : List Dated) (k : Dated) → AreStaleInOrder rows → 0 < length rows → k ≡ get_or rows 0 k → k.stale ≡ oldest_of rows
oldest_first [] k h some is = absurd (omega arith)
oldest_first (l ∷ rows) k h some is = ap (λ (x : Dated). x.stale) is ∙ sym (stays_oldest l.stale rows h.0)

-- ---- a front is dropped
pub order_dropped : (n : ℕ) (rows : List Dated) → AreStaleInOrder rows → AreStaleInOrder (drop n rows)
order_dropped zero rows h = h
order_dropped (suc n) [] h = tt
order_dropped (suc n) (k ∷ rows) h = order_dropped n rows h.1

pub by_dropped : (n m : ℕ) (rows : List Dated) → AllByRecursion (λ k. is_by m k.stale ≡ true) rows → AllByRecursion (λ k. is_by m k.stale ≡ true) (drop n rows)
by_dropped zero m rows h = h
by_dropped (suc n) m [] h = tt
by_dropped (suc n) m (k ∷ rows) h = by_dropped n m rows h.1

pub latest_dropped : (n : ℕ) (rows : List Dated) (latest : Option Record) → HasLatest rows latest → HasLatest (drop n rows) latest
latest_dropped n rows (Some m) h = tt
latest_dropped zero rows None h = h
latest_dropped (suc n) [] None h = refl
latest_dropped (suc n) (k ∷ rows) None h = cc

-- the latest record always stays
pub latest_stays : (now trans_time : ℕ) (rows : List Dated) (latest : Option Record)
    → filter (λ k. not (is_ripe now trans_time k.stale)) rows ++ latest_row latest ≡ filter (λ k. not (is_ripe now trans_time k.stale)) (rows ++ latest_row latest)
latest_stays now trans_time rows latest = sym (filter-append (λ (k : Dated). not (is_ripe now trans_time k.stale)) rows (latest_row latest) ∙ ap (λ xs. filter (λ (k : Dated). not (is_ripe now trans_time k.stale)) rows ++ xs) (by latest))
  where
    by : (o : Option Record) → filter (λ (k : Dated). not (is_ripe now trans_time k.stale)) (latest_row o) ≡ latest_row o
    by None = refl
    by (Some m) = refl

-- what a row adds to the total of those before it is within the total of all
pub front_fits : (f : Dated → ℕ) (rows rest : List Dated) (k : Dated) (i : ℕ) → drop i rows ≡ k ∷ rest → sum_by f rows < 2 ^ 64 → sum_by f (take i rows) + f k < 2 ^ 64
front_fits f rows rest k i at fits =
    let whole = sum_by-append f (take i rows) (drop i rows) ∙ (λ j. sum_by f (take i rows) + sum_by f (at j)) in
    let same = ap (sum_by f) (take-append-drop i rows) in
    let one = sum_by-cons f k rest in
    omega (arith, whole, same, one, fits)
