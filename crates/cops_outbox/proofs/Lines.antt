-- Facts about the line of one slot.
use Rattle.std.proofs.Common.{◌≡◌, ◌≢◌, inl, inr, ℕ, zero, suc, ◌+◌, ◌-◌, ◌^◌, ◌<◌, ◌≤◌, Bool, true, false, not, ◌&&◌, ◌||◌, List, [], ◌∷◌, ◌++◌, length, refl, sym, ap, ◌∙◌, subst, arith, get_or, set, take, eq-eqb, true≢false}
use Rattle.std.specs.Prelude.{Option, Some, None, IsSome, ◌==◌, nat_le, if◌then◌else◌, drop, count_by, is_some}
use Rattle.std.specs.List.{list_any, range_with_len}
use Rattle.std.proofs.lemmas.Bool.{cases_eq, cases_lt}
use Rattle.std.proofs.lemmas.Bool.Decides.{nat_tests}
use Rattle.std.proofs.lemmas.List.{get_or_past, get_or_default, get_or-set_same, get_or-set_other, length-set}
use Rattle.std.proofs.Math.Seq.{take-append_seam}
use Rattle.std.proofs.lemmas.List.Folds.{list_any_at, Any-from_list_any}
use Rattle.cops_types.specs.declared.records.EntryParts.{EntryParts as Entry}
use Rattle.cops_outbox.specs.declared.rows.Row.{Row}
use Rattle.cops_outbox.specs.declared.rows.Span.{Span}
use Rattle.cops_outbox.specs.declared.rows.Line.{Line}
use Rattle.cops_outbox.specs.Lines.{IsAdded, IsGone, IsLine, IsLineChange, IsLonger, IsNeeded, IsQueueChain, IsRowOf, IsShorter, cell_at, entries_from, entries_in, entry_in, extended, next_in, nowhere, span_at}
use Rattle.cops_outbox.proofs.Chains.{apart, chain_head, chain_last, chain_rest, chain_front, span_longer, added_elsewhere, gone_behind, gone_elsewhere}
use Rattle.cops_model.specs.SoloNode.{front}

-- spans written over all of a vector
pub refilled : (n : ℕ) (new old : List Span) → length new ≡ n → take n (new ++ drop (length new) old) ≡ new
refilled n new old long = ap (λ m. take m (new ++ drop (length new) old)) (sym long) ∙ take-append_seam new (drop (length new) old)

-- ---- where rows are

pub some_there : (rows : List (Option Row)) (slot at : ℕ) → IsRowOf rows slot at → IsSome (cell_at rows at)
some_there rows slot at h = subst IsSome (sym h.1) refl

within : (rows : List (Option Row)) (at : ℕ) (r : Row) → cell_at rows at ≡ Some r → at < length rows
within rows at r read = elim (cases_lt at (length rows)) [
  | inl lt ↦ lt
  | inr past ↦ let none : cell_at rows at ≡ None = get_or_past rows at None past in let both : Some r ≡ None = sym read ∙ none in absurd (cc)
]

-- the first row of a span that has some
pub span_head : (rows : List (Option Row)) (slot last : ℕ) (span : Span) → 0 < span.count → IsQueueChain rows slot last span.count span.first → IsRowOf rows slot span.first
span_head rows slot last span some h = by span.count some h
  where
    by : (n : ℕ) → 0 < n → IsQueueChain rows slot last n span.first → IsRowOf rows slot span.first
    by zero lt h = absurd (omega arith)
    by (suc n) lt h = chain_head rows slot last n span.first h

span_last : (rows : List (Option Row)) (slot last n first : ℕ) → 0 < n → IsQueueChain rows slot last n first → IsRowOf rows slot last
span_last rows slot last zero first lt h = absurd (omega arith)
span_last rows slot last (suc n) first lt h = chain_last rows slot last n first h

-- ---- one more row

-- the last row of a line, once the table has a new one
pub last_there : (rows rows1 : List (Option Row)) (slot last n first at : ℕ) → cell_at rows at ≡ None → ((x : ℕ) → x ≢ at → cell_at rows1 x ≡ cell_at rows x) → 0 < n → IsQueueChain rows slot last n first → IsSome (cell_at rows1 last)
last_there rows rows1 slot last n first at vacant others some h =
    let there = span_last rows slot last n first some h in
    subst IsSome (sym (others last (apart rows slot at last vacant there) ∙ there.1)) refl

pub linked_is_added : (rows rows1 : List (Option Row)) (slot last n first at : ℕ) (entry : Entry) (r : Row) → cell_at rows at ≡ None → cell_at rows1 at ≡ Some (record { slot = slot; entry = entry; next = 0 })
    → ((x : ℕ) → x ≢ at → cell_at rows1 x ≡ cell_at rows x) → cell_at rows1 last ≡ Some r → 0 < n → IsQueueChain rows slot last n first
    → IsAdded rows (set rows1 last (Some (record r { next = at }))) slot last n at entry
linked_is_added rows rows1 slot last n first at entry r vacant new others read some h =
    let there = span_last rows slot last n first some h in
    let differ : last ≢ at = apart rows slot at last vacant there in
    let new' : cell_at (set rows1 last (Some (record r { next = at }))) at ≡ Some (record { slot = slot; entry = entry; next = 0 }) = get_or-set_other rows1 last at (Some (record r { next = at })) None (λ same. differ (sym same)) ∙ new in
    let was : cell_at rows last ≡ Some r = sym (others last differ) ∙ read in
    record {
      vacant = vacant;
      added = (record { slot = slot; entry = entry; next = 0 }, new', refl);
      holds = ap entry_in new';
      linked = λ q some' is.
          let both : Some q ≡ Some r = sym is ∙ was in
          let same : q ≡ r = cc in
          get_or-set_same rows1 last (Some (record r { next = at })) None (within rows1 last r read) ∙ ap (λ (x : Row). Some (record x { next = at })) (sym same);
      others = λ x apart' end. elim (cases_eq x last) [
        | inl same ↦ let none : n ≡ 0 = end same in absurd (omega arith)
        | inr other ↦ get_or-set_other rows1 last x (Some (record r { next = at })) None other ∙ others x apart'
      ];
    }

pub empty_chain : (rows : List (Option Row)) (slot last : ℕ) (span : Span) → span.count ≡ 0 → IsQueueChain rows slot last span.count span.first
empty_chain rows slot last span none = subst (λ n. IsQueueChain rows slot last n span.first) (sym none) tt

pub empty_entries : (rows : List (Option Row)) (span : Span) → span.count ≡ 0 → entries_in rows span ≡ []
empty_entries rows span none = ap (λ n. entries_from rows n span.first) none

pub test_false : (a b : ℕ) → a ≢ b → (a == b) ≡ false
test_false a b h = grind (arith, nat_tests)

-- the places of all data centres
module _ (rows rows' : List (Option Row)) (own slot at : ℕ) (entry : Entry) (line line' : Line)
    (h : IsLine rows own (length line.waits.items) slot line)
    (is : IsAdded rows rows' slot line.last line.kept.count at entry)
    (last_is : line'.last ≡ at)
    (kept_is : line'.kept ≡ extended at line.kept)
    (long : length line'.waits.items ≡ length line.waits.items)
    (spans : (dc : ℕ) (d : Span) → dc < length line.waits.items → get_or line'.waits.items dc d ≡ (if dc == own then get_or line.waits.items dc d else extended at (get_or line.waits.items dc d)))
    (counted : count_by is_some rows' ≡ count_by is_some rows + 1) where
  own_stays : span_at own line' ≡ span_at own line
  own_stays = elim (cases_lt own (length line.waits.items)) [
    | inl lt ↦ spans own nowhere lt ∙ ap (λ b. if b then span_at own line else extended at (span_at own line)) (eq-eqb own own refl)
    | inr past ↦ get_or_past line'.waits.items own nowhere (omega arith) ∙ sym (get_or_past line.waits.items own nowhere past)
  ]

  longer_at : (dc : ℕ) → dc < length line.waits.items → dc ≢ own → span_at dc line' ≡ extended at (span_at dc line)
  longer_at dc lt differ = spans dc nowhere lt ∙ ap (λ b. if b then span_at dc line else extended at (span_at dc line)) (test_false dc own differ)

  past_at : (dc : ℕ) → length line.waits.items ≤ dc → (span_at dc line').count ≡ 0
  past_at dc past = ap (λ (s : Span). s.count) (get_or_past line'.waits.items dc nowhere (omega arith))

  own_none : (span_at own line').count ≡ 0
  own_none = ap (λ (s : Span). s.count) own_stays ∙ h.itself

  grown : (dc : ℕ) → dc < length line.waits.items → dc ≢ own → IsQueueChain rows' slot at (span_at dc line').count (span_at dc line').first × (entries_in rows' (span_at dc line') ≡ entries_in rows (span_at dc line) ++ entry ∷ [])
  grown dc lt differ = subst (λ (s : Span). IsQueueChain rows' slot at s.count s.first × (entries_in rows' s ≡ entries_in rows (span_at dc line) ++ entry ∷ [])) (sym (longer_at dc lt differ))
      (span_longer rows rows' slot line.last line.kept.count at entry (span_at dc line) is (h.within dc) (h.waits dc))

  waits_after : (dc : ℕ) → IsQueueChain rows' slot at (span_at dc line').count (span_at dc line').first
  waits_after dc = elim (cases_lt dc (length line.waits.items)) [
    | inr past ↦ empty_chain rows' slot at (span_at dc line') (past_at dc past)
    | inl lt ↦ elim (cases_eq dc own) [
      | inl same ↦ subst (λ n. IsQueueChain rows' slot at (span_at n line').count (span_at n line').first) (sym same) (empty_chain rows' slot at (span_at own line') own_none)
      | inr differ ↦ (grown dc lt differ).0
    ]
  ]

  within_after : (dc : ℕ) → (span_at dc line').count ≤ line'.kept.count
  within_after dc =
      let more : line'.kept.count ≡ line.kept.count + 1 = ap (λ (s : Span). s.count) kept_is in
      elim (cases_lt dc (length line.waits.items)) [
        | inr past ↦ omega (arith, past_at dc past)
        | inl lt ↦ elim (cases_eq dc own) [
          | inl same ↦ let none : (span_at dc line').count ≡ 0 = ap (λ n. (span_at n line').count) same ∙ own_none in omega arith
          | inr differ ↦ let one : (span_at dc line').count ≡ (span_at dc line).count + 1 = ap (λ (s : Span). s.count) (longer_at dc lt differ) in omega (arith, h.within dc)
        ]
      ]

  pub line_longer : IsLonger rows rows' own slot entry line line'
  line_longer = record {
    turn = record {
      stays = record {
        kept = subst (λ m. IsQueueChain rows' slot m line'.kept.count line'.kept.first) (sym last_is) (subst (λ (s : Span). IsQueueChain rows' slot at s.count s.first) (sym kept_is)
            (span_longer rows rows' slot line.last line.kept.count at entry line.kept is (omega arith) h.kept).0);
        all = long;
        waits = λ dc. subst (λ m. IsQueueChain rows' slot m (span_at dc line').count (span_at dc line').first) (sym last_is) (waits_after dc);
        within = within_after;
        itself = own_none;
      };
      others = λ other last n x differ c. added_elsewhere rows rows' slot line.last line.kept.count at entry line.kept.first other last n x is h.kept differ c;
      counted = let more : line'.kept.count ≡ line.kept.count + 1 = ap (λ (s : Span). s.count) kept_is in omega arith;
    };
    entries = λ dc lt differ. (grown dc lt differ).1;
    itself = empty_entries rows' (span_at own line') own_none ∙ sym (empty_entries rows (span_at own line) h.itself);
  }

  -- if there is another data centre, each row is still needed
  pub needed_longer : (dc : ℕ) × (dc < length line.waits.items) × (dc ≢ own) → IsNeeded line → IsNeeded line'
  needed_longer some needed = elim (cases_eq line.kept.count 0) [
    | inl none ↦ inr (some.0, let one : (span_at some.0 line').count ≡ (span_at some.0 line).count + 1 = ap (λ (s : Span). s.count) (longer_at some.0 some.1 some.2) in let le = h.within some.0 in let more : line'.kept.count ≡ line.kept.count + 1 = ap (λ (s : Span). s.count) kept_is in omega arith)
    | inr many ↦ by many needed
  ]
    where
      by : line.kept.count ≢ 0 → IsNeeded line → IsNeeded line'
      by many (inl none) = absurd (many none)
      by many (inr (dc, all)) =
          let there : dc < length line.waits.items = elim (cases_lt dc (length line.waits.items)) [
            | inl lt ↦ lt
            | inr past ↦ absurd (many (sym all ∙ ap (λ (s : Span). s.count) (get_or_past line.waits.items dc nowhere past)))
          ] in
          let differ : dc ≢ own = λ same. many (sym all ∙ ap (λ n. (span_at n line).count) same ∙ h.itself) in
          let one : (span_at dc line').count ≡ (span_at dc line).count + 1 = ap (λ (s : Span). s.count) (longer_at dc there differ) in
          let more : line'.kept.count ≡ line.kept.count + 1 = ap (λ (s : Span). s.count) kept_is in
          inr (dc, omega arith)

-- ---- one row less

shorter_chain : (rows : List (Option Row)) (slot last n first : ℕ) → 0 < n → IsQueueChain rows slot last n first → IsQueueChain rows slot last (n - 1) (next_in (cell_at rows first)) × (entries_from rows (n - 1) (next_in (cell_at rows first)) ≡ drop 1 (entries_from rows n first))
shorter_chain rows slot last zero first lt h = absurd (omega arith)
shorter_chain rows slot last (suc n) first lt h =
    let e : n ≡ suc n - 1 = omega arith in
    let front = chain_front rows slot last n first h in
    subst (λ m. IsQueueChain rows slot last m (next_in (cell_at rows first)) × (entries_from rows m (next_in (cell_at rows first)) ≡ drop 1 (entries_from rows (suc n) first))) e
    (chain_rest rows slot last n first h, ap (λ o. entries_from rows n (next_in o)) front.1 ∙ ap (drop 1) (sym front.2))

-- a data centre's place goes on by one
pub line_passed : (rows : List (Option Row)) (own slot dc : ℕ) (span : Span) (line line' : Line) → IsLine rows own (length line.waits.items) slot line → dc < length line.waits.items → 0 < (span_at dc line).count
    → span ≡ record { first = next_in (cell_at rows (span_at dc line).first); count = (span_at dc line).count - 1 }
    → line'.last ≡ line.last → line'.kept ≡ line.kept → line'.waits.items ≡ set line.waits.items dc span → IsShorter rows rows own slot dc line line'
line_passed rows own slot dc span line line' h lt some span_is last_is kept_is waits_are =
    let here : span_at dc line' ≡ span = ap (λ (ss : List Span). get_or ss dc nowhere) waits_are ∙ get_or-set_same line.waits.items dc span nowhere lt in
    let elsewhere : (at : ℕ) → at ≢ dc → span_at at line' ≡ span_at at line = λ at differ. ap (λ (ss : List Span). get_or ss at nowhere) waits_are ∙ get_or-set_other line.waits.items dc at span nowhere differ in
    let chain = shorter_chain rows slot line.last (span_at dc line).count (span_at dc line).first some (h.waits dc) in
    let less : (span_at dc line').count ≡ (span_at dc line).count - 1 = ap (λ (s : Span). s.count) (here ∙ span_is) in
    let same_count : line'.kept.count ≡ line.kept.count = ap (λ (s : Span). s.count) kept_is in
    record {
      turn = record {
        stays = record {
          kept = subst (λ m. IsQueueChain rows slot m line'.kept.count line'.kept.first) (sym last_is) (subst (λ (s : Span). IsQueueChain rows slot line.last s.count s.first) (sym kept_is) h.kept);
          all = ap (λ (ss : List Span). length ss) waits_are ∙ length-set line.waits.items dc span;
          waits = λ at. subst (λ m. IsQueueChain rows slot m (span_at at line').count (span_at at line').first) (sym last_is) (elim (cases_eq at dc) [
            | inl same ↦ subst (λ (s : Span). IsQueueChain rows slot line.last s.count s.first) (sym (ap (λ n. span_at n line') same ∙ here ∙ span_is)) chain.0
            | inr differ ↦ subst (λ (s : Span). IsQueueChain rows slot line.last s.count s.first) (sym (elsewhere at differ)) (h.waits at)
          ]);
          within = λ at. elim (cases_eq at dc) [
            | inl same ↦ let fewer : (span_at at line').count ≡ (span_at dc line').count = ap (λ n. (span_at n line').count) same in omega (arith, h.within dc)
            | inr differ ↦ let as_many : (span_at at line').count ≡ (span_at at line).count = ap (λ (s : Span). s.count) (elsewhere at differ) in omega (arith, h.within at)
          ];
          itself = ap (λ (s : Span). s.count) (elsewhere own (λ same. let none : (span_at dc line).count ≡ 0 = ap (λ n. (span_at n line).count) (sym same) ∙ h.itself in absurd (omega arith))) ∙ h.itself;
        };
        others = λ other last n at differ c. (c, refl);
        counted = omega arith;
      };
      entries = ap (λ (s : Span). entries_in rows s) (here ∙ span_is) ∙ chain.1;
      elsewhere = λ at differ. ap (λ (s : Span). entries_in rows s) (elsewhere at differ);
    }

-- the first row, which no data centre waits for, leaves the table
module _ (rows rows' : List (Option Row)) (own slot dc : ℕ) (line line1 line2 : Line)
    (h : IsShorter rows rows own slot dc line line1)
    (some : 0 < line1.kept.count)
    (unwanted : (at : ℕ) → (span_at at line1).count ≢ line1.kept.count)
    (is : IsGone rows rows' line1.kept.first)
    (counted : count_by is_some rows' + 1 ≡ count_by is_some rows)
    (last_is : line2.last ≡ line1.last)
    (kept_is : line2.kept ≡ record { first = next_in (cell_at rows line1.kept.first); count = line1.kept.count - 1 })
    (waits_are : line2.waits.items ≡ line1.waits.items) where
  whole : (n : ℕ) → line1.kept.count ≡ suc n → IsQueueChain rows slot line1.last (suc n) line1.kept.first
  whole n e = subst (λ m. IsQueueChain rows slot line1.last m line1.kept.first) e h.turn.stays.kept

  same_span : (at : ℕ) → span_at at line2 ≡ span_at at line1
  same_span at = ap (λ (ss : List Span). get_or ss at nowhere) waits_are

  behind : (n m x : ℕ) → line1.kept.count ≡ suc n → m ≤ n → IsQueueChain rows slot line1.last m x → IsQueueChain rows' slot line1.last m x × (entries_from rows' m x ≡ entries_from rows m x)
  behind n m x e le c = gone_behind rows rows' slot line1.last n line1.kept.first m x is (whole n e) le c

  released_by : (n : ℕ) → line1.kept.count ≡ suc n → IsShorter rows rows' own slot dc line line2
  released_by n e =
      let stays : (at : ℕ) → IsQueueChain rows' slot line1.last (span_at at line2).count (span_at at line2).first × (entries_in rows' (span_at at line2) ≡ entries_in rows (span_at at line1)) = λ at.
      subst (λ (s : Span). IsQueueChain rows' slot line1.last s.count s.first × (entries_in rows' s ≡ entries_in rows (span_at at line1))) (sym (same_span at))
      (behind n (span_at at line1).count (span_at at line1).first e (let le = h.turn.stays.within at in let differ = unwanted at in omega arith) (h.turn.stays.waits at)) in
      let count_is : line2.kept.count ≡ n = ap (λ (s : Span). s.count) kept_is ∙ (let less : line1.kept.count - 1 ≡ n = omega arith in less) in
      let rest = behind n n (next_in (cell_at rows line1.kept.first)) e (omega arith) (chain_rest rows slot line1.last n line1.kept.first (whole n e)) in
      let kept_as : line2.kept ≡ record { first = next_in (cell_at rows line1.kept.first); count = n } = kept_is ∙ ap (λ m. record { first = next_in (cell_at rows line1.kept.first); count = m }) (let less : line1.kept.count - 1 ≡ n = omega arith in less) in
      record {
        turn = record {
          stays = record {
            kept = subst (λ m. IsQueueChain rows' slot m line2.kept.count line2.kept.first) (sym last_is) (subst (λ (s : Span). IsQueueChain rows' slot line1.last s.count s.first) (sym kept_as) rest.0);
            all = ap (λ (ss : List Span). length ss) waits_are ∙ h.turn.stays.all;
            waits = λ at. subst (λ m. IsQueueChain rows' slot m (span_at at line2).count (span_at at line2).first) (sym last_is) (stays at).0;
            within = λ at. let as_many : (span_at at line2).count ≡ (span_at at line1).count = ap (λ (s : Span). s.count) (same_span at) in let le = h.turn.stays.within at in let differ = unwanted at in omega arith;
            itself = ap (λ (s : Span). s.count) (same_span own) ∙ h.turn.stays.itself;
          };
          others = λ other last m x differ c. gone_elsewhere rows rows' slot line1.last n line1.kept.first other last m x is (whole n e) differ c;
          counted = let before = h.turn.counted in omega arith;
        };
        entries = (stays dc).1 ∙ h.entries;
        elsewhere = λ at differ. (stays at).1 ∙ h.elsewhere at differ;
      }

  pub line_released : IsShorter rows rows' own slot dc line line2
  line_released = by line1.kept.count refl
    where
      by : (n : ℕ) → line1.kept.count ≡ n → IsShorter rows rows' own slot dc line line2
      by zero e = absurd (omega arith)
      by (suc n) e = released_by n e

-- ---- no row any more

-- no data centre waits for a row of the line
pub none_waited : (line : Line) → ((dc : ℕ) (d : Span) → dc < length line.waits.items → get_or line.waits.items dc d ≡ nowhere) → (dc : ℕ) → (span_at dc line).count ≡ 0
none_waited line none dc = elim (cases_lt dc (length line.waits.items)) [
  | inl lt ↦ ap (λ (s : Span). s.count) (none dc nowhere lt)
  | inr past ↦ ap (λ (s : Span). s.count) (get_or_past line.waits.items dc nowhere past)
]

pub line_forgotten : (rows : List (Option Row)) (own slot : ℕ) (line line' : Line) → IsLine rows own (length line.waits.items) slot line → line'.last ≡ line.last → line'.kept ≡ line.kept → length line'.waits.items ≡ length line.waits.items → ((dc : ℕ) → (span_at dc line').count ≡ 0)
    → IsLineChange rows rows own slot line line'
line_forgotten rows own slot line line' h last_is kept_is long none = record {
  stays = record {
    kept = subst (λ m. IsQueueChain rows slot m line'.kept.count line'.kept.first) (sym last_is) (subst (λ (s : Span). IsQueueChain rows slot line.last s.count s.first) (sym kept_is) h.kept);
    all = long;
    waits = λ dc. empty_chain rows slot line'.last (span_at dc line') (none dc);
    within = λ dc. let zero_is = none dc in omega arith;
    itself = none own;
  };
  others = λ other last n at differ c. (c, refl);
  counted = let same_count : line'.kept.count ≡ line.kept.count = ap (λ (s : Span). s.count) kept_is in omega arith;
}

-- the first row of a line that nothing waits for leaves the table
pub turn_released : (rows0 rows rows' : List (Option Row)) (own slot : ℕ) (line line1 line2 : Line) → IsLineChange rows0 rows own slot line line1 → ((dc : ℕ) → (span_at dc line1).count ≡ 0) → 0 < line1.kept.count → IsGone rows rows' line1.kept.first → count_by is_some rows' + 1 ≡ count_by is_some rows
    → line2.last ≡ line1.last → line2.kept ≡ record { first = next_in (cell_at rows line1.kept.first); count = line1.kept.count - 1 } → line2.waits.items ≡ line1.waits.items → IsLineChange rows0 rows' own slot line line2
turn_released rows0 rows rows' own slot line line1 line2 turn none some is counted last_is kept_is waits_are = by line1.kept.count refl
  where
    still : (dc : ℕ) → (span_at dc line2).count ≡ 0
    still dc = ap (λ (ss : List Span). (get_or ss dc nowhere).count) waits_are ∙ none dc

    by : (n : ℕ) → line1.kept.count ≡ n → IsLineChange rows0 rows' own slot line line2
    by zero e = absurd (omega arith)
    by (suc n) e =
        let whole : IsQueueChain rows slot line1.last (suc n) line1.kept.first = subst (λ m. IsQueueChain rows slot line1.last m line1.kept.first) e turn.stays.kept in
        let less : line1.kept.count - 1 ≡ n = omega arith in
        let kept_as : line2.kept ≡ record { first = next_in (cell_at rows line1.kept.first); count = n } = kept_is ∙ ap (λ m. record { first = next_in (cell_at rows line1.kept.first); count = m }) less in
        let count_is : line2.kept.count ≡ n = ap (λ (s : Span). s.count) kept_as in
        let rest = gone_behind rows rows' slot line1.last n line1.kept.first n (next_in (cell_at rows line1.kept.first)) is whole (omega arith) (chain_rest rows slot line1.last n line1.kept.first whole) in
        record {
          stays = record {
            kept = subst (λ m. IsQueueChain rows' slot m line2.kept.count line2.kept.first) (sym last_is) (subst (λ (s : Span). IsQueueChain rows' slot line1.last s.count s.first) (sym kept_as) rest.0);
            all = ap (λ (ss : List Span). length ss) waits_are ∙ turn.stays.all;
            waits = λ dc. empty_chain rows' slot line2.last (span_at dc line2) (still dc);
            within = λ dc. let zero_is = still dc in omega arith;
            itself = still own;
          };
          others = λ other last m x differ c.
              let before = turn.others other last m x differ c in
              let now = gone_elsewhere rows rows' slot line1.last n line1.kept.first other last m x is whole differ before.0 in
              (now.0, now.1 ∙ before.1);
          counted = let before = turn.counted in omega arith;
        }

-- no data centre waits for that many
pub none_waits : (spans : List Span) (count : ℕ) → list_any (λ (s : Span). s.count == count) spans ≡ false → 0 < count → (at : ℕ) → (get_or spans at nowhere).count ≢ count
none_waits spans count none some at same = elim (cases_lt at (length spans)) [
  | inl lt ↦ true≢false (sym (list_any_at (λ (s : Span). s.count == count) spans at nowhere lt (eq-eqb (get_or spans at nowhere).count count same)) ∙ none)
  | inr past ↦ let zero_is : (get_or spans at nowhere).count ≡ 0 = ap (λ (s : Span). s.count) (get_or_past spans at nowhere past) in absurd (omega arith)
]

-- ---- a queue that is full

some_of_range : (p : ℕ → Bool) (a n i : ℕ) → i < n → p (a + i) ≡ true → list_any p (range_with_len a n) ≡ true
some_of_range p a zero i lt h = absurd (omega arith)
some_of_range p a (suc n) zero lt h = let e : a + 0 ≡ a = omega arith in ap (λ b. b || list_any p (range_with_len (a + 1) n)) (ap p (sym e) ∙ h)
some_of_range p a (suc n) (suc i) lt h =
    let e : a + suc i ≡ (a + 1) + i = omega arith in
    by (p a) (some_of_range p (a + 1) n i (omega arith) (ap p (sym e) ∙ h))
  where
    by : (b : Bool) → list_any p (range_with_len (a + 1) n) ≡ true → (b || list_any p (range_with_len (a + 1) n)) ≡ true
    by true k = refl
    by false k = k

pub some_place : (p : ℕ → Bool) (n i : ℕ) → i < n → p i ≡ true → list_any p (range_with_len 0 n) ≡ true
some_place p n i lt h = let e : 0 + i ≡ i = omega arith in some_of_range p 0 n i lt (ap p e ∙ h)

none_more : (p : ℕ → Bool) (a n : ℕ) → list_any p (range_with_len a n) ≡ false → p (a + n) ≡ false → list_any p (range_with_len a (suc n)) ≡ false
none_more p a zero h k = let e : a + 0 ≡ a = omega arith in ap (λ b. b || false) (ap p (sym e) ∙ k)
none_more p a (suc n) h k = by (p a) h (λ rest. none_more p (a + 1) n rest (let e : (a + 1) + n ≡ a + suc n = omega arith in ap p e ∙ k))
  where
    by : (b : Bool) → (b || list_any p (range_with_len (a + 1) n)) ≡ false → (list_any p (range_with_len (a + 1) n) ≡ false → list_any p (range_with_len (a + 1) (suc n)) ≡ false) → (b || list_any p (range_with_len (a + 1) (suc n))) ≡ false
    by true h f = cc
    by false h f = f h

pub one_more : (p : ℕ → Bool) (n : ℕ) → list_any p (range_with_len 0 n) ≡ false → p n ≡ false → list_any p (range_with_len 0 (n + 1)) ≡ false
one_more p n h k = let e : 0 + n ≡ n = omega arith in let s : suc n ≡ n + 1 = omega arith in ap (λ m. list_any p (range_with_len 0 m)) (sym s) ∙ none_more p 0 n h (ap p e ∙ k)

pub is_full_at : (dc own limit n : ℕ) → (dc ≡ own → ⊥) → limit ≤ n → (not (dc == own) && nat_le limit n) ≡ true
is_full_at dc own limit n other le = grind (arith, nat_tests)

pub own_not_full : (dc own limit n : ℕ) → dc ≡ own → (not (dc == own) && nat_le limit n) ≡ false
own_not_full dc own limit n same = grind (arith, nat_tests)

pub not_full_at : (dc own limit n : ℕ) → n < limit → (not (dc == own) && nat_le limit n) ≡ false
not_full_at dc own limit n lt = grind (arith, nat_tests)

-- ---- what is read

pub read_at : (line : Line) (dc : ℕ) (span : Span) → dc < length line.waits.items → span ≡ get_or line.waits.items dc span → span ≡ span_at dc line
read_at line dc span lt read = read ∙ get_or_default line.waits.items dc span nowhere lt

-- the row that a span with some begins with
pub row_at_span : (rows : List (Option Row)) (own slot dc : ℕ) (line : Line) (span : Span) → IsLine rows own (length line.waits.items) slot line → dc < length line.waits.items → span ≡ get_or line.waits.items dc span → 0 < span.count → IsRowOf rows slot span.first
row_at_span rows own slot dc line span h lt read some =
    let is = read_at line dc span lt read in
    subst (λ (s : Span). IsRowOf rows slot s.first) (sym is) (span_head rows slot line.last (span_at dc line) (subst (λ (s : Span). 0 < s.count) is some) (h.waits dc))

pub there_at : (rows : List (Option Row)) (own slot dc : ℕ) (line : Line) (span : Span) → IsLine rows own (length line.waits.items) slot line → dc < length line.waits.items → span ≡ get_or line.waits.items dc span → (span.count ≡ 0 → ⊥) → IsSome (cell_at rows span.first)
there_at rows own slot dc line span h lt read some = some_there rows slot span.first (row_at_span rows own slot dc line span h lt read (omega arith))

-- it has the first entry
pub first_is : (rows : List (Option Row)) (own slot dc : ℕ) (line : Line) (span : Span) (r : Row) → IsLine rows own (length line.waits.items) slot line → dc < length line.waits.items → span ≡ get_or line.waits.items dc span → (span.count ≡ 0 → ⊥) → cell_at rows span.first ≡ Some r
    → Some r.entry ≡ front (entries_in rows (span_at dc line))
first_is rows own slot dc line span r h lt read some is = by (span_at dc line).count refl
  where
    same : span ≡ span_at dc line
    same = read_at line dc span lt read

    by : (n : ℕ) → (span_at dc line).count ≡ n → Some r.entry ≡ front (entries_from rows (span_at dc line).count (span_at dc line).first)
    by zero e = absurd (some (ap (λ (s : Span). s.count) same ∙ e))
    by (suc n) e =
        let chain = chain_front rows slot line.last n (span_at dc line).first (subst (λ m. IsQueueChain rows slot line.last m (span_at dc line).first) e (h.waits dc)) in
        let found : cell_at rows (span_at dc line).first ≡ Some r = ap (λ (s : Span). cell_at rows s.first) (sym same) ∙ is in
        let both : Some r ≡ Some chain.0 = sym found ∙ chain.1 in
        let one : r ≡ chain.0 = cc in
        ap (λ (x : Row). Some x.entry) one ∙ sym (ap (λ m. front (entries_from rows m (span_at dc line).first)) e ∙ ap front chain.2)

pub none_is : (rows : List (Option Row)) (dc : ℕ) (line : Line) (span : Span) → dc < length line.waits.items → span ≡ get_or line.waits.items dc span → span.count ≡ 0 → None ≡ front (entries_in rows (span_at dc line))
none_is rows dc line span lt read none = sym (ap front (empty_entries rows (span_at dc line) (ap (λ (s : Span). s.count) (sym (read_at line dc span lt read)) ∙ none)))

-- the row that a line with some begins with
pub kept_there : (rows : List (Option Row)) (own data_centres slot : ℕ) (line : Line) → IsLine rows own data_centres slot line → 0 < line.kept.count → IsRowOf rows slot line.kept.first
kept_there rows own data_centres slot line h some = span_head rows slot line.last line.kept some h.kept

-- ---- what is still needed

-- a data centre waits for that many
pub waited_for : (line : Line) (spans : List Span) → spans ≡ line.waits.items → list_any (λ (s : Span). s.count == line.kept.count) spans ≡ true → IsNeeded line
waited_for line spans is some =
    let any = Any-from_list_any (λ (s : Span). s.count == line.kept.count) spans some in
    inr (any.0, ap (λ (ss : List Span). (get_or ss any.0 nowhere).count) (sym is) ∙ ap (λ (s : Span). s.count) (get_or_default spans any.0 nowhere any.1 any.2 ∙ any.3) ∙ (let same : any.1.count ≡ line.kept.count = grind (arith, nat_tests, any.4) in same))

-- the one that passed the first row waits for all others
pub needed_released : (dc : ℕ) (line line1 line2 : Line) → IsNeeded line → 0 < line.kept.count → line1.kept ≡ line.kept → ((at : ℕ) → at ≢ dc → span_at at line1 ≡ span_at at line) → (span_at dc line1).count ≡ (span_at dc line).count - 1
    → ((at : ℕ) → (span_at at line1).count ≢ line1.kept.count) → line2.kept.count ≡ line1.kept.count - 1 → line2.waits.items ≡ line1.waits.items → IsNeeded line2
needed_released dc line line1 line2 (inl none) some kept_is elsewhere less unwanted count_is waits_are = absurd (omega arith)
needed_released dc line line1 line2 (inr (at, all)) some kept_is elsewhere less unwanted count_is waits_are =
    let same_count : line1.kept.count ≡ line.kept.count = ap (λ (s : Span). s.count) kept_is in
    elim (cases_eq at dc) [
      | inl same ↦
          let full : (span_at dc line).count ≡ line.kept.count = ap (λ n. (span_at n line).count) (sym same) ∙ all in
          inr (dc, ap (λ (ss : List Span). (get_or ss dc nowhere).count) waits_are ∙ (let e : (span_at dc line1).count ≡ line2.kept.count = omega arith in e))
      | inr differ ↦ absurd (unwanted at (ap (λ (s : Span). s.count) (elsewhere at differ) ∙ all ∙ sym same_count))
    ]

-- it passes the first
pub passed_less : (rows : List (Option Row)) (dc : ℕ) (span : Span) (line line' : Line) → dc < length line.waits.items → span ≡ record { first = next_in (cell_at rows (span_at dc line).first); count = (span_at dc line).count - 1 } → line'.waits.items ≡ set line.waits.items dc span
    → ((span_at dc line').count ≡ (span_at dc line).count - 1) × ((at : ℕ) → at ≢ dc → span_at at line' ≡ span_at at line)
passed_less rows dc span line line' lt span_is waits_are = (
  ap (λ (ss : List Span). (get_or ss dc nowhere).count) waits_are ∙ ap (λ (s : Span). s.count) (get_or-set_same line.waits.items dc span nowhere lt ∙ span_is),
  λ at differ. ap (λ (ss : List Span). get_or ss at nowhere) waits_are ∙ get_or-set_other line.waits.items dc at span nowhere differ,
)

-- no data centre waits for more than are kept
pub counts_fit : (rows : List (Option Row)) (own data_centres slot : ℕ) (line : Line) (spans : List Span) → IsLine rows own data_centres slot line → spans ≡ line.waits.items → line.kept.count + 1 < 2 ^ 64 → (dc : ℕ) (d : Span) → dc < length spans → (get_or spans dc d).count + 1 < 2 ^ 64
counts_fit rows own data_centres slot line spans h is fits dc d lt =
    let same : (get_or spans dc d).count ≡ (span_at dc line).count = ap (λ (s : Span). s.count) (get_or_default spans dc d nowhere lt) ∙ ap (λ (ss : List Span). (get_or ss dc nowhere).count) is in
    let le = h.within dc in
    omega arith
