-- The lines of all slots, if a call changes one.
use Rattle.std.proofs.Common.{◌≡◌, ◌≢◌, inl, inr, ℕ, zero, suc, ◌+◌, ◌<◌, ◌≤◌, Bool, List, [], ◌∷◌, ◌++◌, length, refl, sym, ap, ◌∙◌, subst, arith, get_or, set, sum_by}
use Rattle.std.specs.Prelude.{replicate}
use Rattle.std.specs.List.{IsDistinct}
use Rattle.std.specs.Map.{keys_of, lookup}
use Rattle.std.proofs.lemmas.Bool.{cases_eq}
use Rattle.std.proofs.lemmas.List.{get_or-set_same, get_or-set_other}
use Rattle.std.proofs.lemmas.List.Sums.{sum_by-append, sum_by-set, sum_by-cons}
use Rattle.cops_types.specs.Key.{key_eq}
use Rattle.cops_store.specs.declared.rows.SlotKey.{SlotKey}
use Rattle.cops_store.specs.declared.rows.Row.{Row}
use Rattle.cops_store.specs.declared.rows.Line.{Line}
use Rattle.cops_store.specs.Chains.{KeptChain}
use Rattle.cops_store.specs.Tables.{chains_of}
use Rattle.cops_store.specs.Lines.{AreRowLines, IsRowLine, IsRoomy, IsLineTurn, OtherSlotsStay, chain_in, chains_at, HasRecordRoom, chain_entries_at, linked_in, no_line, row_of, same_place, lines_from}

-- ---- what is shown of each slot
slots_at : (rows : List (SlotKey × Row)) (first n : ℕ) (lines : List Line) → get_or (lines_from rows first lines) n [] ≡ linked_in (row_of rows (first + n)) (get_or lines n no_line)
slots_at rows first n [] = refl
slots_at rows first zero (l ∷ lines) = let e : first ≡ first + 0 = omega arith in ap (λ m. linked_in (row_of rows m) l) e
slots_at rows first (suc n) (l ∷ lines) = let e : suc first + n ≡ first + suc n = omega arith in slots_at rows (suc first) n lines ∙ ap (λ m. linked_in (row_of rows m) (get_or lines n no_line)) e

pub slot_at : (rows : List (SlotKey × Row)) (slot : ℕ) (lines : List Line) → chain_entries_at slot (lines_from rows 0 lines) ≡ linked_in (row_of rows slot) (get_or lines slot no_line)
slot_at rows slot lines = let e : 0 + slot ≡ slot = omega arith in slots_at rows 0 slot lines ∙ ap (λ m. linked_in (row_of rows m) (get_or lines slot no_line)) e

pub slots_long : (rows : List (SlotKey × Row)) (first : ℕ) (lines : List Line) → length (lines_from rows first lines) ≡ length lines
slots_long rows first [] = refl
slots_long rows first (l ∷ lines) = ap suc (slots_long rows (suc first) lines)

slots_same : (rows rows' : List (SlotKey × Row)) (first : ℕ) (lines : List Line) → ((k : ℕ) → first ≤ k → row_of rows' k ≡ row_of rows k) → lines_from rows' first lines ≡ lines_from rows first lines
slots_same rows rows' first [] same = refl
slots_same rows rows' first (l ∷ lines) same =
    let here = same first (omega arith) in
    let rest = slots_same rows rows' (suc first) lines (λ k le. same k (omega arith)) in
    (λ i. linked_in (here i) l ∷ rest i)

slots_set : (rows rows' : List (SlotKey × Row)) (first n : ℕ) (lines : List Line) (line : Line) → n < length lines → ((k : ℕ) → k ≢ first + n → row_of rows' k ≡ row_of rows k)
    → lines_from rows' first (set lines n line) ≡ set (lines_from rows first lines) n (linked_in (row_of rows' (first + n)) line)
slots_set rows rows' first n [] line lt same = absurd (omega arith)
slots_set rows rows' first zero (l ∷ lines) line lt same =
    let e : first ≡ first + 0 = omega arith in
    let here = ap (λ m. linked_in (row_of rows' m) line) e in
    let rest = slots_same rows rows' (suc first) lines (λ k le. same k (λ is. absurd (omega arith))) in
    (λ i. here i ∷ rest i)
slots_set rows rows' first (suc n) (l ∷ lines) line lt same =
    let e : suc first + n ≡ first + suc n = omega arith in
    let here = same first (λ is. absurd (omega arith)) in
    let rest = slots_set rows rows' (suc first) n lines line (omega arith) (λ k differ. same k (λ is. differ (is ∙ sym e))) ∙ ap (λ m. set (lines_from rows (suc first) lines) n (linked_in (row_of rows' m) line)) e in
    (λ i. linked_in (here i) l ∷ rest i)

pub slot_there : (rows : List (SlotKey × Row)) (lines : List Line) (slot : ℕ) (shown : List (List (List ℕ × KeptChain))) → lines_from rows 0 lines ≡ shown → slot < length shown → slot < length lines
slot_there rows lines slot shown view within = subst (λ n. slot < n) (ap length (sym view) ∙ slots_long rows 0 lines) within

-- ---- one call
get_default : (lines : List Line) (n : ℕ) (d e : Line) → n < length lines → get_or lines n d ≡ get_or lines n e
get_default [] n d e lt = absurd (omega arith)
get_default (l ∷ lines) zero d e lt = refl
get_default (l ∷ lines) (suc n) d e lt = get_default lines n d e (omega arith)

count_within : (lines : List Line) (n : ℕ) → (get_or lines n no_line).count ≤ sum_by (λ (l : Line). l.count) lines
count_within [] n = omega arith
count_within (l ∷ lines) zero = let s = sum_by-cons (λ (l : Line). l.count) l lines in omega arith
count_within (l ∷ lines) (suc n) = let s = sum_by-cons (λ (l : Line). l.count) l lines in let r = count_within lines n in omega arith

module _ (rows : List (SlotKey × Row)) (lines : List Line) (h : AreRowLines rows lines) (slot : ℕ) (line : Line) (shown : List (List (List ℕ × KeptChain))) (view : lines_from rows 0 lines ≡ shown) (within : slot < length shown) (read : line ≡ get_or lines slot line) where
  there : slot < length lines
  there = subst (λ n. slot < n) (ap length (sym view) ∙ slots_long rows 0 lines) within

  read_line : line ≡ get_or lines slot no_line
  read_line = read ∙ get_default lines slot line no_line there

  pub line_here : IsRowLine (row_of rows slot) line
  line_here = subst (IsRowLine (row_of rows slot)) (sym read_line) (h.each slot)

  pub line_counted : line.count ≤ length rows
  line_counted = let all = h.counted in let le = subst (λ (l : Line). l.count ≤ sum_by (λ (l : Line). l.count) lines) (sym read_line) (count_within lines slot) in omega arith

  pub shown_before : chain_entries_at slot shown ≡ linked_in (row_of rows slot) line
  shown_before = ap (chain_entries_at slot) (sym view) ∙ slot_at rows slot lines ∙ ap (linked_in (row_of rows slot)) (sym read_line)

  module _ (rows' : List (SlotKey × Row)) (line' : Line) (turn : IsLineTurn rows rows' slot line line') where
    pub lines_turned : AreRowLines rows' (set lines slot line')
    lines_turned = record {
      each = λ s. elim (cases_eq s slot) [
        | inl same ↦ subst (λ n. IsRowLine (row_of rows' n) (get_or (set lines slot line') n no_line)) (sym same) (subst (IsRowLine (row_of rows' slot)) (sym (get_or-set_same lines slot line' no_line there)) turn.stays)
        | inr differ ↦ subst (IsRowLine (row_of rows' s)) (sym (get_or-set_other lines slot s line' no_line differ)) (subst (λ f. IsRowLine f (get_or lines s no_line)) (sym (turn.others s differ)) (h.each s))
      ];
      counted =
          let sums = sum_by-set (λ (l : Line). l.count) lines slot line' line there in
          let was : (get_or lines slot line).count ≡ line.count = ap (λ (l : Line). l.count) (sym read) in
          let total = h.counted in
          let more = turn.counted in
          omega arith;
      unique = turn.unique;
    }

    pub shown_turned : lines_from rows' 0 (set lines slot line') ≡ set shown slot (linked_in (row_of rows' slot) line')
    shown_turned =
        let e : 0 + slot ≡ slot = omega arith in
        slots_set rows rows' 0 slot lines line' there (λ k differ. turn.others k (λ is. differ (is ∙ sym e)))
        ∙ ap (λ m. set (lines_from rows 0 lines) slot (linked_in (row_of rows' m) line')) e
        ∙ ap (λ v. set v slot (linked_in (row_of rows' slot) line')) view

    pub shown_after : chain_entries_at slot (lines_from rows' 0 (set lines slot line')) ≡ linked_in (row_of rows' slot) line'
    shown_after = ap (chain_entries_at slot) shown_turned ∙ get_or-set_same shown slot (linked_in (row_of rows' slot) line') [] within

    pub others_stay : OtherSlotsStay slot shown (lines_from rows' 0 (set lines slot line'))
    others_stay = shown_turned ∙ ap (set shown slot) (sym shown_after)

-- a write of the line that was there
pub set_same : (lines : List Line) (slot : ℕ) (line : Line) → line ≡ get_or lines slot line → set lines slot line ≡ lines
set_same [] slot line read = refl
set_same (l ∷ lines) zero line read = ap (λ k. k ∷ lines) read
set_same (l ∷ lines) (suc slot) line read = ap (λ ls. l ∷ ls) (set_same lines slot line read)

pub unchanged : (slot : ℕ) (shown : List (List (List ℕ × KeptChain))) → OtherSlotsStay slot shown shown
unchanged slot [] = refl
unchanged zero (es ∷ shown) = refl
unchanged (suc slot) (es ∷ shown) = ap (λ rest. es ∷ rest) (unchanged slot shown)

pub stay_twice : (slot : ℕ) (a b c : List (List (List ℕ × KeptChain))) → OtherSlotsStay slot a b → OtherSlotsStay slot b c → OtherSlotsStay slot a c
stay_twice slot a b c x y = y ∙ ap (λ v. set v slot (chain_entries_at slot c)) x ∙ twice slot a (chain_entries_at slot b) (chain_entries_at slot c)
  where
    twice : (slot : ℕ) (a : List (List (List ℕ × KeptChain))) (x y : List (List ℕ × KeptChain)) → set (set a slot x) slot y ≡ set a slot y
    twice slot [] x y = refl
    twice zero (e ∷ a) x y = refl
    twice (suc slot) (e ∷ a) x y = ap (λ rest. e ∷ rest) (twice slot a x y)

-- ---- more slots
slots_past : (rows : List (SlotKey × Row)) (first : ℕ) (lines : List Line) (more : ℕ) → lines_from rows first (lines ++ replicate more no_line) ≡ lines_from rows first lines ++ replicate more []
slots_past rows first [] zero = refl
slots_past rows first [] (suc more) = ap (λ rest. [] ∷ rest) (slots_past rows (suc first) [] more)
slots_past rows first (l ∷ lines) more = ap (λ rest. linked_in (row_of rows first) l ∷ rest) (slots_past rows (suc first) lines more)

pub shown_past : (rows : List (SlotKey × Row)) (lines : List Line) (more : ℕ) → lines_from rows 0 (lines ++ replicate more no_line) ≡ lines_from rows 0 lines ++ replicate more []
shown_past rows = slots_past rows 0

get_past : (lines : List Line) (more n : ℕ) → get_or (lines ++ replicate more no_line) n no_line ≡ get_or lines n no_line
get_past [] zero n = refl
get_past [] (suc more) zero = refl
get_past [] (suc more) (suc n) = get_past [] more n
get_past (l ∷ lines) more zero = refl
get_past (l ∷ lines) more (suc n) = get_past lines more n

sum_past : (lines : List Line) (more : ℕ) → sum_by (λ (l : Line). l.count) (lines ++ replicate more no_line) ≡ sum_by (λ (l : Line). l.count) lines
sum_past lines more = sum_by-append (λ (l : Line). l.count) lines (replicate more no_line) ∙ (let z = zeros more in omega arith)
  where
    zeros : (more : ℕ) → sum_by (λ (l : Line). l.count) (replicate more no_line) ≡ 0
    zeros zero = refl
    zeros (suc more) = let s = sum_by-cons (λ (l : Line). l.count) no_line (replicate more no_line) in let z = zeros more in omega arith

pub lines_past : (rows : List (SlotKey × Row)) (lines : List Line) (more : ℕ) → AreRowLines rows lines → AreRowLines rows (lines ++ replicate more no_line)
lines_past rows lines more h = record {
  each = λ s. subst (IsRowLine (row_of rows s)) (sym (get_past lines more s)) (h.each s);
  counted = sum_past lines more ∙ h.counted;
  unique = h.unique;
}

pub nothing_twice : {K : Type 0} (eq : K → K → Bool) → IsDistinct eq []
unfolding IsDistinct
nothing_twice eq = tt

pub no_lines : (rows : List (SlotKey × Row)) → rows ≡ [] → AreRowLines rows []
no_lines rows none = subst (λ rs. AreRowLines rs []) (sym none) (record { each = λ s. record { linked = tt; distinct = nothing_twice key_eq; whole = λ k. refl }; counted = refl; unique = nothing_twice same_place })

-- the number of slots stays
pub stay_long : (slot : ℕ) (a b : List (List (List ℕ × KeptChain))) → OtherSlotsStay slot a b → length b ≡ length a
stay_long slot a b stay = ap length stay ∙ long slot a (chain_entries_at slot b)
  where
    long : (slot : ℕ) (a : List (List (List ℕ × KeptChain))) (x : List (List ℕ × KeptChain)) → length (set a slot x) ≡ length a
    long slot [] x = refl
    long zero (e ∷ a) x = refl
    long (suc slot) (e ∷ a) x = ap suc (long slot a x)

pub still_there : (slot : ℕ) (a b : List (List (List ℕ × KeptChain))) → OtherSlotsStay slot a b → slot < length a → slot < length b
still_there slot a b stay lt = subst (λ n. slot < n) (sym (stay_long slot a b stay)) lt

-- ---- what is shown of any slot
module _ (rows : List (SlotKey × Row)) (lines : List Line) (h : AreRowLines rows lines) (shown : List (List (List ℕ × KeptChain))) (view : lines_from rows 0 lines ≡ shown) (slot : ℕ) where
  pub entries_here : chain_entries_at slot shown ≡ linked_in (row_of rows slot) (get_or lines slot no_line)
  entries_here = ap (chain_entries_at slot) (sym view) ∙ slot_at rows slot lines

  pub distinct_here : IsDistinct key_eq (keys_of (chain_entries_at slot shown))
  distinct_here = subst (λ es. IsDistinct key_eq (keys_of es)) (sym entries_here) (h.each slot).distinct

  pub whole_here : (key : List ℕ) → lookup (key_eq key) (chain_entries_at slot shown) ≡ chain_in (row_of rows slot key)
  whole_here key = ap (lookup (key_eq key)) entries_here ∙ (h.each slot).whole key

module _ (rows : List (SlotKey × Row)) (lines : List Line) (h : AreRowLines rows lines) (slot : ℕ) (line : Line) (shown : List (List (List ℕ × KeptChain))) (view : lines_from rows 0 lines ≡ shown) (within : slot < length shown) (read : line ≡ get_or lines slot line) where
  -- a key's chain, before and after
  pub roomy_line : (key : List ℕ) → IsRoomy key (chain_entries_at slot shown) → HasRecordRoom (chain_in (row_of rows slot key))
  roomy_line key = subst HasRecordRoom (whole_here rows lines h shown view slot key)

  module _ (rows' : List (SlotKey × Row)) (line' : Line) (turn : IsLineTurn rows rows' slot line line') where
    pub room_turned : (key : List ℕ) → HasRecordRoom (chain_in (row_of rows' slot key)) → IsRoomy key (chain_entries_at slot (lines_from rows' 0 (set lines slot line')))
    room_turned key room = subst HasRecordRoom (sym (ap (lookup (key_eq key)) (shown_after rows lines h slot line shown view within read rows' line' turn) ∙ turn.stays.whole key)) room

    pub distinct_turned : IsDistinct key_eq (keys_of (chain_entries_at slot (lines_from rows' 0 (set lines slot line'))))
    distinct_turned = subst (λ es. IsDistinct key_eq (keys_of es)) (sym (shown_after rows lines h slot line shown view within read rows' line' turn)) turn.stays.distinct

    pub chains_turned : chains_at slot (lines_from rows' 0 (set lines slot line')) ≡ chains_of (linked_in (row_of rows' slot) line')
    chains_turned = ap chains_of (shown_after rows lines h slot line shown view within read rows' line' turn)

  pub chains_before : chains_at slot shown ≡ chains_of (linked_in (row_of rows slot) line)
  chains_before = ap chains_of (shown_before rows lines h slot line shown view within read)
