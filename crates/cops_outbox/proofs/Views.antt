-- Facts about the queues of all slots and data centres.
use Rattle.std.proofs.Common.{◌≡◌, ◌≢◌, inl, inr, ℕ, zero, suc, ◌+◌, ◌-◌, ◌<◌, ◌≤◌, nat_lt, Bool, true, false, not, ◌&&◌, ◌||◌, List, [], ◌∷◌, ◌++◌, length, map, refl, sym, ap, ◌∙◌, subst, arith, get_or, set, eq-eqb}
use Rattle.std.specs.Prelude.{Option, ◌==◌, nat_le, if◌then◌else◌, drop, replicate, count_by, is_some}
use Rattle.std.specs.List.{list_any, range_with_len, sum_by, AllByRecursion}
use Rattle.std.proofs.lemmas.Bool.{cases_eq}
use Rattle.std.proofs.lemmas.Bool.Decides.{nat_tests}
use Rattle.std.proofs.lemmas.List.{get_or_append_left, get_or-append_right, get_or-set_same, get_or-set_other, length-append, length-set, set-get_or, map-append, map-set, get_or-map, length-map}
use Rattle.std.proofs.lemmas.List.Sums.{sum_by-append, sum_by-set, sum_by-cons}
use Rattle.cops_types.specs.declared.records.EntryParts.{EntryParts as Entry}
use Rattle.cops_outbox.specs.declared.rows.Row.{Row}
use Rattle.cops_outbox.specs.declared.rows.Span.{Span}
use Rattle.cops_outbox.specs.declared.rows.Line.{Line}
use Rattle.cops_outbox.specs.Queues.{Queues, Waiting, queue_of, is_full, with_last, without_front, pushed, without_slot}
use Rattle.cops_outbox.specs.Lines.{AreLines, IsCleared, IsEmpty, IsLine, IsLineChange, IsLonger, IsNeeded, IsShorter, entries_by_slot, entries_in, queues_in, span_at}
use Rattle.cops_outbox.proofs.Chains.{chain_length}
use Rattle.cops_outbox.proofs.Lines.{empty_chain, empty_entries, test_false}

-- ---- a function of each data centre

range_read : {X : Type 0} (f : ℕ → X) (a n i : ℕ) (d : X) → i < n → get_or (map f (range_with_len a n)) i d ≡ f (a + i)
range_read f a zero i d lt = absurd (omega arith)
range_read f a (suc n) zero d lt = let e : a ≡ a + 0 = omega arith in ap f e
range_read f a (suc n) (suc i) d lt = let e : (a + 1) + i ≡ a + suc i = omega arith in range_read f (a + 1) n i d (omega arith) ∙ ap f e

pub length_range : {X : Type 0} (f : ℕ → X) (a n : ℕ) → length (map f (range_with_len a n)) ≡ n
length_range f a zero = refl
length_range f a (suc n) = ap suc (length_range f (a + 1) n)

range_same : {X : Type 0} (f g : ℕ → X) (a n : ℕ) → ((k : ℕ) → k < n → f (a + k) ≡ g (a + k)) → map f (range_with_len a n) ≡ map g (range_with_len a n)
range_same f g a zero same = refl
range_same f g a (suc n) same =
    let here : a + 0 ≡ a = omega arith in
    let first : f a ≡ g a = ap f (sym here) ∙ same 0 (omega arith) ∙ ap g here in
    let rest = range_same f g (a + 1) n (λ k lt. let e : (a + 1) + k ≡ a + suc k = omega arith in ap f e ∙ same (suc k) (omega arith) ∙ ap g (sym e)) in
    ap (λ x. x ∷ map f (range_with_len (a + 1) n)) first ∙ ap (λ xs. g a ∷ xs) rest

range_set : {X : Type 0} (f g : ℕ → X) (a n i : ℕ) (x : X) → i < n → f (a + i) ≡ x → ((k : ℕ) → k < n → k ≢ i → f (a + k) ≡ g (a + k)) → map f (range_with_len a n) ≡ set (map g (range_with_len a n)) i x
range_set f g a zero i x lt is same = absurd (omega arith)
range_set f g a (suc n) zero x lt is same =
    let here : a + 0 ≡ a = omega arith in
    let rest = range_same f g (a + 1) n (λ k lt. let e : (a + 1) + k ≡ a + suc k = omega arith in ap f e ∙ same (suc k) (omega arith) (omega arith) ∙ ap g (sym e)) in
    ap (λ y. y ∷ map f (range_with_len (a + 1) n)) (ap f (sym here) ∙ is) ∙ ap (λ xs. x ∷ xs) rest
range_set f g a (suc n) (suc i) x lt is same =
    let here : a + 0 ≡ a = omega arith in
    let first : f a ≡ g a = ap f (sym here) ∙ same 0 (omega arith) (omega arith) ∙ ap g here in
    let at : (a + 1) + i ≡ a + suc i = omega arith in
    let rest = range_set f g (a + 1) n i x (omega arith) (ap f at ∙ is) (λ k lt differ. let e : (a + 1) + k ≡ a + suc k = omega arith in ap f e ∙ same (suc k) (omega arith) (omega arith) ∙ ap g (sym e)) in
    ap (λ y. y ∷ map f (range_with_len (a + 1) n)) first ∙ ap (λ xs. g a ∷ xs) rest

range_pushed : (f g : ℕ → List (List Entry)) (own : ℕ) (w : Waiting) (a n : ℕ) → ((k : ℕ) → k < n → f (a + k) ≡ (if a + k == own then g (a + k) else with_last w (g (a + k)))) → map f (range_with_len a n) ≡ pushed a own w (map g (range_with_len a n))
range_pushed f g own w a zero same = refl
range_pushed f g own w a (suc n) same =
    let here : a + 0 ≡ a = omega arith in
    let first : f a ≡ (if a == own then g a else with_last w (g a)) = ap f (sym here) ∙ same 0 (omega arith) ∙ ap (λ m. if m == own then g m else with_last w (g m)) here in
    let rest = range_pushed f g own w (a + 1) n (λ k lt. let e : (a + 1) + k ≡ a + suc k = omega arith in ap f e ∙ same (suc k) (omega arith) ∙ ap (λ m. if m == own then g m else with_last w (g m)) (sym e)) in
    ap (λ x. x ∷ map f (range_with_len (a + 1) n)) first ∙ ap (λ xs. (if a == own then g a else with_last w (g a)) ∷ xs) rest

range_any : (p q : ℕ → Bool) (a n : ℕ) → ((k : ℕ) → k < n → p (a + k) ≡ q (a + k)) → list_any p (range_with_len a n) ≡ list_any q (range_with_len a n)
range_any p q a zero same = refl
range_any p q a (suc n) same =
    let here : a + 0 ≡ a = omega arith in
    let first : p a ≡ q a = ap p (sym here) ∙ same 0 (omega arith) ∙ ap q here in
    let rest = range_any p q (a + 1) n (λ k lt. let e : (a + 1) + k ≡ a + suc k = omega arith in ap p e ∙ same (suc k) (omega arith) ∙ ap q (sym e)) in
    ap (λ b. b || list_any p (range_with_len (a + 1) n)) first ∙ ap (λ b. q a || b) rest

range_replicate : {X : Type 0} (f : ℕ → X) (a n : ℕ) (x : X) → ((k : ℕ) → f k ≡ x) → map f (range_with_len a n) ≡ replicate n x
range_replicate f a zero x same = refl
range_replicate f a (suc n) x same = ap (λ y. y ∷ map f (range_with_len (a + 1) n)) (same a) ∙ ap (λ xs. x ∷ xs) (range_replicate f (a + 1) n x same)

range_without : (f : ℕ → List (List Entry)) (slot a n : ℕ) → map (λ dc. set (f dc) slot []) (range_with_len a n) ≡ without_slot slot (map f (range_with_len a n))
range_without f slot a zero = refl
range_without f slot a (suc n) = ap (λ (qs : List (List (List Entry))). set (f a) slot [] ∷ qs) (range_without f slot (a + 1) n)

-- ---- a function of each line

map_same : (f g : Line → List Entry) (lines : List Line) → ((s : ℕ) (l : Line) → s < length lines → l ≡ get_or lines s l → f l ≡ g l) → map f lines ≡ map g lines
map_same f g [] same = refl
map_same f g (l ∷ lines) same = ap (λ x. x ∷ map f lines) (same 0 l (omega arith) refl) ∙ ap (λ xs. g l ∷ xs) (map_same f g lines (λ s k lt is. same (suc s) k (omega arith) is))

set_same : (f g : Line → List Entry) (lines : List Line) (slot : ℕ) (es : List Entry) → ((s : ℕ) (l : Line) → s ≢ slot → s < length lines → l ≡ get_or lines s l → f l ≡ g l) → set (map f lines) slot es ≡ set (map g lines) slot es
set_same f g [] slot es same = refl
set_same f g (l ∷ lines) zero es same = ap (λ xs. es ∷ xs) (map_same f g lines (λ s k lt is. same (suc s) k (omega arith) (omega arith) is))
set_same f g (l ∷ lines) (suc slot) es same =
    ap (λ x. x ∷ set (map f lines) slot es) (same 0 l (omega arith) (omega arith) refl) ∙ ap (λ xs. g l ∷ xs) (set_same f g lines slot es (λ s k differ lt is. same (suc s) k (omega arith) (omega arith) is))

-- ---- what is shown of a line

pub slot_read : (rows : List (Option Row)) (lines : List Line) (dc slot : ℕ) (line : Line) → slot < length lines → line ≡ get_or lines slot line → get_or (entries_by_slot rows lines dc) slot [] ≡ entries_in rows (span_at dc line)
slot_read rows lines dc slot line lt is = get_or-map (λ (l : Line). entries_in rows (span_at dc l)) lines slot line [] lt ∙ ap (λ (l : Line). entries_in rows (span_at dc l)) (sym is)

pub queue_read : (rows : List (Option Row)) (lines : List Line) (data_centres dc slot : ℕ) (line : Line) → dc < data_centres → slot < length lines → line ≡ get_or lines slot line
    → get_or (get_or (queues_in rows lines data_centres) dc []) slot [] ≡ entries_in rows (span_at dc line)
queue_read rows lines data_centres dc slot line within lt is =
    let e : 0 + dc ≡ dc = omega arith in
    ap (λ (es : List (List Entry)). get_or es slot []) (range_read (entries_by_slot rows lines) 0 data_centres dc [] within ∙ ap (entries_by_slot rows lines) e) ∙ slot_read rows lines dc slot line lt is

pub slots_long : (rows : List (Option Row)) (lines : List Line) (data_centres dc : ℕ) → dc < data_centres → length (get_or (queues_in rows lines data_centres) dc []) ≡ length lines
slots_long rows lines data_centres dc within =
    let e : 0 + dc ≡ dc = omega arith in
    ap (λ (es : List (List Entry)). length es) (range_read (entries_by_slot rows lines) 0 data_centres dc [] within ∙ ap (entries_by_slot rows lines) e) ∙ length-map lines (λ (l : Line). entries_in rows (span_at dc l))

-- as many entries as the line says
pub queue_length : (rows : List (Option Row)) (own tenants data_centres : ℕ) (lines : List Line) (dc slot : ℕ) (line : Line) → AreLines rows own tenants data_centres lines → dc < data_centres → slot < tenants → line ≡ get_or lines slot line
    → (span_at dc line).count ≡ length (get_or (get_or (queues_in rows lines data_centres) dc []) slot [])
queue_length rows own tenants data_centres lines dc slot line h within lt is =
    let own_line = h.each slot line lt is in
    sym (ap (λ (es : List Entry). length es) (queue_read rows lines data_centres dc slot line within (omega (arith, h.all)) is) ∙ chain_length rows slot line.last (span_at dc line).count (span_at dc line).first (own_line.waits dc))

pub full_is : (rows : List (Option Row)) (own tenants data_centres : ℕ) (lines : List Line) (slot limit : ℕ) (line : Line) → AreLines rows own tenants data_centres lines → slot < tenants → line ≡ get_or lines slot line
    → list_any (λ dc. not (dc == own) && nat_le limit (span_at dc line).count) (range_with_len 0 (length line.waits.items))
    ≡ list_any (λ dc. not (dc == own) && nat_le limit (length (get_or (get_or (queues_in rows lines data_centres) dc []) slot []))) (range_with_len 0 (length (queues_in rows lines data_centres)))
full_is rows own tenants data_centres lines slot limit line h lt is =
    let own_line = h.each slot line lt is in
    ap (λ n. list_any (λ dc. not (dc == own) && nat_le limit (span_at dc line).count) (range_with_len 0 n)) own_line.all
    ∙ range_any (λ dc. not (dc == own) && nat_le limit (span_at dc line).count) (λ dc. not (dc == own) && nat_le limit (length (get_or (get_or (queues_in rows lines data_centres) dc []) slot []))) 0 data_centres
    (λ k within. ap (λ n. not (0 + k == own) && nat_le limit n) (queue_length rows own tenants data_centres lines (0 + k) slot line h (omega arith) lt is))
    ∙ ap (λ n. list_any (λ dc. not (dc == own) && nat_le limit (length (get_or (get_or (queues_in rows lines data_centres) dc []) slot []))) (range_with_len 0 n)) (sym (length_range (entries_by_slot rows lines) 0 data_centres))

-- ---- one call

module _ (rows rows' : List (Option Row)) (own tenants data_centres slot : ℕ) (lines : List Line) (line line' : Line)
    (h : AreLines rows own tenants data_centres lines)
    (lt : slot < tenants)
    (is : line ≡ get_or lines slot line) where
  there : slot < length lines
  there = omega (arith, h.all)

  here : IsLine rows own data_centres slot line
  here = h.each slot line lt is

  other_line : IsLineChange rows rows' own slot line line' → (other : ℕ) (l : Line) → other ≢ slot → IsLine rows own data_centres other l → IsLine rows' own data_centres other l
  other_line turn other l differ k = record {
    kept = (turn.others other l.last l.kept.count l.kept.first differ k.kept).0;
    all = k.all;
    waits = λ dc. (turn.others other l.last (span_at dc l).count (span_at dc l).first differ (k.waits dc)).0;
    within = k.within;
    itself = k.itself;
  }

  pub lines_after : IsLineChange rows rows' own slot line line' → IsNeeded line' → AreLines rows' own tenants data_centres (set lines slot line')
  lines_after turn needed = record {
    all = length-set lines slot line' ∙ h.all;
    counted =
        let sums = sum_by-set (λ (l : Line). l.kept.count) lines slot line' line there in
        let was : (get_or lines slot line).kept.count ≡ line.kept.count = ap (λ (l : Line). l.kept.count) (sym is) in
        let total = h.counted in
        let more = turn.counted in
        omega arith;
    each = λ s l within read. elim (cases_eq s slot) [
      | inl same ↦
          let found : l ≡ line' = read ∙ ap (λ n. get_or (set lines slot line') n l) same ∙ get_or-set_same lines slot line' l there in
          subst (λ n. IsLine rows' own data_centres n l) (sym same) (subst (λ (k : Line). IsLine rows' own data_centres slot k) (sym found) (subst (λ n. IsLine rows' own n slot line') here.all turn.stays))
      | inr differ ↦ other_line turn s l differ (h.each s l within (read ∙ get_or-set_other lines slot s line' l differ))
    ];
    needed = λ s l within read. elim (cases_eq s slot) [
      | inl same ↦ subst IsNeeded (sym (read ∙ ap (λ n. get_or (set lines slot line') n l) same ∙ get_or-set_same lines slot line' l there)) needed
      | inr differ ↦ h.needed s l within (read ∙ get_or-set_other lines slot s line' l differ)
    ];
  }

  slots_after : IsLineChange rows rows' own slot line line' → (dc : ℕ) → entries_by_slot rows' (set lines slot line') dc ≡ set (entries_by_slot rows lines dc) slot (entries_in rows' (span_at dc line'))
  slots_after turn dc =
      map-set (λ (l : Line). entries_in rows' (span_at dc l)) lines slot line'
      ∙ set_same (λ (l : Line). entries_in rows' (span_at dc l)) (λ (l : Line). entries_in rows (span_at dc l)) lines slot (entries_in rows' (span_at dc line'))
      (λ s l differ within read. (turn.others s l.last (span_at dc l).count (span_at dc l).first differ ((h.each s l (omega (arith, h.all)) read).waits dc)).1)

  same_slots : (dc : ℕ) (es : List Entry) → es ≡ entries_in rows (span_at dc line) → set (entries_by_slot rows lines dc) slot es ≡ entries_by_slot rows lines dc
  same_slots dc es e = ap (set (entries_by_slot rows lines dc) slot) (e ∙ sym (slot_read rows lines dc slot line there is)) ∙ set-get_or (entries_by_slot rows lines dc) slot []

  pub pushed_is : (entry : Entry) → IsLonger rows rows' own slot entry line line' → queues_in rows' (set lines slot line') data_centres ≡ pushed 0 own (record { slot = slot; entry = entry }) (queues_in rows lines data_centres)
  pushed_is entry longer = range_pushed (entries_by_slot rows' (set lines slot line')) (entries_by_slot rows lines) own (record { slot = slot; entry = entry }) 0 data_centres (λ k within. at (0 + k) (omega arith))
    where
      at : (dc : ℕ) → dc < data_centres → entries_by_slot rows' (set lines slot line') dc ≡ (if dc == own then entries_by_slot rows lines dc else with_last (record { slot = slot; entry = entry }) (entries_by_slot rows lines dc))
      at dc within = elim (cases_eq dc own) [
        | inl same ↦
            slots_after longer.turn dc ∙ same_slots dc (entries_in rows' (span_at dc line')) (subst (λ n. entries_in rows' (span_at n line') ≡ entries_in rows (span_at n line)) (sym same) longer.itself)
            ∙ ap (λ b. if b then entries_by_slot rows lines dc else with_last (record { slot = slot; entry = entry }) (entries_by_slot rows lines dc)) (sym (eq-eqb dc own same))
        | inr differ ↦
            slots_after longer.turn dc
            ∙ ap (set (entries_by_slot rows lines dc) slot) (longer.entries dc (omega (arith, here.all)) differ ∙ ap (λ (es : List Entry). es ++ entry ∷ []) (sym (slot_read rows lines dc slot line there is)))
            ∙ ap (λ b. if b then entries_by_slot rows lines dc else with_last (record { slot = slot; entry = entry }) (entries_by_slot rows lines dc)) (sym (test_false dc own differ))
      ]

  pub acked_is : (dc : ℕ) → dc < data_centres → IsShorter rows rows' own slot dc line line' → queues_in rows' (set lines slot line') data_centres ≡ set (queues_in rows lines data_centres) dc (without_front slot (get_or (queues_in rows lines data_centres) dc []))
  acked_is dc within shorter =
      let e : 0 + dc ≡ dc = omega arith in
      let read : get_or (queues_in rows lines data_centres) dc [] ≡ entries_by_slot rows lines dc = range_read (entries_by_slot rows lines) 0 data_centres dc [] within ∙ ap (entries_by_slot rows lines) e in
      range_set (entries_by_slot rows' (set lines slot line')) (entries_by_slot rows lines) 0 data_centres dc (without_front slot (get_or (queues_in rows lines data_centres) dc [])) within
      (ap (entries_by_slot rows' (set lines slot line')) e ∙ slots_after shorter.turn dc ∙ ap (set (entries_by_slot rows lines dc) slot) (shorter.entries ∙ ap (drop 1) (sym (slot_read rows lines dc slot line there is))) ∙ ap (without_front slot) (sym read))
      (λ k inside differ. slots_after shorter.turn (0 + k) ∙ same_slots (0 + k) (entries_in rows' (span_at (0 + k) line')) (shorter.elsewhere (0 + k) (omega arith)))

  pub cleared_is : IsCleared rows rows' own slot line line' → queues_in rows' (set lines slot line') data_centres ≡ without_slot slot (queues_in rows lines data_centres)
  cleared_is cleared =
      range_same (entries_by_slot rows' (set lines slot line')) (λ dc. set (entries_by_slot rows lines dc) slot []) 0 data_centres
      (λ k within. slots_after cleared.turn (0 + k) ∙ ap (set (entries_by_slot rows lines (0 + k)) slot) (empty_entries rows' (span_at (0 + k) line') (cleared.waits (0 + k))))
      ∙ range_without (entries_by_slot rows lines) slot 0 data_centres

-- ---- what joins all queues

pushed_at : (dc own : ℕ) (w : Waiting) (queues : List (List (List Entry))) (at : ℕ) → at < length queues → get_or (pushed dc own w queues) at [] ≡ (if dc + at == own then get_or queues at [] else with_last w (get_or queues at []))
pushed_at dc own w [] at lt = absurd (omega arith)
pushed_at dc own w (slots ∷ queues) zero lt = let same : dc ≡ dc + 0 = omega arith in ap (λ n. if n == own then slots else with_last w slots) same
pushed_at dc own w (slots ∷ queues) (suc at) lt =
    let same : dc + 1 + at ≡ dc + suc at = omega arith in
    pushed_at (dc + 1) own w queues at (omega arith) ∙ ap (λ n. if n == own then get_or queues at [] else with_last w (get_or queues at [])) same

pub pushed_entry : (own : ℕ) (w : Waiting) (queues : List (List (List Entry))) (at : ℕ) → at < length queues → at ≢ own → w.slot < length (get_or queues at []) → get_or (get_or (pushed 0 own w queues) at []) w.slot [] ≡ get_or (get_or queues at []) w.slot [] ++ w.entry ∷ []
pushed_entry own w queues at lt differ inside =
    let same : 0 + at ≡ at = omega arith in
    ap (λ (slots : List (List Entry)). get_or slots w.slot [])
    (pushed_at 0 own w queues at lt ∙ ap (λ n. if n == own then get_or queues at [] else with_last w (get_or queues at [])) same ∙ ap (λ b. if b then get_or queues at [] else with_last w (get_or queues at [])) (test_false at own differ))
    ∙ get_or-set_same (get_or queues at []) w.slot (get_or (get_or queues at []) w.slot [] ++ w.entry ∷ []) [] inside

pub pushed_other : (dc own : ℕ) (w : Waiting) (queues : List (List (List Entry))) (other at : ℕ) → other ≢ w.slot → get_or (get_or (pushed dc own w queues) at []) other [] ≡ get_or (get_or queues at []) other []
pushed_other dc own w [] other at differ = refl
pushed_other dc own w (slots ∷ queues) other zero differ = by (dc == own)
  where
    by : (b : Bool) → get_or (if b then slots else with_last w slots) other [] ≡ get_or slots other []
    by true = refl
    by false = get_or-set_other slots w.slot other (get_or slots w.slot [] ++ w.entry ∷ []) [] differ
pushed_other dc own w (slots ∷ queues) other (suc at) differ = pushed_other (dc + 1) own w queues other at differ

-- with no other data centre nothing is sent
pub alone : (own least : ℕ) (w : Waiting) (f : ℕ → List (List Entry)) (data_centres : ℕ) → ((dc : ℕ) → dc ≢ own → least ≤ dc) → data_centres ≤ least → map f (range_with_len 0 data_centres) ≡ pushed 0 own w (map f (range_with_len 0 data_centres))
alone own least w f data_centres is le = range_pushed f f own w 0 data_centres (λ k lt. elim (cases_eq (0 + k) own) [
  | inl same ↦ ap (λ b. if b then f (0 + k) else with_last w (f (0 + k))) (sym (eq-eqb (0 + k) own same))
  | inr differ ↦ let far = is (0 + k) differ in absurd (omega arith)
])

-- ---- what leaves one queue

pub not_acked : (slot dc : ℕ) (v : Queues) (b : Bool) → false ≡ b → v ≡ record v { queues = set v.queues dc (if b then without_front slot (get_or v.queues dc []) else get_or v.queues dc []) }
not_acked slot dc v b not_first =
    ap (λ (queues : List (List (List Entry))). record v { queues = queues }) (sym (set-get_or v.queues dc []))
    ∙ ap (λ t. record v { queues = set v.queues dc (if t then without_front slot (get_or v.queues dc []) else get_or v.queues dc []) }) not_first

pub acked_entry : (slot dc : ℕ) (queues : List (List (List Entry))) → dc < length queues → slot < length (get_or queues dc []) → get_or (get_or (set queues dc (without_front slot (get_or queues dc []))) dc []) slot [] ≡ drop 1 (get_or (get_or queues dc []) slot [])
acked_entry slot dc queues lt inside =
    ap (λ (slots : List (List Entry)). get_or slots slot []) (get_or-set_same queues dc (without_front slot (get_or queues dc [])) [] lt)
    ∙ get_or-set_same (get_or queues dc []) slot (drop 1 (get_or (get_or queues dc []) slot [])) [] inside

pub acked_elsewhere : (slot dc : ℕ) (slots : List (List Entry)) (queues : List (List (List Entry))) (at : ℕ) → at ≢ dc → get_or (get_or (set queues dc slots) at []) slot [] ≡ get_or (get_or queues at []) slot []
acked_elsewhere slot dc slots queues at differ = ap (λ (ss : List (List Entry)). get_or ss slot []) (get_or-set_other queues dc at slots [] differ)

pub acked_other : (slot dc : ℕ) (queues : List (List (List Entry))) (other at : ℕ) → dc < length queues → other ≢ slot → get_or (get_or (set queues dc (without_front slot (get_or queues dc []))) at []) other [] ≡ get_or (get_or queues at []) other []
acked_other slot dc queues other at lt differ = elim (cases_eq at dc) [
  | inl same ↦
      subst (λ m. get_or (get_or (set queues dc (without_front slot (get_or queues dc []))) m []) other [] ≡ get_or (get_or queues m []) other []) (sym same)
      (ap (λ (ss : List (List Entry)). get_or ss other []) (get_or-set_same queues dc (without_front slot (get_or queues dc [])) [] lt)
      ∙ get_or-set_other (get_or queues dc []) slot other (drop 1 (get_or (get_or queues dc []) slot [])) [] differ)
  | inr away ↦ acked_elsewhere other dc (without_front slot (get_or queues dc [])) queues at away
]

-- ---- what leaves all queues

none_of_slot : (slots : List (List Entry)) (slot : ℕ) → get_or (set slots slot []) slot [] ≡ []
none_of_slot [] slot = refl
none_of_slot (es ∷ slots) zero = refl
none_of_slot (es ∷ slots) (suc slot) = none_of_slot slots slot

pub dropped_entries : (slot : ℕ) (queues : List (List (List Entry))) (dc : ℕ) → get_or (get_or (without_slot slot queues) dc []) slot [] ≡ []
dropped_entries slot [] dc = refl
dropped_entries slot (slots ∷ queues) zero = none_of_slot slots slot
dropped_entries slot (slots ∷ queues) (suc dc) = dropped_entries slot queues dc

pub without_slot_len : (slot : ℕ) (queues : List (List (List Entry))) → length (without_slot slot queues) ≡ length queues
without_slot_len slot [] = refl
without_slot_len slot (slots ∷ queues) = ap suc (without_slot_len slot queues)

pub dropped_other : (slot : ℕ) (queues : List (List (List Entry))) (other dc : ℕ) → other ≢ slot → get_or (get_or (without_slot slot queues) dc []) other [] ≡ get_or (get_or queues dc []) other []
dropped_other slot [] other dc differ = refl
dropped_other slot (slots ∷ queues) other zero differ = get_or-set_other slots slot other [] [] differ
dropped_other slot (slots ∷ queues) other (suc dc) differ = dropped_other slot queues other dc differ

-- ---- a new outbox

sum_none : (lines : List Line) (data_centres : ℕ) → ((s : ℕ) (l : Line) → s < length lines → l ≡ get_or lines s l → IsEmpty data_centres l) → sum_by (λ (l : Line). l.kept.count) lines ≡ 0
sum_none [] data_centres each = refl
sum_none (l ∷ lines) data_centres each =
    let first : l.kept.count ≡ 0 = ap (λ (s : Span). s.count) (each 0 l (omega arith) refl).kept in
    let rest = sum_none lines data_centres (λ s k lt is. each (suc s) k (omega arith) is) in
    sum_by-cons (λ (l : Line). l.kept.count) l lines ∙ (let both : l.kept.count + sum_by (λ (l : Line). l.kept.count) lines ≡ 0 = omega arith in both)

empty_line : (rows : List (Option Row)) (own data_centres s : ℕ) (l : Line) → IsEmpty data_centres l → IsLine rows own data_centres s l
empty_line rows own data_centres s l empty = record {
  kept = empty_chain rows s l.last l.kept (ap (λ (k : Span). k.count) empty.kept);
  all = empty.all;
  waits = λ dc. empty_chain rows s l.last (span_at dc l) (ap (λ (k : Span). k.count) (empty.waits dc));
  within = λ dc. let zero_is : (span_at dc l).count ≡ 0 = ap (λ (k : Span). k.count) (empty.waits dc) in omega arith;
  itself = ap (λ (k : Span). k.count) (empty.waits own);
}

pub lines_empty : (rows : List (Option Row)) (own tenants data_centres : ℕ) (lines : List Line) → rows ≡ [] → length lines ≡ tenants → ((s : ℕ) (l : Line) → s < length lines → l ≡ get_or lines s l → IsEmpty data_centres l) → AreLines rows own tenants data_centres lines
lines_empty rows own tenants data_centres lines none long each = record {
  all = long;
  counted = sum_none lines data_centres each ∙ ap (count_by is_some) (sym none);
  each = λ s l lt is. empty_line rows own data_centres s l (each s l (omega arith) is);
  needed = λ s l lt is. inl (ap (λ (k : Span). k.count) (each s l (omega arith) is).kept);
}

map_replicate : (f : Line → List Entry) (lines : List Line) → ((s : ℕ) (l : Line) → s < length lines → l ≡ get_or lines s l → f l ≡ []) → map f lines ≡ replicate (length lines) []
map_replicate f [] same = refl
map_replicate f (l ∷ lines) same = ap (λ x. x ∷ map f lines) (same 0 l (omega arith) refl) ∙ ap (λ xs. [] ∷ xs) (map_replicate f lines (λ s k lt is. same (suc s) k (omega arith) is))

pub queues_empty : (rows : List (Option Row)) (tenants data_centres : ℕ) (lines : List Line) → length lines ≡ tenants → ((s : ℕ) (l : Line) → s < length lines → l ≡ get_or lines s l → IsEmpty data_centres l) → queues_in rows lines data_centres ≡ replicate data_centres (replicate tenants [])
queues_empty rows tenants data_centres lines long each =
    range_replicate (entries_by_slot rows lines) 0 data_centres (replicate tenants [])
    (λ dc. map_replicate (λ (l : Line). entries_in rows (span_at dc l)) lines (λ s l lt is. empty_entries rows (span_at dc l) (ap (λ (k : Span). k.count) ((each s l lt is).waits dc))) ∙ ap (λ n. replicate n []) long)

pub empty_at : (data_centres : ℕ) (lines : List Line) → AllByRecursion (IsEmpty data_centres) lines → (s : ℕ) (l : Line) → s < length lines → l ≡ get_or lines s l → IsEmpty data_centres l
empty_at data_centres [] h s l lt is = absurd (omega arith)
empty_at data_centres (x ∷ lines) h zero l lt is = subst (IsEmpty data_centres) (sym is) h.0
empty_at data_centres (x ∷ lines) h (suc s) l lt is = empty_at data_centres lines h.1 s l (omega arith) is

-- a list that is filled up with what is read past its end
padded_read : {A : Type 0} (xs : List A) (n i : ℕ) (d : A) → get_or (xs ++ replicate n d) i d ≡ get_or xs i d
padded_read [] zero i d = refl
padded_read [] (suc n) zero d = refl
padded_read [] (suc n) (suc i) d = padded_read [] n i d
padded_read (x ∷ xs) n zero d = refl
padded_read (x ∷ xs) n (suc i) d = padded_read xs n i d

-- ---- more slots, in whose queues nothing waits

module _ (rows : List (Option Row)) (own tenants data_centres : ℕ) (lines more : List Line)
    (h : AreLines rows own tenants data_centres lines)
    (none : AllByRecursion (IsEmpty data_centres) more) where
  -- a line of those that were there, or of those that are new
  at_line : (P : ℕ → Line → Type 0) (s : ℕ) (l : Line) → l ≡ get_or (lines ++ more) s l → s < length (lines ++ more)
      → (s < tenants → l ≡ get_or lines s l → P s l) → (IsEmpty data_centres l → P s l) → P s l
  at_line P s l is lt old new = by (nat_lt s tenants) refl
    where
      by : (b : Bool) → nat_lt s tenants ≡ b → P s l
      by true e =
          let within : s < tenants = grind (arith, nat_tests) in
          let long = h.all in
          old within (is ∙ get_or_append_left lines more l s (omega arith))
      by false e =
          let past : tenants ≤ s = grind (arith, nat_tests) in
          let long = length-append lines more in
          let all = h.all in
          new (empty_at data_centres more none (s - tenants) l (omega arith) (is ∙ get_or-append_right lines more tenants s l h.all past))

  pub lines_past : (count : ℕ) → count ≡ length (lines ++ more) → AreLines rows own count data_centres (lines ++ more)
  lines_past count long = record {
    all = sym long;
    counted = sum_by-append (λ (l : Line). l.kept.count) lines more ∙ (let sum = sum_none more data_centres (empty_at data_centres more none) in let were = h.counted in omega arith);
    each = λ s l lt is. at_line (λ s l. IsLine rows own data_centres s l) s l is (omega arith) (h.each s l) (λ empty. empty_line rows own data_centres s l empty);
    needed = λ s l lt is. at_line (λ s l. IsNeeded l) s l is (omega arith) (h.needed s l) (λ empty. inl (ap (λ (k : Span). k.count) empty.kept));
  }

  -- each queue is as before, and empty if the slot is new
  pub queue_past : (s dc : ℕ) → get_or (get_or (queues_in rows (lines ++ more) data_centres) dc []) s [] ≡ get_or (get_or (queues_in rows lines data_centres) dc []) s []
  queue_past s dc = at 0 data_centres dc
    where
      slot_past : (dc : ℕ) → get_or (entries_by_slot rows (lines ++ more) dc) s [] ≡ get_or (entries_by_slot rows lines dc) s []
      slot_past dc =
          ap (λ es. get_or es s []) (map-append (λ (l : Line). entries_in rows (span_at dc l)) lines more
          ∙ ap (λ es. entries_by_slot rows lines dc ++ es) (map_replicate (λ (l : Line). entries_in rows (span_at dc l)) more
          (λ n l lt is. empty_entries rows (span_at dc l) (ap (λ (k : Span). k.count) ((empty_at data_centres more none n l lt is).waits dc)))))
          ∙ padded_read (entries_by_slot rows lines dc) (length more) s []

      at : (first n dc : ℕ) → get_or (get_or (map (entries_by_slot rows (lines ++ more)) (range_with_len first n)) dc []) s [] ≡ get_or (get_or (map (entries_by_slot rows lines) (range_with_len first n)) dc []) s []
      at first zero dc = refl
      at first (suc n) zero = slot_past first
      at first (suc n) (suc dc) = at (first + 1) n dc

-- ---- what contracts see

abbrev pub shown : List (Option Row) → ℕ → ℕ → ℕ → List Line → Queues
shown rows own tenants data_centres lines = record { own = own; tenants = tenants; queues = queues_in rows lines data_centres }

module _ (rows : List (Option Row)) (own tenants data_centres : ℕ) (lines : List Line) (v : Queues)
    (h : AreLines rows own tenants data_centres lines)
    (is : shown rows own tenants data_centres lines ≡ v) where
  dc_within : (dc : ℕ) → dc < length v.queues → dc < data_centres
  dc_within dc lt = subst (λ n. dc < n) (ap (λ (w : Queues). length w.queues) (sym is) ∙ length_range (entries_by_slot rows lines) 0 data_centres) lt

  slot_within : (slot : ℕ) → slot < v.tenants → slot < tenants
  slot_within slot lt = subst (λ n. slot < n) (ap (λ (w : Queues). w.tenants) (sym is)) lt

  pub dc_of_line : (slot dc : ℕ) (line : Line) → slot < v.tenants → dc < length v.queues → line ≡ get_or lines slot line → dc < length line.waits.items
  dc_of_line slot dc line lt within read = subst (λ n. dc < n) (sym (h.each slot line (slot_within slot lt) read).all) (dc_within dc within)

  pub queue_shown : (slot dc : ℕ) (line : Line) → slot < v.tenants → dc < length v.queues → line ≡ get_or lines slot line → queue_of slot dc v ≡ entries_in rows (span_at dc line)
  queue_shown slot dc line lt within read =
      ap (queue_of slot dc) (sym is) ∙ queue_read rows lines data_centres dc slot line (dc_within dc within) (let inside = slot_within slot lt in omega (arith, h.all)) read

  pub count_shown : (slot dc : ℕ) (line : Line) → slot < v.tenants → dc < length v.queues → line ≡ get_or lines slot line → (span_at dc line).count ≡ length (queue_of slot dc v)
  count_shown slot dc line lt within read =
      queue_length rows own tenants data_centres lines dc slot line h (dc_within dc within) (slot_within slot lt) read ∙ ap (λ (w : Queues). length (queue_of slot dc w)) is

  pub full_shown : (slot limit : ℕ) (line : Line) → slot < v.tenants → line ≡ get_or lines slot line → list_any (λ dc. not (dc == own) && nat_le limit (span_at dc line).count) (range_with_len 0 (length line.waits.items)) ≡ is_full slot limit v
  full_shown slot limit line lt read = full_is rows own tenants data_centres lines slot limit line h (slot_within slot lt) read ∙ ap (is_full slot limit) is

  pub slot_inside : (slot dc : ℕ) → slot < v.tenants → dc < length v.queues → slot < length (get_or v.queues dc [])
  slot_inside slot dc lt within =
      let inside = slot_within slot lt in
      subst (λ n. slot < n) (sym (ap (λ (w : Queues). length (get_or w.queues dc [])) (sym is) ∙ slots_long rows lines data_centres dc (dc_within dc within))) (omega (arith, h.all))

  pub line_is : (slot : ℕ) (line : Line) → slot < v.tenants → line ≡ get_or lines slot line → IsLine rows own (length line.waits.items) slot line
  line_is slot line lt read = let k = h.each slot line (slot_within slot lt) read in subst (λ n. IsLine rows own n slot line) (sym k.all) k

  pub push_shown : (rows1 rows' : List (Option Row)) (slot : ℕ) (entry : Entry) (line line' : Line) → rows1 ≡ rows → slot < v.tenants → line ≡ get_or lines slot line → IsLonger rows1 rows' own slot entry line line'
      → shown rows' own tenants data_centres (set lines slot line') ≡ record v { queues = pushed 0 v.own (record { slot = slot; entry = entry }) v.queues }
  push_shown rows1 rows' slot entry line line' same lt read longer =
      subst (λ (w : Queues). shown rows' own tenants data_centres (set lines slot line') ≡ record w { queues = pushed 0 w.own (record { slot = slot; entry = entry }) w.queues }) is
      (ap (λ qs. record { own = own; tenants = tenants; queues = qs })
      (pushed_is rows rows' own tenants data_centres slot lines line line' h (slot_within slot lt) read entry (subst (λ rs. IsLonger rs rows' own slot entry line line') same longer)))

  pub ack_shown : (rows' : List (Option Row)) (slot dc : ℕ) (line line' : Line) → slot < v.tenants → dc < length v.queues → line ≡ get_or lines slot line → IsShorter rows rows' own slot dc line line'
      → shown rows' own tenants data_centres (set lines slot line') ≡ record v { queues = set v.queues dc (without_front slot (get_or v.queues dc [])) }
  ack_shown rows' slot dc line line' lt within read shorter =
      subst (λ (w : Queues). shown rows' own tenants data_centres (set lines slot line') ≡ record w { queues = set w.queues dc (without_front slot (get_or w.queues dc [])) }) is
      (ap (λ qs. record { own = own; tenants = tenants; queues = qs }) (acked_is rows rows' own tenants data_centres slot lines line line' h (slot_within slot lt) read dc (dc_within dc within) shorter))

  pub drop_shown : (rows' : List (Option Row)) (slot : ℕ) (line line' : Line) → slot < v.tenants → line ≡ get_or lines slot line → IsCleared rows rows' own slot line line'
      → shown rows' own tenants data_centres (set lines slot line') ≡ record v { queues = without_slot slot v.queues }
  drop_shown rows' slot line line' lt read cleared =
      subst (λ (w : Queues). shown rows' own tenants data_centres (set lines slot line') ≡ record w { queues = without_slot slot w.queues }) is
      (ap (λ qs. record { own = own; tenants = tenants; queues = qs }) (cleared_is rows rows' own tenants data_centres slot lines line line' h (slot_within slot lt) read cleared))

  pub line_needed : (slot : ℕ) (line : Line) → slot < v.tenants → line ≡ get_or lines slot line → IsNeeded line
  line_needed slot line lt read = h.needed slot line (slot_within slot lt) read

  pub turn_lines : (rows1 rows' : List (Option Row)) (slot : ℕ) (line line' : Line) → rows1 ≡ rows → slot < v.tenants → line ≡ get_or lines slot line → IsLineChange rows1 rows' own slot line line' → IsNeeded line' → AreLines rows' own tenants data_centres (set lines slot line')
  turn_lines rows1 rows' slot line line' same lt read turn needed = lines_after rows rows' own tenants data_centres slot lines line line' h (slot_within slot lt) read (subst (λ rs. IsLineChange rs rows' own slot line line') same turn) needed

  pub alone_shown : (least : ℕ) (w : Waiting) → ((dc : ℕ) → dc ≢ own → least ≤ dc) → data_centres ≤ least → v ≡ record v { queues = pushed 0 v.own w v.queues }
  alone_shown least w far le = subst (λ (u : Queues). u ≡ record u { queues = pushed 0 u.own w u.queues }) is (ap (λ qs. record { own = own; tenants = tenants; queues = qs }) (alone own least w (entries_by_slot rows lines) data_centres far le))

  pub none_other : (least dc : ℕ) → ((at : ℕ) → at ≢ own → least ≤ at) → data_centres ≤ least → dc < length v.queues → dc ≢ v.own → ⊥
  none_other least dc far le lt differ =
      let past = far dc (λ same. differ (same ∙ ap (λ (w : Queues). w.own) is)) in
      let within = dc_within dc lt in
      omega arith
