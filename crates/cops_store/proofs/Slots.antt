-- The state of one slot among all.
use Rattle.std.proofs.Common.{◌≡◌, ◌≢◌, ◌⊎◌, ℕ, zero, suc, ◌+◌, ◌<◌, ◌≤◌, Bool, true, false, List, [], ◌∷◌, ◌++◌, length, map, refl, sym, ap, ◌∙◌, subst, arith, inl, inr, nat_eq, get_or, set}
use Rattle.std.specs.Prelude.{Some, None, Result, Ok, Err, OnOk, OnErr, if◌then◌else◌}
use Rattle.std.specs.List.{AllByRecursion, Contains}
use Rattle.std.proofs.lemmas.Bool.Decides.{Decides-eqb}
use Rattle.std.proofs.lemmas.List.{get_or-set_same, get_or-set_other}
use Rattle.std.proofs.lemmas.List.Elements.{filter_map-append}
use Rattle.cops_types.specs.declared.records.Dated.{Dated}
use Rattle.cops_types.specs.declared.records.Record.{Record}
use Rattle.cops_types.specs.Records.{Tracked, StandsFor}
use Rattle.cops_store.specs.Contents.{Contents, HasRoom, NoneLater, of_slot, rows_in, rows_of}
use Rattle.cops_store.specs.Shelves.{Kept, nothing, part_from, rows_from, ready_from}
use Rattle.cops_store.proofs.Tables.{fails}
use Rattle.cops_store.proofs.Versions.{Among, Among-map, Among-from_Contains, Contains-from_Among}

-- ---- a part of one slot
own_part : {A : Type 0} (first slot : ℕ) (xs : List A) → of_slot slot (map (λ x. (first, x)) xs) ≡ (if nat_eq first slot then xs else [])
own_part {A} first slot xs = by (nat_eq first slot) refl xs
  where
    by : (b : Bool) → nat_eq first slot ≡ b → (xs : List A) → of_slot slot (map (λ x. (first, x)) xs) ≡ (if b then xs else [])
    by true is [] = refl
    by false is [] = refl
    by true is (x ∷ xs) = rw is (ap (λ ys. x ∷ ys) (by true is xs))
    by false is (x ∷ xs) = rw is (by false is xs)

differs : (a b : ℕ) → (a ≡ b → ⊥) → nat_eq a b ≡ false
differs a b differ = fails (nat_eq a b) (λ same. differ ((Decides-eqb a b).0 same))

append_none : {A : Type 0} (xs ys : List A) → ys ≡ [] → xs ++ ys ≡ xs
append_none [] ys none = none
append_none (x ∷ xs) ys none = ap (λ zs. x ∷ zs) (append_none xs ys none)

module _ {A : Type 0} (part : Kept → List A) where
  part_split : (first slot : ℕ) (k : Kept) (shelves : List Kept) → of_slot slot (part_from part first (k ∷ shelves)) ≡ (if nat_eq first slot then part k else []) ++ of_slot slot (part_from part (suc first) shelves)
  part_split first slot k shelves =
      filter_map-append (λ (x : ℕ × A). if nat_eq x.0 slot then Some x.1 else None) (map (λ x. (first, x)) (part k)) (part_from part (suc first) shelves)
      ∙ ap (λ xs. xs ++ of_slot slot (part_from part (suc first) shelves)) (own_part first slot (part k))

  -- later slots have nothing of it
  part_later : (first slot : ℕ) (shelves : List Kept) → slot < first → of_slot slot (part_from part first shelves) ≡ []
  part_later first slot [] lt = refl
  part_later first slot (k ∷ shelves) lt =
      part_split first slot k shelves ∙ ap (λ b. (if b then part k else []) ++ of_slot slot (part_from part (suc first) shelves)) (differs first slot (λ same. absurd (omega arith)))
      ∙ part_later (suc first) slot shelves (omega arith)

  part_at : (first slot n : ℕ) (shelves : List Kept) → part nothing ≡ [] → slot ≡ first + n → of_slot slot (part_from part first shelves) ≡ part (get_or shelves n nothing)
  part_at first slot n [] none at = sym none
  part_at first slot zero (k ∷ shelves) none at =
      let here : first ≡ slot = omega arith in
      part_split first slot k shelves ∙ ap (λ b. (if b then part k else []) ++ of_slot slot (part_from part (suc first) shelves)) ((Decides-eqb first slot).1 here)
      ∙ append_none (part k) (of_slot slot (part_from part (suc first) shelves)) (part_later (suc first) slot shelves (omega arith))
  part_at first slot (suc n) (k ∷ shelves) none at =
      part_split first slot k shelves ∙ ap (λ b. (if b then part k else []) ++ of_slot slot (part_from part (suc first) shelves)) (differs first slot (λ same. absurd (omega arith)))
      ∙ part_at (suc first) slot n shelves none (omega arith)

  pub part_set : (shelves : List Kept) (slot : ℕ) (s : Kept) → part nothing ≡ [] → slot < length shelves → of_slot slot (part_from part 0 (set shelves slot s)) ≡ part s
  part_set shelves slot s none lt = part_at 0 slot slot (set shelves slot s) none (omega arith) ∙ ap part (get_or-set_same shelves slot s nothing lt)

  pub part_set_other : (shelves : List Kept) (slot other : ℕ) (s : Kept) → part nothing ≡ [] → other ≢ slot → of_slot other (part_from part 0 (set shelves slot s)) ≡ of_slot other (part_from part 0 shelves)
  part_set_other shelves slot other s none differ =
      part_at 0 other other (set shelves slot s) none (omega arith) ∙ ap part (get_or-set_other shelves slot other s nothing differ) ∙ sym (part_at 0 other other shelves none (omega arith))

pub rows_at : (slot : ℕ) (shelves : List Kept) → rows_in slot (rows_from 0 shelves) ≡ (get_or shelves slot nothing).rows
rows_at slot shelves = part_at (λ (k : Kept). k.rows) 0 slot slot shelves refl (omega arith)

-- if a slot is there, no default is taken
pub same_default : (shelves : List Kept) (n : ℕ) (d e : Kept) → n < length shelves → get_or shelves n d ≡ get_or shelves n e
same_default [] n d e lt = absurd (omega arith)
same_default (k ∷ shelves) zero d e lt = refl
same_default (k ∷ shelves) (suc n) d e lt = same_default shelves n d e (omega arith)

pub rows_read : (shelves : List Kept) (slot : ℕ) (s : Kept) → slot < length shelves → s ≡ get_or shelves slot s → rows_in slot (rows_from 0 shelves) ≡ s.rows
rows_read shelves slot s lt read = rows_at slot shelves ∙ ap (λ (k : Kept). k.rows) (same_default shelves slot nothing s lt ∙ sym read)

-- ---- one slot is changed
pub length-set : (shelves : List Kept) (slot : ℕ) (s : Kept) → length (set shelves slot s) ≡ length shelves
length-set [] slot s = refl
length-set (k ∷ shelves) zero s = refl
length-set (k ∷ shelves) (suc slot) s = ap suc (length-set shelves slot s)

pub rows_set : (shelves : List Kept) (slot : ℕ) (s : Kept) → slot < length shelves → rows_in slot (rows_from 0 (set shelves slot s)) ≡ s.rows
rows_set shelves slot s = part_set (λ (k : Kept). k.rows) shelves slot s refl

pub rows_set_other : (shelves : List Kept) (slot other : ℕ) (s : Kept) → other ≢ slot → rows_in other (rows_from 0 (set shelves slot s)) ≡ rows_in other (rows_from 0 shelves)
rows_set_other shelves slot other s = part_set_other (λ (k : Kept). k.rows) shelves slot other s refl

pub ready_set_whole : (shelves : List Kept) (slot : ℕ) (s : Kept) → slot < length shelves → of_slot slot (ready_from 0 (set shelves slot s)) ≡ s.ready
ready_set_whole shelves slot s = part_set (λ (k : Kept). k.ready) shelves slot s refl

pub ready_set_other : (shelves : List Kept) (slot other : ℕ) (s : Kept) → other ≢ slot → of_slot other (ready_from 0 (set shelves slot s)) ≡ of_slot other (ready_from 0 shelves)
ready_set_other shelves slot other s = part_set_other (λ (k : Kept). k.ready) shelves slot other s refl

same_rows_from : (first : ℕ) (shelves : List Kept) (slot : ℕ) (s s' : Kept) → slot < length shelves → s ≡ get_or shelves slot s → s'.rows ≡ s.rows → rows_from first (set shelves slot s') ≡ rows_from first shelves
same_rows_from first [] slot s s' lt read same = absurd (omega arith)
same_rows_from first (k ∷ shelves) zero s s' lt read same = ap (λ rows. map (λ row. (first, row)) rows ++ rows_from (suc first) shelves) (same ∙ ap (λ (k : Kept). k.rows) read)
same_rows_from first (k ∷ shelves) (suc slot) s s' lt read same = ap (λ rows. map (λ row. (first, row)) k.rows ++ rows) (same_rows_from (suc first) shelves slot s s' (omega arith) read same)

-- all rows stay if the slot's do
pub rows_same : (shelves : List Kept) (slot : ℕ) (s s' : Kept) → slot < length shelves → s ≡ get_or shelves slot s → s'.rows ≡ s.rows → rows_from 0 (set shelves slot s') ≡ rows_from 0 shelves
rows_same = same_rows_from 0

-- ---- the keys for which there is room
Among-either : {A : Type 0} (x : A) (xs ys : List A) → Among x (xs ++ ys) → Among x xs ⊎ Among x ys
Among-either x [] ys h = inr h
Among-either x (y ∷ xs) ys (inl e) = inl (inl e)
Among-either x (y ∷ xs) ys (inr h) = by (Among-either x xs ys h)
  where
    by : Among x xs ⊎ Among x ys → Among x (y ∷ xs) ⊎ Among x ys
    by (inl k) = inl (inr k)
    by (inr k) = inr k

Among-front : {A : Type 0} (x : A) (xs ys : List A) → Among x xs → Among x (xs ++ ys)
Among-front x [] ys h = absurd h
Among-front x (y ∷ xs) ys (inl e) = inl e
Among-front x (y ∷ xs) ys (inr h) = inr (Among-front x xs ys h)

Among-behind : {A : Type 0} (x : A) (xs ys : List A) → Among x ys → Among x (xs ++ ys)
Among-behind x [] ys h = h
Among-behind x (y ∷ xs) ys h = inr (Among-behind x xs ys h)

abbrev pub slotted : ℕ → List ℕ → ℕ × List ℕ
slotted slot key = (slot, key)

with_slot : (slot : ℕ) (key : List ℕ) (keys : List (List ℕ)) → Among key keys → Among (slotted slot key) (map (slotted slot) keys)
with_slot slot key [] h = absurd h
with_slot slot key (k ∷ keys) (inl e) = inl (ap (slotted slot) e)
with_slot slot key (k ∷ keys) (inr h) = inr (with_slot slot key keys h)

ready_to : (first slot n : ℕ) (key : List ℕ) (shelves : List Kept) → slot ≡ first + n → Among key (get_or shelves n nothing).ready → Among (slotted slot key) (ready_from first shelves)
ready_to first slot n key [] at h = absurd h
ready_to first slot zero key (k ∷ shelves) at h =
    let here : slot ≡ first = omega arith in
    subst (λ m. Among (slotted slot key) (map (slotted m) k.ready ++ ready_from (suc first) shelves)) here (Among-front (slotted slot key) (map (λ key. (slotted slot key)) k.ready) (ready_from (suc first) shelves) (with_slot slot key k.ready h))
ready_to first slot (suc n) key (k ∷ shelves) at h = Among-behind (slotted slot key) (map (slotted first) k.ready) (ready_from (suc first) shelves) (ready_to (suc first) slot n key shelves (omega arith) h)

-- the keys are of the slots from the first on
ready_not_before : (first slot : ℕ) (key : List ℕ) (shelves : List Kept) → Among (slotted slot key) (ready_from first shelves) → first ≤ slot
ready_not_before first slot key [] h = absurd h
ready_not_before first slot key (k ∷ shelves) h = by (ready_not_before (suc first) slot key shelves) (Among-either (slotted slot key) (map (slotted first) k.ready) (ready_from (suc first) shelves) h)
  where
    by : (Among (slotted slot key) (ready_from (suc first) shelves) → suc first ≤ slot) → Among (slotted slot key) (map (slotted first) k.ready) ⊎ Among (slotted slot key) (ready_from (suc first) shelves) → first ≤ slot
    by rest (inl here) = let found = Among-map (slotted first) (slotted slot key) k.ready here in let same : first ≡ slot = ap (λ p. p.0) found.2 in omega arith
    by rest (inr later) = let past = rest later in omega arith

ready_back : (first slot n : ℕ) (key : List ℕ) (shelves : List Kept) → slot ≡ first + n → Among (slotted slot key) (ready_from first shelves) → Among key (get_or shelves n nothing).ready
ready_back first slot n key [] at h = absurd h
ready_back first slot zero key (k ∷ shelves) at h = by (Among-either (slotted slot key) (map (slotted first) k.ready) (ready_from (suc first) shelves) h)
  where
    by : Among (slotted slot key) (map (slotted first) k.ready) ⊎ Among (slotted slot key) (ready_from (suc first) shelves) → Among key k.ready
    by (inl here) = let found = Among-map (slotted first) (slotted slot key) k.ready here in subst (λ x. Among x k.ready) (ap (λ p. p.1) found.2) found.1
    by (inr later) = let past = ready_not_before (suc first) slot key shelves later in absurd (omega arith)
ready_back first slot (suc n) key (k ∷ shelves) at h = by (ready_back (suc first) slot n key shelves (omega arith)) (Among-either (slotted slot key) (map (slotted first) k.ready) (ready_from (suc first) shelves) h)
  where
    by : (Among (slotted slot key) (ready_from (suc first) shelves) → Among key (get_or shelves n nothing).ready) → Among (slotted slot key) (map (slotted first) k.ready) ⊎ Among (slotted slot key) (ready_from (suc first) shelves) → Among key (get_or shelves n nothing).ready
    by rest (inl here) = let found = Among-map (slotted first) (slotted slot key) k.ready here in let same : first ≡ slot = ap (λ p. p.0) found.2 in absurd (omega arith)
    by rest (inr later) = rest later

pub ready_read : (shelves : List Kept) (slot : ℕ) (key : List ℕ) (s : Kept) → slot < length shelves → s ≡ get_or shelves slot s → Contains (ready_from 0 shelves) (slotted slot key) → Contains s.ready key
ready_read shelves slot key s lt read h =
    Contains-from_Among _ _ (subst (λ (k : Kept). Among key k.ready) (same_default shelves slot nothing s lt ∙ sym read) (ready_back 0 slot slot key shelves (omega arith) (Among-from_Contains _ _ h)))

pub ready_set : (shelves : List Kept) (slot : ℕ) (key : List ℕ) (s : Kept) → slot < length shelves → Contains s.ready key → Contains (ready_from 0 (set shelves slot s)) (slotted slot key)
ready_set shelves slot key s lt h =
    Contains-from_Among _ _ (ready_to 0 slot slot key (set shelves slot s) (omega arith) (subst (λ (k : Kept). Among key k.ready) (sym (get_or-set_same shelves slot s nothing lt)) (Among-from_Contains _ _ h)))

-- ---- a call for one slot
pub OnOk-then : {A E : Type 0} (r : Result A E) (P Q : Type 0) → (P → Q) → OnOk r P → OnOk r Q
OnOk-then (Ok x) P Q f p = f p
OnOk-then (Err e) P Q f p = tt

pub OnErr-then : {A E : Type 0} (r : Result A E) (P Q : Type 0) → (P → Q) → OnErr r P → OnErr r Q
OnErr-then (Ok x) P Q f p = tt
OnErr-then (Err e) P Q f p = f p

-- one more record is kept
abbrev pub Keeps : List Dated → List Dated → ℕ → Record → Type 0
Keeps rows rows' now n = (tracked : List Tracked) → StandsFor rows tracked → NoneLater now tracked → StandsFor rows' (tracked ++ record { record_of = n; removed = false } ∷ [])

module _ (shelves : List Kept) (slot : ℕ) (s s' : Kept) (v : Contents) (shown : record { tenants = length shelves; rows = rows_from 0 shelves; ready = ready_from 0 shelves } ≡ v) (within : slot < v.tenants) (read : s ≡ get_or shelves slot s) where
  pub there : slot < length shelves
  there = subst (λ (w : Contents). slot < w.tenants) (sym shown) within

  pub rows_before : rows_of slot v ≡ s.rows
  rows_before = ap (rows_of slot) (sym shown) ∙ rows_read shelves slot s there read

  pub rows_after : rows_in slot (rows_from 0 (set shelves slot s')) ≡ s'.rows
  rows_after = rows_set shelves slot s' there

  pub keeps : {A E : Type 0} (r : Result A E) (now : ℕ) (n : Record) → OnOk r (Keeps s.rows s'.rows now n) → OnOk r (Keeps (rows_of slot v) (rows_in slot (rows_from 0 (set shelves slot s'))) now n)
  keeps r now n = OnOk-then r (Keeps s.rows s'.rows now n) (Keeps (rows_of slot v) (rows_in slot (rows_from 0 (set shelves slot s'))) now n)
      (λ kept tracked stands late. subst (λ rows. StandsFor rows (tracked ++ record { record_of = n; removed = false } ∷ [])) (sym rows_after) (kept tracked (subst (λ rows. StandsFor rows tracked) rows_before stands) late))

  pub others_stay : (other : ℕ) → other ≢ slot → rows_in other (rows_from 0 (set shelves slot s')) ≡ rows_of other v
  others_stay other differ = rows_set_other shelves slot other s' differ ∙ ap (rows_of other) shown

  pub slots_stay : length (set shelves slot s') ≡ v.tenants
  slots_stay = length-set shelves slot s' ∙ ap (λ (w : Contents). w.tenants) shown

  pub rows_stay : s'.rows ≡ s.rows → rows_from 0 (set shelves slot s') ≡ v.rows
  rows_stay same = rows_same shelves slot s s' there read same ∙ ap (λ (w : Contents). w.rows) shown

  pub room_before : (key : List ℕ) → HasRoom slot key v → Contains s.ready key
  room_before key room = ready_read shelves slot key s there read (subst (HasRoom slot key) (sym shown) room)

  pub room_after : (key : List ℕ) → Contains s'.ready key → Contains (ready_from 0 (set shelves slot s')) (slot, key)
  room_after key room = ready_set shelves slot key s' there room

-- ---- more slots of which nothing is kept
abbrev pub AreNothing : List Kept → Type 0
AreNothing shelves = AllByRecursion (λ s. s ≡ nothing) shelves

no_rows : (first : ℕ) (more : List Kept) → AreNothing more → rows_from first more ≡ []
no_rows first [] h = refl
no_rows first (k ∷ more) h = ap (λ (s : Kept). map (λ row. (first, row)) s.rows ++ rows_from (suc first) more) h.0 ∙ no_rows (suc first) more h.1

no_ready : (first : ℕ) (more : List Kept) → AreNothing more → ready_from first more ≡ []
no_ready first [] h = refl
no_ready first (k ∷ more) h = ap (λ (s : Kept). map (λ key. (first, key)) s.ready ++ ready_from (suc first) more) h.0 ∙ no_ready (suc first) more h.1

past_rows : (first : ℕ) (shelves more : List Kept) → AreNothing more → rows_from first (shelves ++ more) ≡ rows_from first shelves
past_rows first [] more h = no_rows first more h
past_rows first (k ∷ shelves) more h = ap (λ rows. map (λ row. (first, row)) k.rows ++ rows) (past_rows (suc first) shelves more h)

past_ready : (first : ℕ) (shelves more : List Kept) → AreNothing more → ready_from first (shelves ++ more) ≡ ready_from first shelves
past_ready first [] more h = no_ready first more h
past_ready first (k ∷ shelves) more h = ap (λ keys. map (λ key. (first, key)) k.ready ++ keys) (past_ready (suc first) shelves more h)

pub rows_past : (shelves more : List Kept) → AreNothing more → rows_from 0 (shelves ++ more) ≡ rows_from 0 shelves
rows_past = past_rows 0

pub ready_past : (shelves more : List Kept) → AreNothing more → ready_from 0 (shelves ++ more) ≡ ready_from 0 shelves
ready_past = past_ready 0
