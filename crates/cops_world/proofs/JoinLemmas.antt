-- A row joins the ring of its slot, and a slot is cleared.
use Rattle.std.proofs.Common.{◌≡◌, ◌≢◌, ◌⊎◌, inl, inr, ℕ, zero, suc, ◌+◌, ◌<◌, ◌≤◌, Bool, true, false, true≢false, cond, List, [], ◌∷◌, ◌++◌, length, set, get_or, refl, sym, subst, ap, ◌∙◌, arith}
use Rattle.std.specs.Prelude.{Option, Some, None, is_some, nat_eq, slice_get, count_by}
use Rattle.std.specs.List.{IsDistinct}
use Rattle.std.specs.Map.{keys_of, lookup}
use Rattle.std.specs.Option.{option_map}
use Rattle.std.proofs.lemmas.Bool.Decides.{eqb_tells}
use Rattle.std.proofs.lemmas.List.Sums.{sum_by-cons}
use Rattle.cops_types.proofs.WordLemmas.{same_value}
use Rattle.cops_world.specs.declared.actors.Actor.{Actor}
use Rattle.cops_world.specs.declared.actors.ActorId.{ActorId}
use Rattle.cops_world.specs.declared.rings.ActorRow.{ActorRow}
use Rattle.cops_world.specs.declared.rings.Ring.{Ring}
use Rattle.cops_world.specs.ActorTables.{IsClearedOf, Places, Table, actor_at, count_at, same_actor}
use Rattle.cops_world.specs.ActorRings.{AreKeptIn, AreRings, Links, actors_in, first_in, linked, links_at, links_of, longer, ring_at, table_in}
use Rattle.indexmap.specs.IndexMap.{IndexMap, insert_entry}
use Rattle.indexmap.proofs.CallerLemmas.{insert_entry-new}
use Rattle.cops_world.proofs.ActorTableLemmas.{other_slot}
use Rattle.cops_world.proofs.PlaceLemmas.{actor_placed, actors_found}
use Rattle.cops_world.proofs.RingLemmas.{rings_begun, rings_joined}
use Rattle.cops_world.proofs.RowLemmas.{count_below, item_is, keys_in, links_within, long_passed, none_more, one_more, ring_other, ring_same, row_of, some_at}

abbrev Rows : Type 0
Rows = List (ActorId × ActorRow)

push_here : {X : Type 0} (xs : List X) (x : X) → slice_get (xs ++ x ∷ []) (length xs) ≡ Some x
push_here [] x = refl
push_here (y ∷ xs) x = push_here xs x

push_elsewhere : {X : Type 0} (xs : List X) (x : X) (q : ℕ) → q ≢ length xs → slice_get (xs ++ x ∷ []) q ≡ slice_get xs q
push_elsewhere [] x zero differ = absurd (differ refl)
push_elsewhere [] x (suc q) differ = refl
push_elsewhere (y ∷ xs) x zero differ = refl
push_elsewhere (y ∷ xs) x (suc q) differ = push_elsewhere xs x q (λ e. differ (ap suc e))

long_push : {X : Type 0} (xs : List X) (x : X) → length (xs ++ x ∷ []) ≡ length xs + 1
long_push [] x = omega arith
long_push (y ∷ xs) x = let more = long_push xs x in omega (arith, more)

past_rows : (es : Rows) → links_at es (length es) ≡ None
past_rows [] = refl
past_rows (e ∷ es) = past_rows es

module _ (es : Rows) (rings : List Ring) (kept : AreKeptIn es rings) (id : ActorId) (actor : Actor) (ring : Ring) (within : id.slot < length rings) (read : ring ≡ get_or rings id.slot ring) where
  abbrev at : ℕ
  at = length es

  abbrev row : ActorRow
  row = record { actor = actor; before = at; behind = at }

  abbrev mid : Rows
  mid = es ++ (id, row) ∷ []

  ring_was : ring_at id.slot rings ≡ ring
  ring_was = item_is rings id.slot ring (record { first = 0; count = 0 }) within read

  counted_was : ring.count ≡ count_by (λ (a : ActorId × Actor). nat_eq a.0.slot id.slot) (actors_in es)
  counted_was = ap (λ (r : Ring). r.count) (sym ring_was) ∙ kept.counted id.slot within

  mid_here : links_at mid at ≡ Some (links_of (id, row))
  mid_here = ap (option_map links_of) (push_here es (id, row))

  mid_other : (q : ℕ) → q ≢ at → links_at mid q ≡ links_at es q
  mid_other q differ = ap (option_map links_of) (push_elsewhere es (id, row) q differ)

  led_in : 0 < ring.count → (k : Links) × (links_at es ring.first ≡ Some k) × (k.slot ≡ id.slot)
  led_in some =
      let r = row_of es id.slot (subst (λ n. 0 < n) counted_was some) in
      let l = kept.ringed.led r.0 r.1 r.2 in
      (l.0, ap (links_at es) (ap (λ (b : Ring). b.first) (sym ring_was) ∙ ap (first_in rings) (sym r.3)) ∙ l.1, l.2 ∙ r.3)

  first_apart : 0 < ring.count → ring.first ≢ at
  first_apart some e = let k = led_in some in true≢false (ap is_some (sym k.1 ∙ ap (links_at es) e ∙ past_rows es))

  pub at_below : at < length mid
  at_below = let long = long_push es (id, row) in omega (arith, long)

  pub counted_few : ring.count ≤ length es
  counted_few = let few = count_below es id.slot in let was = counted_was in omega (arith, few, was)

  pub first_below : 0 < ring.count → ring.first < length mid
  first_below some =
      let k = led_in some in
      let low = links_within es ring.first k.0 k.1 in
      let long = long_push es (id, row) in
      omega (arith, low, long)

  pub before_below : 0 < ring.count → (own : Links) → links_at mid ring.first ≡ Some own → own.before < length mid
  before_below some own there =
      let old = sym (mid_other ring.first (first_apart some)) ∙ there in
      let b = (kept.ringed.between ring.first own old).before_it in
      let low = links_within es own.before b.0 b.1 in
      let long = long_push es (id, row) in
      omega (arith, low, long)

  module _ (new : Rows) (now : List Ring) (after : Ring) (after_is : after ≡ longer at ring) (now_is : now ≡ set rings id.slot after) (actors : actors_in new ≡ actors_in mid) (alone : ring.count ≡ 0 → new ≡ mid)
      (links : 0 < ring.count → (own : Links) → links_at mid ring.first ≡ Some own → (q : ℕ) → links_at new q ≡ option_map (λ l. linked at ring.first q (linked own.before at q l)) (links_at mid q)) where
    pub long_joined : length now ≡ length rings
    long_joined = long_passed rings now id.slot after now_is

    own_ring : ring_at id.slot now ≡ longer at ring
    own_ring = ap (ring_at id.slot) now_is ∙ ring_same rings id.slot after within ∙ after_is

    other_ring : (s : ℕ) → s ≢ id.slot → ring_at s now ≡ ring_at s rings
    other_ring s differ = ap (ring_at s) now_is ∙ ring_other rings id.slot s after differ

    ringed_new : AreRings (links_at new) (length rings) (first_in now)
    ringed_new = elim (eqb_tells ring.count 0) [
      | inl is ↦
          let same = alone is.1 in
          rings_begun (links_at es) (length rings) (first_in rings) kept.ringed at id.slot (past_rows es) within
          (λ q m there of. let some = some_at es q id.slot m there of in let was = counted_was in let none = is.1 in absurd (omega (arith, some, was, none)))
          (links_at new) (first_in now)
          (ap (λ (rows : Rows). links_at rows at) same ∙ mid_here)
          (λ q differ. ap (λ (rows : Rows). links_at rows q) same ∙ mid_other q differ)
          (ap (λ (r : Ring). r.first) own_ring ∙ ap (λ t. cond t at ring.first) is.0)
          (λ other differ. ap (λ (r : Ring). r.first) (other_ring other differ))
      | inr apart ↦
          let differ = apart.1 in
          let some : 0 < ring.count = above ring.count differ in
          let k = led_in some in
          let first_is : first_in rings id.slot ≡ ring.first = ap (λ (r : Ring). r.first) ring_was in
          let there = ap (links_at es) first_is ∙ k.1 in
          let told = links some k.0 (mid_other ring.first (first_apart some) ∙ k.1) in
          rings_joined (links_at es) (length rings) (first_in rings) kept.ringed at id.slot (past_rows es) k.0 there k.2
          (links_at new) (first_in now)
          (told at ∙ ap (option_map (λ l. linked at ring.first at (linked k.0.before at at l))) mid_here ∙ (λ i. Some (linked at (sym first_is i) at (linked k.0.before at at (links_of (id, row))))))
          (λ q other. told q ∙ ap (option_map (λ l. linked at ring.first q (linked k.0.before at q l))) (mid_other q other)
          ∙ (λ i. option_map (λ l. linked at (sym first_is i) q (linked k.0.before at q l)) (links_at es q)))
          (λ s. elim (eqb_tells s id.slot) [
            | inl same ↦
                ap (first_in now) same.1 ∙ ap (λ (r : Ring). r.first) own_ring ∙ ap (λ t. cond t at ring.first) apart.0 ∙ sym first_is ∙ ap (first_in rings) (sym same.1)
            | inr elsewhere ↦ ap (λ (r : Ring). r.first) (other_ring s elsewhere.1)
          ])
    ]
      where
        above : (n : ℕ) → n ≢ 0 → 0 < n
        above zero differ = absurd (differ refl)
        above (suc n) differ = omega arith

    pub own_more : count_at (table_in new now) id.slot ≡ count_at (table_in es rings) id.slot + 1
    own_more = ap (count_by (λ (a : ActorId × Actor). nat_eq a.0.slot id.slot)) actors ∙ one_more es id row id.slot refl

    pub others_more : (s : ℕ) → id.slot ≢ s → count_at (table_in new now) s ≡ count_at (table_in es rings) s
    others_more s differ = ap (count_by (λ (a : ActorId × Actor). nat_eq a.0.slot s)) actors ∙ none_more es id row s differ

    pub kept_joining : IsDistinct same_actor (keys_of mid) → AreKeptIn new now
    kept_joining distinct = record {
      distinct = subst (IsDistinct same_actor) (sym (keys_in mid) ∙ ap keys_of (sym actors) ∙ keys_in new) distinct;
      ringed = subst (λ n. AreRings (links_at new) n (first_in now)) (sym long_joined) ringed_new;
      counted = λ s below. elim (eqb_tells s id.slot) [
        | inl same ↦
            ap (λ n. (ring_at n now).count) same.1 ∙ ap (λ (r : Ring). r.count) own_ring ∙ ap (λ n. n + 1) counted_was ∙ sym own_more ∙ ap (count_at (table_in new now)) (sym same.1)
        | inr apart ↦
            ap (λ (r : Ring). r.count) (other_ring s apart.1) ∙ kept.counted s (subst (λ n. s < n) long_joined below) ∙ sym (others_more s (λ e. apart.1 (sym e)))
      ];
    }

  -- of the rows as they were inserted
  module _ (inserted : Rows) (mid_is : inserted ≡ mid) (place : ℕ) (place_is : place ≡ at) (new : Rows) (now : List Ring) (after : Ring) (after_is : after ≡ longer place ring) (now_is : now ≡ set rings id.slot after) (actors : actors_in new ≡ actors_in inserted)
      (alone : ring.count ≡ 0 → new ≡ inserted)
      (links : 0 < ring.count → (own : Links) → links_at inserted ring.first ≡ Some own → (q : ℕ) → links_at new q ≡ option_map (λ l. linked place ring.first q (linked own.before place q l)) (links_at inserted q)) where
    after_at : after ≡ longer at ring
    after_at = after_is ∙ ap (λ n. longer n ring) place_is

    links_mid : 0 < ring.count → (own : Links) → links_at mid ring.first ≡ Some own → (q : ℕ) → links_at new q ≡ option_map (λ l. linked at ring.first q (linked own.before at q l)) (links_at mid q)
    links_mid some own there q =
        links some own (ap (λ (rows : Rows). links_at rows ring.first) mid_is ∙ there) q
        ∙ (λ i. option_map (λ l. linked (place_is i) ring.first q (linked own.before (place_is i) q l)) (links_at (mid_is i) q))

    pub kept_inserted : IsDistinct same_actor (keys_of inserted) → AreKeptIn new now
    kept_inserted distinct =
        kept_joining new now after after_at now_is (actors ∙ ap actors_in mid_is) (λ none. alone none ∙ mid_is) links_mid (subst (λ (rows : Rows). IsDistinct same_actor (keys_of rows)) mid_is distinct)

    pub own_inserted : count_at (table_in new now) id.slot ≡ count_at (table_in es rings) id.slot + 1
    own_inserted = own_more new now after after_at now_is (actors ∙ ap actors_in mid_is) (λ none. alone none ∙ mid_is) links_mid

    pub places_inserted : ((q : ActorId) → lookup (same_actor q) inserted ≡ cond (same_actor id q) (Some row) (lookup (same_actor q) es)) → Places (table_in es rings) id (Some actor) (table_in new now)
    places_inserted updates = record {
      at = λ q. ap (lookup (same_actor q)) actors ∙ actor_placed id (Some row) es inserted updates q;
      slots = long_joined new now after after_at now_is (actors ∙ ap actors_in mid_is) (λ none. alone none ∙ mid_is) links_mid;
      others = others_more new now after after_at now_is (actors ∙ ap actors_in mid_is) (λ none. alone none ∙ mid_is) links_mid;
    }

-- a row whose slot and name are free goes last
pub inserted_last : {Z : Type 0} (map : IndexMap ActorId ActorRow Z) (rings : List Ring) (id : ActorId) (row : ActorRow) → actor_at (table_in map.entries rings) id ≡ None → (new : Rows) → new ≡ insert_entry same_actor map.entries id row → new ≡ map.entries ++ (id, row) ∷ []
inserted_last map rings id row free new is = is ∙ insert_entry-new same_actor map id row (none (lookup (same_actor id) map.entries) (sym (actors_found id map.entries) ∙ free))
  where
    none : (o : Option ActorRow) → option_map (λ (r : ActorRow). r.actor) o ≡ None → o ≡ None
    none None h = refl
    none (Some r) h = absurd (true≢false (ap is_some h))

pub inserted_at : {Z : Type 0} (map : IndexMap ActorId ActorRow Z) (rings : List Ring) (id : ActorId) (actor : Actor) (place : ℕ) → place ≡ length map.entries → actor_at (table_in map.entries rings) id ≡ None → (new : Rows) →
    new ≡ insert_entry same_actor map.entries id (record { actor = actor; before = place; behind = place }) → new ≡ map.entries ++ (id, record { actor = actor; before = length map.entries; behind = length map.entries }) ∷ []
inserted_at map rings id actor place len free new is =
    inserted_last map rings id (record { actor = actor; before = place; behind = place }) free new is
    ∙ (λ i. map.entries ++ (id, record { actor = actor; before = len i; behind = len i }) ∷ [])

-- ---- a slot is cleared

-- where a slot has no rows it has no actor
pub none_at : {A : Type 0} (actors : List (ActorId × A)) (slot : ℕ) → count_by (λ (a : ActorId × A). nat_eq a.0.slot slot) actors ≡ 0 → (q : ActorId) → slot ≡ q.slot → lookup (same_actor q) actors ≡ None
none_at {A} [] slot none q of = refl
none_at {A} (a ∷ actors) slot none q of = elim (eqb_tells a.0.slot slot) [
  | inl is ↦
      let sum = sum_by-cons (λ (b : ActorId × A). cond (nat_eq b.0.slot slot) 1 0) a actors in
      let one = ap {B = ℕ} (λ t. cond t 1 0) is.0 in
      absurd (omega (arith, sum, one, none))
  | inr apart ↦
      let sum = sum_by-cons (λ (b : ActorId × A). cond (nat_eq b.0.slot slot) 1 0) a actors in
      let zero_is = ap {B = ℕ} (λ t. cond t 1 0) apart.0 in
      ap (λ t. cond t (Some a.1) (lookup (same_actor q) actors)) (other_slot q a.0 (λ e. apart.1 (sym e ∙ sym of)))
      ∙ none_at actors slot (omega (arith, sum, zero_is, none)) q of
]

-- the rows of a slot that is being cleared: those of the others are as they were
pub record IsClearing (slot : ℕ) (es : Rows) (rings : List Ring) (now : Rows) (rings_now : List Ring) : Type 0 where
  pub kept : AreKeptIn now rings_now
  pub long : length rings_now ≡ length rings
  pub elsewhere : (q : ActorId) → slot ≢ q.slot → actor_at (table_in now rings_now) q ≡ actor_at (table_in es rings) q
  pub counts : (other : ℕ) → slot ≢ other → count_at (table_in now rings_now) other ≡ count_at (table_in es rings) other

-- the first of its ring
pub first_row : (es : Rows) (rings : List Ring) → AreKeptIn es rings → (slot : ℕ) → slot < length rings → 0 < (ring_at slot rings).count → (e : ActorId × ActorRow) × (slice_get es (ring_at slot rings).first ≡ Some e) × (e.0.slot ≡ slot)
first_row es rings kept slot within some =
    let r = row_of es slot (subst (λ n. 0 < n) (kept.counted slot within) some) in
    let l = kept.ringed.led r.0 r.1 r.2 in
    by (slice_get es (ring_at slot rings).first) refl l.0 (ap (λ s. links_at es (first_in rings s)) (sym r.3) ∙ l.1) (l.2 ∙ r.3)
  where
    by : (o : Option (ActorId × ActorRow)) → slice_get es (ring_at slot rings).first ≡ o → (own : Links) → links_at es (ring_at slot rings).first ≡ Some own → own.slot ≡ slot → (e : ActorId × ActorRow) × (slice_get es (ring_at slot rings).first ≡ Some e) × (e.0.slot ≡ slot)
    by None e own there of = absurd (true≢false (ap is_some (sym there ∙ ap (option_map links_of) e)))
    by (Some x) e own there of = (x, e, ap (λ (l : Links). l.slot) (same_value (links_of x) own (sym (ap (option_map links_of) e) ∙ there)) ∙ of)

-- the same, where the ring was read
pub first_read : (es : Rows) (rings : List Ring) → AreKeptIn es rings → (slot : ℕ) (tested ring : Ring) → slot < length rings → tested ≡ get_or rings slot tested → ring ≡ get_or rings slot ring → 0 < tested.count →
    (e : ActorId × ActorRow) × (slice_get es ring.first ≡ Some e) × (e.0.slot ≡ slot)
first_read es rings kept slot tested ring within test_read read some =
    let row = first_row es rings kept slot within (subst (λ (r : Ring). 0 < r.count) (sym (item_is rings slot tested (record { first = 0; count = 0 }) within test_read)) some) in
    (row.0, ap (λ (r : Ring). slice_get es r.first) (sym (item_is rings slot ring (record { first = 0; count = 0 }) within read)) ∙ row.1, row.2)

-- its ring has one row less then
pub ring_less : (mid : Rows) (rings_mid : List Ring) (now : Rows) (rings_now : List Ring) (slot : ℕ) (id : ActorId) → AreKeptIn mid rings_mid → AreKeptIn now rings_now → length rings_now ≡ length rings_mid → slot < length rings_mid → id.slot ≡ slot →
    count_at (table_in now rings_now) id.slot + 1 ≡ count_at (table_in mid rings_mid) id.slot → (ring_at slot rings_now).count < (ring_at slot rings_mid).count
ring_less mid rings_mid now rings_now slot id was is long within of less =
    let before = was.counted slot within in
    let after = is.counted slot (subst (λ n. slot < n) (sym long) within) in
    let one = subst (λ s. count_at (table_in now rings_now) s + 1 ≡ count_at (table_in mid rings_mid) s) of less in
    omega (arith, before, after, one)

-- one row more is removed
pub clears_on : (slot : ℕ) (es : Rows) (rings : List Ring) (mid : Rows) (rings_mid : List Ring) (now : Rows) (rings_now : List Ring) (id : ActorId) → id.slot ≡ slot → IsClearing slot es rings mid rings_mid →
    AreKeptIn now rings_now → Places (table_in mid rings_mid) id None (table_in now rings_now) → IsClearing slot es rings now rings_now
clears_on slot es rings mid rings_mid now rings_now id of before kept out = record {
  kept = kept;
  long = out.slots ∙ before.long;
  elsewhere = λ q differ. out.at q ∙ ap (λ t. cond t None (actor_at (table_in mid rings_mid) q)) (other_slot id q (λ e. differ (sym of ∙ e))) ∙ before.elsewhere q differ;
  counts = λ other differ. out.others other (λ e. differ (sym of ∙ e)) ∙ before.counts other differ;
}

-- none is left
pub is_cleared : (slot : ℕ) (es : Rows) (rings : List Ring) (now : Rows) (rings_now : List Ring) → slot < length rings → IsClearing slot es rings now rings_now → (ring_at slot rings_now).count ≡ 0 →
    IsClearedOf slot (table_in es rings) (table_in now rings_now)
is_cleared slot es rings now rings_now within clearing none =
    let empty = sym (clearing.kept.counted slot (subst (λ n. slot < n) (sym clearing.long) within)) ∙ none in
    record {
      none = none_at (actors_in now) slot empty;
      empty = empty;
      elsewhere = clearing.elsewhere;
      counts = clearing.counts;
      slots = clearing.long;
    }
