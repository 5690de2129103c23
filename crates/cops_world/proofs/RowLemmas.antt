-- The rows of all tenants' actors as a list: links change, a row leaves, a row joins.
use Rattle.std.proofs.Common.{◌≡◌, ◌≢◌, ◌⊎◌, inl, inr, ℕ, zero, suc, ◌+◌, ◌-◌, ◌<◌, ◌≤◌, Bool, true, false, true≢false, cond, List, [], ◌∷◌, ◌++◌, length, map, set, get_or, take, refl, sym, subst, ap, ◌∙◌, arith, length-take}
use Rattle.std.specs.Prelude.{Option, Some, None, IfSome, is_some, nat_eq, slice_get, swap_remove, count_by, sum_by}
use Rattle.std.specs.List.{IsDistinct}
use Rattle.std.specs.Map.{keys_of, values_of}
use Rattle.std.specs.Option.{option_map}
use Rattle.std.proofs.Math.ListN.{length-set}
use Rattle.std.proofs.lemmas.Bool.{cases_order}
use Rattle.std.proofs.lemmas.Bool.Decides.{eqb_tells}
use Rattle.std.proofs.lemmas.List.{get_or-set_same, get_or-set_other, get_or-take}
use Rattle.std.proofs.lemmas.List.Sums.{count_by-le-length, sum_by-append, sum_by-cons, sum_by-swap_remove}
use Rattle.std.proofs.lemmas.Option.{slice_get-get_or, slice_get_past, slice_get_within, slice_get-map, get_or_from_slice_get}
use Rattle.indexmap.specs.IndexMap.{set_value_at}
use Rattle.cops_types.proofs.WordLemmas.{same_value}
use Rattle.cops_world.specs.declared.actors.Actor.{Actor}
use Rattle.cops_world.specs.declared.actors.ActorId.{ActorId}
use Rattle.cops_world.specs.declared.rings.ActorRow.{ActorRow}
use Rattle.cops_world.specs.declared.rings.Ring.{Ring}
use Rattle.cops_world.specs.ActorTables.{Table, count_at, same_actor}
use Rattle.cops_world.specs.ActorRings.{AreKeptIn, AreRings, Links, actors_in, first_in, holed, linked, links_at, links_of, longer, passed_to, ring_at, table_in}
use Rattle.cops_world.proofs.RingLemmas.{rings_begun, rings_joined, rings_left, rings_moved, test_other, test_same}

abbrev Rows : Type 0
Rows = List (ActorId × ActorRow)

-- ---- lists

-- a value is that of an entry
pub entry_of : {V : Type 0} (es : List (ActorId × V)) (i : ℕ) (v : V) → slice_get (values_of es) i ≡ Some v → (id : ActorId) × (slice_get es i ≡ Some (id, v))
entry_of [] i v at = absurd (true≢false (sym (ap is_some at)))
entry_of (e ∷ es) zero v at = let same = same_value e.1 v at in (e.0, λ i. Some (e.0, same i))
entry_of (e ∷ es) (suc i) v at = entry_of es i v at

pub set_same : {V : Type 0} (es : List (ActorId × V)) (i : ℕ) (e : ActorId × V) (w : V) → slice_get es i ≡ Some e → slice_get (set_value_at es i w) i ≡ Some (e.0, w)
set_same [] i e w at = absurd (true≢false (sym (ap is_some at)))
set_same (x ∷ es) zero e w at = let same = same_value x e at in λ i. Some ((same i).0, w)
set_same (x ∷ es) (suc i) e w at = set_same es i e w at

pub set_other : {V : Type 0} (es : List (ActorId × V)) (i q : ℕ) (w : V) → q ≢ i → slice_get (set_value_at es i w) q ≡ slice_get es q
set_other [] i q w differ = refl
set_other (x ∷ es) zero zero w differ = absurd (differ refl)
set_other (x ∷ es) zero (suc q) w differ = refl
set_other (x ∷ es) (suc i) zero w differ = refl
set_other (x ∷ es) (suc i) (suc q) w differ = set_other es i q w (λ e. differ (ap suc e))

pub actors_set : (es : Rows) (i : ℕ) (w : ActorRow) → actors_in (set_value_at es i w) ≡ set_value_at (actors_in es) i w.actor
actors_set [] i w = refl
actors_set (e ∷ es) zero w = refl
actors_set (e ∷ es) (suc i) w = ap (λ actors. (e.0, e.1.actor) ∷ actors) (actors_set es i w)

actors_kept : (es : Rows) (i : ℕ) (e : ActorId × ActorRow) (w : ActorRow) → slice_get es i ≡ Some e → w.actor ≡ e.1.actor → actors_in (set_value_at es i w) ≡ actors_in es
actors_kept [] i e w at same = refl
actors_kept (x ∷ es) zero e w at same = let is = same_value x e at in λ i. (x.0, (same ∙ sym (ap (λ (y : ActorId × ActorRow). y.1.actor) is)) i) ∷ actors_in es
actors_kept (x ∷ es) (suc i) e w at same = ap (λ actors. (x.0, x.1.actor) ∷ actors) (actors_kept es i e w at same)

pub keys_in : (es : Rows) → keys_of (actors_in es) ≡ keys_of es
keys_in [] = refl
keys_in (e ∷ es) = ap (λ ids. e.0 ∷ ids) (keys_in es)

pub long_in : (es : Rows) → length (actors_in es) ≡ length es
long_in [] = refl
long_in (e ∷ es) = ap suc (long_in es)

-- as many rows where the actors are the same
pub same_long : (es fs : Rows) → actors_in fs ≡ actors_in es → length fs ≡ length es
same_long es fs same = sym (long_in fs) ∙ ap length same ∙ long_in es

pub links_within : (es : Rows) (q : ℕ) (l : Links) → links_at es q ≡ Some l → q < length es
links_within es q l at = by (slice_get es q) refl
  where
    by : (o : Option (ActorId × ActorRow)) → slice_get es q ≡ o → q < length es
    by None e = absurd (true≢false (ap is_some (sym at ∙ ap (option_map links_of) e)))
    by (Some x) e = slice_get_within es q x e

pub links_there : (es : Rows) (i : ℕ) (row : ActorRow) → slice_get (values_of es) i ≡ Some row → (own : Links) × (links_at es i ≡ Some own) × (own.before ≡ row.before) × (own.behind ≡ row.behind)
links_there es i row at = let e = entry_of es i row at in (links_of (e.0, row), ap (option_map links_of) e.1, refl, refl)

-- any row that is within
pub links_here : (es : Rows) (i : ℕ) → i < length es → (own : Links) × (links_at es i ≡ Some own)
links_here [] i within = absurd (omega arith)
links_here (e ∷ es) zero within = (links_of e, refl)
links_here (e ∷ es) (suc i) within = links_here es i (omega arith)

pub entry_here : (es : Rows) (i : ℕ) → i < length es → (e : ActorId × ActorRow) × (slice_get es i ≡ Some e)
entry_here [] i within = absurd (omega arith)
entry_here (e ∷ es) zero within = (e, refl)
entry_here (e ∷ es) (suc i) within = entry_here es i (omega arith)

-- ---- two rows are made neighbours

same_links : (o : Option Links) → option_map (λ (l : Links). let m : Links = record { slot = l.slot; before = l.before; behind = l.behind } in m) o ≡ o
same_links None = refl
same_links (Some l) = refl

abbrev with_behind : ℕ → ℕ → ℕ → Links → Links
with_behind at next q l = record { slot = l.slot; before = l.before; behind = cond (nat_eq q at) next l.behind }

abbrev with_before : ℕ → ℕ → ℕ → Links → Links
with_before at before q l = record { slot = l.slot; before = cond (nat_eq q at) before l.before; behind = l.behind }

behind_set : (es : Rows) (at next : ℕ) (id : ActorId) (row : ActorRow) → slice_get es at ≡ Some (id, row) → (q : ℕ) →
    links_at (set_value_at es at (record row { behind = next })) q ≡ option_map (with_behind at next q) (links_at es q)
behind_set es at next id row there q = elim (eqb_tells q at) [
  | inl is ↦
      ap (links_at (set_value_at es at (record row { behind = next }))) is.1
      ∙ ap (option_map links_of) (set_same es at (id, row) (record row { behind = next }) there)
      ∙ ap (λ t. let m : Links = record { slot = id.slot; before = row.before; behind = cond t next row.behind } in Some m) (sym is.0)
      ∙ ap (option_map (with_behind at next q)) (sym (ap (links_at es) is.1 ∙ ap (option_map links_of) there))
  | inr apart ↦
      ap (option_map links_of) (set_other es at q (record row { behind = next }) apart.1)
      ∙ sym (same_links (links_at es q))
      ∙ ap (λ t. option_map (λ (l : Links). let m : Links = record { slot = l.slot; before = l.before; behind = cond t next l.behind } in m) (links_at es q)) (sym apart.0)
]

before_set : (es : Rows) (at before : ℕ) (id : ActorId) (row : ActorRow) → slice_get es at ≡ Some (id, row) → (q : ℕ) →
    links_at (set_value_at es at (record row { before = before })) q ≡ option_map (with_before at before q) (links_at es q)
before_set es at before id row there q = elim (eqb_tells q at) [
  | inl is ↦
      ap (links_at (set_value_at es at (record row { before = before }))) is.1
      ∙ ap (option_map links_of) (set_same es at (id, row) (record row { before = before }) there)
      ∙ ap (λ t. let m : Links = record { slot = id.slot; before = cond t before row.before; behind = row.behind } in Some m) (sym is.0)
      ∙ ap (option_map (with_before at before q)) (sym (ap (links_at es) is.1 ∙ ap (option_map links_of) there))
  | inr apart ↦
      ap (option_map links_of) (set_other es at q (record row { before = before }) apart.1)
      ∙ sym (same_links (links_at es q))
      ∙ ap (λ t. option_map (λ (l : Links). let m : Links = record { slot = l.slot; before = cond t before l.before; behind = l.behind } in m) (links_at es q)) (sym apart.0)
]

both_set : (at next q : ℕ) (o : Option Links) → option_map (with_before next at q) (option_map (with_behind at next q) o) ≡ option_map (linked at next q) o
both_set at next q None = refl
both_set at next q (Some l) = refl

module _ (es : Rows) (at next : ℕ) (a b : ActorRow) (at_is : slice_get (values_of es) at ≡ Some a) (next_is : slice_get (values_of (set_value_at es at (record a { behind = next }))) next ≡ Some b) where
  abbrev half : Rows
  half = set_value_at es at (record a { behind = next })

  pub actors_linked : actors_in (set_value_at half next (record b { before = at })) ≡ actors_in es
  actors_linked =
      let one = entry_of es at a at_is in
      let other = entry_of half next b next_is in
      actors_kept half next (other.0, b) (record b { before = at }) other.1 refl ∙ actors_kept es at (one.0, a) (record a { behind = next }) one.1 refl

  pub links_linked : (q : ℕ) → links_at (set_value_at half next (record b { before = at })) q ≡ option_map (linked at next q) (links_at es q)
  links_linked q =
      let one = entry_of es at a at_is in
      let other = entry_of half next b next_is in
      before_set half next at other.0 b other.1 q ∙ ap (option_map (with_before next at q)) (behind_set es at next one.0 a one.1 q) ∙ both_set at next q (links_at es q)

-- another pair of neighbours after the first
pub linked_twice : (at next from to q : ℕ) (o : Option Links) → option_map (linked from to q) (option_map (linked at next q) o) ≡ option_map (λ l. linked from to q (linked at next q l)) o
linked_twice at next from to q None = refl
linked_twice at next from to q (Some l) = refl

-- ---- the last row takes a place

module _ {X : Type 0} (xs : List X) (place : ℕ) (e : X) (within : place < length xs) where
  abbrev last : ℕ
  last = length xs - 1

  abbrev filled : List X
  filled = set xs place (get_or xs last e)

  long_filled : length filled ≡ length xs
  long_filled = length-set xs place (get_or xs last e)

  long_removed : length (swap_remove xs place e) ≡ last
  long_removed = let long = long_filled in let some = length-take last filled in omega (arith, long, some)

  removed_get : (q : ℕ) → q < last → slice_get (swap_remove xs place e) q ≡ Some (get_or filled q e)
  removed_get q below =
      let long = long_removed in
      slice_get-get_or (swap_remove xs place e) q e (omega (arith, below, long)) ∙ ap Some (get_or-take last filled q e below)

  pub removed_last : slice_get (swap_remove xs place e) last ≡ None
  removed_last = let long = long_removed in slice_get_past (swap_remove xs place e) last (omega (arith, long))

  pub removed_past : (q : ℕ) → last < q → slice_get (swap_remove xs place e) q ≡ slice_get xs q
  removed_past q above =
      let long = long_removed in
      slice_get_past (swap_remove xs place e) q (omega (arith, long, above)) ∙ sym (slice_get_past xs q (omega (arith, above)))

  pub removed_here : place ≢ last → slice_get (swap_remove xs place e) place ≡ slice_get xs last
  removed_here differ = by (cases_order place last)
    where
      by : (place ≡ last) ⊎ ((place < last) ⊎ (last < place)) → slice_get (swap_remove xs place e) place ≡ slice_get xs last
      by (inl same) = absurd (differ same)
      by (inr (inl below)) =
          removed_get place below ∙ ap Some (get_or-set_same xs place (get_or xs last e) e within) ∙ sym (slice_get-get_or xs last e (omega (arith, within)))
      by (inr (inr above)) = absurd (omega (arith, within, above))

  pub removed_elsewhere : (q : ℕ) → q ≢ place → q ≢ last → slice_get (swap_remove xs place e) q ≡ slice_get xs q
  removed_elsewhere q apart differ = by (cases_order q last)
    where
      by : (q ≡ last) ⊎ ((q < last) ⊎ (last < q)) → slice_get (swap_remove xs place e) q ≡ slice_get xs q
      by (inl same) = absurd (differ same)
      by (inr (inl below)) = removed_get q below ∙ ap Some (get_or-set_other xs place q (get_or xs last e) e apart) ∙ sym (slice_get-get_or xs q e (omega (arith, below)))
      by (inr (inr above)) = removed_past q above

-- ---- the rings of the slots

pub ring_same : (rings : List Ring) (slot : ℕ) (ring : Ring) → slot < length rings → ring_at slot (set rings slot ring) ≡ ring
ring_same rings slot ring within = get_or-set_same rings slot ring (record { first = 0; count = 0 }) within

pub ring_other : (rings : List Ring) (slot other : ℕ) (ring : Ring) → other ≢ slot → ring_at other (set rings slot ring) ≡ ring_at other rings
ring_other rings slot other ring differ = get_or-set_other rings slot other ring (record { first = 0; count = 0 }) differ

-- a ring that begins elsewhere has as many rows
pub counts_passed : (rings now : List Ring) (slot from to : ℕ) → slot < length rings → now ≡ set rings slot (passed_to from to (ring_at slot rings)) → (other : ℕ) → (ring_at other now).count ≡ (ring_at other rings).count
counts_passed rings now slot from to within is other = elim (eqb_tells other slot) [
  | inl same ↦
      ap (λ (rs : List Ring). (ring_at other rs).count) is
      ∙ ap (λ n. (ring_at n (set rings slot (passed_to from to (ring_at slot rings)))).count) same.1
      ∙ ap (λ (r : Ring). r.count) (ring_same rings slot (passed_to from to (ring_at slot rings)) within)
      ∙ ap (λ n. (ring_at n rings).count) (sym same.1)
  | inr apart ↦ ap (λ (rs : List Ring). (ring_at other rs).count) is ∙ ap (λ (r : Ring). r.count) (ring_other rings slot other (passed_to from to (ring_at slot rings)) apart.1)
]

pub long_passed : (rings now : List Ring) (slot : ℕ) (ring : Ring) → now ≡ set rings slot ring → length now ≡ length rings
long_passed rings now slot ring is = ap length is ∙ length-set rings slot ring

-- rings are the same for the same links
pub rings_as : (rows now : ℕ → Option Links) (slots : ℕ) (first : ℕ → ℕ) → ((q : ℕ) → now q ≡ rows q) → AreRings rows slots first → AreRings now slots first
rings_as rows now slots first same are = subst (λ (r : ℕ → Option Links). AreRings r slots first) (λ i q. sym (same q) i) are

-- and for the same firsts
pub rings_by : (rows : ℕ → Option Links) (slots more : ℕ) (first now : ℕ → ℕ) → more ≡ slots → ((slot : ℕ) → now slot ≡ first slot) → AreRings rows slots first → AreRings rows more now
rings_by rows slots more first now long same are = subst (λ (f : ℕ → ℕ). AreRings rows more f) (λ i q. sym (same q) i) (subst (λ n. AreRings rows n first) (sym long) are)

-- ---- a row leaves its ring

pub holed_here : (rows : ℕ → Option Links) (place : ℕ) → holed place rows place ≡ None
holed_here rows place = ap (λ t. cond t None (rows place)) (test_same place place refl)

pub holed_other : (rows : ℕ → Option Links) (place q : ℕ) → q ≢ place → holed place rows q ≡ rows q
holed_other rows place q differ = ap (λ t. cond t None (rows q)) (test_other q place differ)

-- what is there with a hole is there
pub holed_there : (rows : ℕ → Option Links) (place q : ℕ) (l : Links) → holed place rows q ≡ Some l → rows q ≡ Some l
holed_there rows place q l at = elim (eqb_tells q place) [
  | inl is ↦ absurd (true≢false (ap is_some (sym at ∙ ap (holed place rows) is.1 ∙ holed_here rows place)))
  | inr apart ↦ sym (holed_other rows place q apart.1) ∙ at
]

pub taken_out : (es new : Rows) (rings now : List Ring) (place slot behind : ℕ) (n : Links) → AreRings (links_at es) (length rings) (first_in rings) → links_at es place ≡ Some n → slot ≡ n.slot → behind ≡ n.behind →
    ((q : ℕ) → links_at new q ≡ option_map (linked n.before n.behind q) (links_at es q)) → now ≡ set rings slot (passed_to place behind (ring_at slot rings)) →
    AreRings (holed place (links_at new)) (length now) (first_in now)
taken_out es new rings now place slot behind n are here slot_is behind_is links is =
    let after : Ring = passed_to place n.behind (ring_at n.slot rings) in
    let within = are.within place n here in
    let told : now ≡ set rings n.slot after = is ∙ (λ i. set rings (slot_is i) (passed_to place (behind_is i) (ring_at (slot_is i) rings))) in
    subst (λ s. AreRings (holed place (links_at new)) s (first_in now)) (sym (long_passed rings now n.slot after told))
    (rings_left (links_at es) (length rings) (first_in rings) are place n here (holed place (links_at new)) (first_in now)
    (holed_here (links_at new) place)
    (λ q differ. holed_other (links_at new) place q differ ∙ links q)
    (ap (λ rs. first_in rs n.slot) told ∙ ap (λ (r : Ring). r.first) (ring_same rings n.slot after within))
    (λ other differ. ap (λ rs. first_in rs other) told ∙ ap (λ (r : Ring). r.first) (ring_other rings n.slot other after differ)))

-- ---- the last row comes to a place

-- the place is the last
pub way_free : (es : Rows) (slots : ℕ) (first : ℕ → ℕ) (place : ℕ) (e : ActorId × ActorRow) → place < length es → length es - 1 ≡ place → AreRings (holed place (links_at es)) slots first → AreRings (links_at (swap_remove es place e)) slots first
way_free es slots first place e within is are =
    rings_as (holed place (links_at es)) (links_at (swap_remove es place e)) slots first
    (λ q. elim (eqb_tells q place) [
      | inl same ↦
          ap (links_at (swap_remove es place e)) (same.1 ∙ sym is) ∙ ap (option_map links_of) (removed_last es place e within)
          ∙ sym (holed_here (links_at es) place) ∙ ap (holed place (links_at es)) (sym same.1)
      | inr apart ↦
          ap (option_map links_of) (removed_elsewhere es place e within q apart.1 (λ same. apart.1 (same ∙ is)))
          ∙ sym (holed_other (links_at es) place q apart.1)
    ]) are

-- it is not
pub way_made : (es new : Rows) (rings now : List Ring) (place last slot : ℕ) (n : Links) (e : ActorId × ActorRow) → last ≡ length es - 1 → place < length es → last ≢ place → AreRings (holed place (links_at es)) (length rings) (first_in rings) →
    links_at es last ≡ Some n → slot ≡ n.slot → length new ≡ length es →
    ((q : ℕ) → links_at new q ≡ option_map (λ l. linked place n.behind q (linked n.before place q l)) (links_at es q)) → now ≡ set rings slot (passed_to last place (ring_at slot rings)) →
    AreRings (links_at (swap_remove new place e)) (length now) (first_in now)
way_made es new rings now place last slot n e last_is within apart are here slot_is long links is =
    let after : Ring = passed_to last place (ring_at n.slot rings) in
    let in_new : place < length new = subst (λ k. place < k) (sym long) within in
    let last_new : length new - 1 ≡ last = ap (λ k. k - 1) long ∙ sym last_is in
    let last_here : holed place (links_at es) last ≡ Some n = holed_other (links_at es) place last apart ∙ here in
    let below = are.within last n last_here in
    let told : now ≡ set rings n.slot after = is ∙ (λ i. set rings (slot_is i) (passed_to last place (ring_at (slot_is i) rings))) in
    subst (λ s. AreRings (links_at (swap_remove new place e)) s (first_in now)) (sym (long_passed rings now n.slot after told))
    (rings_moved (holed place (links_at es)) (length rings) (first_in rings) are last place (holed_here (links_at es) place) n last_here (links_at (swap_remove new place e)) (first_in now)
    (ap (links_at (swap_remove new place e)) (sym last_new) ∙ ap (option_map links_of) (removed_last new place e in_new))
    (ap (option_map links_of) (removed_here new place e in_new (λ same. apart (sym last_new ∙ sym same)) ∙ ap (slice_get new) last_new) ∙ links last
    ∙ ap (option_map (λ l. linked place n.behind last (linked n.before place last l))) (sym (holed_other (links_at es) place last apart)))
    (λ q other differ.
    ap (option_map links_of) (removed_elsewhere new place e in_new q other (λ same. differ (same ∙ last_new))) ∙ links q
    ∙ ap (option_map (λ l. linked place n.behind q (linked n.before place q l))) (sym (holed_other (links_at es) place q other)))
    (ap (λ rs. first_in rs n.slot) told ∙ ap (λ (r : Ring). r.first) (ring_same rings n.slot after below))
    (λ other differ. ap (λ rs. first_in rs other) told ∙ ap (λ (r : Ring). r.first) (ring_other rings n.slot other after differ)))

-- ---- how many rows a slot has

abbrev is_at : {V : Type 0} → ℕ → ActorId × V → Bool
is_at slot e = nat_eq e.0.slot slot

pub count_in : (es : Rows) (slot : ℕ) → count_by (λ (a : ActorId × Actor). nat_eq a.0.slot slot) (actors_in es) ≡ count_by (λ (e : ActorId × ActorRow). nat_eq e.0.slot slot) es
count_in [] slot = refl
count_in (e ∷ es) slot =
    sum_by-cons (λ (a : ActorId × Actor). cond (nat_eq a.0.slot slot) 1 0) (e.0, e.1.actor) (actors_in es)
    ∙ ap (λ n. cond (nat_eq e.0.slot slot) 1 0 + n) (count_in es slot)
    ∙ sym (sum_by-cons (λ (f : ActorId × ActorRow). cond (nat_eq f.0.slot slot) 1 0) e es)

-- where the row at a place is taken out
module _ (es : Rows) (place : ℕ) (id : ActorId) (row : ActorRow) (there : slice_get es place ≡ Some (id, row)) (spare : ActorId × ActorRow) where
  whole : (slot : ℕ) → count_by (λ (e : ActorId × ActorRow). nat_eq e.0.slot slot) (swap_remove es place spare) + cond (nat_eq id.slot slot) 1 0 ≡ count_by (λ (e : ActorId × ActorRow). nat_eq e.0.slot slot) es
  whole slot =
      ap (λ (e : ActorId × ActorRow). count_by (λ (f : ActorId × ActorRow). nat_eq f.0.slot slot) (swap_remove es place spare) + cond (nat_eq e.0.slot slot) 1 0) (sym (get_or_from_slice_get es place (id, row) spare there))
      ∙ sum_by-swap_remove (λ (f : ActorId × ActorRow). cond (nat_eq f.0.slot slot) 1 0) es place spare (slice_get_within es place (id, row) there)

  pub one_less : (slot : ℕ) → id.slot ≡ slot → count_by (λ (a : ActorId × Actor). nat_eq a.0.slot slot) (actors_in (swap_remove es place spare)) + 1 ≡ count_by (λ (a : ActorId × Actor). nat_eq a.0.slot slot) (actors_in es)
  one_less slot same =
      ap (λ n. n + 1) (count_in (swap_remove es place spare) slot)
      ∙ ap (λ t. count_by (λ (e : ActorId × ActorRow). nat_eq e.0.slot slot) (swap_remove es place spare) + cond t 1 0) (sym (test_same id.slot slot same))
      ∙ whole slot ∙ sym (count_in es slot)

  pub none_less : (slot : ℕ) → id.slot ≢ slot → count_by (λ (a : ActorId × Actor). nat_eq a.0.slot slot) (actors_in (swap_remove es place spare)) ≡ count_by (λ (a : ActorId × Actor). nat_eq a.0.slot slot) (actors_in es)
  none_less slot differ =
      count_in (swap_remove es place spare) slot
      ∙ (let all = whole slot in let zero_is = ap {B = ℕ} (λ t. cond t 1 0) (test_other id.slot slot differ) in omega (arith, all, zero_is))
      ∙ sym (count_in es slot)

-- where one is added
module _ (es : Rows) (id : ActorId) (row : ActorRow) where
  added : (slot : ℕ) → count_by (λ (a : ActorId × Actor). nat_eq a.0.slot slot) (actors_in (es ++ (id, row) ∷ [])) ≡ count_by (λ (a : ActorId × Actor). nat_eq a.0.slot slot) (actors_in es) + cond (nat_eq id.slot slot) 1 0
  added slot =
      count_in (es ++ (id, row) ∷ []) slot
      ∙ sum_by-append (λ (e : ActorId × ActorRow). cond (nat_eq e.0.slot slot) 1 0) es ((id, row) ∷ [])
      ∙ ap (λ n. count_by (λ (e : ActorId × ActorRow). nat_eq e.0.slot slot) es + n) (sum_by-cons (λ (e : ActorId × ActorRow). cond (nat_eq e.0.slot slot) 1 0) (id, row) [] ∙ omega arith)
      ∙ ap (λ n. n + cond (nat_eq id.slot slot) 1 0) (sym (count_in es slot))

  pub one_more : (slot : ℕ) → id.slot ≡ slot → count_by (λ (a : ActorId × Actor). nat_eq a.0.slot slot) (actors_in (es ++ (id, row) ∷ [])) ≡ count_by (λ (a : ActorId × Actor). nat_eq a.0.slot slot) (actors_in es) + 1
  one_more slot same = added slot ∙ ap (λ t. count_by (λ (a : ActorId × Actor). nat_eq a.0.slot slot) (actors_in es) + cond t 1 0) (test_same id.slot slot same)

  pub none_more : (slot : ℕ) → id.slot ≢ slot → count_by (λ (a : ActorId × Actor). nat_eq a.0.slot slot) (actors_in (es ++ (id, row) ∷ [])) ≡ count_by (λ (a : ActorId × Actor). nat_eq a.0.slot slot) (actors_in es)
  none_more slot differ =
      added slot ∙ ap (λ t. count_by (λ (a : ActorId × Actor). nat_eq a.0.slot slot) (actors_in es) + cond t 1 0) (test_other id.slot slot differ) ∙ omega arith

-- a slot with a row has some, and one with some has a row
pub some_at : (es : Rows) (place slot : ℕ) (own : Links) → links_at es place ≡ Some own → own.slot ≡ slot → 0 < count_by (λ (a : ActorId × Actor). nat_eq a.0.slot slot) (actors_in es)
some_at es place slot own at of = subst (λ n. 0 < n) (sym (count_in es slot)) (by es place at)
  where
    by : (es : Rows) (place : ℕ) → links_at es place ≡ Some own → 0 < count_by (λ (e : ActorId × ActorRow). nat_eq e.0.slot slot) es
    by [] place at = absurd (true≢false (sym (ap is_some at)))
    by (e ∷ es) zero at =
        let sum = sum_by-cons (λ (f : ActorId × ActorRow). cond (nat_eq f.0.slot slot) 1 0) e es in
        let one = ap {B = ℕ} (λ t. cond t 1 0) (test_same e.0.slot slot (ap (λ (l : Links). l.slot) (same_value (links_of e) own at) ∙ of)) in
        omega (arith, sum, one)
    by (e ∷ es) (suc place) at =
        let sum = sum_by-cons (λ (f : ActorId × ActorRow). cond (nat_eq f.0.slot slot) 1 0) e es in
        let more = by es place at in
        omega (arith, sum, more)

pub row_of : (es : Rows) (slot : ℕ) → 0 < count_by (λ (a : ActorId × Actor). nat_eq a.0.slot slot) (actors_in es) → (place : ℕ) × (own : Links) × (links_at es place ≡ Some own) × (own.slot ≡ slot)
row_of es slot some = by es (subst (λ n. 0 < n) (count_in es slot) some)
  where
    by : (es : Rows) → 0 < count_by (λ (e : ActorId × ActorRow). nat_eq e.0.slot slot) es → (place : ℕ) × (own : Links) × (links_at es place ≡ Some own) × (own.slot ≡ slot)
    by [] some = absurd (omega (arith, some))
    by (e ∷ es) some = elim (eqb_tells e.0.slot slot) [
      | inl is ↦ (0, links_of e, refl, is.1)
      | inr apart ↦
          let sum = sum_by-cons (λ (f : ActorId × ActorRow). cond (nat_eq f.0.slot slot) 1 0) e es in
          let none = ap {B = ℕ} (λ t. cond t 1 0) apart.0 in
          let rest = by es (omega (arith, sum, none, some)) in
          (suc rest.0, rest.1, rest.2, rest.3)
    ]

pub count_below : (es : Rows) (slot : ℕ) → count_by (λ (a : ActorId × Actor). nat_eq a.0.slot slot) (actors_in es) ≤ length es
count_below es slot = subst (λ n. n ≤ length es) (sym (count_in es slot)) (count_by-le-length (λ (e : ActorId × ActorRow). nat_eq e.0.slot slot) es)

-- ---- a row is removed

-- an item that was read with any other in its place
pub item_is : {A : Type 0} (xs : List A) (i : ℕ) (x d : A) → i < length xs → x ≡ get_or xs i x → get_or xs i d ≡ x
item_is [] i x d below h = absurd (omega arith)
item_is (y ∷ xs) zero x d below h = sym h
item_is (y ∷ xs) (suc i) x d below h = item_is xs i x d (omega arith) h

abbrev shown : ActorId × ActorRow → ActorId × Actor
shown e = (e.0, e.1.actor)

-- at its place the same actor is, whatever its links
pub still_there : (es mid : Rows) (place : ℕ) (id : ActorId) (row : ActorRow) → actors_in mid ≡ actors_in es → slice_get es place ≡ Some (id, row) → (now : ActorRow) × (slice_get mid place ≡ Some (id, now))
still_there es mid place id row same there = by (slice_get mid place) refl
  where
    read : option_map shown (slice_get mid place) ≡ option_map shown (Some (id, row))
    read = sym (slice_get-map shown mid place) ∙ ap (λ actors. slice_get actors place) same ∙ slice_get-map shown es place ∙ ap (option_map shown) there

    by : (o : Option (ActorId × ActorRow)) → slice_get mid place ≡ o → (now : ActorRow) × (slice_get mid place ≡ Some (id, now))
    by None e = absurd (true≢false (sym (ap is_some (sym (ap (option_map shown) e) ∙ read))))
    by (Some x) e =
        let same : shown x ≡ shown (id, row) = same_value (shown x) (shown (id, row)) (sym (ap (option_map shown) e) ∙ read) in
        (x.1, e ∙ (λ i. Some ((same i).0, x.1)))

-- the ring of a row has a row
pub one_there : (es : Rows) (rings before : List Ring) (place slot : ℕ) (ring : Ring) (n : Links) → AreKeptIn es rings → links_at es place ≡ Some n → slot ≡ n.slot → length before ≡ length rings →
    ((s : ℕ) → (ring_at s before).count ≡ (ring_at s rings).count) → ring ≡ get_or before slot ring → (slot < length before) × (1 ≤ ring.count)
one_there es rings before place slot ring n kept there slot_is long counts read =
    let within : slot < length rings = subst (λ s. s < length rings) (sym slot_is) (kept.ringed.within place n there) in
    let low : slot < length before = subst (λ k. slot < k) (sym long) within in
    let some = some_at es place slot n there (sym slot_is) in
    let had = ap (λ (r : Ring). r.count) (sym (item_is before slot ring (record { first = 0; count = 0 }) low read)) ∙ counts slot ∙ kept.counted slot within in
    (low, omega (arith, some, had))

-- the rings and the rows once a row was taken out of its ring, the last has its place, and its slot has one less
module _ (es mid new : Rows) (rings before now : List Ring) (place slot : ℕ) (ring : Ring) (id : ActorId) (row : ActorRow) (kept : AreKeptIn es rings) (there : slice_get es place ≡ Some (id, row)) (actors : actors_in mid ≡ actors_in es)
    (ringed : (e : ActorId × ActorRow) → AreRings (links_at (swap_remove mid place e)) (length before) (first_in before)) (long : length before ≡ length rings)
    (counts : (s : ℕ) → (ring_at s before).count ≡ (ring_at s rings).count) (slot_is : slot ≡ id.slot) (read : ring ≡ get_or before slot ring)
    (now_is : now ≡ set before slot (record { first = ring.first; count = ring.count - 1 })) (taken : Option (ActorId × ActorRow)) (taken_is : taken ≡ slice_get mid place)
    (entries : IfSome taken (λ p. new ≡ swap_remove mid place p)) where
  pub row_now : (after : ActorRow) × (slice_get mid place ≡ Some (id, after))
  row_now = still_there es mid place id row actors there

  pub entries_now : new ≡ swap_remove mid place (id, row_now.0)
  entries_now = subst (λ (o : Option (ActorId × ActorRow)). IfSome o (λ p. new ≡ swap_remove mid place p)) (taken_is ∙ row_now.1) entries

  own_within : slot < length rings
  own_within = subst (λ s. s < length rings) (sym slot_is) (kept.ringed.within place (links_of (id, row)) (ap (option_map links_of) there))

  own_before : slot < length before
  own_before = subst (λ n. slot < n) (sym long) own_within

  ring_is : ring_at slot before ≡ ring
  ring_is = item_is before slot ring (record { first = 0; count = 0 }) own_before read

  pub long_now : length now ≡ length rings
  long_now = long_passed before now slot (record { first = ring.first; count = ring.count - 1 }) now_is ∙ long

  of_mid : (s : ℕ) → count_by (λ (a : ActorId × Actor). nat_eq a.0.slot s) (actors_in mid) ≡ count_by (λ (a : ActorId × Actor). nat_eq a.0.slot s) (actors_in es)
  of_mid s = ap (count_by (λ (a : ActorId × Actor). nat_eq a.0.slot s)) actors

  pub own_less : count_at (table_in new now) id.slot + 1 ≡ count_at (table_in es rings) id.slot
  own_less =
      ap (λ (rows : Rows). count_by (λ (a : ActorId × Actor). nat_eq a.0.slot id.slot) (actors_in rows) + 1) entries_now
      ∙ one_less mid place id row_now.0 row_now.1 (id, row_now.0) id.slot refl ∙ of_mid id.slot

  pub others_as : (s : ℕ) → id.slot ≢ s → count_at (table_in new now) s ≡ count_at (table_in es rings) s
  others_as s differ =
      ap (λ (rows : Rows). count_by (λ (a : ActorId × Actor). nat_eq a.0.slot s) (actors_in rows)) entries_now
      ∙ none_less mid place id row_now.0 row_now.1 (id, row_now.0) s differ ∙ of_mid s

  firsts_as : (s : ℕ) → first_in now s ≡ first_in before s
  firsts_as s = elim (eqb_tells s slot) [
    | inl same ↦
        ap (λ (rs : List Ring). first_in rs s) now_is ∙ ap (first_in (set before slot (record { first = ring.first; count = ring.count - 1 }))) same.1
        ∙ ap (λ (r : Ring). r.first) (ring_same before slot (record { first = ring.first; count = ring.count - 1 }) own_before) ∙ ap (λ (r : Ring). r.first) (sym ring_is) ∙ ap (first_in before) (sym same.1)
    | inr apart ↦
        ap (λ (rs : List Ring). first_in rs s) now_is ∙ ap (λ (r : Ring). r.first) (ring_other before slot s (record { first = ring.first; count = ring.count - 1 }) apart.1)
  ]

  counted_now : (s : ℕ) → s < length now → (ring_at s now).count ≡ count_at (table_in new now) s
  counted_now s below = elim (eqb_tells s slot) [
    | inl same ↦
        let less = own_less in
        let was = kept.counted id.slot (subst (λ n. n < length rings) slot_is own_within) in
        let had : ring.count ≡ (ring_at id.slot rings).count = ap (λ (r : Ring). r.count) (sym ring_is) ∙ counts slot ∙ ap (λ n. (ring_at n rings).count) slot_is in
        let own : ring.count - 1 ≡ count_at (table_in new now) id.slot = omega (arith, less, was, had) in
        ap (λ (rs : List Ring). (ring_at s rs).count) now_is ∙ ap (λ n. (ring_at n (set before slot (record { first = ring.first; count = ring.count - 1 }))).count) same.1
        ∙ ap (λ (r : Ring). r.count) (ring_same before slot (record { first = ring.first; count = ring.count - 1 }) own_before) ∙ own ∙ ap (count_at (table_in new now)) (sym slot_is ∙ sym same.1)
    | inr apart ↦
        ap (λ (rs : List Ring). (ring_at s rs).count) now_is ∙ ap (λ (r : Ring). r.count) (ring_other before slot s (record { first = ring.first; count = ring.count - 1 }) apart.1)
        ∙ counts s ∙ kept.counted s (subst (λ n. s < n) long_now below) ∙ sym (others_as s (λ e. apart.1 (sym (slot_is ∙ e))))
  ]

  pub kept_removed : IsDistinct same_actor (keys_of new) → AreKeptIn new now
  kept_removed distinct = record {
    distinct = distinct;
    ringed = rings_by (links_at new) (length before) (length now) (first_in before) (first_in now) (long_now ∙ sym long) firsts_as
        (rings_as (links_at (swap_remove mid place (id, row_now.0))) (links_at new) (length before) (first_in before) (λ q. ap (λ (rows : Rows). links_at rows q) entries_now) (ringed (id, row_now.0)));
    counted = counted_now;
  }
