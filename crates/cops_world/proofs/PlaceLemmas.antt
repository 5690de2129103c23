-- The place of an actor among the rows, and what a change there does to the table.
use Rattle.std.proofs.Common.{◌≡◌, ◌≢◌, inl, inr, ℕ, zero, suc, ◌+◌, ◌<◌, Bool, true, false, true≢false, cond, not, List, [], ◌∷◌, length, get_or, refl, sym, subst, ap, ◌∙◌, arith}
use Rattle.std.specs.Cmp.{IsEquivalence}
use Rattle.std.specs.List.{AllByRecursion, IsDistinct, position_or_len}
use Rattle.std.specs.Map.{keys_of, values_of, lookup}
use Rattle.std.specs.Option.{option_map}
use Rattle.std.specs.Prelude.{Option, Some, None, is_some, nat_eq, nat_lt, position, slice_get, count_by, unwrap_or}
use Rattle.std.proofs.lemmas.Bool.{lt-ltb}
use Rattle.std.proofs.lemmas.Bool.Decides.{eqb_tells}
use Rattle.std.proofs.lemmas.List.Quantifiers.{position-Some}
use Rattle.std.proofs.lemmas.List.Sums.{sum_by-cons}
use Rattle.std.proofs.lemmas.Map.Keys.{IsDistinct-head, IsDistinct-tail}
use Rattle.std.proofs.lemmas.Map.Made.{lookup-map_values}
use Rattle.std.proofs.lemmas.Option.{slice_get_within}
use Rattle.indexmap.specs.IndexMap.{IndexMap, IsUnique, set_value_at, with_value_at}
use Rattle.indexmap.proofs.CallerLemmas.{updates-with_value_at}
use Rattle.indexmap.proofs.MapLemmas.{Found-position}
use Rattle.cops_types.proofs.WordLemmas.{same_value}
use Rattle.cops_world.specs.declared.actors.Actor.{Actor}
use Rattle.cops_world.specs.declared.actors.ActorId.{ActorId}
use Rattle.cops_world.specs.declared.rings.ActorRow.{ActorRow}
use Rattle.cops_world.specs.declared.rings.Ring.{Ring}
use Rattle.cops_world.specs.ActorTables.{PutsBack, Table, actor_at, actor_place, same_actor}
use Rattle.cops_world.specs.ActorRings.{AreKeptIn, Links, actors_in, first_in, links_at, links_of, table_in}
use Rattle.cops_world.proofs.ActorTableLemmas.{same_actor-is, same_actor-refl}
use Rattle.cops_world.proofs.RowLemmas.{actors_set, count_in, entry_of, keys_in, rings_as, set_other, set_same}

pub same_equiv : IsEquivalence same_actor
same_equiv = record {
  refl = same_actor-refl;
  symm = λ a b. turned a b (same_actor a b) refl;
  congr = λ a b c same. ap (λ d. same_actor d c) (same_actor-is a b same);
}
  where
    turned : (a b : ActorId) (t : Bool) → same_actor a b ≡ t → same_actor a b ≡ same_actor b a
    turned a b true e = e ∙ sym (ap (λ c. same_actor c a) (sym (same_actor-is a b e)) ∙ same_actor-refl a)
    turned a b false e = back (same_actor b a) refl
      where
        back : (t : Bool) → same_actor b a ≡ t → same_actor a b ≡ same_actor b a
        back true k = absurd (true≢false (sym (ap (λ c. same_actor c b) (sym (same_actor-is b a k)) ∙ same_actor-refl b) ∙ e))
        back false k = e ∙ sym k

-- the entry at an index that was found
pub record Here {V : Type 0} (id : ActorId) (es : List (ActorId × V)) (i : ℕ) : Type 0 where
  pub value : V
  pub entry : slice_get es i ≡ Some (id, value)
  pub found : slice_get (values_of es) i ≡ Some value

long_keys : {V : Type 0} (es : List (ActorId × V)) → length (keys_of es) ≡ length es
long_keys [] = refl
long_keys (e ∷ es) = ap suc (long_keys es)

here_at : {V : Type 0} (id : ActorId) (es : List (ActorId × V)) (i : ℕ) → i < length es → same_actor id (get_or (keys_of es) i id) ≡ true → Here id es i
here_at id [] i below h = absurd (omega arith)
here_at id (e ∷ es) zero below h = record { value = e.1; entry = (let same = same_actor-is id e.0 h in λ j. Some (sym same j, e.1)); found = refl }
here_at id (e ∷ es) (suc i) below h = let rest = here_at id es i (omega arith) h in record { value = rest.value; entry = rest.entry; found = rest.found }

pub here : {V : Type 0} (id : ActorId) (es : List (ActorId × V)) (i : ℕ) → Some i ≡ position (same_actor id) (keys_of es) → Here id es i
here id es i h =
    let found = position-Some (same_actor id) (keys_of es) i id (sym h) in
    here_at id es i (subst (λ n. i < n) (long_keys es) found.0) found.1

pub place_below : {V : Type 0} (id : ActorId) (es : List (ActorId × V)) (i : ℕ) → Some i ≡ position (same_actor id) (keys_of es) → i < length es
place_below id es i h = slice_get_within es i (id, (here id es i h).value) (here id es i h).entry

-- where no two entries are of one slot and name, one that is at an index is at none before it
pub guessed_place : {V : Type 0} (id : ActorId) (es : List (ActorId × V)) (i : ℕ) (e : ActorId × V) → IsDistinct same_actor (keys_of es) → slice_get es i ≡ Some e → same_actor id e.0 ≡ true → position (same_actor id) (keys_of es) ≡ Some i
guessed_place {V} id es i e distinct reads same =
    ap (λ n. cond (nat_lt n (length (keys_of es))) (Some n) None) (is_first es i distinct reads)
    ∙ ap (λ b. cond b (Some i) None) (lt-ltb i (length (keys_of es)) (subst (λ n. i < n) (sym (long_keys es)) (slice_get_within es i e reads)))
  where
    apart : (a : ActorId) (es : List (ActorId × V)) (i : ℕ) → AllByRecursion (λ b. same_actor a b ≡ false) (keys_of es) → slice_get es i ≡ Some e → same_actor a e.0 ≡ false
    apart a [] i all reads = absurd (true≢false (sym (ap is_some reads)))
    apart a (x ∷ es) zero all reads = ap (λ o. same_actor a (unwrap_or o x).0) (sym reads) ∙ all.0
    apart a (x ∷ es) (suc i) all reads = apart a es i all.1 reads

    is_first : (es : List (ActorId × V)) (i : ℕ) → IsDistinct same_actor (keys_of es) → slice_get es i ≡ Some e → position_or_len (same_actor id) (keys_of es) ≡ i
    is_first [] i distinct reads = absurd (true≢false (sym (ap is_some reads)))
    is_first (x ∷ es) zero distinct reads = ap (λ b. cond (not b) (1 + position_or_len (same_actor id) (keys_of es)) 0) (ap (λ o. same_actor id (unwrap_or o x).0) reads ∙ same)
    is_first (x ∷ es) (suc i) distinct reads =
        let other = sym (same_equiv.symm x.0 id) ∙ (ap (λ q. same_actor x.0 q) (same_actor-is id e.0 same) ∙ apart x.0 es i (IsDistinct-head same_actor x.0 (keys_of es) distinct) reads) in
        ap (λ b. cond (not b) (1 + position_or_len (same_actor id) (keys_of es)) 0) other ∙ ap (λ n. 1 + n) (is_first es i (IsDistinct-tail same_actor x.0 (keys_of es) distinct) reads) ∙ omega arith

-- ---- the actors of the rows

pub actors_found : (q : ActorId) (es : List (ActorId × ActorRow)) → lookup (same_actor q) (actors_in es) ≡ option_map (λ (r : ActorRow). r.actor) (lookup (same_actor q) es)
actors_found q es = lookup-map_values (λ (r : ActorRow). r.actor) (same_actor q) es

pub some_found : (q : ActorId) (es : List (ActorId × ActorRow)) → is_some (lookup (same_actor q) es) ≡ is_some (lookup (same_actor q) (actors_in es))
some_found q es = by (lookup (same_actor q) es) ∙ ap is_some (sym (actors_found q es))
  where
    by : (o : Option ActorRow) → is_some o ≡ is_some (option_map (λ (r : ActorRow). r.actor) o)
    by None = refl
    by (Some row) = refl

-- one was put in, put back or taken out
pub actor_placed : (id : ActorId) (after : Option ActorRow) (es new : List (ActorId × ActorRow)) → ((q : ActorId) → lookup (same_actor q) new ≡ cond (same_actor id q) after (lookup (same_actor q) es)) →
    (q : ActorId) → lookup (same_actor q) (actors_in new) ≡ cond (same_actor id q) (option_map (λ (r : ActorRow). r.actor) after) (lookup (same_actor q) (actors_in es))
actor_placed id after es new updates q =
    actors_found q new ∙ ap (option_map (λ (r : ActorRow). r.actor)) (updates q) ∙ chosen (same_actor id q)
    ∙ ap (cond (same_actor id q) (option_map (λ (r : ActorRow). r.actor) after)) (sym (actors_found q es))
  where
    chosen : (t : Bool) → option_map (λ (r : ActorRow). r.actor) (cond t after (lookup (same_actor q) es)) ≡ cond t (option_map (λ (r : ActorRow). r.actor) after) (option_map (λ (r : ActorRow). r.actor) (lookup (same_actor q) es))
    chosen true = refl
    chosen false = refl

keys_set : (es : List (ActorId × ActorRow)) (i : ℕ) (w : ActorRow) → keys_of (set_value_at es i w) ≡ keys_of es
keys_set [] i w = refl
keys_set (e ∷ es) zero w = refl
keys_set (e ∷ es) (suc i) w = ap (λ ids. e.0 ∷ ids) (keys_set es i w)

count_set : (es : List (ActorId × ActorRow)) (i : ℕ) (w : ActorRow) (slot : ℕ) → count_by (λ (e : ActorId × ActorRow). nat_eq e.0.slot slot) (set_value_at es i w) ≡ count_by (λ (e : ActorId × ActorRow). nat_eq e.0.slot slot) es
count_set [] i w slot = refl
count_set (e ∷ es) zero w slot =
    sum_by-cons (λ (f : ActorId × ActorRow). cond (nat_eq f.0.slot slot) 1 0) (e.0, w) es ∙ sym (sum_by-cons (λ (f : ActorId × ActorRow). cond (nat_eq f.0.slot slot) 1 0) e es)
count_set (e ∷ es) (suc i) w slot =
    sum_by-cons (λ (f : ActorId × ActorRow). cond (nat_eq f.0.slot slot) 1 0) e (set_value_at es i w)
    ∙ ap (λ n. cond (nat_eq e.0.slot slot) 1 0 + n) (count_set es i w slot)
    ∙ sym (sum_by-cons (λ (f : ActorId × ActorRow). cond (nat_eq f.0.slot slot) 1 0) e es)

-- ---- an actor changes in its row

module _ (es : List (ActorId × ActorRow)) (rings : List Ring) (kept : AreKeptIn es rings) (i : ℕ) (row : ActorRow) (there : slice_get (values_of es) i ≡ Some row) (after : Actor) where
  abbrev changed : List (ActorId × ActorRow)
  changed = set_value_at es i (record row { actor = after })

  links_stay : (q : ℕ) → links_at changed q ≡ links_at es q
  links_stay q =
      let e = entry_of es i row there in
      elim (eqb_tells q i) [
        | inl is ↦
            ap (links_at changed) is.1 ∙ ap (option_map links_of) (set_same es i (e.0, row) (record row { actor = after }) e.1)
            ∙ sym (ap (links_at es) is.1 ∙ ap (option_map links_of) e.1)
        | inr apart ↦ ap (option_map links_of) (set_other es i q (record row { actor = after }) apart.1)
      ]

  pub count_stays : (slot : ℕ) → count_by (λ (a : ActorId × Actor). nat_eq a.0.slot slot) (actors_in changed) ≡ count_by (λ (a : ActorId × Actor). nat_eq a.0.slot slot) (actors_in es)
  count_stays slot = count_in changed slot ∙ count_set es i (record row { actor = after }) slot ∙ sym (count_in es slot)

  pub kept_changed : AreKeptIn changed rings
  kept_changed = record {
    distinct = subst (IsDistinct same_actor) (sym (keys_set es i (record row { actor = after }))) kept.distinct;
    ringed = rings_as (links_at es) (links_at changed) (length rings) (first_in rings) links_stay kept.ringed;
    counted = λ slot below. kept.counted slot below ∙ sym (count_stays slot);
  }

module _ {Z : Type 0} (map : IndexMap ActorId ActorRow Z) (rings : List Ring) (kept : AreKeptIn map.entries rings) (id : ActorId) (i : ℕ) (index : Some i ≡ actor_place id (table_in map.entries rings)) where
  pub index_of_row : Some i ≡ position (same_actor id) (keys_of map.entries)
  index_of_row = index ∙ ap (position (same_actor id)) (keys_in map.entries)

  pub below : i < length map.entries
  below = place_below id map.entries i index_of_row

  pub actor_here : (row : ActorRow) → slice_get (values_of map.entries) i ≡ Some row → actor_at (table_in map.entries rings) id ≡ Some row.actor
  actor_here row there = actors_found id map.entries ∙ ap (option_map (λ (r : ActorRow). r.actor)) ((Found-position (same_actor id) map.entries i (sym index_of_row)).value ∙ there)

  module _ (row : ActorRow) (there : slice_get (values_of map.entries) i ≡ Some row) (after : Actor) where
    abbrev new_table : Table
    new_table = record (table_in map.entries rings) { actors = set_value_at (actors_in map.entries) i after }

    pub table_changed : actors_in (set_value_at map.entries i (record row { actor = after })) ≡ set_value_at (actors_in map.entries) i after
    table_changed = actors_set map.entries i (record row { actor = after })

    pub put_back_now : PutsBack (table_in map.entries rings) id after new_table
    put_back_now = (
      record {
        at = λ q.
            ap (lookup (same_actor q)) (sym table_changed)
            ∙ actor_placed id (Some (record row { actor = after })) map.entries (set_value_at map.entries i (record row { actor = after })) updates q;
        slots = refl;
        others = λ slot differ. count slot;
      },
      count id.slot,
    )
      where
        h : Here id map.entries i
        h = here id map.entries i index_of_row

        updates : (q : ActorId) → lookup (same_actor q) (set_value_at map.entries i (record row { actor = after })) ≡ cond (same_actor id q) (Some (record row { actor = after })) (lookup (same_actor q) map.entries)
        updates = (updates-with_value_at map i (record row { actor = after }) same_equiv kept.distinct id h.value h.entry).0

        count : (slot : ℕ) → count_by (λ (a : ActorId × Actor). nat_eq a.0.slot slot) (set_value_at (actors_in map.entries) i after) ≡ count_by (λ (a : ActorId × Actor). nat_eq a.0.slot slot) (actors_in map.entries)
        count slot = ap (count_by (λ (a : ActorId × Actor). nat_eq a.0.slot slot)) (sym table_changed) ∙ count_stays map.entries rings kept i row there after slot

    pub place_stays : Some i ≡ actor_place id new_table
    place_stays =
        index ∙ ap (position (same_actor id)) (keys_in map.entries ∙ sym (keys_set map.entries i (record row { actor = after })) ∙ sym (keys_in (set_value_at map.entries i (record row { actor = after }))))
        ∙ ap (λ actors. position (same_actor id) (keys_of actors)) table_changed
