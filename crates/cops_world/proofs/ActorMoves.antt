-- The actors of a tenant, found by name: what follows when one is put in another's place, joins or leaves.
use Rattle.std.proofs.Common.{◌≡◌, ℕ, ◌+◌, true, false, cond, not, ◌||◌, Bool, List, [], ◌∷◌, ◌++◌, map, length, length-append, refl, sym, ◌∙◌, ap, subst, arith}
use Rattle.std.specs.Prelude.{Option, Some, None, filter, find}
use Rattle.std.specs.Option.{option_map}
use Rattle.std.specs.List.{list_any}
use Rattle.std.proofs.lemmas.List.{length-map}
use Rattle.std.proofs.lemmas.List.Folds.{list_any-append}
use Rattle.std.proofs.lemmas.Slice.Eq.{bytes_eq-Decides}
use Rattle.cops_types.specs.Key.{key_eq}
use Rattle.cops_model.specs.Cluster.{SoloCluster, NamedActor, Actor, find_actor, with_actor, with_new_actor, without_actor}
use Rattle.cops_world.specs.Actors.{ActorsStandFor, AreSame, HaveDistinctNames}

key_eq-true : (a b : List ℕ) → key_eq a b ≡ true → a ≡ b
key_eq-true a b e = (bytes_eq-Decides a b).0 e

key_eq-refl : (a : List ℕ) → key_eq a a ≡ true
key_eq-refl a = (bytes_eq-Decides a a).1 refl

key_eq-turned : (a b : List ℕ) → key_eq a b ≡ false → key_eq b a ≡ false
key_eq-turned a b e =
    elim (key_eq b a) as (λ t. key_eq b a ≡ t → t ≡ false) [
      | true ↦ λ is. sym (key_eq-refl a) ∙ ap (key_eq a) (sym (key_eq-true b a is)) ∙ e
      | false ↦ λ is. refl
    ] refl

-- ---- lists of named actors

abbrev actor_in : List ℕ → List NamedActor → Option Actor
actor_in name actors = option_map (λ a. a.actor) (find (λ a. key_eq a.name name) actors)

abbrev replaced : List ℕ → Actor → NamedActor → NamedActor
replaced name actor a = cond (key_eq a.name name) (record { name = name; actor = actor }) a

-- a step of a search: the first actor has the name or not
module _ (name : List ℕ) (a : NamedActor) (actors : List NamedActor) where
  found_first : key_eq a.name name ≡ true → actor_in name (a ∷ actors) ≡ Some a.actor
  found_first is = rw is refl

  found_later : key_eq a.name name ≡ false → actor_in name (a ∷ actors) ≡ actor_in name actors
  found_later is = rw is refl

by_test : {C : Type 0} (b : Bool) → (b ≡ true → C) → (b ≡ false → C) → C
by_test {C} true holds fails = holds refl
by_test {C} false holds fails = fails refl

actor_in-replaced : (name : List ℕ) (actor : Actor) (actors : List NamedActor) → actor_in name (map (replaced name actor) actors) ≡ option_map (λ a. actor) (actor_in name actors)
actor_in-replaced name actor [] = refl
actor_in-replaced name actor (a ∷ actors) = by_test (key_eq a.name name)
    (λ is. rw is (rw (key_eq-refl name) refl))
    (λ is. rw is (rw is (actor_in-replaced name actor actors)))

actor_in-other : (name other : List ℕ) (actor : Actor) (actors : List NamedActor) → key_eq name other ≡ false → actor_in other (map (replaced name actor) actors) ≡ actor_in other actors
actor_in-other name other actor [] apart = refl
actor_in-other name other actor (a ∷ actors) apart = by_test (key_eq a.name name)
    (λ is.
    let same : key_eq a.name other ≡ false = ap (λ n. key_eq n other) (key_eq-true a.name name is) ∙ apart in
    rw is (rw (apart, same) (actor_in-other name other actor actors apart)))
    (λ is. rw is (by_test (key_eq a.name other)
    (λ here. found_first other a (map (replaced name actor) actors) here ∙ sym (found_first other a actors here))
    (λ later. found_later other a (map (replaced name actor) actors) later ∙ actor_in-other name other actor actors apart ∙ sym (found_later other a actors later))))

actor_in-without : (name other : List ℕ) (actors : List NamedActor) → key_eq name other ≡ false → actor_in other (filter (λ a. not (key_eq a.name name)) actors) ≡ actor_in other actors
actor_in-without name other [] apart = refl
actor_in-without name other (a ∷ actors) apart = by_test (key_eq a.name name)
    (λ is.
    let same : key_eq a.name other ≡ false = ap (λ n. key_eq n other) (key_eq-true a.name name is) ∙ apart in
    rw is (actor_in-without name other actors apart ∙ sym (found_later other a actors same)))
    (λ is. rw is (by_test (key_eq a.name other)
    (λ here. found_first other a (filter (λ x. not (key_eq x.name name)) actors) here ∙ sym (found_first other a actors here))
    (λ later. found_later other a (filter (λ x. not (key_eq x.name name)) actors) later ∙ actor_in-without name other actors apart ∙ sym (found_later other a actors later))))

actor_in-removed : (name : List ℕ) (actors : List NamedActor) → actor_in name (filter (λ a. not (key_eq a.name name)) actors) ≡ None
actor_in-removed name [] = refl
actor_in-removed name (a ∷ actors) = by_test (key_eq a.name name)
    (λ is. rw is (actor_in-removed name actors))
    (λ is. rw is (found_later name a (filter (λ x. not (key_eq x.name name)) actors) is ∙ actor_in-removed name actors))

actor_in-joined : (name : List ℕ) (actor : Actor) (actors : List NamedActor) → actor_in name actors ≡ None → actor_in name (actors ++ record { name = name; actor = actor } ∷ []) ≡ Some actor
actor_in-joined name actor [] absent = rw (key_eq-refl name) refl
actor_in-joined name actor (a ∷ actors) absent = by_test (key_eq a.name name)
    (λ is. let clash : Some a.actor ≡ None = sym (found_first name a actors is) ∙ absent in cc)
    (λ is. found_later name a (actors ++ record { name = name; actor = actor } ∷ []) is ∙ actor_in-joined name actor actors (sym (found_later name a actors is) ∙ absent))

actor_in-joined_other : (name other : List ℕ) (actor : Actor) (actors : List NamedActor) → key_eq name other ≡ false → actor_in other (actors ++ record { name = name; actor = actor } ∷ []) ≡ actor_in other actors
actor_in-joined_other name other actor [] apart = rw apart refl
actor_in-joined_other name other actor (a ∷ actors) apart = by_test (key_eq a.name other)
    (λ here. found_first other a (actors ++ record { name = name; actor = actor } ∷ []) here ∙ sym (found_first other a actors here))
    (λ later. found_later other a (actors ++ record { name = name; actor = actor } ∷ []) later ∙ actor_in-joined_other name other actor actors apart ∙ sym (found_later other a actors later))

-- ---- names

absent_lacks : (name : List ℕ) (actors : List NamedActor) → actor_in name actors ≡ None → list_any (λ (a : NamedActor). key_eq a.name name) actors ≡ false
absent_lacks name [] absent = refl
absent_lacks name (a ∷ actors) absent = by_test (key_eq a.name name)
    (λ is. let clash : Some a.actor ≡ None = sym (found_first name a actors is) ∙ absent in cc)
    (λ is. rw is (absent_lacks name actors (sym (found_later name a actors is) ∙ absent)))

lacks_absent : (name : List ℕ) (actors : List NamedActor) → list_any (λ (a : NamedActor). key_eq a.name name) actors ≡ false → actor_in name actors ≡ None
lacks_absent name [] none = refl
lacks_absent name (a ∷ actors) none = by_test (key_eq a.name name)
    (λ is. let clash : true ≡ false = sym (rw is refl) ∙ none in cc)
    (λ is. found_later name a actors is ∙ lacks_absent name actors (sym (rw is refl) ∙ none))

-- a name that differs is found as before
distinct-replaced : (name : List ℕ) (actor : Actor) (actors : List NamedActor) → HaveDistinctNames actors → HaveDistinctNames (map (replaced name actor) actors)
distinct-replaced name actor [] h = tt
distinct-replaced name actor (a ∷ actors) h = (subst (λ n. list_any (λ (b : NamedActor). key_eq b.name n) (map (replaced name actor) actors) ≡ false) (sym (name_stays a)) (any_stays a.name actors ∙ h.0), distinct-replaced name actor actors h.1)
  where
    name_stays : (b : NamedActor) → (replaced name actor b).name ≡ b.name
    name_stays b = by_test (key_eq b.name name) (λ is. rw is (sym (key_eq-true b.name name is))) (λ is. rw is refl)

    any_stays : (n : List ℕ) (bs : List NamedActor) → list_any (λ (b : NamedActor). key_eq b.name n) (map (replaced name actor) bs) ≡ list_any (λ (b : NamedActor). key_eq b.name n) bs
    any_stays n [] = refl
    any_stays n (b ∷ bs) = λ i. key_eq (name_stays b i) n || any_stays n bs i

distinct-joined : (name : List ℕ) (actor : Actor) (actors : List NamedActor) → list_any (λ (a : NamedActor). key_eq a.name name) actors ≡ false → HaveDistinctNames actors → HaveDistinctNames (actors ++ record { name = name; actor = actor } ∷ [])
distinct-joined name actor [] absent h = (refl, tt)
distinct-joined name actor (a ∷ actors) absent h = by_test (key_eq a.name name)
    (λ is. let clash : true ≡ false = sym (rw is refl) ∙ absent in cc)
    (λ is.
    let apart : key_eq name a.name ≡ false = key_eq-turned a.name name is in (
      list_any-append (λ (b : NamedActor). key_eq b.name a.name) actors (record { name = name; actor = actor } ∷ []) ∙ rw (h.0, apart) refl,
      distinct-joined name actor actors (sym (rw is refl) ∙ absent) h.1,
    ))

distinct-without : (name : List ℕ) (actors : List NamedActor) → HaveDistinctNames actors → HaveDistinctNames (filter (λ a. not (key_eq a.name name)) actors)
distinct-without name [] h = tt
distinct-without name (a ∷ actors) h = by_test (key_eq a.name name)
    (λ is. rw is (distinct-without name actors h.1))
    (λ is. rw is (none_left a.name actors h.0, distinct-without name actors h.1))
  where
    none_left : (n : List ℕ) (bs : List NamedActor) → list_any (λ (b : NamedActor). key_eq b.name n) bs ≡ false → list_any (λ (b : NamedActor). key_eq b.name n) (filter (λ b. not (key_eq b.name name)) bs) ≡ false
    none_left n [] none = refl
    none_left n (b ∷ bs) none = by_test (key_eq b.name n)
        (λ here. let clash : true ≡ false = sym (rw here refl) ∙ none in cc)
        (λ apart.
        let rest : list_any (λ (x : NamedActor). key_eq x.name n) bs ≡ false = sym (rw apart refl) ∙ none in
        by_test (key_eq b.name name) (λ is. rw is (none_left n bs rest)) (λ is. rw is (rw apart (none_left n bs rest))))

-- one is there at least where it is found, and the others are as many
length-without : (name : List ℕ) (actors : List NamedActor) (found : Actor) → HaveDistinctNames actors → actor_in name actors ≡ Some found → length (filter (λ (a : NamedActor). not (key_eq a.name name)) actors) + 1 ≡ length actors
length-without name [] found h e = cc
length-without name (a ∷ actors) found h e = by_test (key_eq a.name name)
    (λ is.
    let none : list_any (λ (b : NamedActor). key_eq b.name name) actors ≡ false = ap (λ n. list_any (λ (b : NamedActor). key_eq b.name n) actors) (sym (key_eq-true a.name name is)) ∙ h.0 in
    rw is (let all = all_stay actors none in omega (arith, ap length all)))
    (λ is. rw is (let later = length-without name actors found h.1 (sym (found_later name a actors is) ∙ e) in omega arith))
  where
    all_stay : (bs : List NamedActor) → list_any (λ (b : NamedActor). key_eq b.name name) bs ≡ false → filter (λ (b : NamedActor). not (key_eq b.name name)) bs ≡ bs
    all_stay [] none = refl
    all_stay (b ∷ bs) none = by_test (key_eq b.name name)
        (λ is. let clash : true ≡ false = sym (rw is refl) ∙ none in cc)
        (λ is. rw is (ap (λ xs. b ∷ xs) (all_stay bs (sym (rw is refl) ∙ none))))

-- ---- what is kept

module _ {A : Type 0} (Stands : A → Actor → Type 0) (name : List ℕ) (before after : List ℕ → Option A) (cluster : SoloCluster) (h : ActorsStandFor Stands before cluster) where
  pub absent_too : before name ≡ None → find_actor name cluster ≡ None
  absent_too none = neither (before name) (find_actor name cluster) none (h.same name)
    where
      neither : (kept : Option A) (solo : Option Actor) → kept ≡ None → AreSame Stands kept solo → solo ≡ None
      neither None None e s = refl
      neither None (Some a) e s = absurd s
      neither (Some k) solo e s = cc

  pub found_too : (kept : A) → before name ≡ Some kept → (actor : Actor) × (find_actor name cluster ≡ Some actor) × Stands kept actor
  found_too kept e = both (before name) (find_actor name cluster) e (h.same name)
    where
      both : (k : Option A) (solo : Option Actor) → k ≡ Some kept → AreSame Stands k solo → (actor : Actor) × (solo ≡ Some actor) × Stands kept actor
      both None solo e s = cc
      both (Some k) None e s = absurd s
      both (Some k) (Some actor) e s = (actor, refl, subst (λ x. Stands x actor) (same_kept e) s)
        where
          same_kept : {k : A} → Some k ≡ Some kept → k ≡ kept
          same_kept e = cc

  -- another actor in its place
  pub put_in_place : (kept : A) (actor old : Actor) → find_actor name cluster ≡ Some old → after name ≡ Some kept → ((other : List ℕ) → key_eq name other ≡ false → after other ≡ before other) → Stands kept actor →
      ActorsStandFor Stands after (with_actor name actor cluster)
  put_in_place kept actor old found there others stands = record {
    same = λ other. by_test (key_eq name other)
        (λ is. subst (λ n. AreSame Stands (after n) (find_actor n (with_actor name actor cluster))) (key_eq-true name other is)
        (rw (there, actor_in-replaced name actor cluster.actors ∙ ap (option_map (λ a. actor)) found) stands))
        (λ apart. rw (others other apart, actor_in-other name other actor cluster.actors apart) (h.same other));
    distinct = distinct-replaced name actor cluster.actors h.distinct;
  }

  -- a new actor
  pub joins : (kept : A) (actor : Actor) → before name ≡ None → after name ≡ Some kept → ((other : List ℕ) → key_eq name other ≡ false → after other ≡ before other) → Stands kept actor →
      ActorsStandFor Stands after (with_new_actor name actor cluster)
  joins kept actor none there others stands =
      let absent = absent_too none in
      record {
        same = λ other. by_test (key_eq name other)
            (λ is. subst (λ n. AreSame Stands (after n) (find_actor n (with_new_actor name actor cluster))) (key_eq-true name other is)
            (rw (there, actor_in-joined name actor cluster.actors absent) stands))
            (λ apart. rw (others other apart, actor_in-joined_other name other actor cluster.actors apart) (h.same other));
        distinct = distinct-joined name actor cluster.actors (absent_lacks name cluster.actors absent) h.distinct;
      }

  -- an actor leaves
  pub leaves : after name ≡ None → ((other : List ℕ) → key_eq name other ≡ false → after other ≡ before other) → ActorsStandFor Stands after (without_actor name cluster)
  leaves none others = record {
    same = λ other. by_test (key_eq name other)
        (λ is. subst (λ n. AreSame Stands (after n) (find_actor n (without_actor name cluster))) (key_eq-true name other is)
        (rw (none, actor_in-removed name cluster.actors) tt))
        (λ apart. rw (others other apart, actor_in-without name other cluster.actors apart) (h.same other));
    distinct = distinct-without name cluster.actors h.distinct;
  }

-- how many there are then
pub count-with_actor : (name : List ℕ) (actor : Actor) (cluster : SoloCluster) → length (with_actor name actor cluster).actors ≡ length cluster.actors
count-with_actor name actor cluster = length-map cluster.actors (replaced name actor)

pub count-joined : (name : List ℕ) (actor : Actor) (cluster : SoloCluster) → length (with_new_actor name actor cluster).actors ≡ length cluster.actors + 1
count-joined name actor cluster = length-append cluster.actors (record { name = name; actor = actor } ∷ [])

pub count-without : (name : List ℕ) (cluster : SoloCluster) (found : Actor) → HaveDistinctNames cluster.actors → find_actor name cluster ≡ Some found → length (without_actor name cluster).actors + 1 ≡ length cluster.actors
count-without name cluster found distinct e = length-without name cluster.actors found distinct e

-- the actor that is there put in its own place
pub with_actor-same : (name : List ℕ) (actor : Actor) (cluster : SoloCluster) → HaveDistinctNames cluster.actors → find_actor name cluster ≡ Some actor → (with_actor name actor cluster).actors ≡ cluster.actors
with_actor-same name actor cluster distinct found = go cluster.actors distinct found
  where
    others_stay : (actors : List NamedActor) → list_any (λ (b : NamedActor). key_eq b.name name) actors ≡ false → map (replaced name actor) actors ≡ actors
    others_stay [] none = refl
    others_stay (b ∷ bs) none = by_test (key_eq b.name name)
        (λ is. let clash : true ≡ false = sym (rw is refl) ∙ none in cc)
        (λ is. rw is (ap (λ xs. b ∷ xs) (others_stay bs (sym (rw is refl) ∙ none))))

    go : (actors : List NamedActor) → HaveDistinctNames actors → actor_in name actors ≡ Some actor → map (replaced name actor) actors ≡ actors
    go [] h e = cc
    go (a ∷ actors) h e = by_test (key_eq a.name name)
        (λ is.
        let own : a.actor ≡ actor = (let both : Some a.actor ≡ Some actor = sym (found_first name a actors is) ∙ e in cc) in
        let named : name ≡ a.name = sym (key_eq-true a.name name is) in
        let none : list_any (λ (b : NamedActor). key_eq b.name name) actors ≡ false = ap (λ n. list_any (λ (b : NamedActor). key_eq b.name n) actors) named ∙ h.0 in
        rw is (λ i. (let one : NamedActor = record { name = named i; actor = sym own i } in one) ∷ others_stay actors none i))
        (λ is. rw is (ap (λ xs. a ∷ xs) (go actors h.1 (sym (found_later name a actors is) ∙ e))))
