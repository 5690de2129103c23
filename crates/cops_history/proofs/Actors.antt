-- The actors of a cluster by their names, and what moves of one of them leave.
use Rattle.std.proofs.Common.{◌≡◌, ℕ, suc, ◌≤◌, Bool, true, false, cond, not, List, [], ◌∷◌, ◌++◌, length, refl, sym, ◌∙◌, ap, subst, arith}
use Rattle.std.specs.Prelude.{Option, Some, None, filter, find}
use Rattle.std.specs.Option.{option_map, option_or}
use Rattle.std.proofs.lemmas.List.{length-map}
use Rattle.cops_types.proofs.KeyTests.{key_eq-true, key_eq-refl}
use Rattle.cops_types.specs.Key.{key_eq}
use Rattle.cops_model.specs.SoloNode.{SoloNode}
use Rattle.cops_model.specs.Cluster.{SoloCluster, NamedActor, Actor, find_actor, with_actor, with_new_actor, without_actor}
use Rattle.cops_causal.proofs.ActorsKeep.{actor_in, actor_in-other, actor_in-without, find_actor-with_actor, replaced}

-- ---- lists of actors

-- who left is not found
actor_in-gone : (name : List ℕ) (actors : List NamedActor) → actor_in name (filter (λ a. not (key_eq a.name name)) actors) ≡ None
actor_in-gone name [] = refl
actor_in-gone name (a ∷ actors) =
    elim (key_eq a.name name) as (λ b. key_eq a.name name ≡ b → actor_in name (filter (λ a. not (key_eq a.name name)) (a ∷ actors)) ≡ None) [
      | true ↦ λ is. rw is (actor_in-gone name actors)
      | false ↦ λ is. rw is (rw is (actor_in-gone name actors))
    ] refl

-- who joins is found where none was before
actor_in-joined : (name : List ℕ) (a : NamedActor) (actors : List NamedActor) → actor_in name (actors ++ a ∷ []) ≡ option_or (actor_in name actors) (actor_in name (a ∷ []))
actor_in-joined name a [] = refl
actor_in-joined name a (b ∷ actors) =
    elim (key_eq b.name name) as (λ t. option_map (λ (x : NamedActor). x.actor) (cond t (Some b) (find (λ (x : NamedActor). key_eq x.name name) (actors ++ a ∷ [])))
    ≡ option_or (option_map (λ (x : NamedActor). x.actor) (cond t (Some b) (find (λ (x : NamedActor). key_eq x.name name) actors))) (actor_in name (a ∷ []))) [ true ↦ refl | false ↦ actor_in-joined name a actors ]

length-fewer : (test : NamedActor → Bool) (actors : List NamedActor) → length (filter test actors) ≤ length actors
length-fewer test [] = omega arith
length-fewer test (a ∷ actors) =
    let ih : length (filter test actors) ≤ length actors = length-fewer test actors in
    elim (test a) as (λ b. length (cond b (a ∷ filter test actors) (filter test actors)) ≤ length (a ∷ actors)) [ true ↦ omega (arith, ih) | false ↦ omega (arith, ih) ]

length-joined : (a : NamedActor) (actors : List NamedActor) → length (actors ++ a ∷ []) ≡ suc (length actors)
length-joined a [] = refl
length-joined a (b ∷ actors) = ap suc (length-joined a actors)

-- ---- by name

abbrev pub Locals : Type 0
Locals = List ℕ → Option Actor

abbrev pub with_local : List ℕ → Option Actor → Locals → Locals
with_local actor new locals other = cond (key_eq actor other) new (locals other)

-- what holds of the new one and of each other
pub with_local-all : (P : Option Actor → List ℕ → Type 0) (actor : List ℕ) (new : Option Actor) (locals : Locals) → P new actor → ((other : List ℕ) → key_eq actor other ≡ false → P (locals other) other) → (other : List ℕ) → P (with_local actor new locals other) other
with_local-all P actor new locals here there other = elim (key_eq actor other) as (λ b. key_eq actor other ≡ b → P (cond b new (locals other)) other) [
  | true ↦ λ same. subst (P new) (key_eq-true actor other same) here
  | false ↦ λ apart. there other apart
] refl

-- a cluster has these nodes, and under each name this actor
pub record Stands (count : ℕ) (locals : Locals) (nodes : List SoloNode) (c : SoloCluster) : Type 0 where
  pub nodes_are : c.nodes ≡ nodes
  pub actors_are : (actor : List ℕ) → find_actor actor c ≡ locals actor
  pub few : length c.actors ≤ count

module _ (count : ℕ) (locals : Locals) (nodes : List SoloNode) (c : SoloCluster) (stands : Stands count locals nodes c) (actor : List ℕ) where
  -- an actor is another
  pub changed : (old new : Actor) → locals actor ≡ Some old → Stands (suc count) (with_local actor (Some new) locals) nodes (with_actor actor new c)
  changed old new is = record {
    nodes_are = stands.nodes_are;
    actors_are = with_local-all (λ o n. find_actor n (with_actor actor new c) ≡ o) actor (Some new) locals
        (find_actor-with_actor actor new old c (stands.actors_are actor ∙ is))
        (λ other apart. actor_in-other actor other new c.actors apart ∙ stands.actors_are other);
    few = let e : length (with_actor actor new c).actors ≡ length c.actors = length-map c.actors (replaced actor new) in
        let f : length c.actors ≤ count = stands.few in omega (arith, e, f);
  }

  -- an actor joins
  pub joined : (new : Actor) → locals actor ≡ None → Stands (suc count) (with_local actor (Some new) locals) nodes (with_new_actor actor new c)
  joined new is = record {
    nodes_are = stands.nodes_are;
    actors_are = with_local-all (λ o n. find_actor n (with_new_actor actor new c) ≡ o) actor (Some new) locals
        (actor_in-joined actor it c.actors
        ∙ ap (λ o. option_or o (actor_in actor (it ∷ []))) (stands.actors_are actor ∙ is)
        ∙ (rw (key_eq-refl actor) refl))
        (λ other apart. actor_in-joined other it c.actors
        ∙ ap (λ o. option_or o (actor_in other (it ∷ []))) (stands.actors_are other)
        ∙ nobody other apart (locals other));
    few = let e : length (with_new_actor actor new c).actors ≡ suc (length c.actors) = length-joined it c.actors in
        let f : length c.actors ≤ count = stands.few in omega (arith, e, f);
  }
    where
      it : NamedActor
      it = record { name = actor; actor = new }

      nobody : (other : List ℕ) → key_eq actor other ≡ false → (o : Option Actor) → option_or o (actor_in other (record { name = actor; actor = new } ∷ [])) ≡ o
      nobody other apart (Some a) = refl
      nobody other apart None = rw apart refl

  -- an actor leaves
  pub left : Stands (suc count) (with_local actor None locals) nodes (without_actor actor c)
  left = record {
    nodes_are = stands.nodes_are;
    actors_are = with_local-all (λ o n. find_actor n (without_actor actor c) ≡ o) actor None locals
        (actor_in-gone actor c.actors)
        (λ other apart. actor_in-without actor other c.actors apart ∙ stands.actors_are other);
    few = let e : length (without_actor actor c).actors ≤ length c.actors = length-fewer (λ a. not (key_eq a.name actor)) c.actors in
        let f : length c.actors ≤ count = stands.few in omega (arith, e, f);
  }

  -- nothing changes
  pub stayed : (new : Option Actor) → new ≡ locals actor → Stands (suc count) (with_local actor new locals) nodes c
  stayed new is = record {
    nodes_are = stands.nodes_are;
    actors_are = with_local-all (λ o n. find_actor n c ≡ o) actor new locals (stands.actors_are actor ∙ sym is) (λ other apart. stands.actors_are other);
    few = let f : length c.actors ≤ count = stands.few in omega (arith, f);
  }
