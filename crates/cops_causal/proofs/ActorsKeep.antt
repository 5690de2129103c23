-- Actors by name: who is found after an actor is put in another's place, joins or leaves.
use Rattle.std.proofs.Common.{◌≡◌, ℕ, true, false, cond, not, List, [], ◌∷◌, ◌++◌, map, refl, sym, ◌∙◌, ap, subst}
use Rattle.std.specs.Prelude.{Option, Some, None, filter, find, is_some}
use Rattle.std.specs.Option.{option_map, option_and_then}
use Rattle.cops_types.proofs.KeyTests.{key_eq-true, key_eq-refl}
use Rattle.cops_types.specs.Key.{key_eq}
use Rattle.cops_model.specs.Session.{Session}
use Rattle.cops_model.specs.Carrier.{Carrier}
use Rattle.cops_types.proofs.Elements.{Among-find, Every-at, Every-append, Every-filter}
use Rattle.std.specs.List.{AllByRecursion}
use Rattle.cops_model.specs.Carrier as carrier
use Rattle.cops_model.specs.declared.deliveries.Delivery.{Delivery}
use Rattle.cops_model.specs.Log.{Next, Call, Restart, Ended}
use Rattle.cops_model.specs.SoloNode.{SoloNode}
use Rattle.cops_model.specs.Causal.{Traced}
use Rattle.cops_model.specs.Cluster.{SoloCluster, NamedActor, Actor, OfSession, OfCarrier, find_actor, find_session, session_in, with_actor, with_new_actor, without_actor, carrier_stepped}

-- the first actor of the name
abbrev pub actor_in : List ℕ → List NamedActor → Option Actor
actor_in name actors = option_map (λ a. a.actor) (find (λ a. key_eq a.name name) actors)

abbrev pub replaced : List ℕ → Actor → NamedActor → NamedActor
replaced name actor a = cond (key_eq a.name name) (record { name = name; actor = actor }) a

-- under another name the same is found, and under this one the new actor if there was one
actor_in-replaced : (name : List ℕ) (actor : Actor) (actors : List NamedActor) → actor_in name (map (replaced name actor) actors) ≡ option_map (λ a. actor) (actor_in name actors)
actor_in-replaced name actor [] = refl
actor_in-replaced name actor (a ∷ actors) =
    elim (key_eq a.name name) as (λ b. key_eq a.name name ≡ b → actor_in name (map (replaced name actor) (a ∷ actors)) ≡ option_map (λ a. actor) (actor_in name (a ∷ actors))) [
      | true ↦ λ is. rw is (rw (key_eq-refl name) refl)
      | false ↦ λ is. rw is (rw is (actor_in-replaced name actor actors))
    ] refl

pub find_actor-with_actor : (name : List ℕ) (actor old : Actor) (c : SoloCluster) → find_actor name c ≡ Some old → find_actor name (with_actor name actor c) ≡ Some actor
find_actor-with_actor name actor old c found = actor_in-replaced name actor c.actors ∙ ap (option_map (λ a. actor)) found

-- under another name nothing changes
pub actor_in-other : (name other : List ℕ) (actor : Actor) (actors : List NamedActor) → key_eq name other ≡ false → actor_in other (map (replaced name actor) actors) ≡ actor_in other actors
actor_in-other name other actor [] apart = refl
actor_in-other name other actor (a ∷ actors) apart =
    elim (key_eq a.name name) as (λ b. key_eq a.name name ≡ b → actor_in other (map (replaced name actor) (a ∷ actors)) ≡ actor_in other (a ∷ actors)) [
      | true ↦ λ is. let same : key_eq a.name other ≡ false = ap (λ n. key_eq n other) (key_eq-true a.name name is) ∙ apart in rw is (rw (apart, same) (actor_in-other name other actor actors apart))
      | false ↦ λ is. rw is (elim (key_eq a.name other) as (λ b. option_map (λ (x : NamedActor). x.actor) (cond b (Some a) (find (λ (x : NamedActor). key_eq x.name other) (map (replaced name actor) actors)))
          ≡ option_map (λ (x : NamedActor). x.actor) (cond b (Some a) (find (λ (x : NamedActor). key_eq x.name other) actors))) [ true ↦ refl | false ↦ actor_in-other name other actor actors apart ])
    ] refl

pub actor_in-without : (name other : List ℕ) (actors : List NamedActor) → key_eq name other ≡ false → actor_in other (filter (λ a. not (key_eq a.name name)) actors) ≡ actor_in other actors
actor_in-without name other [] apart = refl
actor_in-without name other (a ∷ actors) apart =
    elim (key_eq a.name name) as (λ b. key_eq a.name name ≡ b → actor_in other (filter (λ a. not (key_eq a.name name)) (a ∷ actors)) ≡ actor_in other (a ∷ actors)) [
      | true ↦ λ is. let same : key_eq a.name other ≡ false = ap (λ n. key_eq n other) (key_eq-true a.name name is) ∙ apart in rw is (rw same (actor_in-without name other actors apart))
      | false ↦ λ is. rw is (elim (key_eq a.name other) as (λ b. option_map (λ (x : NamedActor). x.actor) (cond b (Some a) (find (λ (x : NamedActor). key_eq x.name other) (filter (λ a. not (key_eq a.name name)) actors)))
          ≡ option_map (λ (x : NamedActor). x.actor) (cond b (Some a) (find (λ (x : NamedActor). key_eq x.name other) actors))) [ true ↦ refl | false ↦ actor_in-without name other actors apart ])
    ] refl

actor_in-new : (other : List ℕ) (a : NamedActor) (actors : List NamedActor) (found : Actor) → actor_in other actors ≡ Some found → actor_in other (actors ++ a ∷ []) ≡ Some found
actor_in-new other a [] found e = cc
actor_in-new other a (b ∷ actors) found e =
    elim (key_eq b.name other) as (λ t. option_map (λ (x : NamedActor). x.actor) (cond t (Some b) (find (λ (x : NamedActor). key_eq x.name other) actors)) ≡ Some found
    → option_map (λ (x : NamedActor). x.actor) (cond t (Some b) (find (λ (x : NamedActor). key_eq x.name other) (actors ++ a ∷ []))) ≡ Some found) [ true ↦ λ e. e | false ↦ λ e. actor_in-new other a actors found e ] e

-- ---- the sessions that are known

-- a session has this name
abbrev pub IsKnown : SoloCluster → List ℕ → Type 0
IsKnown c name = is_some (find_session name c) ≡ true

-- a known name is that of a session
session_known : (found : Option Actor) → is_some (option_and_then session_in found) ≡ true → (s : Session) × (found ≡ Some (OfSession s))
session_known None e = cc
session_known (Some (OfSession s)) e = (s, refl)
session_known (Some (OfCarrier k)) e = cc

pub known_session : (c : SoloCluster) (name : List ℕ) → IsKnown c name → (s : Session) × (find_actor name c ≡ Some (OfSession s))
known_session c name known = session_known (find_actor name c) known

pub session_actor : (c : SoloCluster) (name : List ℕ) (s : Session) → find_session name c ≡ Some s → find_actor name c ≡ Some (OfSession s)
session_actor c name s found =
    let there = known_session c name (ap is_some found) in
    let same : Some there.0 ≡ Some s = sym (ap (option_and_then session_in) there.1) ∙ found in
    there.1 ∙ ap (option_map OfSession) same

by_name : (name other : List ℕ) (C : Type 0) → (name ≡ other → C) → (key_eq name other ≡ false → C) → C
by_name name other C same apart = elim (key_eq name other) as (λ b. key_eq name other ≡ b → C) [ true ↦ λ is. same (key_eq-true name other is) | false ↦ λ is. apart is ] refl

pub known-with_session : (c : SoloCluster) (name other : List ℕ) (s : Session) → IsKnown c other → IsKnown (with_actor name (OfSession s) c) other
known-with_session c name other s known =
    by_name name other (IsKnown (with_actor name (OfSession s) c) other)
    (λ same.
    let there = known_session c other known in
    subst (λ n. IsKnown (with_actor n (OfSession s) c) other) (sym same) (ap (λ o. is_some (option_and_then session_in o)) (find_actor-with_actor other (OfSession s) (OfSession there.0) c there.1)))
    (λ apart. ap (λ o. is_some (option_and_then session_in o)) (actor_in-other name other (OfSession s) c.actors apart) ∙ known)

-- a carrier's name is no session's
carrier_apart : (c : SoloCluster) (name other : List ℕ) (k : Carrier) (C : Type 0) → find_actor name c ≡ Some (OfCarrier k) → IsKnown c other → (key_eq name other ≡ false → C) → C
carrier_apart c name other k C found known apart =
    by_name name other C
    (λ same. let there = known_session c other known in let both : Some (OfCarrier k) ≡ Some (OfSession there.0) = sym found ∙ ap (λ n. find_actor n c) same ∙ there.1 in cc)
    apart

known-with_carrier : (c : SoloCluster) (name other : List ℕ) (k after : Carrier) → find_actor name c ≡ Some (OfCarrier k) → IsKnown c other → IsKnown (with_actor name (OfCarrier after) c) other
known-with_carrier c name other k after found known =
    carrier_apart c name other k (IsKnown (with_actor name (OfCarrier after) c) other) found known
    (λ apart. ap (λ o. is_some (option_and_then session_in o)) (actor_in-other name other (OfCarrier after) c.actors apart) ∙ known)

pub known-without : (c : SoloCluster) (name other : List ℕ) (k : Carrier) → find_actor name c ≡ Some (OfCarrier k) → IsKnown c other → IsKnown (without_actor name c) other
known-without c name other k found known =
    carrier_apart c name other k (IsKnown (without_actor name c) other) found known
    (λ apart. ap (λ o. is_some (option_and_then session_in o)) (actor_in-without name other c.actors apart) ∙ known)

-- after a step of a carrier the same sessions are known
pub known-carried : (c : SoloCluster) (name other : List ℕ) (k after : Carrier) (n : Next Delivery) → find_actor name c ≡ Some (OfCarrier k) → IsKnown c other → IsKnown (carrier_stepped name after (carrier.progress_of n) c).after other
known-carried c name other k after (Ended ending) found known = known-without c name other k found known
known-carried c name other k after (Call directed) found known = known-with_carrier c name other k after found known
known-carried c name other k after Restart found known = known-with_carrier c name other k after found known

pub known-with_new : (c : SoloCluster) (name other : List ℕ) (actor : Actor) → IsKnown c other → IsKnown (with_new_actor name actor c) other
known-with_new c name other actor known =
    let there = known_session c other known in
    ap (λ o. is_some (option_and_then session_in o)) (actor_in-new other (record { name = name; actor = actor }) c.actors (OfSession there.0) there.1)

-- ---- what holds of each actor

abbrev pub EachActor : (List ℕ → Actor → Type 0) → SoloCluster → Type 0
EachActor P c = AllByRecursion (λ (a : NamedActor). P a.name a.actor) c.actors

pub actor_found : (P : List ℕ → Actor → Type 0) (c : SoloCluster) (name : List ℕ) (actor : Actor) → EachActor P c → find_actor name c ≡ Some actor → P name actor
actor_found P c name actor each found = by_find (find (λ a. key_eq a.name name) c.actors) refl found
  where
    by_find : (o : Option NamedActor) → find (λ (a : NamedActor). key_eq a.name name) c.actors ≡ o → option_map (λ (a : NamedActor). a.actor) o ≡ Some actor → P name actor
    by_find None is e = cc
    by_find (Some a) is e =
        let there = Among-find (λ (a : NamedActor). key_eq a.name name) a c.actors is in
        let same : a.actor ≡ actor = cc in
        subst (P name) same (subst (λ n. P n a.actor) (key_eq-true a.name name there.1) (Every-at (λ (a : NamedActor). P a.name a.actor) a c.actors each there.0))

pub each-with_actor : (P Q : List ℕ → Actor → Type 0) (c : SoloCluster) (name : List ℕ) (actor : Actor) → Q name actor → ((other : List ℕ) (a : Actor) → key_eq other name ≡ false → P other a → Q other a) →
    EachActor P c → EachActor Q (with_actor name actor c)
each-with_actor P Q c name actor new old each = go c.actors each
  where
    go : (actors : List NamedActor) → AllByRecursion (λ (a : NamedActor). P a.name a.actor) actors → AllByRecursion (λ (a : NamedActor). Q a.name a.actor) (map (replaced name actor) actors)
    go [] ps = tt
    go (a ∷ actors) ps =
        (elim (key_eq a.name name) as (λ b. key_eq a.name name ≡ b → let x = cond b (record { name = name; actor = actor }) a in Q x.name x.actor) [ true ↦ λ is. new | false ↦ λ is. old a.name a.actor is ps.0 ] refl, go actors ps.1)

pub each-with_new : (P : List ℕ → Actor → Type 0) (c : SoloCluster) (name : List ℕ) (actor : Actor) → P name actor → EachActor P c → EachActor P (with_new_actor name actor c)
each-with_new P c name actor new each = Every-append (λ (a : NamedActor). P a.name a.actor) c.actors (record { name = name; actor = actor } ∷ []) each (new, tt)

pub each-without : (P : List ℕ → Actor → Type 0) (c : SoloCluster) (name : List ℕ) → EachActor P c → EachActor P (without_actor name c)
each-without P c name each = Every-filter (λ (a : NamedActor). P a.name a.actor) (λ a. not (key_eq a.name name)) c.actors each

-- ---- what stands on each move of one actor

-- these nodes, without actors
abbrev pub bare : List SoloNode → SoloCluster
bare nodes = record { nodes = nodes; actors = [] }

-- what holds of the nodes and the history, and of each actor under its name
pub record Stands (N : List SoloNode → List Traced → Type 0) (A : List SoloNode → List Traced → List ℕ → Actor → Type 0) (c : SoloCluster) (ts : List Traced) : Type 0 where
  pub nodes : N c.nodes ts
  pub actors : EachActor (A c.nodes ts) c

module _ (N : List SoloNode → List Traced → Type 0) (A : List SoloNode → List Traced → List ℕ → Actor → Type 0) (c : SoloCluster) (ts : List Traced) (stands : Stands N A c ts) where
  -- one actor is another
  pub changed : (name : List ℕ) (a : Actor) → A c.nodes ts name a → Stands N A (with_actor name a c) ts
  changed name a is = record { nodes = stands.nodes; actors = each-with_actor (A c.nodes ts) (A c.nodes ts) c name a is (λ other b apart p. p) stands.actors }

  -- an actor joins
  pub joined : (name : List ℕ) (a : Actor) → A c.nodes ts name a → Stands N A (with_new_actor name a c) ts
  joined name a is = record { nodes = stands.nodes; actors = each-with_new (A c.nodes ts) c name a is stands.actors }

  -- an actor is gone
  pub left : (name : List ℕ) → Stands N A (without_actor name c) ts
  left name = record { nodes = stands.nodes; actors = each-without (A c.nodes ts) c name stands.actors }

  -- a carrier has one more reply, or has ended and is gone
  pub carried_to : (name : List ℕ) (after : Carrier) (n : Next Delivery) → (((ending : Delivery) → n ≡ Ended ending → ⊥) → A c.nodes ts name (OfCarrier after)) →
      Stands N A (carrier_stepped name after (carrier.progress_of n) c).after ts
  carried_to name after (Ended ending) is = left name
  carried_to name after (Call directed) is = changed name (OfCarrier after) (is (λ ending never. cc))
  carried_to name after Restart is = changed name (OfCarrier after) (is (λ ending never. cc))
