-- The actors of all tenants in one table, by slot and name.
use Rattle.std.specs.Prelude.{◌≡◌, ◌≢◌, ℕ, Bool, ◌&&◌, ◌==◌, if◌then◌else◌, nat_eq, List, Option, Some, None, count_by, position}
use Rattle.std.specs.Map.{keys_of, lookup}
use Rattle.cops_types.specs.Key.{key_eq}
use Rattle.cops_world.specs.declared.actors.Actor.{Actor}
use Rattle.cops_world.specs.declared.actors.ActorId.{ActorId}

-- the actors of all slots, each with its slot and name, and how many slots there are
pub record Table : Type 0 where
  pub slots : ℕ
  pub actors : List (ActorId × Actor)

abbrev pub same_actor : ActorId → ActorId → Bool
same_actor a b = nat_eq a.slot b.slot && key_eq a.name b.name

-- the place of an actor
abbrev pub actor_place : ActorId → Table → Option ℕ
actor_place id table = position (same_actor id) (keys_of table.actors)

-- the actor of a slot and a name
abbrev pub actor_at : Table → ActorId → Option Actor
actor_at table id = lookup (same_actor id) table.actors

-- how many actors a slot has
abbrev pub count_at : Table → ℕ → ℕ
count_at table slot = count_by (λ (a : ActorId × Actor). a.0.slot == slot) table.actors

-- of this slot and name there is this one now, or none; there are so many slots as before, and no other slot has more actors or fewer
pub record Places (old : Table) (id : ActorId) (after : Option Actor) (new : Table) : Type 0 where
  pub at : (q : ActorId) → actor_at new q ≡ (if same_actor id q then after else actor_at old q)
  pub slots : new.slots ≡ old.slots
  pub others : (slot : ℕ) → id.slot ≢ slot → count_at new slot ≡ count_at old slot

-- this actor is put in the place of the one that was there
abbrev pub PutsBack : Table → ActorId → Actor → Table → Type 0
PutsBack old id actor new = Places old id (Some actor) new × (count_at new id.slot ≡ count_at old id.slot)

-- a slot has no actor, and each other has those that it had
pub record IsClearedOf (slot : ℕ) (old new : Table) : Type 0 where
  pub none : (q : ActorId) → slot ≡ q.slot → actor_at new q ≡ None
  pub empty : count_at new slot ≡ 0
  pub elsewhere : (q : ActorId) → slot ≢ q.slot → actor_at new q ≡ actor_at old q
  pub counts : (other : ℕ) → slot ≢ other → count_at new other ≡ count_at old other
  pub slots : new.slots ≡ old.slots
