-- The actors of a tenant as they are kept, and the actors of the definition that they stand for.
use Rattle.std.specs.Prelude.{◌≡◌, ℕ, false, List, [], ◌∷◌, Option, Some, None}
use Rattle.std.specs.List.{list_any}
use Rattle.cops_types.specs.Key.{key_eq}
use Rattle.cops_model.specs.Cluster.{SoloCluster, NamedActor, Actor, find_actor}

-- both are there, and one stands for the other; or neither is there
abbrev pub AreSame : {A : Type 0} → (A → Actor → Type 0) → Option A → Option Actor → Type 0
AreSame Stands None None = Unit {0}
AreSame Stands (Some kept) (Some actor) = Stands kept actor
AreSame Stands None (Some actor) = ⊥
AreSame Stands (Some kept) None = ⊥

-- no two have one name
abbrev pub HaveDistinctNames : List NamedActor → Type 0
HaveDistinctNames [] = Unit {0}
HaveDistinctNames (a ∷ actors) = (list_any (λ b. key_eq b.name a.name) actors ≡ false) × HaveDistinctNames actors

-- the actors that are kept, by name, are those of the cluster
pub record ActorsStandFor {A : Type 0} (Stands : A → Actor → Type 0) (kept : List ℕ → Option A) (cluster : SoloCluster) : Type 0 where
  pub same : (name : List ℕ) → AreSame Stands (kept name) (find_actor name cluster)
  pub distinct : HaveDistinctNames cluster.actors
