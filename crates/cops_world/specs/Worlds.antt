-- A world as contracts see it, and the cluster that a tenant's part of it stands for.
use Rattle.std.specs.Prelude.{◌≡◌, ◌≢◌, ◌⊎◌, ℕ, ◌+◌, ◌*◌, ◌≤◌, true, false, IfOk, IsTrue, List, [], length, map, slice_index_or, slice_set, Option, Some, None, Result}
use Rattle.std.specs.declared.alloc.AllocError.{AllocError}
use Rattle.std.specs.List.{AllByRecursion}
use Rattle.std.specs.Option.{option_map}
use Rattle.cops_types.specs.declared.configs.Tenant.{Tenant}
use Rattle.cops_types.specs.HeadLines.{is_tenant, most_tenants}
use Rattle.cops_types.specs.OpenSlots.{open_at}
use Rattle.cops_types.specs.TenantConfig.{TenantConfig, tenant_config}
use Rattle.cops_node.specs.Clusters.{Cluster, HasTenant, nodes_of, shape_of}
use Rattle.cops_node.specs.Parts.{Site, place_at, place_under, site_in, trail_of}
use Rattle.cops_model.specs.Place.{place_of}
use Rattle.cops_model.specs.declared.replies.Reply.{Reply}
use Rattle.cops_model.specs.Cluster.{ActEffect, Actor, SoloCluster, actor_refusal, new_cluster, reply_with, unless_refused, with_new_actor}
use Rattle.cops_model.specs.Events.{is_out_of_memory}
use Rattle.cops_model.specs.Setups.{Setup, config_in, is_open_at}
use Rattle.cops_world.specs.declared.actors.Actor.{Actor as Kept}
use Rattle.cops_world.specs.declared.actors.ActorId.{ActorId}
use Rattle.cops_world.specs.Actors.{ActorsStandFor}
use Rattle.cops_world.specs.ActorTables.{Places, Table, actor_at, count_at}
use Rattle.cops_world.specs.ActorsStand.{ActorStandsFor, RunsAt, actor_ended}
use Rattle.cops_script.specs.Acting.{told_act}
use Rattle.cops_script.specs.GoodHeads.{is_good}

-- the configuration with the tenants that are open, the nodes, the actors by slot and name, and how many actors each slot has
pub record World : Type 0 where
  pub setup : Setup
  pub nodes : Cluster
  pub actors : ActorId → Option Kept
  pub count : ℕ → ℕ

-- a world as it is kept: the actors of all tenants in one table
pub record KeptWorld : Type 0 where
  pub setup : Setup
  pub nodes : Cluster
  pub table : Table

abbrev pub world_of : KeptWorld → World
world_of kept = record { setup = kept.setup; nodes = kept.nodes; actors = λ id. actor_at kept.table id; count = λ slot. count_at kept.table slot }

-- what no call changes of a node: the sizes are the head's, and each slot has the place of the tenant who is open there, or none
pub record IsSiteIn (setup : Setup) (site : Site) : Type 0 where
  pub shape_is : site.home.shape ≡ shape_of setup.head
  pub trans_time_is : site.home.trans_time ≡ setup.head.trans_time
  pub places_are : (slot : ℕ) → option_map (place_under site.home) (slice_index_or site.terms slot None) ≡ option_map (λ tenant. place_of (tenant_config setup.head tenant) site.home.id) (open_at slot setup.tenants)

-- the nodes of the configuration: so many, and each such a one
pub record AreSitesIn (setup : Setup) (sites : List Site) : Type 0 where
  pub all : length sites ≡ setup.head.data_centres * setup.head.shards
  pub each : AllByRecursion (IsSiteIn setup) sites

pub record IsWorld (world : World) : Type 0 where
  pub shape_is : world.nodes.shape ≡ shape_of world.setup.head
  pub sites_are : AreSitesIn world.setup (map site_in world.nodes.nodes)
  pub good : IsTrue (is_good world.setup.head)
  pub tenants_good : (slot : ℕ) (tenant : Tenant) → open_at slot world.setup.tenants ≡ Some tenant → IsTrue (is_tenant tenant)
  pub enough : most_tenants ≤ length world.setup.tenants
  pub run : (id : ActorId) (actor : Kept) → world.actors id ≡ Some actor → RunsAt (shape_of world.setup.head) id.slot actor
  pub hosted : (id : ActorId) (actor : Kept) → world.actors id ≡ Some actor → IsTrue (is_open_at world.setup id.slot)

-- a world may be kept so: the table has its slots
pub record IsKeptWorld (kept : KeptWorld) : Type 0 where
  pub whole : IsWorld (world_of kept)
  pub tabled : kept.table.slots ≡ length kept.setup.tenants

-- a tenant is open at the slot, and has this cluster
pub record ClusterStandsAt (world : World) (slot : ℕ) (cluster : SoloCluster) : Type 0 where
  pub open_there : IsTrue (is_open_at world.setup slot)
  pub has : HasTenant (config_in world.setup slot) slot world.nodes
  pub nodes_are : nodes_of (config_in world.setup slot) slot world.nodes ≡ cluster.nodes
  pub actors_are : ActorsStandFor (ActorStandsFor (config_in world.setup slot)) (λ name. world.actors (record { slot = slot; name = name })) cluster
  pub count_is : world.count slot ≡ length cluster.actors

-- the configuration of a world as it is kept, and the tenants who are open
abbrev pub open_setup : KeptWorld → Setup
open_setup kept = kept.setup

-- the tenant who is open at the slot has this cluster
abbrev pub HasOpenCluster : KeptWorld → ℕ → SoloCluster → Type 0
HasOpenCluster kept slot cluster = ClusterStandsAt (world_of kept) slot cluster

-- any reply at all
abbrev pub AnyReply : Reply → Type 0
AnyReply reply = Unit {0}

-- the tenant's cluster took this turn if there is this reply, and no other tenant's changed; out of memory is the error
pub record Moves (Exact : Reply → Type 0) (turn_of : TenantConfig → SoloCluster → ActEffect) (old : World) (slot : ℕ) (answered : Result Reply AllocError) (new : World) : Type 0 where
  pub same : new.setup ≡ old.setup
  pub own : IfOk answered (λ reply. Exact reply → (cluster : SoloCluster) → ClusterStandsAt old slot cluster →
      (reply ≡ (turn_of (config_in old.setup slot) cluster).reply) × ClusterStandsAt new slot (turn_of (config_in old.setup slot) cluster).after)
  pub others : (other : ℕ) → slot ≢ other → (cluster : SoloCluster) → ClusterStandsAt old other cluster → ClusterStandsAt new other cluster

-- if memory ran out, this holds of the tenant's cluster afterwards
abbrev pub Leaves : (TenantConfig → SoloCluster → SoloCluster → Type 0) → World → ℕ → Result Reply AllocError → World → Type 0
Leaves Left old slot answered new =
    IsTrue (is_out_of_memory (told_act answered)) → (cluster : SoloCluster) → ClusterStandsAt old slot cluster → (after : SoloCluster) × Left (config_in old.setup slot) cluster after × ClusterStandsAt new slot after

-- the actor is taken out, and nothing else changes
pub record IsTakenOut (old : KeptWorld) (id : ActorId) (new : KeptWorld) : Type 0 where
  pub rest : new ≡ record old { table = new.table }
  pub out : Places old.table id None new.table
  pub count : count_at new.table id.slot + 1 ≡ count_at old.table id.slot

-- a carrier that has ended is taken out, and any other actor stays
abbrev pub IsLeft : ActorId → KeptWorld → KeptWorld → Type 0
IsLeft id old new = (actor : Kept) → actor_at old.table id ≡ Some actor → ((actor_ended actor ≡ true) × IsTakenOut old id new) ⊎ ((actor_ended actor ≡ false) × (new ≡ old))

-- a new actor joins if its place exists, unless its name is taken or the tenant has as many as its quota allows
abbrev pub join_step : List ℕ → Actor → Reply → TenantConfig → SoloCluster → ActEffect
join_step name actor reply config cluster = unless_refused (actor_refusal config true name cluster) cluster (reply_with reply (with_new_actor name actor cluster))

-- ---- tenants that come and go

-- another slot's tenant has the cluster that he had
abbrev pub OthersStand : ℕ → KeptWorld → KeptWorld → Type 0
OthersStand slot old new = (other : ℕ) → slot ≢ other → (cluster : SoloCluster) → ClusterStandsAt (world_of old) other cluster → ClusterStandsAt (world_of new) other cluster

-- the slot is this tenant's, who has a new cluster without actors
pub record Admits (slot : ℕ) (tenant : Tenant) (old new : KeptWorld) : Type 0 where
  pub setup_is : new.setup ≡ record { head = old.setup.head; tenants = slice_set old.setup.tenants slot (Some tenant) }
  pub begins : ClusterStandsAt (world_of new) slot (new_cluster (tenant_config old.setup.head tenant))
  pub others : OthersStand slot old new

-- the slot has no tenant, no actor, and nothing at any node
pub record Closes (slot : ℕ) (old new : KeptWorld) : Type 0 where
  pub setup_is : new.setup ≡ record { head = old.setup.head; tenants = slice_set old.setup.tenants slot None }
  pub no_actor : (name : List ℕ) → (world_of new).actors (record { slot = slot; name = name }) ≡ None
  pub nowhere : AllByRecursion (λ node. (place_at slot node ≡ None) × (trail_of slot node.audit ≡ [])) new.nodes.nodes
  pub others : OthersStand slot old new

-- the same tenants are open, and each has the cluster that he had
pub record StaysOpen (old new : KeptWorld) : Type 0 where
  pub setup_is : new.setup ≡ old.setup
  pub clusters : (slot : ℕ) (cluster : SoloCluster) → ClusterStandsAt (world_of old) slot cluster → ClusterStandsAt (world_of new) slot cluster
