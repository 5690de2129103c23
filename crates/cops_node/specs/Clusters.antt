-- A cluster of nodes as contracts see it, and the effect of a call at one of them for each tenant.
use Rattle.std.specs.Prelude.{◌≡◌, ◌≢◌, ℕ, ◌*◌, ◌/◌, ◌%◌, ◌<◌, ◌≤◌, ◌⊎◌, false, nat_lt, List, map, length, slice_get, slice_index_or, slice_set, None, Some}
use Rattle.std.specs.List.{AllByRecursion, range_with_len}
use Rattle.cops_types.specs.declared.configs.Config.{Config}
use Rattle.cops_types.specs.declared.faults.Fault.TheVariants.{OutOfMemory, AuditFull, UnknownTenant}
use Rattle.cops_types.specs.Layout.{NODES}
use Rattle.cops_types.specs.TenantConfig.{TenantConfig}
use Rattle.cops_model.specs.declared.calls.NodeCall.{NodeCall}
use Rattle.cops_model.specs.declared.calls.NodeId.{NodeId}
use Rattle.cops_model.specs.declared.calls.NodeReply.{NodeReply}
use Rattle.cops_model.specs.declared.calls.NodeReply.TheVariants.{Refused}
use Rattle.cops_node.specs.Parts.{AuditFits, Shared, home_of, no_calls, opening_terms, place_at, site_in, solo_of}
use Rattle.cops_model.specs.Place.{node_number, place_of}
use Rattle.cops_node.specs.declared.Shape.{Shape}
use Rattle.cops_model.specs.SoloNode.{SoloNode, new_node}
use Rattle.cops_model.specs.Step.{CallEffect, node_step}

-- the sizes, and the nodes by number
pub record Cluster : Type 0 where
  pub shape : Shape
  pub nodes : List Shared

-- the node of a number
abbrev pub id_of : ℕ → ℕ → NodeId
id_of shards number = record { dc = number / shards; shard = number % shards }

-- a node of a configuration that no call has reached
abbrev pub new_shared : Config → ℕ → Shared
new_shared config number = record { home = home_of config (id_of config.shards number); terms = opening_terms config; audit = no_calls (length config.tenants) }

abbrev pub shape_of : Config → Shape
shape_of config = record { data_centres = config.data_centres; shards = config.shards }

-- the nodes of a configuration, in number order, before any call
abbrev pub new_nodes : Config → Cluster
new_nodes config = record { shape = shape_of config; nodes = map (new_shared config) (range_with_len 0 (config.data_centres * config.shards)) }

-- ---- one tenant's part of it

-- the solo nodes that the tenant's slot represents, by node number
abbrev pub nodes_of : TenantConfig → ℕ → Cluster → List SoloNode
nodes_of config slot cluster = map (λ node. solo_of slot (place_of config node.home.id) node) cluster.nodes

-- the slot is that of a tenant with this configuration: at each node its place is the tenant's
abbrev pub HasTenant : TenantConfig → ℕ → Cluster → Type 0
HasTenant config slot cluster = AllByRecursion (λ node. place_at slot node ≡ Some (place_of config node.home.id)) cluster.nodes

-- the tenant's solo node of an id
abbrev pub solo_at : TenantConfig → NodeId → ℕ → Cluster → SoloNode
solo_at config id slot cluster = slice_index_or (nodes_of config slot cluster) (node_number config.shards id) (new_node config.data_centres)

-- the turn of the tenant's solo node
abbrev pub turn_at : TenantConfig → NodeId → ℕ → ℕ → NodeCall → Cluster → CallEffect
turn_at config id slot moment call cluster = node_step (place_of config id) moment call (solo_at config id slot cluster)

-- the reply is that of the tenant's solo node; of the tenant's nodes only this one changes
pub record IsTurnOf (config : TenantConfig) (id : NodeId) (slot moment : ℕ) (call : NodeCall) (reply : NodeReply) (old new : Cluster) : Type 0 where
  pub reply_is : reply ≡ (turn_at config id slot moment call old).reply
  pub after : nodes_of config slot new ≡ slice_set (nodes_of config slot old) (node_number config.shards id) (turn_at config id slot moment call old).after

-- the node of this id has no tenant at the slot
abbrev pub IsVacantAt : ℕ → NodeId → Cluster → Type 0
IsVacantAt slot id cluster = (node : Shared) × (slice_get cluster.nodes (node_number cluster.shape.shards id) ≡ Some node) × (place_at slot node ≡ None)

-- a call at a node for the tenant of a slot: the turn of his solo node, or memory was refused and nothing changed; other tenants' nodes stay; if his audit is full that is the reply, whatever memory there is; without a tenant it is refused, and nothing changes
pub record IsCall (old : Cluster) (id : NodeId) (slot moment : ℕ) (call : NodeCall) (reply : NodeReply) (new : Cluster) : Type 0 where
  pub turn : ((reply ≡ Refused OutOfMemory) × (new ≡ old)) ⊎ ((config : TenantConfig) → config.shards ≡ old.shape.shards → HasTenant config slot old → IsTurnOf config id slot moment call reply old new)
  pub full : (config : TenantConfig) → config.shards ≡ old.shape.shards → HasTenant config slot old → nat_lt (length (solo_at config id slot old).trail) config.quota.audit ≡ false → reply ≡ Refused AuditFull
  pub vacant : IsVacantAt slot id old → (reply ≡ Refused UnknownTenant) × (new ≡ old)
  pub others : (config : TenantConfig) (other : ℕ) → other ≢ slot → nodes_of config other new ≡ nodes_of config other old
  pub tenants : (config : TenantConfig) (other : ℕ) → HasTenant config other old → HasTenant config other new
  pub sites : map site_in new.nodes ≡ map site_in old.nodes

-- ---- the nodes are those of the cluster

pub record IsCluster (shape : Shape) (nodes : List Shared) : Type 0 where
  pub numbers_fit : shape.data_centres * shape.shards ≤ NODES
  pub all : length nodes ≡ shape.data_centres * shape.shards
  pub each : (number : ℕ) (node : Shared) → number < length nodes → node ≡ slice_index_or nodes number node → (node.home.id ≡ id_of shape.shards number) × (node.home.shape ≡ shape)

-- the nodes are those of the cluster, and the calls in their audits fit them
pub record HoldsNodes (shape : Shape) (nodes : List Shared) : Type 0 where
  pub in_order : IsCluster shape nodes
  pub fitting : AllByRecursion AuditFits nodes
