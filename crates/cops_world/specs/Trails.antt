-- What the audit of a node shows of one tenant.
use Rattle.std.specs.Prelude.{ℕ, List, Option, slice_get, slice_index_or}
use Rattle.cops_types.specs.TenantConfig.{TenantConfig}
use Rattle.cops_model.specs.declared.calls.AuditEntry.{AuditEntry}
use Rattle.cops_model.specs.declared.calls.NodeId.{NodeId}
use Rattle.cops_model.specs.Place.{node_number}
use Rattle.cops_model.specs.SoloNode.{new_node}
use Rattle.cops_model.specs.Cluster.{SoloCluster}

-- the audit of a node of the tenant's cluster
abbrev pub trail_at : TenantConfig → NodeId → SoloCluster → List AuditEntry
trail_at config id cluster = (slice_index_or cluster.nodes (node_number config.shards id) (new_node config.data_centres)).trail

-- the call at a place of it
abbrev pub audited_at : TenantConfig → NodeId → ℕ → SoloCluster → Option AuditEntry
audited_at config id place cluster = slice_get (trail_at config id cluster) place
