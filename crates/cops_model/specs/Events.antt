-- Events of many tenants, and each tenant's projection of them.
use Rattle.std.specs.Prelude.{◌≡◌, Bool, true, false, IsFalse, ℕ, List, [], ◌∷◌, ◌++◌, map, filter, slice_index_or, ◌==◌, if◌then◌else◌}
use Rattle.std.specs.List.{list_any}
use Rattle.cops_types.specs.declared.faults.Fault.TheVariants.{OutOfMemory}
use Rattle.cops_types.specs.declared.configs.Config.{Config}
use Rattle.cops_types.specs.TenantConfig.{TenantConfig, tenant_config}
use Rattle.cops_model.specs.declared.acts.Act.{Act}
use Rattle.cops_model.specs.declared.acts.Event.{Event}
use Rattle.cops_model.specs.declared.replies.Reply.{Reply}
use Rattle.cops_model.specs.declared.replies.Reply.TheVariants.{Refused}
use Rattle.cops_model.specs.Cluster.{SoloCluster, new_cluster, cluster_step}

-- the tenant's acts, in order
abbrev pub own : ℕ → List Event → List Act
own slot events = map (λ e. e.act) (filter (λ e. e.slot == slot) events)

-- the replies to the tenant's events, in order
abbrev pub replies : ℕ → List Event → List Reply → List Reply
replies slot [] rs = []
replies slot (e ∷ events) [] = []
replies slot (e ∷ events) (r ∷ rs) = if e.slot == slot then r ∷ replies slot events rs else replies slot events rs

-- the reply to each act, in order
abbrev pub replies_from : TenantConfig → List Act → SoloCluster → List Reply
replies_from config [] cluster = []
replies_from config (act ∷ acts) cluster =
    (cluster_step config act cluster).reply ∷ replies_from config acts (cluster_step config act cluster).after

-- the cluster after the acts
abbrev pub cluster_after : TenantConfig → List Act → SoloCluster → SoloCluster
cluster_after config [] cluster = cluster
cluster_after config (act ∷ acts) cluster = cluster_after config acts (cluster_step config act cluster).after

-- the replies in a cluster that the tenant has to itself
abbrev pub solo_replies : TenantConfig → List Act → List Reply
solo_replies config acts = replies_from config acts (new_cluster config)

-- the cluster of its own that these acts leave
abbrev pub cluster_of : TenantConfig → List Act → SoloCluster
cluster_of config acts = cluster_after config acts (new_cluster config)

-- ---- many tenants at once, each with a cluster of its own

-- the configuration of a slot without a tenant: nothing is allowed
abbrev pub no_config : TenantConfig
no_config =
    record {
      data_centres = 0;
      shards = 0;
      trans_time = 0;
      restarts = 0;
      first_clock = 0;
      quota = record { versions = 0; bytes = 0; outbox = 0; contexts = 0; deps = 0; actors = 0; audit = 0 };
    }

abbrev pub config_at : Config → ℕ → TenantConfig
config_at config slot = slice_index_or (map (tenant_config config) config.tenants) slot no_config

-- the clusters with the one of this tenant replaced
abbrev pub with_cluster : ℕ → SoloCluster → (ℕ → SoloCluster) → ℕ → SoloCluster
with_cluster slot after clusters other = if slot == other then after else clusters other

-- the reply to each event, in order: each event acts on the cluster of its own tenant
abbrev pub world_replies : (ℕ → TenantConfig) → List Event → (ℕ → SoloCluster) → List Reply
world_replies configs [] clusters = []
world_replies configs (e ∷ events) clusters =
    let turn = cluster_step (configs e.slot) e.act (clusters e.slot) in
    turn.reply ∷ world_replies configs events (with_cluster e.slot turn.after clusters)

abbrev pub new_clusters : (ℕ → TenantConfig) → ℕ → SoloCluster
new_clusters configs slot = new_cluster (configs slot)

-- the reply is out of memory
abbrev pub is_out_of_memory : Reply → Bool
is_out_of_memory (Refused OutOfMemory) = true
is_out_of_memory reply = false

abbrev pub IsSpared : List Reply → Type 0
IsSpared rs = IsFalse (list_any is_out_of_memory rs)

-- the replies before the first that is out of memory
abbrev pub before_lack : List Reply → List Reply
before_lack [] = []
before_lack (r ∷ rs) = if is_out_of_memory r then [] else r ∷ before_lack rs

-- the first list is a prefix of the second
abbrev pub IsFrontOf : {A : Type 0} → List A → List A → Type 0
IsFrontOf {A = A} front whole = (rest : List A) × (whole ≡ front ++ rest)
