-- The main theorem: what holds for every run of the events of many tenants.
use Rattle.std.specs.Prelude.{ℕ, ◌<◌, List, [], ◌∷◌, length}
use Rattle.cops_types.specs.declared.configs.Config.{Config}
use Rattle.cops_types.specs.declared.configs.Tenant.{Tenant}
use Rattle.cops_types.specs.TenantConfig.{TenantConfig}
use Rattle.cops_model.specs.declared.acts.Act.{Act}
use Rattle.cops_model.specs.declared.acts.Event.{Event}
use Rattle.cops_model.specs.declared.replies.Reply.{Reply}
use Rattle.cops_model.specs.Cluster.{SoloCluster, new_cluster}
use Rattle.cops_model.specs.Events.{config_at, own, replies}
use Rattle.cops_model.specs.Goes.{Goes}
use Rattle.cops_model.specs.Laws.{IsCausal}

-- the acts, with these replies, are a run of a tenant alone in which memory may run out, and keep the causal laws
pub record IsCausalRun (config : TenantConfig) (acts : List Act) (told : List Reply) : Type 0 where
  -- the cluster that they leave
  pub left : SoloCluster
  pub goes : Goes config acts told (new_cluster config) left
  pub causal : IsCausal config acts told left

-- each tenant's own acts, with the replies to them, are such a run
abbrev pub MainTheorem : Config → List Event → List Reply → Type 0
MainTheorem config events told = (slot : ℕ) → slot < length config.tenants → IsCausalRun (config_at config slot) (own slot events) (replies slot events told)

-- the configuration with this tenant alone
abbrev pub with_tenant_alone : Config → Tenant → Config
with_tenant_alone config tenant = record config { tenants = tenant ∷ [] }
