-- What a run of all events in a new world leaves to each tenant.
use Rattle.std.proofs.Common.{ℕ, ◌<◌, List, length, ap, subst, ◌∙◌}
use Rattle.cops_types.specs.declared.configs.Config.{Config}
use Rattle.cops_types.specs.TenantConfig.{TenantConfig}
use Rattle.cops_model.specs.declared.acts.Event.{Event}
use Rattle.cops_model.specs.declared.replies.Reply.{Reply}
use Rattle.cops_model.specs.Cluster.{SoloCluster, new_cluster}
use Rattle.cops_model.specs.Events.{config_at, own, replies}
use Rattle.cops_model.specs.Goes.{Goes}
use Rattle.cops_model.specs.MainTheorem.{IsCausalRun}
use Rattle.cops_model.specs.Setups.{Setup, config_in}
use Rattle.cops_script.specs.Acting.{IsNew}
use Rattle.cops_world.specs.Worlds.{HasOpenCluster, KeptWorld, open_setup}
use Rattle.cops_script.proofs.BegunSetups.{config_begun}
use Rattle.cops_script.proofs.MainLemmas.{own_run}

module _ (config : Config) (events : List Event) (told : List Reply) (world after : KeptWorld) (new : IsNew open_setup HasOpenCluster config world) where
  -- a run of the tenant's acts from its part of the world
  abbrev pub GoesIn : TenantConfig → ℕ → SoloCluster → Type 0
  GoesIn tenant slot cluster = (left : SoloCluster) × Goes tenant (own slot events) (replies slot events told) cluster left × HasOpenCluster after slot left

  module _ (goes : (slot : ℕ) (cluster : SoloCluster) → HasOpenCluster world slot cluster → GoesIn (config_in (open_setup world) slot) slot cluster) where
    pub left_in : (slot : ℕ) → slot < length config.tenants → GoesIn (config_at config slot) slot (new_cluster (config_at config slot))
    left_in slot within =
        let first = new_cluster (config_at config slot) in
        let same = ap (λ (s : Setup). config_in s slot) new.setup_is ∙ config_begun config slot in
        subst (λ (k : TenantConfig). GoesIn k slot first) same (goes slot first (new.empty slot within))

    pub causal_for : 0 < config.shards → (slot : ℕ) → slot < length config.tenants → IsCausalRun (config_at config slot) (own slot events) (replies slot events told)
    causal_for some slot within = let run = left_in slot within in own_run config events told slot run.0 some within run.1
