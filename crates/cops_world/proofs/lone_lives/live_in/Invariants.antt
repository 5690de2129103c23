use Rattle.std.proofs.Common.{drop}
use Rattle.cops_types.specs.declared.configs.Config.{Config}
use Rattle.cops_types.specs.declared.configs.Tenant.{Tenant}
use Rattle.cops_types.specs.TenantConfig.{tenant_config}
use Rattle.cops_model.specs.MainTheorem.{with_tenant_alone}
use Rattle.cops_script.specs.Acting.{IsNew}
use Rattle.cops_world.specs.Worlds.{HasOpenCluster, open_setup}
use Rattle.cops_world.proofs.SlotLifeLemmas.{IsLiving}
use Rattle.cops_world.proofs.lone_lives.live_in.Given as goal

-- the tenant has acted in its world up to here
abbrev pub invariant-loop-event : goal.invariant-loop-event
invariant-loop-event l =
    record {
      living : (config : Config) (tenant : Tenant) → IsNew open_setup HasOpenCluster (with_tenant_alone config tenant) l.fn.world →
          IsLiving (tenant_config config tenant) l.slot l.events l.world (drop l.event-index l.events) l.told.items;
    }
