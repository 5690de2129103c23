-- The sizes of a configuration, which each of its tenants has.
use Rattle.std.specs.Prelude.{◌≡◌}
use Rattle.cops_types.specs.declared.configs.Config.{Config}
use Rattle.cops_types.specs.TenantConfig.{TenantConfig}

-- a tenant's configuration has the sizes of the whole one
pub record HasSizes (config : TenantConfig) (setup : Config) : Type 0 where
  pub data_centres : config.data_centres ≡ setup.data_centres
  pub shards : config.shards ≡ setup.shards
  pub restarts : config.restarts ≡ setup.restarts
