use Rattle.std.proofs.Common.{◌∙◌, sym}
use Rattle.cops_script.proofs.TenantConfigs.{clocks_of_good, sizes_of_good}
use Rattle.cops_world.proofs.good_configs.is_good.Goals as goal

pub returns-clause-sizes : goal.returns-clause-sizes
returns-clause-sizes c = λ good. sizes_of_good c.args.config.now (sym c.is_within.ensures ∙ good)

pub returns-clause-clocks : goal.returns-clause-clocks
returns-clause-clocks c = λ good. clocks_of_good c.args.config.now (sym c.is_within.ensures ∙ good)
