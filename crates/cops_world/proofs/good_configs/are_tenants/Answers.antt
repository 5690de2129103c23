use Rattle.std.proofs.Common.{rules, tests}
use Rattle.std.proofs.lemmas.Iterator.{YieldsList-from_slice}
use Rattle.std.proofs.lemmas.Iterator.Search.{all_from_yields_List}
use Rattle.cops_types.specs.HeadLines.{is_tenant}
use Rattle.cops_world.proofs.good_configs.are_tenants.Goals as goal

pub returns : goal.returns
returns c = all_from_yields_List is_tenant _ _ _ c.all.ensures.ran (YieldsList-from_slice c.args.tenants.now cc) (λ x b q k. search (rules, tests))
