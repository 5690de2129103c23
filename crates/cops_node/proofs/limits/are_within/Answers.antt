use Rattle.std.proofs.Common.{rules, tests}
use Rattle.std.specs.Prelude.{nat_le}
use Rattle.std.proofs.lemmas.Iterator.{YieldsList-from_slice}
use Rattle.std.proofs.lemmas.Iterator.Search.{all_from_yields_List}
use Rattle.cops_types.specs.declared.configs.Tenant.{Tenant}
use Rattle.cops_types.specs.Version.{last_clock}
use Rattle.cops_node.proofs.limits.are_within.Goals as goal

pub returns : goal.returns
returns c = all_from_yields_List (λ (tenant : Tenant). nat_le tenant.first_clock last_clock) _ _ _ c.all.ensures.ran (YieldsList-from_slice c.args.tenants.now cc) (λ x b q k. search (rules, tests))
