use Rattle.std.proofs.Common.{sym, ap, ◌∙◌, arith}
use Rattle.std.specs.Prelude.{Some}
use Rattle.cops_model.specs.Cluster.{most_steps}
use Rattle.cops_model.specs.Setups.{config_of}
use Rattle.cops_world.specs.Worlds.{KeptWorld}
use Rattle.cops_script.proofs.TenantConfigs.{limits_of}
use Rattle.cops_world.proofs.world.World.most_steps.Goals as goal

pub overflow_add-result-3 : goal.overflow_add-result-3
overflow_add-result-3 c =
    let limits = limits_of c.self.inside.config c.tenant.result.now c.self.invariant.whole.good c.tenant.ensures.good in
    let restarts = limits.restarts in
    let deps = limits.deps in
    omega arith

pub overflow_add-result-4 : goal.overflow_add-result-4
overflow_add-result-4 c =
    let limits = limits_of c.self.inside.config c.tenant.result.now c.self.invariant.whole.good c.tenant.ensures.good in
    let restarts = limits.restarts in
    let deps = limits.deps in
    omega arith

pub returns : goal.returns
returns c =
    ap (λ (k : KeptWorld). most_steps (config_of k.setup.head (Some c.tenant.result.now))) c.self.view_is ∙ ap (λ o. most_steps (config_of c.args.self.now.setup.head o)) (sym c.tenant.ensures.there)
