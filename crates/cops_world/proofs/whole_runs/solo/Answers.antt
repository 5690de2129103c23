use Rattle.std.proofs.Common.{◌<◌, length, sym, ◌∙◌, ap, subst, arith}
use Rattle.std.specs.Prelude.{IsTrue}
use Rattle.std.proofs.lemmas.Result.{MatchResult-weaker}
use Rattle.cops_types.specs.declared.configs.Config.{Config}
use Rattle.cops_types.specs.TenantConfig.{TenantConfig}
use Rattle.cops_model.specs.Cluster.{new_cluster}
use Rattle.cops_model.specs.Events.{own, config_at}
use Rattle.cops_model.specs.Goes.{Goes}
use Rattle.cops_model.specs.Setups.{Setup, config_in}
use Rattle.cops_script.specs.GoodHeads.{is_good}
use Rattle.cops_world.specs.Worlds.{HasOpenCluster}
use Rattle.cops_script.proofs.BegunSetups.{config_begun}
use Rattle.cops_script.proofs.MainLemmas.{alone_config, alone_good, causal_run, some_at, some_shard}
use Rattle.cops_world.proofs.whole_runs.solo.Goals as goal

pub new-requires : goal.new-requires
new-requires c =
    let config = c.args.config.now in
    subst (λ (k : Config). IsTrue (is_good k)) (sym c.in_ok-alone.ensures) (alone_good config c.args.slot c.tenant.result.now c.requires.good c.tenant.ensures)

pub returns-clause-run : goal.returns-clause-run
returns-clause-run c =
    let config = c.args.config.now in
    let slot = c.args.slot in
    let own_config = config_at config slot in
    let alone = c.in_ok-alone.ensures in
    let new = c.in_ok-world.ensures in
    let some : 0 < 1 = omega arith in
    let there = subst (λ (k : Config). 0 < length k.tenants) (sym alone) some in
    let begun = ap (λ (k : Config). config_at k 0) alone ∙ alone_config config slot c.tenant.result.now c.tenant.ensures in
    let same = ap (λ (s : Setup). config_in s 0) new.setup_is ∙ config_begun c.in_ok-alone.alone 0 ∙ begun in
    let start = subst (λ (k : TenantConfig). HasOpenCluster c.in_ok-world.world 0 (new_cluster k)) begun (new.empty 0 there) in
    MatchResult-weaker c.answer_own-told.result c.answer_own-told.ensures.run (λ told all.
    let run = all (new_cluster own_config) start in
    causal_run own_config (own slot c.args.events.now) told.items run.0 (some_at config slot (some_shard config c.requires.good) c.requires.slot)
    (subst (λ (k : TenantConfig). Goes k (own slot c.args.events.now) told.items (new_cluster own_config) run.0) same run.1)) (λ error none. tt)
