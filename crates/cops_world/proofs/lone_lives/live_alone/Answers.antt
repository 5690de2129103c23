use Rattle.std.proofs.Common.{subst}
use Rattle.std.proofs.lemmas.Result.{MatchResult-weaker}
use Rattle.cops_types.specs.declared.configs.Config.{Config}
use Rattle.cops_script.specs.Acting.{IsNew}
use Rattle.cops_world.specs.Worlds.{HasOpenCluster, open_setup}
use Rattle.cops_world.proofs.lone_lives.live_alone.Goals as goal

pub returns : goal.returns
returns c =
    let new = subst (λ (k : Config). IsNew open_setup HasOpenCluster k c.in_ok-world.world) c.in_ok-alone.ensures c.in_ok-world.ensures in
    MatchResult-weaker c.live_in-told.result c.live_in-told.ensures (λ told all. all c.args.config.now c.args.tenant.now c.requires new) (λ error none. tt)
