use Rattle.std.proofs.Common.{subst, sym}
use Rattle.cops_node.specs.Clusters.{shape_of}
use Rattle.cops_session.specs.Kept.{KeptSession}
use Rattle.cops_world.specs.declared.actors.Actor.TheVariants.{OfSession}
use Rattle.cops_world.specs.ActorsStand.{RunsAt}
use Rattle.cops_world.proofs.world.new_session.Goals as goal

pub returns-clause-runs : goal.returns-clause-runs
returns-clause-runs c =
    let setting = c.of_tenant-session.ensures.stands.setting_is in
    subst (λ (session : KeptSession). RunsAt (shape_of c.args.config.now) c.args.slot (OfSession session)) (sym c.in_ok-new.ensures) (setting.data_centres, setting.shards, c.of_tenant-session.ensures.slot)
