use Rattle.std.proofs.Common.{◌∙◌, subst}
use Rattle.cops_types.specs.declared.configs.Config.{Config}
use Rattle.cops_node.specs.Hosting.{Hosted}
use Rattle.cops_service.specs.Calling.{DoneForEach}
use Rattle.cops_service.specs.Gates.{Gates}
use Rattle.cops_service.specs.HostedCrews.{CollectsInLife}
use Rattle.cops_service.proofs.HostedCrews.{places_collected}
use Rattle.cops_service.proofs.carrying_lives.collect_lives.Goals as goal

pub loop-preserved : goal.loop-preserved
loop-preserved g c =
    let inv = c.loop.invariant in
    let done = c.collect_each.ensures in (
      tt,
      tt,
      done.config ∙ inv.2,
      done.desk.0 ∙ inv.3,
      done.desk.1 ∙ inv.4,
      done.account ∙ inv.5,
      places_collected c.args.nodes.now.config.now c.args.nodes.now.nodes.desk.cluster.now c.as_slice.result.now c.args.nodes.now.nodes.desk.seat.now c.loop.nodes.nodes.desk.seat.now c.collect_each.new.nodes.nodes.desk.seat.now inv.6
          (subst (λ (x : Config × Gates Hosted). DoneForEach (CollectsInLife x.0 x.1) c.as_slice.result.now c.loop.nodes.nodes.desk.seat.now c.collect_each.new.nodes.nodes.desk.seat.now) (λ i. (inv.2 i, inv.3 i)) done.collects),
    )

pub returns-then-not-goes_on-clause-collects : goal.returns-then-not-goes_on-clause-collects
returns-then-not-goes_on-clause-collects g c =
    let inv = c.loop.invariant in
    let done = c.collect_each.ensures in
    places_collected c.args.nodes.now.config.now c.args.nodes.now.nodes.desk.cluster.now c.as_slice.result.now c.args.nodes.now.nodes.desk.seat.now c.loop.nodes.nodes.desk.seat.now c.collect_each.new.nodes.nodes.desk.seat.now inv.6
    (subst (λ (x : Config × Gates Hosted). DoneForEach (CollectsInLife x.0 x.1) c.as_slice.result.now c.loop.nodes.nodes.desk.seat.now c.collect_each.new.nodes.nodes.desk.seat.now) (λ i. (inv.2 i, inv.3 i)) done.collects)
