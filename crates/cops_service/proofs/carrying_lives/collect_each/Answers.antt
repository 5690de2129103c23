use Rattle.std.proofs.Common.{◌∙◌, arith}
use Rattle.cops_service.specs.HostedCrews.{CollectsInLife}
use Rattle.cops_service.proofs.Calling.{done_all}
use Rattle.cops_service.proofs.HostedCrews.{one_more_collected}
use Rattle.cops_service.proofs.carrying_lives.collect_each.Goals as goal

pub loop-place-preserved : goal.loop-place-preserved
loop-place-preserved g c =
    let inv = c.loop-place.invariant in
    let done = c.collect_life-came.ensures in (
      done.config ∙ inv.0,
      done.desk.0 ∙ inv.1,
      done.desk.1 ∙ inv.2,
      done.account ∙ inv.3,
      one_more_collected c.args.nodes.now.config.now c.loop-place.nodes.config.now c.args.nodes.now.nodes.desk.cluster.now c.loop-place.nodes.nodes.desk.cluster.now inv.0 inv.1 c.loop-place.place-index c.args.nodes.now.nodes.desk.seat.now
          c.loop-place.nodes.nodes.desk.seat.now c.collect_life-came.new.nodes.nodes.desk.seat.now c.args.places.now _ c.loop-place-test.true inv.4 done.collects,
    )

pub returns-clause-collects : goal.returns-clause-collects
returns-clause-collects g c =
    done_all (CollectsInLife c.args.nodes.now.config.now c.args.nodes.now.nodes.desk.cluster.now) c.args.places.now c.loop-place.place-index c.args.nodes.now.nodes.desk.seat.now c.loop-place.nodes.nodes.desk.seat.now
    (omega (arith, c.loop-place-test.false)) c.loop-place.invariant.4
