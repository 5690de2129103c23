use Rattle.std.proofs.Common.{◌∙◌, arith}
use Rattle.cops_service.specs.HostedCrews.{CarriesInLife}
use Rattle.cops_service.proofs.Calling.{done_all}
use Rattle.cops_service.proofs.HostedCrews.{one_more_carried}
use Rattle.cops_service.proofs.carrying_lives.carry_each.Goals as goal

pub loop-stream-preserved : goal.loop-stream-preserved
loop-stream-preserved g c =
    let inv = c.loop-stream.invariant in
    let done = c.carry_life-carried.ensures in (
      done.config ∙ inv.0,
      done.desk.0 ∙ inv.1,
      done.desk.1 ∙ inv.2,
      done.account ∙ inv.3,
      one_more_carried c.args.nodes.now.config.now c.loop-stream.nodes.config.now c.args.nodes.now.nodes.desk.cluster.now c.loop-stream.nodes.nodes.desk.cluster.now inv.0 inv.1 c.loop-stream.stream-index c.args.nodes.now.nodes.desk.seat.now
          c.loop-stream.nodes.nodes.desk.seat.now c.carry_life-carried.new.nodes.nodes.desk.seat.now c.args.streams.now _ c.loop-stream-test.true inv.4 done.carries,
    )

pub returns-clause-carries : goal.returns-clause-carries
returns-clause-carries g c =
    done_all (CarriesInLife c.args.nodes.now.config.now c.args.nodes.now.nodes.desk.cluster.now) c.args.streams.now c.loop-stream.stream-index c.args.nodes.now.nodes.desk.seat.now c.loop-stream.nodes.nodes.desk.seat.now
    (omega (arith, c.loop-stream-test.false)) c.loop-stream.invariant.4
