use Rattle.std.proofs.Common.{◌∙◌, arith, subst}
use Rattle.cops_service.specs.HostedCrews.{FollowsLine, Hosting}
use Rattle.cops_service.proofs.Calling.{done_all}
use Rattle.cops_service.proofs.HostedCrews.{one_more_followed}
use Rattle.cops_service.proofs.following.follow_each.Goals as goal

pub loop-line-preserved : goal.loop-line-preserved
loop-line-preserved g c =
    let inv = c.loop-line.invariant in
    let done = c.follow.ensures in
    let there : Hosting = record { roster = c.loop-line.host.roster.now; seat = c.loop-line.host.desk.seat.now } in
    let new : Hosting = record { roster = c.follow.new.host.roster.now; seat = c.follow.new.host.desk.seat.now } in (
      done.cluster ∙ inv.0,
      done.seat ∙ inv.1,
      done.roster ∙ inv.2,
      one_more_followed c.args.host.now.desk.cluster.now c.loop-line.host.desk.cluster.now inv.0 c.args.lines.now c.line-item.result c.loop-line.line-index
          (record { roster = c.args.host.now.roster.now; seat = c.args.host.now.desk.seat.now }) there new c.loop-line-test.true inv.3
          (subst (λ said. FollowsLine c.loop-line.host.desk.cluster.now said there new) c.line-item.is done.follows),
    )

pub returns-clause-follows : goal.returns-clause-follows
returns-clause-follows g c =
    done_all (FollowsLine c.args.host.now.desk.cluster.now) c.args.lines.now c.loop-line.line-index (record { roster = c.args.host.now.roster.now; seat = c.args.host.now.desk.seat.now })
    (record { roster = c.loop-line.host.roster.now; seat = c.loop-line.host.desk.seat.now }) (omega (arith, c.loop-line-test.false)) c.loop-line.invariant.3
