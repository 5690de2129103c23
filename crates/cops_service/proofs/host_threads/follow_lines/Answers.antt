use Rattle.std.proofs.Common.{◌∙◌, subst}
use Rattle.cops_service.specs.Calling.{DoneForEach}
use Rattle.cops_service.specs.HostedCrews.{FollowsLine, Hosting}
use Rattle.cops_service.specs.LifeCrews.{FollowsLines}
use Rattle.cops_service.proofs.LifeCrews.{lines_count, lines_followed}
use Rattle.cops_service.proofs.host_threads.follow_lines.Goals as goal

pub loop-preserved : goal.loop-preserved
loop-preserved g c =
    let inv = c.loop.invariant in
    let done = c.follow_each.ensures in
    let there : Hosting = record { roster = c.loop.host.roster.now; seat = c.loop.host.desk.seat.now } in
    let new : Hosting = record { roster = c.follow_each.new.host.roster.now; seat = c.follow_each.new.host.desk.seat.now } in (
      tt,
      tt,
      done.cluster ∙ inv.2,
      done.seat ∙ inv.3,
      done.roster ∙ inv.4,
      lines_followed c.args.host.now.desk.cluster.now c.as_slice.result.now _ there new inv.5
          (subst (λ cluster. DoneForEach (FollowsLine cluster) c.as_slice.result.now there new) inv.2 done.follows),
    )

pub returns-then-not-goes_on : goal.returns-then-not-goes_on
returns-then-not-goes_on g c =
    let inv = c.loop.invariant in
    let done = c.follow_each.ensures in
    let there : Hosting = record { roster = c.loop.host.roster.now; seat = c.loop.host.desk.seat.now } in
    let new : Hosting = record { roster = c.follow_each.new.host.roster.now; seat = c.follow_each.new.host.desk.seat.now } in
    let follows : FollowsLines c.args.host.now.desk.cluster.now c.args.host.now.roster.now new.roster c.args.host.now.desk.seat.now new.seat =
    lines_followed c.args.host.now.desk.cluster.now c.as_slice.result.now _ there new inv.5
    (subst (λ cluster. DoneForEach (FollowsLine cluster) c.as_slice.result.now there new) inv.2 done.follows) in
    record {
      desk = (done.cluster ∙ inv.2, done.seat ∙ inv.3);
      roster = done.roster ∙ inv.4;
      account = lines_count c.args.host.now.desk.cluster.now c.args.host.now.roster.now new.roster c.args.host.now.desk.seat.now new.seat follows;
      follows = follows;
    }
