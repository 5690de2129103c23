use Rattle.std.proofs.Common.{◌≡◌, take}
use Rattle.cops_service.specs.Calling.{DoneForEach}
use Rattle.cops_service.specs.HostedCrews.{FollowsLine}
use Rattle.cops_service.proofs.following.follow_each.Given as goal

abbrev pub invariant-loop-line : goal.invariant-loop-line
invariant-loop-line g l =
    (l.host.desk.cluster.now ≡ l.initial.host.desk.cluster.now)
    × (l.host.desk.seat.ghost_name ≡ l.initial.host.desk.seat.ghost_name)
    × (l.host.roster.ghost_name ≡ l.initial.host.roster.ghost_name)
    × DoneForEach (FollowsLine l.initial.host.desk.cluster.now) (take l.line-index l.lines)
    (record { roster = l.initial.host.roster.now; seat = l.initial.host.desk.seat.now })
    (record { roster = l.host.roster.now; seat = l.host.desk.seat.now })
