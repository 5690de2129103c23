use Rattle.std.proofs.Common.{◌≡◌}
use Rattle.cops_service.specs.LifeCrews.{FollowsLines}
use Rattle.cops_service.proofs.host_threads.follow_lines.Given as goal

abbrev pub invariant-loop : goal.invariant-loop
invariant-loop g l =
    (goal.iterator-loop g).can_next l.iterator' × (goal.iterator-loop g).is_finite l.iterator'
    × (l.host.desk.cluster.now ≡ l.initial.host.desk.cluster.now)
    × (l.host.desk.seat.ghost_name ≡ l.initial.host.desk.seat.ghost_name)
    × (l.host.roster.ghost_name ≡ l.initial.host.roster.ghost_name)
    × FollowsLines l.initial.host.desk.cluster.now l.initial.host.roster.now l.host.roster.now l.initial.host.desk.seat.now l.host.desk.seat.now
