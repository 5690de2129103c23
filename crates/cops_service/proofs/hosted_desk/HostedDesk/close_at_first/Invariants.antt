use Rattle.std.proofs.Common.{◌≡◌}
use Rattle.cops_service.specs.HostedDesks.{IsClosedAtFirst}
use Rattle.cops_service.proofs.hosted_desk.HostedDesk.close_at_first.Given as goal

abbrev pub invariant-loop-number : goal.invariant-loop-number
invariant-loop-number g l =
    (l.self.cluster.now ≡ l.fn.self.cluster.now)
    × (l.self.seat.ghost_name ≡ l.fn.self.seat.ghost_name)
    × IsClosedAtFirst l.fn.self.cluster.now l.slot l.number l.fn.self.seat.now l.self.seat.now
