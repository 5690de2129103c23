use Rattle.std.proofs.Common.{◌≡◌}
use Rattle.cops_service.specs.HostedCrews.{CollectsLives}
use Rattle.cops_service.proofs.carrying_lives.collect_lives.Given as goal

abbrev pub invariant-loop : goal.invariant-loop
invariant-loop g l =
    (goal.iterator-loop g).can_next l.iterator' × (goal.iterator-loop g).is_finite l.iterator'
    × (l.nodes.config.now ≡ l.initial.nodes.config.now)
    × (l.nodes.nodes.desk.cluster.now ≡ l.initial.nodes.nodes.desk.cluster.now)
    × (l.nodes.nodes.desk.seat.ghost_name ≡ l.initial.nodes.nodes.desk.seat.ghost_name)
    × (l.nodes.nodes.desk.seat.now.account ≡ l.initial.nodes.nodes.desk.seat.now.account)
    × CollectsLives l.initial.nodes.config.now l.initial.nodes.nodes.desk.cluster.now l.initial.nodes.nodes.desk.seat.now l.nodes.nodes.desk.seat.now
