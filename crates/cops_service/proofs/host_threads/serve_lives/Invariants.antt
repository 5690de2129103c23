use Rattle.std.proofs.Common.{◌≡◌}
use Rattle.cops_service.specs.LifeCrews.{ServesInLife}
use Rattle.cops_service.specs.Repeated.{IsRepeated}
use Rattle.cops_service.proofs.host_threads.serve_lives.Given as goal

abbrev pub invariant-loop : goal.invariant-loop
invariant-loop g l =
    (goal.iterator-loop g).can_next l.iterator' × (goal.iterator-loop g).is_finite l.iterator'
    × (l.nodes.config.now ≡ l.initial.nodes.config.now)
    × (l.nodes.nodes.desk.cluster.now ≡ l.initial.nodes.nodes.desk.cluster.now)
    × (l.nodes.nodes.desk.seat.ghost_name ≡ l.initial.nodes.nodes.desk.seat.ghost_name)
    × (l.nodes.nodes.desk.seat.now.account ≡ l.initial.nodes.nodes.desk.seat.now.account)
    × IsRepeated (ServesInLife l.initial.nodes.config.now l.initial.nodes.nodes.desk.cluster.now g.T.Moments.Gives) (l.initial.nodes.nodes.desk.seat.now, l.initial.moments) (l.nodes.nodes.desk.seat.now, l.moments)
