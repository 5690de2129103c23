use Rattle.std.proofs.Common.{inl, inr, subst, sym}
use Rattle.std.specs.Prelude.{max}
use Rattle.cops_node.specs.Hosting.{IsSlotTurn, host_in}
use Rattle.cops_service.specs.Gates.{Ends}
use Rattle.cops_service.specs.LifeCrews.{HasSeenLives}
use Rattle.cops_service.specs.Rosters.{first_roster}
use Rattle.cops_service.proofs.Leaving.{at_some}
use Rattle.cops_service.proofs.LifeCrews.{are_served_in_lives}
use Rattle.cops_service.proofs.host_serving.serve_with_host.Goals as goal

pub returns-clause-served : goal.returns-clause-served
returns-clause-served g c = λ started.
    elim c.in_ok-outcome.ensures.seen [
      | inl none ↦ absurd (started none)
      | inr seen ↦
          are_served_in_lives g.T.Moments.Gives c.args.moments c.args.config.now c.in_ok-cluster.cluster (max c.args.options.workers 1) c.in_ok-outcome.outcome.roster c.into_seat-seat.result c.in-Some.hosted.items c.in_ok-nodes.nodes.items
          c.in_ok-cluster.ensures.openings c.in_ok-cluster.ensures.lives c.in_ok-cluster.ensures.shards c.in_ok-cluster.ensures.tickets
          (at_some c.in_ok-closed.closed c.in-Some.hosted (λ machines. Ends IsSlotTurn host_in c.in_ok-cluster.cluster c.into_seat-seat.result machines.items) c.in-Some.is c.in_ok-closed.ensures.machines)
          (sym c.in_ok-nodes.ensures)
          (subst (λ seat. HasSeenLives g.T.Moments.Gives c.args.moments c.args.config.now c.in_ok-cluster.cluster (max c.args.options.workers 1) (first_roster c.args.config.now) c.in_ok-outcome.outcome.roster seat) (sym c.into_seat-seat.ensures.same) seen)
    ]
