use Rattle.std.proofs.Common.{inl, inr, subst, sym}
use Rattle.std.specs.Prelude.{max}
use Rattle.cops_node.specs.Parts.{home_in, IsMachineTurn}
use Rattle.cops_service.specs.Gates.{Ends}
use Rattle.cops_service.specs.Crews.{HasSeenCrew}
use Rattle.cops_service.proofs.Crews.{are_served}
use Rattle.cops_service.proofs.Leaving.{are_left, are_left_together, at_some}
use Rattle.cops_service.proofs.serving.serve_with.Goals as goal

pub returns-in-Some-clause-left : goal.returns-in-Some-clause-left
returns-in-Some-clause-left g c =
    are_left c.in_ok-cluster.cluster c.into_seat-seat.result c.in-Some.nodes.items _ c.in_ok-cluster.ensures.openings
    (at_some c.in_ok-left.left c.in-Some.nodes (λ machines. Ends IsMachineTurn home_in c.in_ok-cluster.cluster c.into_seat-seat.result machines.items) c.in-Some.is c.in_ok-left.ensures.machines)

pub returns-in-Some-clause-together : goal.returns-in-Some-clause-together
returns-in-Some-clause-together g c =
    are_left_together c.in_ok-cluster.cluster c.into_seat-seat.result c.in-Some.nodes.items _ c.in_ok-cluster.ensures.openings
    (at_some c.in_ok-left.left c.in-Some.nodes (λ machines. Ends IsMachineTurn home_in c.in_ok-cluster.cluster c.into_seat-seat.result machines.items) c.in-Some.is c.in_ok-left.ensures.machines)

pub returns-in-Some-clause-served : goal.returns-in-Some-clause-served
returns-in-Some-clause-served g c = λ started.
    elim c.in_ok-end.ensures.seen [
      | inl none ↦ absurd (started none)
      | inr seen ↦
          are_served g.T.Moments.Gives c.args.moments c.args.config.now c.in_ok-cluster.cluster (max c.args.listening.options.workers 1) c.into_seat-seat.result c.in-Some.nodes.items c.in_ok-cluster.ensures.openings c.in_ok-cluster.ensures.shards c.in_ok-cluster.ensures.tickets
          (at_some c.in_ok-left.left c.in-Some.nodes (λ machines. Ends IsMachineTurn home_in c.in_ok-cluster.cluster c.into_seat-seat.result machines.items) c.in-Some.is c.in_ok-left.ensures.machines)
          (subst (λ seat. HasSeenCrew g.T.Moments.Gives c.args.moments c.args.config.now c.in_ok-cluster.cluster (max c.args.listening.options.workers 1) seat) (sym c.into_seat-seat.ensures.same) seen)
    ]
