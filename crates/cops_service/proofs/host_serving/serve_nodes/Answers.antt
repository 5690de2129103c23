use Rattle.std.proofs.Common.{◌≡◌, ◌∙◌, ℕ, subst, sym}
use Rattle.std.specs.Prelude.{IfSome}
use Rattle.std.specs.List.{AllByRecursion}
use Rattle.cops_node.specs.Hosting.{Hosted}
use Rattle.cops_service.specs.Gates.{Gates, IsNewSeatOf}
use Rattle.cops_service.specs.LifeCrews.{AreOfLifeCrew}
use Rattle.cops_service.specs.Rosters.{Roster}
use Rattle.cops_service.proofs.host_serving.serve_nodes.Goals as goal

pub serve_hosted-requires-clause-workers : goal.serve_hosted-requires-clause-workers
serve_hosted-requires-clause-workers g c κs within =
    subst (λ (cluster : Gates Hosted). AllByRecursion (λ seat. IsNewSeatOf cluster seat) c.in_ok-crew.crew.workers.items)
    (λ i. (sym (c.in_ok-host_seat.ensures.cluster ∙ c.in_ok-crew.ensures.cluster.0) i).now) c.in_ok-crew.ensures.workers

pub end_seats-requires-clause-crew : goal.end_seats-requires-clause-crew
end_seats-requires-clause-crew g c =
    subst (λ (x : ℕ × Roster). IfSome c.in_ok-left.left (λ left. IfSome left.finished (λ finished.
    AreOfLifeCrew g.T.Moments.Gives c.args.moments c.split.new.self.config.now c.split.new.self.cluster.now x.0 x.1 left.roster finished.seats.items)))
    (λ i. (c.in_ok-crew.ensures.count i, c.in_ok-roster.ensures i)) c.in_ok-left.ensures
