use Rattle.std.proofs.Common.{length, rules, subst, sym}
use Rattle.cops_service.specs.LifeCrews.{AreOfLifeWorkers, FollowsLines}
use Rattle.cops_service.specs.Rosters.{Roster}
use Rattle.cops_service.specs.SeatsDone.{HasSinceDone}
use Rattle.cops_service.proofs.SeatsDone.{added}
use Rattle.cops_service.proofs.host_threads.fn.serve_and_host.scope.Goals as goal

-- the host's seat is behind those of the workers
pub returns : goal.returns
returns g c =
    let shared = c.captures.together.shared in
    let Does = λ (roster : Roster). FollowsLines shared.cluster.now c.captures.roster roster in
    let seat = c.join-seat.result.seat in
    let left = c.in_ok-add.field-0 in
    let done : HasSinceDone shared.cluster.now (Does c.join-seat.result.roster) seat = search rules in
    let is : HasSinceDone shared.cluster.now (Does left.roster) seat = subst (λ roster. HasSinceDone shared.cluster.now (Does roster) seat) (sym c.in_ok-add.ensures.0) done in
    added (λ f. f.seats.items) (AreOfLifeWorkers g.T.Moments.Gives c.captures.moments shared.config.now shared.cluster.now (length c.captures.seats.items)) (HasSinceDone shared.cluster.now (Does left.roster)) seat is
    c.in_ok-served.field-0 left.finished c.in_ok-served.ensures c.in_ok-add.ensures.1
