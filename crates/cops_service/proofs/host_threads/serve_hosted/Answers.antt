use Rattle.std.proofs.Common.{length}
use Rattle.cops_service.proofs.LifeCrews.{life_crew_left}
use Rattle.cops_service.proofs.host_threads.serve_hosted.Goals as goal

pub returns : goal.returns
returns g c =
    life_crew_left (λ left. left.finished) (λ left. left.roster) (λ f. f.seats.items) g.T.Moments.Gives c.args.moments c.args.together.shared.config.now c.args.together.shared.cluster.now (length c.args.crew.workers.items) c.args.roster _
    c.serve_helped.result c.serve_helped.ensures (λ served was. was)
