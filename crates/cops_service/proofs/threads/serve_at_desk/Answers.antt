use Rattle.cops_service.proofs.AtSeats.{desk_serves}
use Rattle.cops_service.proofs.threads.serve_at_desk.Goals as goal

pub returns : goal.returns
returns g c =
    let done = desk_serves (λ n. n.desk.cluster.now) (λ n. n.desk.seat.ghost_name) (λ n. n.desk.seat.now) g.T.Moments.Gives c.args.shared.config.now c.args.nodes.now c.serve_each.new.nodes c.args.moments.now c.serve_each.new.moments c.serve_each.ensures.converse in
    record { desk = (done.0.0, done.0.1); account = done.0.2; serves = done.1 }
