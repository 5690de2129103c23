use Rattle.cops_service.proofs.AtSeats.{desk_collects}
use Rattle.cops_service.proofs.threads.collect_at_desk.Goals as goal

pub returns : goal.returns
returns g c =
    let done = desk_collects (λ d. d.cluster.now) (λ d. d.seat.ghost_name) (λ d. d.seat.now) c.args.shared.config.now c.args.desk.now c.collect_noted.new.nodes c.collect_noted.ensures.collects in
    record { desk = (done.0.0, done.0.1); account = done.0.2; collects = done.1 }
