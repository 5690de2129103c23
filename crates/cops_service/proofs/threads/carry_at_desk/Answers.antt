use Rattle.cops_service.proofs.AtSeats.{desk_carries}
use Rattle.cops_service.proofs.threads.carry_at_desk.Goals as goal

pub returns : goal.returns
returns g c =
    let done = desk_carries (λ n. n.desk.cluster.now) (λ n. n.desk.seat.ghost_name) (λ n. n.desk.seat.now) c.args.shared.config.now c.args.nodes.now c.carry_noted.new.nodes c.carry_noted.ensures.carries in
    record { desk = (done.0.0, done.0.1); account = done.0.2; carries = done.1 }
