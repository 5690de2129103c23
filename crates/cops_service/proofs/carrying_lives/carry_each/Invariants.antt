use Rattle.std.proofs.Common.{◌≡◌, take}
use Rattle.cops_service.specs.Calling.{DoneForEach}
use Rattle.cops_service.specs.HostedCrews.{CarriesInLife}
use Rattle.cops_service.proofs.carrying_lives.carry_each.Given as goal

abbrev pub invariant-loop-stream : goal.invariant-loop-stream
invariant-loop-stream g l =
    (l.nodes.config.now ≡ l.initial.nodes.config.now)
    × (l.nodes.nodes.desk.cluster.now ≡ l.initial.nodes.nodes.desk.cluster.now)
    × (l.nodes.nodes.desk.seat.ghost_name ≡ l.initial.nodes.nodes.desk.seat.ghost_name)
    × (l.nodes.nodes.desk.seat.now.account ≡ l.initial.nodes.nodes.desk.seat.now.account)
    × DoneForEach (CarriesInLife l.initial.nodes.config.now l.initial.nodes.nodes.desk.cluster.now) (take l.stream-index l.streams) l.initial.nodes.nodes.desk.seat.now l.nodes.nodes.desk.seat.now
