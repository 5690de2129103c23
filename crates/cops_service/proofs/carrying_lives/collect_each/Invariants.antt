use Rattle.std.proofs.Common.{◌≡◌, take}
use Rattle.cops_service.specs.Calling.{DoneForEach}
use Rattle.cops_service.specs.HostedCrews.{CollectsInLife}
use Rattle.cops_service.proofs.carrying_lives.collect_each.Given as goal

abbrev pub invariant-loop-place : goal.invariant-loop-place
invariant-loop-place g l =
    (l.nodes.config.now ≡ l.initial.nodes.config.now)
    × (l.nodes.nodes.desk.cluster.now ≡ l.initial.nodes.nodes.desk.cluster.now)
    × (l.nodes.nodes.desk.seat.ghost_name ≡ l.initial.nodes.nodes.desk.seat.ghost_name)
    × (l.nodes.nodes.desk.seat.now.account ≡ l.initial.nodes.nodes.desk.seat.now.account)
    × DoneForEach (CollectsInLife l.initial.nodes.config.now l.initial.nodes.nodes.desk.cluster.now) (take l.place-index l.places) l.initial.nodes.nodes.desk.seat.now l.nodes.nodes.desk.seat.now
