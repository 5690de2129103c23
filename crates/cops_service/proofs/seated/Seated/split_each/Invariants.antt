use Rattle.std.proofs.Common.{◌≡◌, length}
use Rattle.std.specs.List.{AllByRecursion}
use Rattle.cops_service.specs.Gates.{HasSplitOff, IsNewSeatOf}
use Rattle.cops_service.proofs.seated.Seated.split_each.Given as goal

abbrev pub invariant-loop : goal.invariant-loop
invariant-loop g l =
    (l.self.cluster ≡ l.fn.self.cluster)
    × (l.self.config ≡ l.fn.self.config)
    × AllByRecursion (λ seat. IsNewSeatOf l.fn.self.cluster.now seat) l.seats.items
    × (length l.seats.items ≡ l.counter)
    × HasSplitOff l.counter l.self.seat
