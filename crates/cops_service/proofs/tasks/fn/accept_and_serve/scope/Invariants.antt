use Rattle.std.proofs.Common.{◌≡◌, ◌+◌, length}
use Rattle.std.specs.List.{AllByRecursion}
use Rattle.cops_service.proofs.tasks.fn.accept_and_serve.scope.Given as goal

abbrev pub invariant-loop-seat : goal.invariant-loop-seat
invariant-loop-seat g l =
    AllByRecursion (g.K.Task.is_new l.task) l.seat-iterator.rest.items
    × AllByRecursion (λ worker. worker.promise.task.value ≡ l.task) l.workers.items
    × (length l.workers.items + length l.seat-iterator.rest.items ≡ length l.initial.seat-iterator.rest.items)
