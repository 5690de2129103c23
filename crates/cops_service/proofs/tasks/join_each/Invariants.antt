use Rattle.std.proofs.Common.{◌≡◌, ◌+◌, length}
use Rattle.std.specs.List.{AllByRecursion}
use Rattle.cops_service.proofs.tasks.join_each.Given as goal

abbrev pub invariant-loop-thread : goal.invariant-loop-thread
invariant-loop-thread g l =
    AllByRecursion (λ thread. thread.promise.task.value ≡ l.task) l.thread-iterator.rest.items
    × AllByRecursion (g.K.Task.is_done l.task) l.seats.items
    × (length l.seats.items + length l.thread-iterator.rest.items ≡ length l.fn.threads.items)
