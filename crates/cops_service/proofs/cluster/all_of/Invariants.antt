use Rattle.std.proofs.Common.{◌≡◌, ◌+◌, ◌≤◌, ◌++◌, map, Some, length, vec_len, vec_capacity}
use Rattle.cops_service.proofs.cluster.all_of.Given as goal

abbrev pub invariant-loop-machine : goal.invariant-loop-machine
invariant-loop-machine g l =
    (map Some l.machines.items ++ l.machine-iterator.rest.items ≡ l.fn.left.items)
    × (length l.machines.items + length l.machine-iterator.rest.items ≤ vec_capacity l.machines)
