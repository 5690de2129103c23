use Rattle.std.proofs.Common.{◌-◌, ◌≡◌, ◌<◌, ◌≤◌, ℕ, length, get_or, false, vec_capacity, IsSome}
use Rattle.std.specs.Mem.Slots.{slots_items, slots_filled, slots_len}
use Rattle.std.specs.Mem.Slots.Ownership.{Filled}
use Rattle.std.specs.List.{AllByRecursion}
use Rattle.cops_gate.specs.Rule.{AreServed}
use Rattle.cops_gate.specs.Seats.{AreAtRest}
use Rattle.cops_gate.proofs.cluster_gate.take_all.Given as goal

abbrev pub invariant-loop-node : goal.invariant-loop-node
invariant-loop-node g l =
    (l.closed.words ≡ l.fn.closed.words)
    × (slots_items l.closed.slots ≡ slots_items l.fn.closed.slots)
    × (slots_len l.closed.slots ≡ l.count)
    × Filled (slots_filled l.closed.slots) l.node (slots_len l.closed.slots)
    × ((k : ℕ) → k < l.node → get_or (slots_filled l.closed.slots) k false ≡ false)
    × (length l.machines.items ≡ l.node)
    × (l.node ≤ l.count)
    × (l.count ≤ vec_capacity l.machines)
    × AreAtRest (slots_items l.fn.closed.words) (slots_items l.fn.closed.slots) l.machines.items
    × (AreServed (slots_items l.fn.closed.words) l.count → AllByRecursion IsSome l.machines.items)

abbrev pub decreases-loop-node : goal.decreases-loop-node
decreases-loop-node g l = l.count - l.node
