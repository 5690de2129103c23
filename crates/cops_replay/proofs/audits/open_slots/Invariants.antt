use Rattle.cops_replay.proofs.Names.{◌≡◌, ◌++◌, drop, open_slots, slots_from}
use Rattle.cops_replay.proofs.audits.open_slots.Given as goal

abbrev pub invariant-loop-slot : goal.invariant-loop-slot
invariant-loop-slot l = l.slots.items ++ slots_from l.slot (drop l.slot l.tenants) ≡ open_slots l.tenants
