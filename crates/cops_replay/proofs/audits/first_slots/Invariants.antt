use Rattle.cops_replay.proofs.Names.{◌≡◌, range_with_len}
use Rattle.cops_replay.proofs.audits.first_slots.Given as goal

abbrev pub invariant-loop-slot : goal.invariant-loop-slot
invariant-loop-slot l = l.slots.items ≡ range_with_len 0 l.slot
