use Rattle.std.specs.Prelude.{take}
use Rattle.cops_types.specs.OpenSlots.{AreFoundAt}
use Rattle.cops_types.proofs.open_tenants.note_all.Given as goal

abbrev pub invariant-loop-slot : goal.invariant-loop-slot
invariant-loop-slot l = AreFoundAt (take l.slot l.tenants) l.names l.tokens
