use Rattle.cops_gate.proofs.Keeps.{slot_out}
use Rattle.cops_gate.proofs.turns.turn_in_slot.Goals as goal

pub slot_mut-requires : goal.slot_mut-requires
slot_mut-requires g c = (c.requires.board.0, slot_out _ c.args.node c.requires.holds.0 c.requires.holds.1)
