use Rattle.cops_replay.proofs.Names.{◌++◌, [], ◌∷◌, sym, ap, ◌∙◌}
use Rattle.cops_replay.proofs.OpenLists.{one_more_first}
use Rattle.cops_replay.proofs.audits.first_slots.Goals as goal

pub loop-slot-preserved : goal.loop-slot-preserved
loop-slot-preserved c = c.in_ok-push.ensures.items ∙ ap (λ l. l ++ c.loop-slot.slot ∷ []) c.loop-slot.invariant ∙ sym (one_more_first c.loop-slot.slot)
