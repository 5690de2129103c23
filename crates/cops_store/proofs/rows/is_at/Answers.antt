use Rattle.std.proofs.Common.{◌∙◌, ap, sym}
use Rattle.std.specs.Prelude.{Some}
use Rattle.cops_store.specs.declared.rows.SlotKey.{SlotKey}
use Rattle.cops_store.proofs.Lines.{place_is}
use Rattle.cops_store.proofs.rows.is_at.Goals as goal

pub returns-then-at-slot : goal.returns-then-at-slot
returns-then-at-slot c = λ yes.
    (c.in-Some.field-0-1.now, sym c.in-Some.ensures.entry ∙ ap (λ (p : SlotKey). Some (p, c.in-Some.field-0-1.now)) (place_is c.in-Some.at.now c.args.slot c.args.key.now c.if-at-slot.true (sym c.eq.ensures ∙ yes)))
