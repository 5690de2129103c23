use Rattle.std.proofs.Common.{◌∙◌, ◌++◌, [], ap, sym, subst}
use Rattle.std.specs.Prelude.{replicate}
use Rattle.cops_store.specs.Lines.{AreRowLines, lines_from}
use Rattle.cops_store.proofs.Turns.{lines_past, shown_past}
use Rattle.cops_store.proofs.table.Table.add_slots.Goals as goal

pub invariant_of-self-2 : goal.invariant_of-self-2
invariant_of-self-2 c =
    subst (AreRowLines c.self.inside.rows.entries) (sym (c.in_ok-append.ensures.items ∙ ap (λ more. c.self.inside.lines.items ++ more) c.in_ok-added.ensures)) (lines_past c.self.inside.rows.entries c.self.inside.lines.items c.args.slots c.self.invariant)

pub returns-clause-ok : goal.returns-clause-ok
returns-clause-ok c =
    ap (lines_from c.self.inside.rows.entries 0) (c.in_ok-append.ensures.items ∙ ap (λ more. c.self.inside.lines.items ++ more) c.in_ok-added.ensures)
    ∙ shown_past c.self.inside.rows.entries c.self.inside.lines.items c.args.slots ∙ ap (λ shown. shown ++ replicate c.args.slots []) c.self.view_is
