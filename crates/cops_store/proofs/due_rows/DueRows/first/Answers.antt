use Rattle.std.proofs.Common.{◌≡◌, ap, subst, sym}
use Rattle.std.specs.Prelude.{Some, slice_get}
use Rattle.cops_store.specs.Dues.{Dues, IsDueLine, dues_in}
use Rattle.cops_store.proofs.DueLines.{first_is, first_there, some_there}
use Rattle.cops_store.proofs.due_rows.DueRows.first.Goals as goal

pub index-row-requires : goal.index-row-requires
index-row-requires c = some_there c.self.inside.rows.slots c.requires.line.0 c.args.line.now.first (first_there c.self.inside.rows.slots c.requires.line.0 c.args.line.now c.requires.some
    (subst (λ (d : Dues). IsDueLine d.slots c.requires.line.0 c.args.line.now) (sym c.self.view_is) c.requires.line.1))

pub returns : goal.returns
returns c = subst (λ (d : Dues). slice_get (dues_in d.slots c.args.line.now) 0 ≡ Some c.index-row.result.now.due) c.self.view_is
    (ap (λ ds. slice_get ds 0) (first_is c.self.inside.rows.slots c.requires.line.0 c.args.line.now c.index-row.result.now c.requires.some
    (subst (λ (d : Dues). IsDueLine d.slots c.requires.line.0 c.args.line.now) (sym c.self.view_is) c.requires.line.1) c.index-row.ensures))
