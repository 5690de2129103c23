use Rattle.std.proofs.Common.{◌≡◌, ap, subst, sym}
use Rattle.std.specs.Prelude.{IsTrue, ◌++◌, ◌∷◌, []}
use Rattle.cops_store.specs.declared.due_rows.DueLine.{DueLine}
use Rattle.cops_store.specs.declared.table.Due.{Due}
use Rattle.cops_store.specs.Dues.{Dues, IsDueLine, IsDueTurn, dues_in}
use Rattle.cops_store.proofs.DueLines.{added_dues, added_turn}
use Rattle.cops_store.proofs.due_rows.DueRows.push.Goals as goal

pub link-at-requires-clause-room : goal.link-at-requires-clause-room
link-at-requires-clause-room c = (c.self.invariant (subst (λ (d : Dues). IsTrue d.room) (sym c.self.view_is) c.requires.room)).0

pub of-kept-requires : goal.of-kept-requires
of-kept-requires c = (c.self.invariant (subst (λ (d : Dues). IsTrue d.room) (sym c.self.view_is) c.requires.room)).1

pub returns-clause-turn : goal.returns-clause-turn
returns-clause-turn c = subst (λ (d : Dues). IsDueTurn d.slots c.link-at.new.rows.slots c.args.slot c.args.line.now c.extended.result) c.self.view_is
    (added_turn c.self.inside.rows.slots c.link-at.new.rows.slots c.args.slot c.link-at.result c.of-kept.result c.args.line.now c.extended.result (subst (λ (d : Dues). IsDueLine d.slots c.args.slot c.args.line.now) (sym c.self.view_is) c.requires.line) c.link-at.ensures.added
    (ap (λ (l : DueLine). l.first) c.extended.ensures) (ap (λ (l : DueLine). l.last) c.extended.ensures) (ap (λ (l : DueLine). l.count) c.extended.ensures) c.link-at.ensures.len)

pub returns-clause-dues : goal.returns-clause-dues
returns-clause-dues c = subst (λ (d : Dues). dues_in c.link-at.new.rows.slots c.extended.result ≡ dues_in d.slots c.args.line.now ++ c.args.due ∷ []) c.self.view_is
    (subst (λ (due : Due). dues_in c.link-at.new.rows.slots c.extended.result ≡ dues_in c.self.inside.rows.slots c.args.line.now ++ due ∷ []) c.of-kept.ensures (added_dues c.self.inside.rows.slots c.link-at.new.rows.slots c.args.slot c.link-at.result c.of-kept.result c.args.line.now c.extended.result (subst (λ (d : Dues). IsDueLine d.slots c.args.slot c.args.line.now) (sym c.self.view_is) c.requires.line) c.link-at.ensures.added
    (ap (λ (l : DueLine). l.first) c.extended.ensures) (ap (λ (l : DueLine). l.last) c.extended.ensures) (ap (λ (l : DueLine). l.count) c.extended.ensures) c.link-at.ensures.len))
