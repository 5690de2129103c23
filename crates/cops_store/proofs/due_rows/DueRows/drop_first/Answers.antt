use Rattle.std.proofs.Common.{◌≡◌, ◌-◌, subst, sym, refl}
use Rattle.std.specs.Prelude.{drop}
use Rattle.cops_store.specs.Dues.{Dues, IsDueLine, IsDueTurn, dues_in}
use Rattle.cops_store.proofs.DueLines.{first_there, gone_dues, gone_turn}
use Rattle.cops_store.proofs.due_rows.DueRows.drop_first.Goals as goal

pub release-line-requires : goal.release-line-requires
release-line-requires c = record { row = (c.requires.line.0, first_there c.self.inside.rows.slots c.requires.line.0 c.args.line.now c.requires.some (subst (λ (d : Dues). IsDueLine d.slots c.requires.line.0 c.args.line.now) (sym c.self.view_is) c.requires.line.1)) }

pub invariant_of-self : goal.invariant_of-self
invariant_of-self c = λ ready. (c.release-line.ensures.room, (c.self.invariant ready).1)

pub returns-clause-turn : goal.returns-clause-turn
returns-clause-turn c = λ slot line.
    subst (λ (d : Dues). IsDueTurn d.slots c.release-line.new.rows.slots slot c.args.line.now (record c.args.line.now { first = c.release-line.result; count = c.args.line.now.count - 1 })) c.self.view_is
    (gone_turn c.self.inside.rows.slots c.release-line.new.rows.slots slot c.args.line.now (record c.args.line.now { first = c.release-line.result; count = c.args.line.now.count - 1 }) (subst (λ (d : Dues). IsDueLine d.slots slot c.args.line.now) (sym c.self.view_is) line) c.requires.some c.release-line.ensures.gone c.release-line.ensures.rest refl refl c.release-line.ensures.len)

pub returns-clause-dues : goal.returns-clause-dues
returns-clause-dues c =
    subst (λ (d : Dues). dues_in c.release-line.new.rows.slots (record c.args.line.now { first = c.release-line.result; count = c.args.line.now.count - 1 }) ≡ drop 1 (dues_in d.slots c.args.line.now)) c.self.view_is
    (gone_dues c.self.inside.rows.slots c.release-line.new.rows.slots c.requires.line.0 c.args.line.now (record c.args.line.now { first = c.release-line.result; count = c.args.line.now.count - 1 }) (subst (λ (d : Dues). IsDueLine d.slots c.requires.line.0 c.args.line.now) (sym c.self.view_is) c.requires.line.1) c.requires.some c.release-line.ensures.gone c.release-line.ensures.rest refl refl c.release-line.ensures.len)
