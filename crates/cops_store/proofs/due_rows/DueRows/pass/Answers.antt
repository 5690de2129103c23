use Rattle.std.proofs.Common.{◌≡◌, arith, subst, sym, refl}
use Rattle.cops_store.specs.Dues.{Dues, IsDueLine, IsDueTurn, dues_in, passed}
use Rattle.cops_store.proofs.DueLines.{first_there, last_there, moved_dues, moved_turn}
use Rattle.cops_store.proofs.due_rows.DueRows.pass.Goals as goal

pub move_behind-line-requires-clause-first : goal.move_behind-line-requires-clause-first
move_behind-line-requires-clause-first c = (c.requires.line.0, first_there c.self.inside.rows.slots c.requires.line.0 c.args.line.now c.requires.some (subst (λ (d : Dues). IsDueLine d.slots c.requires.line.0 c.args.line.now) (sym c.self.view_is) c.requires.line.1))

pub move_behind-line-requires-clause-last : goal.move_behind-line-requires-clause-last
move_behind-line-requires-clause-last c = (c.requires.line.0, last_there c.self.inside.rows.slots c.requires.line.0 c.args.line.now c.requires.some (subst (λ (d : Dues). IsDueLine d.slots c.requires.line.0 c.args.line.now) (sym c.self.view_is) c.requires.line.1))

pub returns-clause-turn : goal.returns-clause-turn
returns-clause-turn c = λ slot line.
    subst (λ (d : Dues). IsDueTurn d.slots c.move_behind-line.new.rows.slots slot c.args.line.now (record c.args.line.now { first = c.move_behind-line.result; last = c.args.line.now.first })) c.self.view_is
    (moved_turn c.self.inside.rows.slots c.move_behind-line.new.rows.slots slot c.args.stale c.move_behind-line.result c.args.line.now (subst (λ (d : Dues). IsDueLine d.slots slot c.args.line.now) (sym c.self.view_is) line) c.requires.some c.move_behind-line.ensures.moved (record c.args.line.now { first = c.move_behind-line.result; last = c.args.line.now.first }) refl refl refl c.move_behind-line.ensures.len)

pub returns-clause-dues : goal.returns-clause-dues
returns-clause-dues c =
    subst (λ (d : Dues). dues_in c.move_behind-line.new.rows.slots (record c.args.line.now { first = c.move_behind-line.result; last = c.args.line.now.first }) ≡ passed c.args.stale (dues_in d.slots c.args.line.now)) c.self.view_is
    (moved_dues c.self.inside.rows.slots c.move_behind-line.new.rows.slots c.requires.line.0 c.args.stale c.move_behind-line.result c.args.line.now (subst (λ (d : Dues). IsDueLine d.slots c.requires.line.0 c.args.line.now) (sym c.self.view_is) c.requires.line.1) c.requires.some c.move_behind-line.ensures.moved
    (record c.args.line.now { first = c.move_behind-line.result; last = c.args.line.now.first }) refl refl refl c.move_behind-line.ensures.len)

pub invariant_of-self : goal.invariant_of-self
invariant_of-self c = λ ready.
    let before = (c.self.invariant ready).0 in
    let len = c.move_behind-line.ensures.len in
    let capacity = c.move_behind-line.ensures.capacity in
    (omega (arith, before, len, capacity), (c.self.invariant ready).1)
