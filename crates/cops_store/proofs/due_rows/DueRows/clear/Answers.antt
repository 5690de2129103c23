use Rattle.std.proofs.Common.{◌∙◌, ap, arith, refl}
use Rattle.cops_store.specs.declared.due_rows.DueLine.{DueLine}
use Rattle.cops_store.proofs.DueLines.{due_turn_empty, due_turn_none, due_turn_then}
use Rattle.cops_store.proofs.due_rows.DueRows.clear.Goals as goal

pub loop-row-init : goal.loop-row-init
loop-row-init c = record { turn = λ slot h. due_turn_none c.args.self.now.slots slot c.args.line.now h; left = omega arith; room = refl }

pub drop_first-requires-clause-line : goal.drop_first-requires-clause-line
drop_first-requires-clause-line c = (c.requires.line.0, (c.loop-row.invariant.turn c.requires.line.0 c.requires.line.1).stays)

pub drop_first-requires-clause-some : goal.drop_first-requires-clause-some
drop_first-requires-clause-some c = let left = c.loop-row.invariant.left in omega arith

pub loop-row-preserved : goal.loop-row-preserved
loop-row-preserved c =
    let before = c.loop-row.invariant.left in
    let count = c.drop_first.ensures.count in
    record {
      turn = λ slot h.
          let first = c.loop-row.invariant.turn slot h in
          due_turn_then c.args.self.now.slots c.loop-row.self.slots c.drop_first.new.self.slots slot c.args.line.now c.loop-row.line c.drop_first.new.line first (c.drop_first.ensures.turn slot first.stays);
      left = omega arith;
      room = c.drop_first.ensures.room ∙ c.loop-row.invariant.room;
    }

pub returns-clause-turn : goal.returns-clause-turn
returns-clause-turn c = λ slot h.
    let left = c.loop-row.invariant.left in
    due_turn_empty c.args.self.now.slots c.loop-row.self.slots slot c.args.line.now c.loop-row.line c.new.result (c.loop-row.invariant.turn slot h) (omega arith) (ap (λ (l : DueLine). l.count) c.new.ensures)
