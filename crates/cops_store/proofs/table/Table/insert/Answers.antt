use Rattle.std.proofs.Common.{◌<◌, ◌∙◌, ap, sym, subst, true≢false}
use Rattle.cops_store.specs.Lines.{chains_at, linked_in, row_of}
use Rattle.cops_store.specs.Dues.{dues_in}
use Rattle.cops_store.specs.Tables.{AreFounded, AreNoted, chains_of, with_key}
use Rattle.cops_store.proofs.DueLines.{due_turn_none}
use Rattle.cops_store.proofs.DueSteps.{least_longer}
use Rattle.cops_store.proofs.Inserts.{put_chains, put_covered, put_founded, put_kept, put_noted, put_rises, put_turn}
use Rattle.cops_store.proofs.Rooms.{OnErr-any}
use Rattle.cops_store.proofs.Turns.{chains_before, chains_turned, distinct_turned, line_counted, line_here, lines_turned, others_stay, roomy_line, slot_there}
use Rattle.cops_store.proofs.table.Table.insert.Goals as goal
use Rattle.cops_store.proofs.table.Table.insert.Goals.{then-put, else-put}

pub index_mut-line-requires : goal.index_mut-line-requires
index_mut-line-requires c = subst (λ n. c.args.slot < n) (sym c.self.inside.lines.ok.0) (slot_there c.self.inside.rows.entries c.self.inside.lines.items c.args.slot c.args.self.now c.self.view_is c.requires.slot)

pub make_room-requires-clause-line : goal.make_room-requires-clause-line
make_room-requires-clause-line c = line_here c.self.inside.rows.entries c.self.inside.lines.items c.self.invariant c.args.slot c.index_mut-line.result.now c.args.self.now c.self.view_is c.requires.slot c.index_mut-line.ensures.value

pub make_room-requires-clause-counted : goal.make_room-requires-clause-counted
make_room-requires-clause-counted c = line_counted c.self.inside.rows.entries c.self.inside.lines.items c.self.invariant c.args.slot c.index_mut-line.result.now c.args.self.now c.self.view_is c.requires.slot c.index_mut-line.ensures.value

pub invariant_of-self : goal.invariant_of-self
invariant_of-self c = lines_turned c.self.inside.rows.entries c.self.inside.lines.items c.self.invariant c.args.slot c.index_mut-line.result.now c.args.self.now c.self.view_is c.requires.slot c.index_mut-line.ensures.value c.make_room.new.rows.entries c.make_room.new.line c.make_room.ensures.turn

pub returns-in_err-i-clause-succeeds : goal.returns-in_err-i-clause-succeeds
returns-in_err-i-clause-succeeds c = λ room. absurd (true≢false (sym (c.in_err-i.ensures.succeeds (roomy_line c.self.inside.rows.entries c.self.inside.lines.items c.self.invariant c.args.slot c.index_mut-line.result.now c.args.self.now c.self.view_is c.requires.slot c.index_mut-line.ensures.value c.args.key.now room))))

pub returns-in_err-i-clause-err : goal.returns-in_err-i-clause-err
returns-in_err-i-clause-err c = OnErr-any _ _ (chains_turned c.self.inside.rows.entries c.self.inside.lines.items c.self.invariant c.args.slot c.index_mut-line.result.now c.args.self.now c.self.view_is c.requires.slot c.index_mut-line.ensures.value c.make_room.new.rows.entries c.make_room.new.line c.make_room.ensures.turn ∙ c.in_err-i.ensures.err ∙ sym (chains_before c.self.inside.rows.entries c.self.inside.lines.items c.self.invariant c.args.slot c.index_mut-line.result.now c.args.self.now c.self.view_is c.requires.slot c.index_mut-line.ensures.value))

pub returns-in_err-i-clause-distinct : goal.returns-in_err-i-clause-distinct
returns-in_err-i-clause-distinct c = distinct_turned c.self.inside.rows.entries c.self.inside.lines.items c.self.invariant c.args.slot c.index_mut-line.result.now c.args.self.now c.self.view_is c.requires.slot c.index_mut-line.ensures.value c.make_room.new.rows.entries c.make_room.new.line c.make_room.ensures.turn

pub returns-in_err-i-clause-others : goal.returns-in_err-i-clause-others
returns-in_err-i-clause-others c = others_stay c.self.inside.rows.entries c.self.inside.lines.items c.self.invariant c.args.slot c.index_mut-line.result.now c.args.self.now c.self.view_is c.requires.slot c.index_mut-line.ensures.value c.make_room.new.rows.entries c.make_room.new.line c.make_room.ensures.turn

pub put-requires-clause-at : goal.put-requires-clause-at
put-requires-clause-at c = (c.args.slot, c.args.key.now, c.in_ok-i.ensures.at, c.in_ok-i.ensures.room, put_rises c.self.inside.rows.entries c.make_room.new.rows.entries c.args.slot c.args.key.now c.index_mut-line.result.now c.make_room.new.line (chains_at c.args.slot c.args.self.now) c.make_room.ensures.turn (c.in_ok-i.ensures.chains ∙ sym (ap (with_key c.args.key.now) (chains_before c.self.inside.rows.entries c.self.inside.lines.items c.self.invariant c.args.slot c.index_mut-line.result.now c.args.self.now c.self.view_is c.requires.slot c.index_mut-line.ensures.value))) c.requires.chained)

pub invariant_of-self-2 : goal.invariant_of-self-2
invariant_of-self-2 c = lines_turned c.self.inside.rows.entries c.self.inside.lines.items c.self.invariant c.args.slot c.index_mut-line.result.now c.args.self.now c.self.view_is c.requires.slot c.index_mut-line.ensures.value c.put.new.rows.entries c.make_room.new.line (put_turn c.self.inside.rows.entries c.make_room.new.rows.entries c.args.slot c.args.key.now c.index_mut-line.result.now c.make_room.new.line (chains_at c.args.slot c.args.self.now) c.make_room.ensures.turn (c.in_ok-i.ensures.chains ∙ sym (ap (with_key c.args.key.now) (chains_before c.self.inside.rows.entries c.self.inside.lines.items c.self.invariant c.args.slot c.index_mut-line.result.now c.args.self.now c.self.view_is c.requires.slot c.index_mut-line.ensures.value))) c.put.new.rows.entries c.args.record_of c.put.result (c.put.ensures c.args.slot c.args.key.now c.in_ok-i.ensures.at))

pub returns-clause-chains : goal.returns-clause-chains
returns-clause-chains c = chains_turned c.self.inside.rows.entries c.self.inside.lines.items c.self.invariant c.args.slot c.index_mut-line.result.now c.args.self.now c.self.view_is c.requires.slot c.index_mut-line.ensures.value c.put.new.rows.entries c.make_room.new.line (put_turn c.self.inside.rows.entries c.make_room.new.rows.entries c.args.slot c.args.key.now c.index_mut-line.result.now c.make_room.new.line (chains_at c.args.slot c.args.self.now) c.make_room.ensures.turn (c.in_ok-i.ensures.chains ∙ sym (ap (with_key c.args.key.now) (chains_before c.self.inside.rows.entries c.self.inside.lines.items c.self.invariant c.args.slot c.index_mut-line.result.now c.args.self.now c.self.view_is c.requires.slot c.index_mut-line.ensures.value))) c.put.new.rows.entries c.args.record_of c.put.result (c.put.ensures c.args.slot c.args.key.now c.in_ok-i.ensures.at)) ∙ put_chains c.self.inside.rows.entries c.make_room.new.rows.entries c.args.slot c.args.key.now c.index_mut-line.result.now c.make_room.new.line (chains_at c.args.slot c.args.self.now) c.make_room.ensures.turn (c.in_ok-i.ensures.chains ∙ sym (ap (with_key c.args.key.now) (chains_before c.self.inside.rows.entries c.self.inside.lines.items c.self.invariant c.args.slot c.index_mut-line.result.now c.args.self.now c.self.view_is c.requires.slot c.index_mut-line.ensures.value))) c.put.new.rows.entries c.args.record_of c.put.result (c.put.ensures c.args.slot c.args.key.now c.in_ok-i.ensures.at)

pub returns-clause-distinct : goal.returns-clause-distinct
returns-clause-distinct c = distinct_turned c.self.inside.rows.entries c.self.inside.lines.items c.self.invariant c.args.slot c.index_mut-line.result.now c.args.self.now c.self.view_is c.requires.slot c.index_mut-line.ensures.value c.put.new.rows.entries c.make_room.new.line (put_turn c.self.inside.rows.entries c.make_room.new.rows.entries c.args.slot c.args.key.now c.index_mut-line.result.now c.make_room.new.line (chains_at c.args.slot c.args.self.now) c.make_room.ensures.turn (c.in_ok-i.ensures.chains ∙ sym (ap (with_key c.args.key.now) (chains_before c.self.inside.rows.entries c.self.inside.lines.items c.self.invariant c.args.slot c.index_mut-line.result.now c.args.self.now c.self.view_is c.requires.slot c.index_mut-line.ensures.value))) c.put.new.rows.entries c.args.record_of c.put.result (c.put.ensures c.args.slot c.args.key.now c.in_ok-i.ensures.at))

pub returns-clause-others : goal.returns-clause-others
returns-clause-others c = others_stay c.self.inside.rows.entries c.self.inside.lines.items c.self.invariant c.args.slot c.index_mut-line.result.now c.args.self.now c.self.view_is c.requires.slot c.index_mut-line.ensures.value c.put.new.rows.entries c.make_room.new.line (put_turn c.self.inside.rows.entries c.make_room.new.rows.entries c.args.slot c.args.key.now c.index_mut-line.result.now c.make_room.new.line (chains_at c.args.slot c.args.self.now) c.make_room.ensures.turn (c.in_ok-i.ensures.chains ∙ sym (ap (with_key c.args.key.now) (chains_before c.self.inside.rows.entries c.self.inside.lines.items c.self.invariant c.args.slot c.index_mut-line.result.now c.args.self.now c.self.view_is c.requires.slot c.index_mut-line.ensures.value))) c.put.new.rows.entries c.args.record_of c.put.result (c.put.ensures c.args.slot c.args.key.now c.in_ok-i.ensures.at))

pub returns-clause-noted : goal.returns-clause-noted
returns-clause-noted c = λ noted.
    subst (AreNoted (dues_in c.if-put.due.slots c.if-put.dues)) (sym (chains_turned c.self.inside.rows.entries c.self.inside.lines.items c.self.invariant c.args.slot c.index_mut-line.result.now c.args.self.now c.self.view_is c.requires.slot c.index_mut-line.ensures.value c.put.new.rows.entries c.make_room.new.line (put_turn c.self.inside.rows.entries c.make_room.new.rows.entries c.args.slot c.args.key.now c.index_mut-line.result.now c.make_room.new.line (chains_at c.args.slot c.args.self.now) c.make_room.ensures.turn (c.in_ok-i.ensures.chains ∙ sym (ap (with_key c.args.key.now) (chains_before c.self.inside.rows.entries c.self.inside.lines.items c.self.invariant c.args.slot c.index_mut-line.result.now c.args.self.now c.self.view_is c.requires.slot c.index_mut-line.ensures.value))) c.put.new.rows.entries c.args.record_of c.put.result (c.put.ensures c.args.slot c.args.key.now c.in_ok-i.ensures.at))))
    (elim c.if-put.branch [
      | then-put w ↦ put_noted c.self.inside.rows.entries c.make_room.new.rows.entries c.args.slot c.args.key.now c.index_mut-line.result.now c.make_room.new.line (chains_at c.args.slot c.args.self.now) c.make_room.ensures.turn (c.in_ok-i.ensures.chains ∙ sym (ap (with_key c.args.key.now) (chains_before c.self.inside.rows.entries c.self.inside.lines.items c.self.invariant c.args.slot c.index_mut-line.result.now c.args.self.now c.self.view_is c.requires.slot c.index_mut-line.ensures.value))) c.put.new.rows.entries c.args.record_of c.put.result (c.put.ensures c.args.slot c.args.key.now c.in_ok-i.ensures.at) (dues_in c.args.due.now.slots c.args.dues.now) (dues_in c.if-put.due.slots c.if-put.dues) w.if-put.true ((λ i. dues_in (w.due-is i).slots (w.dues-is i)) ∙ w.push.ensures.dues) noted
      | else-put w ↦ subst (λ due. AreNoted due (chains_of (linked_in (row_of c.put.new.rows.entries c.args.slot) c.make_room.new.line))) (λ i. dues_in (sym w.due-is i).slots (sym w.dues-is i)) (put_covered c.self.inside.rows.entries c.make_room.new.rows.entries c.args.slot c.args.key.now c.index_mut-line.result.now c.make_room.new.line (chains_at c.args.slot c.args.self.now) c.make_room.ensures.turn (c.in_ok-i.ensures.chains ∙ sym (ap (with_key c.args.key.now) (chains_before c.self.inside.rows.entries c.self.inside.lines.items c.self.invariant c.args.slot c.index_mut-line.result.now c.args.self.now c.self.view_is c.requires.slot c.index_mut-line.ensures.value))) c.put.new.rows.entries c.args.record_of c.put.result (c.put.ensures c.args.slot c.args.key.now c.in_ok-i.ensures.at) (dues_in c.args.due.now.slots c.args.dues.now) w.if-put.false noted)
    ])

pub returns-clause-founded : goal.returns-clause-founded
returns-clause-founded c = λ founded.
    subst (AreFounded (dues_in c.if-put.due.slots c.if-put.dues)) (sym (chains_turned c.self.inside.rows.entries c.self.inside.lines.items c.self.invariant c.args.slot c.index_mut-line.result.now c.args.self.now c.self.view_is c.requires.slot c.index_mut-line.ensures.value c.put.new.rows.entries c.make_room.new.line (put_turn c.self.inside.rows.entries c.make_room.new.rows.entries c.args.slot c.args.key.now c.index_mut-line.result.now c.make_room.new.line (chains_at c.args.slot c.args.self.now) c.make_room.ensures.turn (c.in_ok-i.ensures.chains ∙ sym (ap (with_key c.args.key.now) (chains_before c.self.inside.rows.entries c.self.inside.lines.items c.self.invariant c.args.slot c.index_mut-line.result.now c.args.self.now c.self.view_is c.requires.slot c.index_mut-line.ensures.value))) c.put.new.rows.entries c.args.record_of c.put.result (c.put.ensures c.args.slot c.args.key.now c.in_ok-i.ensures.at))))
    (elim c.if-put.branch [
      | then-put w ↦ put_founded c.self.inside.rows.entries c.make_room.new.rows.entries c.args.slot c.args.key.now c.index_mut-line.result.now c.make_room.new.line (chains_at c.args.slot c.args.self.now) c.make_room.ensures.turn (c.in_ok-i.ensures.chains ∙ sym (ap (with_key c.args.key.now) (chains_before c.self.inside.rows.entries c.self.inside.lines.items c.self.invariant c.args.slot c.index_mut-line.result.now c.args.self.now c.self.view_is c.requires.slot c.index_mut-line.ensures.value))) c.put.new.rows.entries c.args.record_of c.put.result (c.put.ensures c.args.slot c.args.key.now c.in_ok-i.ensures.at) (dues_in c.args.due.now.slots c.args.dues.now) (dues_in c.if-put.due.slots c.if-put.dues) w.if-put.true ((λ i. dues_in (w.due-is i).slots (w.dues-is i)) ∙ w.push.ensures.dues) c.requires.chained founded
      | else-put w ↦ subst (λ due. AreFounded due (chains_of (linked_in (row_of c.put.new.rows.entries c.args.slot) c.make_room.new.line))) (λ i. dues_in (sym w.due-is i).slots (sym w.dues-is i)) (put_kept c.self.inside.rows.entries c.make_room.new.rows.entries c.args.slot c.args.key.now c.index_mut-line.result.now c.make_room.new.line (chains_at c.args.slot c.args.self.now) c.make_room.ensures.turn (c.in_ok-i.ensures.chains ∙ sym (ap (with_key c.args.key.now) (chains_before c.self.inside.rows.entries c.self.inside.lines.items c.self.invariant c.args.slot c.index_mut-line.result.now c.args.self.now c.self.view_is c.requires.slot c.index_mut-line.ensures.value))) c.put.new.rows.entries c.args.record_of c.put.result (c.put.ensures c.args.slot c.args.key.now c.in_ok-i.ensures.at) (dues_in c.args.due.now.slots c.args.dues.now) c.requires.chained founded)
    ])

pub returns-clause-least : goal.returns-clause-least
returns-clause-least c = λ from. elim c.if-put.branch [
  | then-put w ↦ rw (w.due-is, w.dues-is) (least_longer c.args.due.now.slots w.push.new.self.slots c.args.dues.now w.push.new.line _ w.push.ensures.dues w.push.ensures.least from)
  | else-put w ↦ rw (w.due-is, w.dues-is) from
]

pub returns-clause-turn : goal.returns-clause-turn
returns-clause-turn c = elim c.if-put.branch [
  | then-put w ↦ rw (w.due-is, w.dues-is) w.push.ensures.turn
  | else-put w ↦ rw (w.due-is, w.dues-is) (due_turn_none c.args.due.now.slots c.args.slot c.args.dues.now c.requires.line)
]

pub returns-in_err-i-clause-turn : goal.returns-in_err-i-clause-turn
returns-in_err-i-clause-turn c = due_turn_none c.args.due.now.slots c.args.slot c.args.dues.now c.requires.line
