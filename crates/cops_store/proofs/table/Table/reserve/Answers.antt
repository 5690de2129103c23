use Rattle.std.proofs.Common.{◌<◌, ◌∙◌, ap, refl, subst, sym}
use Rattle.cops_store.specs.Tables.{with_key}
use Rattle.cops_store.proofs.Rooms.{OnErr-any}
use Rattle.cops_store.proofs.Turns.{chains_before, chains_turned, distinct_here, distinct_turned, line_counted, line_here, lines_turned, others_stay, room_turned, slot_there}
use Rattle.cops_store.proofs.table.Table.reserve.Goals as goal

pub returns-in_err-reserve-clause-distinct : goal.returns-in_err-reserve-clause-distinct
returns-in_err-reserve-clause-distinct c = distinct_here c.self.inside.rows.entries c.self.inside.lines.items c.self.invariant _ refl c.args.slot

pub index_mut-line-requires : goal.index_mut-line-requires
index_mut-line-requires c = subst (λ n. c.args.slot < n) (sym c.self.inside.lines.ok.0) (slot_there c.self.inside.rows.entries c.self.inside.lines.items c.args.slot c.args.self.now c.self.view_is c.requires)

pub make_room-requires-clause-line : goal.make_room-requires-clause-line
make_room-requires-clause-line c = line_here c.self.inside.rows.entries c.self.inside.lines.items c.self.invariant c.args.slot c.index_mut-line.result.now c.args.self.now c.self.view_is c.requires c.index_mut-line.ensures.value

pub make_room-requires-clause-counted : goal.make_room-requires-clause-counted
make_room-requires-clause-counted c = line_counted c.self.inside.rows.entries c.self.inside.lines.items c.self.invariant c.args.slot c.index_mut-line.result.now c.args.self.now c.self.view_is c.requires c.index_mut-line.ensures.value

pub invariant_of-self-in_err-i : goal.invariant_of-self-in_err-i
invariant_of-self-in_err-i c = lines_turned c.self.inside.rows.entries c.self.inside.lines.items c.self.invariant c.args.slot c.index_mut-line.result.now c.args.self.now c.self.view_is c.requires c.index_mut-line.ensures.value c.make_room.new.rows.entries c.make_room.new.line c.make_room.ensures.turn

pub returns-in_err-i-clause-err : goal.returns-in_err-i-clause-err
returns-in_err-i-clause-err c = OnErr-any _ _ (chains_turned c.self.inside.rows.entries c.self.inside.lines.items c.self.invariant c.args.slot c.index_mut-line.result.now c.args.self.now c.self.view_is c.requires c.index_mut-line.ensures.value c.make_room.new.rows.entries c.make_room.new.line c.make_room.ensures.turn ∙ c.in_err-i.ensures.err ∙ sym (chains_before c.self.inside.rows.entries c.self.inside.lines.items c.self.invariant c.args.slot c.index_mut-line.result.now c.args.self.now c.self.view_is c.requires c.index_mut-line.ensures.value))

pub returns-in_err-i-clause-distinct : goal.returns-in_err-i-clause-distinct
returns-in_err-i-clause-distinct c = distinct_turned c.self.inside.rows.entries c.self.inside.lines.items c.self.invariant c.args.slot c.index_mut-line.result.now c.args.self.now c.self.view_is c.requires c.index_mut-line.ensures.value c.make_room.new.rows.entries c.make_room.new.line c.make_room.ensures.turn

pub returns-in_err-i-clause-others : goal.returns-in_err-i-clause-others
returns-in_err-i-clause-others c = others_stay c.self.inside.rows.entries c.self.inside.lines.items c.self.invariant c.args.slot c.index_mut-line.result.now c.args.self.now c.self.view_is c.requires c.index_mut-line.ensures.value c.make_room.new.rows.entries c.make_room.new.line c.make_room.ensures.turn

pub invariant_of-self-2 : goal.invariant_of-self-2
invariant_of-self-2 c = lines_turned c.self.inside.rows.entries c.self.inside.lines.items c.self.invariant c.args.slot c.index_mut-line.result.now c.args.self.now c.self.view_is c.requires c.index_mut-line.ensures.value c.make_room.new.rows.entries c.make_room.new.line c.make_room.ensures.turn

pub returns-clause-chains : goal.returns-clause-chains
returns-clause-chains c = chains_turned c.self.inside.rows.entries c.self.inside.lines.items c.self.invariant c.args.slot c.index_mut-line.result.now c.args.self.now c.self.view_is c.requires c.index_mut-line.ensures.value c.make_room.new.rows.entries c.make_room.new.line c.make_room.ensures.turn ∙ c.in_ok-i.ensures.chains ∙ sym (ap (with_key c.args.key.now) (chains_before c.self.inside.rows.entries c.self.inside.lines.items c.self.invariant c.args.slot c.index_mut-line.result.now c.args.self.now c.self.view_is c.requires c.index_mut-line.ensures.value))

pub returns-clause-room : goal.returns-clause-room
returns-clause-room c = room_turned c.self.inside.rows.entries c.self.inside.lines.items c.self.invariant c.args.slot c.index_mut-line.result.now c.args.self.now c.self.view_is c.requires c.index_mut-line.ensures.value c.make_room.new.rows.entries c.make_room.new.line c.make_room.ensures.turn c.args.key.now c.in_ok-i.ensures.room

pub returns-clause-distinct : goal.returns-clause-distinct
returns-clause-distinct c = distinct_turned c.self.inside.rows.entries c.self.inside.lines.items c.self.invariant c.args.slot c.index_mut-line.result.now c.args.self.now c.self.view_is c.requires c.index_mut-line.ensures.value c.make_room.new.rows.entries c.make_room.new.line c.make_room.ensures.turn

pub returns-clause-others : goal.returns-clause-others
returns-clause-others c = others_stay c.self.inside.rows.entries c.self.inside.lines.items c.self.invariant c.args.slot c.index_mut-line.result.now c.args.self.now c.self.view_is c.requires c.index_mut-line.ensures.value c.make_room.new.rows.entries c.make_room.new.line c.make_room.ensures.turn
