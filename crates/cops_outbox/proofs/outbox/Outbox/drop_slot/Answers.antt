use Rattle.std.proofs.Common.{◌≡◌, ◌∙◌, refl, ap, inl, length, set}
use Rattle.cops_outbox.specs.Queues.{Queues, queue_of, without_slot}
use Rattle.cops_outbox.specs.Lines.{IsCleared}
use Rattle.cops_outbox.proofs.Views.{shown, line_is, turn_lines, drop_shown, dropped_entries, dropped_other, without_slot_len}
use Rattle.cops_outbox.proofs.outbox.Outbox.drop_slot.Goals as goal

cleared : (c : goal.After-self-1) → IsCleared c.self.inside.rows.slots c.clear.new.rows.slots c.self.inside.own c.args.slot c.index_mut-line.result.now c.clear.new.line
cleared c = c.clear.ensures.cleared c.self.inside.own c.args.slot
    (line_is c.self.inside.rows.slots c.self.inside.own c.self.inside.tenants c.self.inside.data_centres c.self.inside.lines.items c.args.self.now c.self.invariant c.self.view_is c.args.slot c.index_mut-line.result.now c.requires c.index_mut-line.ensures.value)

dropped_view : (c : goal.After-self-1) → shown c.clear.new.rows.slots c.self.inside.own c.self.inside.tenants c.self.inside.data_centres (set c.self.inside.lines.items c.args.slot c.clear.new.line)
    ≡ record c.args.self.now { queues = without_slot c.args.slot c.args.self.now.queues }
dropped_view c =
    drop_shown c.self.inside.rows.slots c.self.inside.own c.self.inside.tenants c.self.inside.data_centres c.self.inside.lines.items c.args.self.now c.self.invariant c.self.view_is
    c.clear.new.rows.slots c.args.slot c.index_mut-line.result.now c.clear.new.line c.requires c.index_mut-line.ensures.value (cleared c)

pub invariant_of-self : goal.invariant_of-self
invariant_of-self c =
    turn_lines c.self.inside.rows.slots c.self.inside.own c.self.inside.tenants c.self.inside.data_centres c.self.inside.lines.items c.args.self.now c.self.invariant c.self.view_is
    c.self.inside.rows.slots c.clear.new.rows.slots c.args.slot c.index_mut-line.result.now c.clear.new.line refl c.requires c.index_mut-line.ensures.value (cleared c).turn (inl (cleared c).kept)

pub returns-clause-rows : goal.returns-clause-rows
returns-clause-rows c = dropped_view c

pub returns-clause-dropped : goal.returns-clause-dropped
returns-clause-dropped c = λ dc. ap (queue_of c.args.slot dc) (dropped_view c) ∙ dropped_entries c.args.slot c.args.self.now.queues dc

pub returns-clause-others : goal.returns-clause-others
returns-clause-others c = λ other dc differ. ap (queue_of other dc) (dropped_view c) ∙ dropped_other c.args.slot c.args.self.now.queues other dc differ

pub returns-clause-data_centres : goal.returns-clause-data_centres
returns-clause-data_centres c = ap (λ (v : Queues). length v.queues) (dropped_view c) ∙ without_slot_len c.args.slot c.args.self.now.queues
