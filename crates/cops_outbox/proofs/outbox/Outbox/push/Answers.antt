use Rattle.std.proofs.Common.{◌≡◌, ◌∙◌, ap, subst, set}
use Rattle.cops_types.specs.declared.records.EntryParts.{EntryParts as Entry}
use Rattle.slab.specs.Slab.{Slab}
use Rattle.cops_outbox.specs.declared.rows.Row.{Row}
use Rattle.cops_outbox.specs.Queues.{queue_of, pushed}
use Rattle.cops_outbox.specs.Lines.{IsLonger}
use Rattle.cops_outbox.proofs.Views.{shown, push_shown, turn_lines, alone_shown, none_other, slot_inside, pushed_entry, pushed_other}
use Rattle.cops_outbox.proofs.outbox.Outbox.push.Goals as goal

pushed_view : (c : goal.After-self-1) → shown c.add.new.rows.slots c.self.inside.own c.self.inside.tenants c.self.inside.data_centres (set c.self.inside.lines.items c.args.slot c.add.new.line)
    ≡ record c.args.self.now { queues = pushed 0 c.args.self.now.own (record { slot = c.args.slot; entry = c.args.entry.now }) c.args.self.now.queues }
pushed_view c =
    push_shown c.self.inside.rows.slots c.self.inside.own c.self.inside.tenants c.self.inside.data_centres c.self.inside.lines.items c.args.self.now c.self.invariant c.self.view_is
    c.reserve.new.self.slots c.add.new.rows.slots c.args.slot c.args.entry.now c.index_mut-line.result.now c.add.new.line (ap (λ (s : Slab Row). s.slots) c.reserve.ensures.rest_kept) c.requires.slot c.index_mut-line.ensures.value
    (subst (λ (e : Entry). IsLonger c.reserve.new.self.slots c.add.new.rows.slots c.self.inside.own c.args.slot e c.index_mut-line.result.now c.add.new.line) c.in_ok-copy.ensures c.add.ensures.longer)

pub returns-clause-ok : goal.returns-clause-ok
returns-clause-ok c = pushed_view c

pub returns-clause-entry : goal.returns-clause-entry
returns-clause-entry c = λ dc lt differ.
    ap (queue_of c.args.slot dc) (pushed_view c)
    ∙ pushed_entry c.args.self.now.own (record { slot = c.args.slot; entry = c.args.entry.now }) c.args.self.now.queues dc lt differ
    (slot_inside c.self.inside.rows.slots c.self.inside.own c.self.inside.tenants c.self.inside.data_centres c.self.inside.lines.items c.args.self.now c.self.invariant c.self.view_is c.args.slot dc c.requires.slot lt)

pub returns-clause-others : goal.returns-clause-others
returns-clause-others c = λ other dc differ.
    ap (queue_of other dc) (pushed_view c) ∙ pushed_other 0 c.args.self.now.own (record { slot = c.args.slot; entry = c.args.entry.now }) c.args.self.now.queues other dc differ

pub invariant_of-self-2 : goal.invariant_of-self-2
invariant_of-self-2 c =
    turn_lines c.self.inside.rows.slots c.self.inside.own c.self.inside.tenants c.self.inside.data_centres c.self.inside.lines.items c.args.self.now c.self.invariant c.self.view_is
    c.reserve.new.self.slots c.add.new.rows.slots c.args.slot c.index_mut-line.result.now c.add.new.line (ap (λ (s : Slab Row). s.slots) c.reserve.ensures.rest_kept) c.requires.slot c.index_mut-line.ensures.value
    c.add.ensures.longer.turn c.add.ensures.needed

pub returns-then-self-least_other-clause-ok : goal.returns-then-self-least_other-clause-ok
returns-then-self-least_other-clause-ok c =
    alone_shown c.self.inside.rows.slots c.self.inside.own c.self.inside.tenants c.self.inside.data_centres c.self.inside.lines.items c.args.self.now c.self.invariant c.self.view_is
    c.least_other.result (record { slot = c.args.slot; entry = c.args.entry.now }) c.least_other.ensures.least c.if-self-least_other.true

pub returns-then-self-least_other-clause-entry : goal.returns-then-self-least_other-clause-entry
returns-then-self-least_other-clause-entry c = λ dc lt differ.
    absurd (none_other c.self.inside.rows.slots c.self.inside.own c.self.inside.tenants c.self.inside.data_centres c.self.inside.lines.items c.args.self.now c.self.invariant c.self.view_is
    c.least_other.result dc c.least_other.ensures.least c.if-self-least_other.true lt differ)
