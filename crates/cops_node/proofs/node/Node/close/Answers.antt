use Rattle.std.proofs.Common.{◌<◌, ◌∙◌, ap, arith, length, not, sym, get_or, set, []}
use Rattle.std.specs.Prelude.{None, is_some}
use Rattle.std.proofs.lemmas.List.{get_or-set_other, get_or-set_same}
use Rattle.cops_node.specs.Parts.{Shared, place_at, trail_of}
use Rattle.cops_node.proofs.Admissions.{IsNode-closed, is_there, some_copied}
use Rattle.cops_node.proofs.Slots.{none_shown, place_elsewhere}
use Rattle.cops_node.proofs.node.Node.close.Goals as goal

-- the slot has a part
there : (c : goal.Joined-index_mut) → c.args.slot < length c.self.inside.parts.items
there c =
    is_there c.self.inside.parts.items c.args.slot
    (ap (λ ps. is_some (get_or ps c.args.slot None)) (sym c.deref.ensures.value) ∙ ap is_some (sym c.of.ensures) ∙ some_copied c.of.result (c.is_none.ensures ∙ ap not c.if-is_none.false))

pub clear-requires : goal.clear-requires
clear-requires c =
    let lt = is_there c.self.inside.parts.items c.args.slot
    (ap (λ ps. is_some (get_or ps c.args.slot None)) (sym c.deref.ensures.value) ∙ ap is_some (sym c.of.ensures) ∙ some_copied c.of.result (c.is_none.ensures ∙ ap not c.if-is_none.false)) in
    let many = c.self.invariant.audited in
    omega arith

pub invariant_of-self : goal.invariant_of-self
invariant_of-self c =
    let node = IsNode-closed c.self.inside.home c.args.slot c.self.inside.parts.items c.self.inside.audit.trails c.self.inside.storage.store c.drop_slot.new.self c.self.inside.storage.outbox c.drop_slot-2.new.self
    c.self.invariant (there c) c.drop_slot.ensures.dropped c.drop_slot-2.ensures.dropped (record {
      rows = c.drop_slot.ensures.others;
      queues = c.drop_slot-2.ensures.others;
      tenants = c.drop_slot.ensures.tenants;
      own = c.drop_slot-2.ensures.own;
      queued = c.drop_slot-2.ensures.tenants;
      data_centres = c.drop_slot-2.ensures.data_centres;
    }) in
    rw c.clear.ensures node

pub returns-clause-place : goal.returns-clause-place
returns-clause-place c = none_shown c.self.inside.home (set c.self.inside.parts.items c.args.slot None) c.clear.new.self.trails c.args.slot (get_or-set_same c.self.inside.parts.items c.args.slot None None (there c))

pub returns-clause-empty : goal.returns-clause-empty
returns-clause-empty c =
    ap (trail_of c.args.slot) c.clear.ensures ∙ get_or-set_same c.self.inside.audit.trails c.args.slot [] [] (let lt = there c in let many = c.self.invariant.audited in omega arith)

pub returns-clause-others : goal.returns-clause-others
returns-clause-others c = λ other differ. (
  place_elsewhere c.self.inside.home c.self.inside.parts.items c.self.inside.audit.trails c.clear.new.self.trails c.args.slot other None differ ∙ ap (place_at other) c.self.view_is,
  ap (trail_of other) c.clear.ensures ∙ get_or-set_other c.self.inside.audit.trails c.args.slot other [] [] differ ∙ ap (λ (v : Shared). trail_of other v.audit) c.self.view_is,
)
