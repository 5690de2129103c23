use Rattle.std.proofs.Common.{◌≡◌, ◌∙◌, ◌++◌, ◌+◌, ◌-◌, ap, arith, length, sym, subst, get_or, set, List}
use Rattle.std.specs.Prelude.{None, Some, Option, is_some, nat_le, replicate}
use Rattle.cops_model.specs.declared.calls.AuditEntry.{AuditEntry}
use Rattle.cops_outbox.specs.Queues.{Queues}
use Rattle.cops_node.specs.Pages.{AuditLists}
use Rattle.cops_node.specs.declared.parts.Part.{Part}
use Rattle.cops_node.specs.Parts.{IsNode, MOST_SLOTS, Shared, place_at, place_for, trail_of}
use Rattle.cops_node.proofs.Admissions.{HasMoreRoom, IsNode-room, none_from, node_admitted, or_right, others_admitted, place_admitted, trail_admitted}
use Rattle.cops_node.proofs.Slots.{is_some_shown, view_of}
use Rattle.cops_node.proofs.node.Node.give.Goals as goal

pub invariant_of-self-in_err-admit-2 : goal.invariant_of-self-in_err-admit-2
invariant_of-self-in_err-admit-2 c =
    let stored = c.in_ok-admit.ensures.tenants in
    let queued = ap (λ (o : Queues). o.tenants) c.in_err-admit-2.ensures.err in
    IsNode-room c.self.inside.home c.self.inside.parts.items c.self.inside.audit.trails c.self.inside.storage.store c.admit.new.self c.self.inside.storage.outbox c.admit-2.new.self c.self.invariant (record {
      rows = c.admit.ensures.rows;
      stored = omega arith;
      queues = c.admit-2.ensures.queues;
      queued = omega arith;
      own = c.admit-2.ensures.own;
      data_centres = c.admit-2.ensures.data_centres;
    })

-- ---- no more slots could be made

pub invariant_of-self-in_err-add_vacant : goal.invariant_of-self-in_err-add_vacant
invariant_of-self-in_err-add_vacant c =
    let stored = c.in_ok-admit.ensures.tenants in
    let queued = c.in_ok-admit-2.ensures.tenants in
    subst (λ (a : AuditLists). IsNode c.self.inside.home c.add_vacant.new.parts.items a.trails c.admit.new.self c.admit-2.new.self) (sym c.in_err-add_vacant.ensures.err.1)
    (subst (λ (ps : List (Option Part)). IsNode c.self.inside.home ps c.self.inside.audit.trails c.admit.new.self c.admit-2.new.self) (sym c.in_err-add_vacant.ensures.err.0)
    (IsNode-room c.self.inside.home c.self.inside.parts.items c.self.inside.audit.trails c.self.inside.storage.store c.admit.new.self c.self.inside.storage.outbox c.admit-2.new.self c.self.invariant (record {
      rows = c.admit.ensures.rows;
      stored = omega arith;
      queues = c.admit-2.ensures.queues;
      queued = omega arith;
      own = c.admit-2.ensures.own;
      data_centres = c.admit-2.ensures.data_centres;
    })))

-- ---- the slot has its tenant

room : (c : goal.Joined-index_mut) → HasMoreRoom c.self.inside.storage.store c.admit.new.self c.self.inside.storage.outbox c.admit-2.new.self
room c =
    let stored = c.in_ok-admit.ensures.tenants in
    let queued = c.in_ok-admit-2.ensures.tenants in
    record {
      rows = c.admit.ensures.rows;
      stored = omega arith;
      queues = c.admit-2.ensures.queues;
      queued = omega arith;
      own = c.admit-2.ensures.own;
      data_centres = c.admit-2.ensures.data_centres;
    }

more_is : (c : goal.Joined-index_mut) → c.saturating_sub-more.result ≡ c.args.slot + 1 - length c.self.inside.parts.items
more_is c = c.saturating_sub-more.ensures ∙ ap (λ n. c.args.slot + 1 - n) (c.len.ensures ∙ c.self.inside.parts.ok.0)

free : (c : goal.Joined-index_mut) → get_or c.self.inside.parts.items c.args.slot None ≡ None
free c =
    none_from (get_or c.self.inside.parts.items c.args.slot None)
    (sym (is_some_shown c.self.inside.home c.self.inside.parts.items c.self.inside.audit.trails c.args.slot) ∙ ap (λ (v : Shared). is_some (place_at c.args.slot v)) c.self.view_is
    ∙ or_right (nat_le MOST_SLOTS c.args.slot) (is_some (place_at c.args.slot c.args.self.now)) c.requires.free)

-- the state of all slots is that before, with more of them
pub invariant_of-self-2 : goal.invariant_of-self-2
invariant_of-self-2 c =
    let node = node_admitted c.self.inside.home c.args.slot c.saturating_sub-more.result c.args.first_clock c.args.quota c.self.inside.parts.items c.self.inside.audit.trails c.in_ok-part.part
    c.self.inside.storage.store c.admit.new.self c.self.inside.storage.outbox c.admit-2.new.self c.self.invariant (room c) c.in_ok-admit.ensures.tenants c.in_ok-admit-2.ensures.tenants (more_is c) (free c) c.in_ok-part.ensures.fresh c.requires.clock c.in_ok-part.ensures.terms in
    subst (λ (ps : List (Option Part)). IsNode c.self.inside.home (set ps c.args.slot (Some c.in_ok-part.part)) c.add_vacant.new.audit.trails c.admit.new.self c.admit-2.new.self) (sym c.in_ok-add_vacant.ensures.parts)
    (subst (λ (ts : List (List AuditEntry)). IsNode c.self.inside.home (set (c.self.inside.parts.items ++ replicate c.saturating_sub-more.result None) c.args.slot (Some c.in_ok-part.part)) ts c.admit.new.self c.admit-2.new.self)
    (sym c.in_ok-add_vacant.ensures.trails) node)

pub returns-clause-place : goal.returns-clause-place
returns-clause-place c =
    ap (λ (ps : List (Option Part)). place_at c.args.slot (view_of c.self.inside.home (set ps c.args.slot (Some c.in_ok-part.part)) c.add_vacant.new.audit.trails)) c.in_ok-add_vacant.ensures.parts
    ∙ place_admitted c.self.inside.home c.args.slot c.saturating_sub-more.result c.args.first_clock c.args.quota c.self.inside.parts.items c.self.inside.audit.trails c.in_ok-part.part
    c.self.inside.storage.store c.admit.new.self c.self.inside.storage.outbox c.admit-2.new.self c.self.invariant (room c) c.in_ok-admit.ensures.tenants c.in_ok-admit-2.ensures.tenants (more_is c) (free c) c.in_ok-part.ensures.fresh c.requires.clock c.in_ok-part.ensures.terms
    ∙ ap (λ (v : Shared). Some (place_for v.home c.args.first_clock c.args.quota)) c.self.view_is

pub returns-clause-empty : goal.returns-clause-empty
returns-clause-empty c =
    ap (trail_of c.args.slot) c.in_ok-add_vacant.ensures.trails
    ∙ trail_admitted c.self.inside.home c.args.slot c.saturating_sub-more.result c.args.first_clock c.args.quota c.self.inside.parts.items c.self.inside.audit.trails c.in_ok-part.part
    c.self.inside.storage.store c.admit.new.self c.self.inside.storage.outbox c.admit-2.new.self c.self.invariant (room c) c.in_ok-admit.ensures.tenants c.in_ok-admit-2.ensures.tenants (more_is c) (free c) c.in_ok-part.ensures.fresh c.requires.clock c.in_ok-part.ensures.terms

pub returns-clause-others : goal.returns-clause-others
returns-clause-others c = λ other differ.
    let kept = others_admitted c.self.inside.home c.args.slot c.saturating_sub-more.result c.args.first_clock c.args.quota c.self.inside.parts.items c.self.inside.audit.trails c.in_ok-part.part
    c.self.inside.storage.store c.admit.new.self c.self.inside.storage.outbox c.admit-2.new.self c.self.invariant (room c) c.in_ok-admit.ensures.tenants c.in_ok-admit-2.ensures.tenants (more_is c) (free c) c.in_ok-part.ensures.fresh c.requires.clock c.in_ok-part.ensures.terms other differ in (
      ap (λ (ps : List (Option Part)). place_at other (view_of c.self.inside.home (set ps c.args.slot (Some c.in_ok-part.part)) c.add_vacant.new.audit.trails)) c.in_ok-add_vacant.ensures.parts ∙ kept.0 ∙ ap (place_at other) c.self.view_is,
      ap (trail_of other) c.in_ok-add_vacant.ensures.trails ∙ kept.1 ∙ ap (λ (v : Shared). trail_of other v.audit) c.self.view_is,
    )
