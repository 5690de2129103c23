use Rattle.std.proofs.Common.{◌≡◌, ◌<◌, ◌+◌, ◌∙◌, ap, arith, refl, subst, sym}
use Rattle.std.specs.Prelude.{IsTrue, OnErr, Result}
use Rattle.std.proofs.lemmas.Result.{err_from_is_err_and}
use Rattle.std.specs.declared.alloc.AllocError.{AllocError}
use Rattle.cops_node.specs.Counting.{Counting, IsCountedTurn, RepresentsSolo, place_of_counting}
use Rattle.cops_node.specs.Parts.{IsDone}
use Rattle.cops_types.specs.declared.faults.Fault.TheVariants.{AuditFull}
use Rattle.cops_model.specs.declared.calls.NodeReply.{NodeReply}
use Rattle.cops_model.specs.declared.calls.NodeReply.TheVariants.{Refused}
use Rattle.cops_model.specs.Place.{fits}
use Rattle.cops_model.specs.SoloNode.{SoloNode}
use Rattle.cops_model.specs.Step.{node_step}
use Rattle.cops_node.proofs.CountingTurns.{changed, full_turn, nothing_changed, open_turn, raised_solo}
use Rattle.cops_node.proofs.counting.CountingNode.step.Goals as goal

pub returns-then-self-clause-turn : goal.returns-then-self-clause-turn
returns-then-self-clause-turn c = λ solo h.
    subst (λ (v : Counting). IsCountedTurn c.args.moment c.args.call (Refused AuditFull) v solo v) c.self.view_is
    (full_turn (record { home = c.self.inside.home; part = c.self.inside.part; calls = c.self.inside.calls; store = c.self.inside.storage.store; outbox = c.self.inside.storage.outbox }) c.args.moment c.args.call solo
    (subst (λ (v : Counting). RepresentsSolo v solo) (sym c.self.view_is) h) c.if-self.true)

pub act-requires-clause-stands : goal.act-requires-clause-stands
act-requires-clause-stands c =
    raised_solo (record { home = c.self.inside.home; part = c.self.inside.part; calls = c.self.inside.calls; store = c.self.inside.storage.store; outbox = c.self.inside.storage.outbox }) c.args.moment c.max-now.result c.self.invariant c.max-now.ensures

-- ---- the call has its effect

abbrev before : goal.After-self-2-1 → Counting
before c = record { home = c.self.inside.home; part = c.self.inside.part; calls = c.self.inside.calls; store = c.self.inside.storage.store; outbox = c.self.inside.storage.outbox }

turned : (c : goal.After-self-2-1) (solo : SoloNode) → RepresentsSolo (before c) solo →
    IsCountedTurn c.args.moment c.args.call c.told_by-told.result (before c) solo (changed (before c) (record c.self.inside.part { moment = c.max-now.result; counters = c.act.new.counters }) (c.self.inside.calls + 1) c.act.new.storage.store c.act.new.storage.outbox)
turned c solo h =
    let few : c.self.inside.calls < c.self.inside.part.terms.quota.audit = omega arith in
    open_turn (before c) (record c.self.inside.part { moment = c.max-now.result; counters = c.act.new.counters }) c.act.new.storage.store c.act.new.storage.outbox refl c.args.moment c.max-now.result c.args.call c.told_by-told.result solo h few c.max-now.ensures refl
    (subst (λ (reply : NodeReply). IsDone 0 c.max-now.result (place_of_counting (before c)) c.args.call reply c.self.inside.part.counters c.self.inside.storage.store c.self.inside.storage.outbox c.act.new.counters c.act.new.storage.store c.act.new.storage.outbox)
    (sym c.told_by-told.ensures) c.in_ok-act.ensures.done)

pub invariant_of-self-2 : goal.invariant_of-self-2
invariant_of-self-2 c =
    let solo : SoloNode = c.self.invariant.0 in
    ((node_step (place_of_counting (before c)) c.args.moment c.args.call solo).after, (turned c solo c.self.invariant.1).after)

pub returns-clause-turn : goal.returns-clause-turn
returns-clause-turn c = λ solo h.
    subst (λ (v : Counting). IsCountedTurn c.args.moment c.args.call c.told_by-told.result v solo (changed (before c) (record c.self.inside.part { moment = c.max-now.result; counters = c.act.new.counters }) (c.self.inside.calls + 1) c.act.new.storage.store c.act.new.storage.outbox)) c.self.view_is
    (turned c solo (subst (λ (v : Counting). RepresentsSolo v solo) (sym c.self.view_is) h))
