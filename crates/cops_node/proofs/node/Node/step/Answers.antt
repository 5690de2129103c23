use Rattle.std.proofs.Common.{◌≡◌, ◌∙◌, ap, arith, sym, subst, get_or, IsTrue, set, true≢false}
use Rattle.std.specs.Prelude.{None, Some, Ok}
use Rattle.std.proofs.lemmas.List.{get_or_default}
use Rattle.cops_node.specs.Lacking.{MayLack}
use Rattle.cops_node.specs.Parts.{IsSoloTurn, JoinsTrail, Shared, place_at, solo_of, trail_of}
use Rattle.cops_model.specs.Place.{Place, fits}
use Rattle.cops_node.specs.Shape.{place_in}
use Rattle.cops_model.specs.Step.{CallEffect}
use Rattle.cops_node.proofs.Slots.{OnErr-any, elsewhere_joined, fits_under, has_room, lack_shown, node_joined, node_same, solo_turned, step_full, terms_set, trail_joined, view_of, view_set}
use Rattle.cops_node.proofs.node.Node.step.Goals as goal

-- the part of the slot, if the call has returned
at_err : (c : goal.After-from_residual) → get_or c.self.inside.parts.items c.args.slot None ≡ Some c.in-Some.part
at_err c =
    let long = c.len.ensures ∙ c.self.inside.parts.ok.0 in
    let lt = c.if-slot-len.false in
    get_or_default c.self.inside.parts.items c.args.slot None c.index_mut.result.now (omega arith) ∙ sym c.index_mut.ensures.value ∙ c.in-Some.is

at_ok : (c : goal.In_ok-reply-in-Some) → get_or c.self.inside.parts.items c.args.slot None ≡ Some c.in-Some.part
at_ok c =
    let long = c.len.ensures ∙ c.self.inside.parts.ok.0 in
    let lt = c.if-slot-len.false in
    get_or_default c.self.inside.parts.items c.args.slot None c.index_mut.result.now (omega arith) ∙ sym c.index_mut.ensures.value ∙ c.in-Some.is

pub turn-requires-clause-stands : goal.turn-requires-clause-stands
turn-requires-clause-stands c =
    let long = c.len.ensures ∙ c.self.inside.parts.ok.0 in
    let lt = c.if-slot-len.false in
    c.self.invariant.each c.args.slot c.in-Some.part (get_or_default c.self.inside.parts.items c.args.slot None c.index_mut.result.now (omega arith) ∙ sym c.index_mut.ensures.value ∙ c.in-Some.is)

pub turn-requires-clause-fits : goal.turn-requires-clause-fits
turn-requires-clause-fits c =
    fits_under c.self.inside.home c.in-Some.part.terms c.args.call ∙ subst (λ (v : Shared). IsTrue (fits (place_in v.home.shape v.home.id) c.args.call)) (sym c.self.view_is) c.requires

pub turn-requires-clause-slot : goal.turn-requires-clause-slot
turn-requires-clause-slot c =
    let long = c.len.ensures ∙ c.self.inside.parts.ok.0 in
    let many = c.self.invariant.audited in
    let lt = c.if-slot-len.false in
    omega arith

-- ---- memory was refused

pub invariant_of-self : goal.invariant_of-self
invariant_of-self c =
    node_same c.self.inside.home c.args.slot c.args.moment c.args.call c.self.inside.parts.items c.self.inside.audit.trails c.turn.new.audit.trails c.in-Some.part c.turn.new.part
    c.self.inside.storage.store c.turn.new.storage.store c.self.inside.storage.outbox c.turn.new.storage.outbox c.self.invariant (at_err c) c.turn.ensures.terms c.turn.ensures.stands c.turn.ensures.others c.in_err-reply-in-Some.ensures.err

pub returns-in_err-reply-in-Some-clause-others : goal.returns-in_err-reply-in-Some-clause-others
returns-in_err-reply-in-Some-clause-others c = λ other differ. ap (trail_of other) c.in_err-reply-in-Some.ensures.err ∙ ap (λ (v : Shared). trail_of other v.audit) c.self.view_is

pub returns-in_err-reply-in-Some-clause-home : goal.returns-in_err-reply-in-Some-clause-home
returns-in_err-reply-in-Some-clause-home c =
    ap (λ (v : Shared). v.home) c.self.view_is

pub returns-in_err-reply-in-Some-clause-terms : goal.returns-in_err-reply-in-Some-clause-terms
returns-in_err-reply-in-Some-clause-terms c =
    terms_set c.self.inside.parts.items c.args.slot c.in-Some.part c.turn.new.part (at_err c) c.turn.ensures.terms
    ∙ ap (λ (v : Shared). v.terms) c.self.view_is

pub returns-in_err-reply-in-Some-clause-err : goal.returns-in_err-reply-in-Some-clause-err
returns-in_err-reply-in-Some-clause-err c =
    OnErr-any c.from_residual.result _
    (view_set c.self.inside.home c.args.slot c.self.inside.parts.items c.self.inside.audit.trails c.turn.new.audit.trails c.in-Some.part c.turn.new.part (at_err c) c.turn.ensures.terms c.in_err-reply-in-Some.ensures.err
    ∙ c.self.view_is)

lacks : (c : goal.After-from_residual) → MayLack c.args.self.now c.args.slot c.args.call
lacks c =
    subst (λ (v : Shared). MayLack v c.args.slot c.args.call) c.self.view_is
    (lack_shown c.self.inside.home c.args.slot c.args.call c.self.inside.parts.items c.self.inside.audit.trails c.in-Some.part (at_err c) c.in_err-reply-in-Some.ensures.room)

pub returns-in_err-reply-in-Some-clause-lacks : goal.returns-in_err-reply-in-Some-clause-lacks
returns-in_err-reply-in-Some-clause-lacks c = OnErr-any c.from_residual.result _ (lacks c)

pub returns-in_err-reply-in-Some-clause-full : goal.returns-in_err-reply-in-Some-clause-full
returns-in_err-reply-in-Some-clause-full c = λ place found closed.
    absurd (true≢false (sym (has_room place c.args.slot c.args.self.now c.args.call found (lacks c)) ∙ closed))

-- ---- the call has its effect

pub invariant_of-self-in-Some : goal.invariant_of-self-in-Some
invariant_of-self-in-Some c =
    node_joined c.self.inside.home c.args.slot c.args.moment c.args.call c.self.inside.parts.items c.self.inside.audit.trails c.turn.new.audit.trails c.in-Some.part c.turn.new.part
    c.self.inside.storage.store c.turn.new.storage.store c.self.inside.storage.outbox c.turn.new.storage.outbox c.self.invariant (at_ok c) c.turn.ensures.terms c.turn.ensures.stands c.turn.ensures.others c.in_ok-reply-in-Some.reply
    (subst (λ (v : Shared). IsTrue (fits (place_in v.home.shape v.home.id) c.args.call)) (sym c.self.view_is) c.requires) c.in_ok-reply-in-Some.ensures.noted

-- the slot's solo node made the turn
turned : (c : goal.In_ok-reply-in-Some) (place : Place) → place_at c.args.slot c.args.self.now ≡ Some place
    → IsSoloTurn c.args.slot c.args.moment c.args.call c.in_ok-reply-in-Some.reply place c.args.self.now (view_of c.self.inside.home (set c.self.inside.parts.items c.args.slot (Some c.turn.new.part)) c.turn.new.audit.trails)
turned c place found =
    subst (λ (v : Shared). IsSoloTurn c.args.slot c.args.moment c.args.call c.in_ok-reply-in-Some.reply place v
    (view_of c.self.inside.home (set c.self.inside.parts.items c.args.slot (Some c.turn.new.part)) c.turn.new.audit.trails)) c.self.view_is
    (solo_turned c.self.inside.home c.args.slot c.args.moment c.args.call c.self.inside.parts.items c.self.inside.audit.trails c.turn.new.audit.trails c.in-Some.part c.turn.new.part
    c.self.inside.storage.store c.turn.new.storage.store c.self.inside.storage.outbox c.turn.new.storage.outbox c.self.invariant (at_ok c) c.turn.ensures.terms c.turn.ensures.stands c.turn.ensures.others c.in_ok-reply-in-Some.reply
    c.in_ok-reply-in-Some.ensures.turn place (ap (place_at c.args.slot) c.self.view_is ∙ found))

pub returns-in_ok-reply-in-Some-clause-turn : goal.returns-in_ok-reply-in-Some-clause-turn
returns-in_ok-reply-in-Some-clause-turn c = λ place found. (let done = turned c place found in (done.0, done.1))

pub returns-in_ok-reply-in-Some-clause-noted : goal.returns-in_ok-reply-in-Some-clause-noted
returns-in_ok-reply-in-Some-clause-noted c = λ some.
    subst (λ (v : Shared). JoinsTrail c.args.slot c.args.moment c.args.call c.in_ok-reply-in-Some.reply v
    (view_of c.self.inside.home (set c.self.inside.parts.items c.args.slot (Some c.turn.new.part)) c.turn.new.audit.trails)) c.self.view_is
    (trail_joined c.self.inside.home c.args.slot c.args.moment c.args.call c.self.inside.parts.items c.self.inside.audit.trails c.turn.new.audit.trails c.in-Some.part c.turn.new.part
    c.self.inside.storage.store c.turn.new.storage.store c.self.inside.storage.outbox c.turn.new.storage.outbox c.self.invariant (at_ok c) c.turn.ensures.terms c.turn.ensures.stands c.turn.ensures.others c.in_ok-reply-in-Some.reply c.in_ok-reply-in-Some.ensures.noted)

pub returns-in_ok-reply-in-Some-clause-others : goal.returns-in_ok-reply-in-Some-clause-others
returns-in_ok-reply-in-Some-clause-others c = λ other differ.
    elsewhere_joined c.self.inside.home c.args.slot c.args.moment c.args.call c.self.inside.parts.items c.self.inside.audit.trails c.turn.new.audit.trails c.in-Some.part c.turn.new.part
    c.self.inside.storage.store c.turn.new.storage.store c.self.inside.storage.outbox c.turn.new.storage.outbox c.self.invariant (at_ok c) c.turn.ensures.terms c.turn.ensures.stands c.turn.ensures.others c.in_ok-reply-in-Some.reply other differ c.in_ok-reply-in-Some.ensures.noted
    ∙ ap (λ (v : Shared). trail_of other v.audit) c.self.view_is

pub returns-in_ok-reply-in-Some-clause-home : goal.returns-in_ok-reply-in-Some-clause-home
returns-in_ok-reply-in-Some-clause-home c =
    ap (λ (v : Shared). v.home) c.self.view_is

pub returns-in_ok-reply-in-Some-clause-terms : goal.returns-in_ok-reply-in-Some-clause-terms
returns-in_ok-reply-in-Some-clause-terms c =
    terms_set c.self.inside.parts.items c.args.slot c.in-Some.part c.turn.new.part (at_ok c) c.turn.ensures.terms
    ∙ ap (λ (v : Shared). v.terms) c.self.view_is

pub returns-in_ok-reply-in-Some-clause-full : goal.returns-in_ok-reply-in-Some-clause-full
returns-in_ok-reply-in-Some-clause-full c = λ place found closed.
    ap Ok ((turned c place found).0 ∙ ap (λ (t : CallEffect). t.reply) (step_full place c.args.moment c.args.call (solo_of c.args.slot place c.args.self.now) closed))
