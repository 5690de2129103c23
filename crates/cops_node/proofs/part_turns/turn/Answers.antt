use Rattle.std.proofs.Common.{◌≡◌, ◌<◌, ◌∙◌, ◌++◌, ◌∷◌, [], ap, inr, length, refl, subst, sym, List, Result, OnErr}
use Rattle.std.specs.declared.alloc.AllocError.{AllocError}
use Rattle.cops_model.specs.declared.calls.AuditEntry.{AuditEntry}
use Rattle.cops_model.specs.declared.calls.NodeReply.{NodeReply}
use Rattle.cops_node.specs.Parts.{HasPartRoom, StandsForTrail, noted, trail_of}
use Rattle.std.proofs.lemmas.Result.{err_from_is_err_and}
use Rattle.cops_node.specs.declared.parts.Part.{Part}
use Rattle.cops_node.specs.declared.rows.Exchange.{Exchange}
use Rattle.cops_node.proofs.PartTurns.{full_turn, nothing_done, open_room, raised_solo, stands_still, turn_done, turn_stands}
use Rattle.cops_node.proofs.Slots.{trail_own}
use Rattle.cops_node.proofs.part_turns.turn.Goals as goal

pub returns-then-is_audit_full-clause-turn : goal.returns-then-is_audit_full-clause-turn
returns-then-is_audit_full-clause-turn c =
    full_turn c.args.caller.slot c.args.caller.moment c.args.home.now c.args.call c.args.part.now (trail_of c.args.caller.slot c.args.audit.now.trails) c.args.storage.now.store c.args.storage.now.outbox c.is_audit_full.result c.requires.stands c.is_audit_full.ensures.full c.if-is_audit_full.true

pub returns-then-is_audit_full-clause-others : goal.returns-then-is_audit_full-clause-others
returns-then-is_audit_full-clause-others c = record {
  rows = λ other differ. refl;
  queues = λ other dc differ. refl;
  tenants = refl;
  own = refl;
  queued = refl;
  data_centres = refl;
}

-- ---- memory was refused

pub returns-in_err-reserve-clause-stands : goal.returns-in_err-reserve-clause-stands
returns-in_err-reserve-clause-stands c =
    subst (λ (audit : List (List AuditEntry)). StandsForTrail c.args.caller.slot c.args.home.now c.args.part.now (trail_of c.args.caller.slot audit) c.args.storage.now.store c.args.storage.now.outbox) (sym c.reserve.ensures.trails) c.requires.stands

pub returns-in_err-reserve-clause-others : goal.returns-in_err-reserve-clause-others
returns-in_err-reserve-clause-others c = record {
  rows = λ other differ. refl;
  queues = λ other dc differ. refl;
  tenants = refl;
  own = refl;
  queued = refl;
  data_centres = refl;
}

pub returns-in_err-reserve-clause-room : goal.returns-in_err-reserve-clause-room
returns-in_err-reserve-clause-room c =
    let p = err_from_is_err_and c.from_residual.result c.from_residual.ensures.1 in
    subst (λ (r : Result NodeReply AllocError). OnErr r (HasPartRoom c.args.home.now c.args.part.now (trail_of c.args.caller.slot c.args.audit.now.trails))) (sym p.1)
    (open_room c.args.caller.slot c.args.home.now c.args.part.now (trail_of c.args.caller.slot c.args.audit.now.trails) c.args.storage.now.store c.args.storage.now.outbox c.is_audit_full.result c.requires.stands c.is_audit_full.ensures.full c.if-is_audit_full.false)

pub act-requires-clause-stands : goal.act-requires-clause-stands
act-requires-clause-stands c =
    raised_solo c.args.caller.slot c.max-now.result c.args.caller.moment c.args.home.now c.args.part.now (trail_of c.args.caller.slot c.args.audit.now.trails) c.args.storage.now.store c.args.storage.now.outbox c.requires.stands c.max-now.ensures

pub returns-in_err-answered-clause-stands : goal.returns-in_err-answered-clause-stands
returns-in_err-answered-clause-stands c =
    subst (λ (audit : List (List AuditEntry)). StandsForTrail c.args.caller.slot c.args.home.now (record c.args.part.now { counters = c.act.new.counters }) (trail_of c.args.caller.slot audit) c.act.new.storage.store c.act.new.storage.outbox) (sym c.reserve.ensures.trails)
    (stands_still c.args.caller.slot c.args.home.now c.args.part.now (record c.args.part.now { counters = c.act.new.counters }) (trail_of c.args.caller.slot c.args.audit.now.trails) c.args.storage.now.store c.act.new.storage.store c.args.storage.now.outbox c.act.new.storage.outbox c.requires.stands refl refl
    c.in_err-answered.ensures.err)

pub returns-in_err-answered-clause-others : goal.returns-in_err-answered-clause-others
returns-in_err-answered-clause-others c =
    nothing_done c.args.part.now.counters c.act.new.counters c.args.storage.now.store c.act.new.storage.store c.args.storage.now.outbox c.act.new.storage.outbox c.args.caller.slot c.in_err-answered.ensures.err

pub returns-in_err-answered-clause-room : goal.returns-in_err-answered-clause-room
returns-in_err-answered-clause-room c =
    let p = err_from_is_err_and c.from_residual-in_err-answered.result c.from_residual-in_err-answered.ensures.1 in
    subst (λ (r : Result NodeReply AllocError). OnErr r (HasPartRoom c.args.home.now c.args.part.now (trail_of c.args.caller.slot c.args.audit.now.trails))) (sym p.1)
    (open_room c.args.caller.slot c.args.home.now c.args.part.now (trail_of c.args.caller.slot c.args.audit.now.trails) c.args.storage.now.store c.args.storage.now.outbox c.is_audit_full.result c.requires.stands c.is_audit_full.ensures.full c.if-is_audit_full.false)

-- ---- room for the call

pub push-requires-clause-slot : goal.push-requires-clause-slot
push-requires-clause-slot c = subst (λ (audit : List (List AuditEntry)). c.args.caller.slot < length audit) (sym c.reserve.ensures.trails) c.requires.slot

-- ---- the call has its effect

abbrev next : goal.After-push → Part
next c = record c.args.part.now { moment = c.max-now.result; counters = c.act.new.counters }

-- the row has the timestamp, the call and the reply
row_is : (c : goal.After-push) → c.new-row.result ≡ record { moment = c.args.caller.moment; call = c.args.call; reply = c.in_ok-answered.answered.told }
row_is c = c.new-row.ensures ∙ ap (λ (e : Exchange). record { moment = c.args.caller.moment; call = e.call; reply = e.reply }) c.in_ok-answered.ensures.kept

pushed : (c : goal.After-push) → c.push.new.self.trails ≡ noted c.args.caller.slot (record { moment = c.args.caller.moment; call = c.args.call; reply = c.in_ok-answered.answered.told }) c.args.audit.now.trails
pushed c = c.push.ensures ∙ (λ i. noted c.args.caller.slot (row_is c i) (c.reserve.ensures.trails i))

own_calls : (c : goal.After-push) → trail_of c.args.caller.slot c.push.new.self.trails ≡ trail_of c.args.caller.slot c.args.audit.now.trails ++ record { moment = c.args.caller.moment; call = c.args.call; reply = c.in_ok-answered.answered.told } ∷ []
own_calls c = ap (trail_of c.args.caller.slot) (pushed c) ∙ trail_own c.args.caller.slot c.args.audit.now.trails (record { moment = c.args.caller.moment; call = c.args.call; reply = c.in_ok-answered.answered.told }) c.requires.slot

pub returns-clause-turn : goal.returns-clause-turn
returns-clause-turn c =
    turn_done c.args.caller.slot c.args.caller.moment c.max-now.result c.args.home.now c.args.call c.args.part.now (next c) (trail_of c.args.caller.slot c.args.audit.now.trails) (trail_of c.args.caller.slot c.push.new.self.trails) c.args.storage.now.store c.act.new.storage.store c.args.storage.now.outbox c.act.new.storage.outbox
    c.in_ok-answered.answered.told c.is_audit_full.result
    c.requires.stands c.is_audit_full.ensures.full c.if-is_audit_full.false c.max-now.ensures refl refl (own_calls c) c.in_ok-answered.ensures.done

pub returns-clause-noted : goal.returns-clause-noted
returns-clause-noted c = inr (pushed c)

pub returns-clause-stands : goal.returns-clause-stands
returns-clause-stands c =
    turn_stands c.args.caller.slot c.args.caller.moment c.max-now.result c.args.home.now c.args.call c.args.part.now (next c) (trail_of c.args.caller.slot c.args.audit.now.trails) (trail_of c.args.caller.slot c.push.new.self.trails) c.args.storage.now.store c.act.new.storage.store c.args.storage.now.outbox c.act.new.storage.outbox
    c.in_ok-answered.answered.told c.is_audit_full.result
    c.requires.stands c.is_audit_full.ensures.full c.if-is_audit_full.false c.max-now.ensures refl refl (own_calls c) c.in_ok-answered.ensures.done
