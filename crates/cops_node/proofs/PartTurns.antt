-- What one call of a slot does to what a node keeps of it.
use Rattle.std.proofs.Common.{◌≡◌, ℕ, ◌<◌, Bool, true, false, not, [], ◌∷◌, ◌++◌, length, refl, sym, ap, ◌∙◌, subst, arith, true≢false, nat_lt, max, List}
use Rattle.cops_types.specs.declared.faults.Fault.TheVariants.{AuditFull}
use Rattle.cops_types.specs.Records.{StandsFor}
use Rattle.cops_store.specs.Contents.{Contents, rows_of}
use Rattle.cops_outbox.specs.Queues.{Queues, queue_of}
use Rattle.cops_model.specs.declared.calls.AuditEntry.{AuditEntry}
use Rattle.cops_model.specs.declared.calls.NodeCall.{NodeCall}
use Rattle.cops_model.specs.declared.calls.NodeReply.{NodeReply}
use Rattle.cops_model.specs.declared.calls.NodeReply.TheVariants.{Refused}
use Rattle.cops_node.specs.declared.Terms.{Terms}
use Rattle.cops_node.specs.declared.parts.Counters.{Counters}
use Rattle.cops_node.specs.declared.parts.Part.{Part}
use Rattle.cops_node.specs.declared.Home.{Home}
use Rattle.cops_node.specs.Parts.{HasPartRoom, HasSolo, IsDone, IsPartTurn, IsUnchanged, OthersStay, StandsAt, StandsForTrail, place_under, solo_in}
use Rattle.cops_model.specs.Place.{Place}
use Rattle.cops_model.specs.SoloNode.{SoloNode}
use Rattle.cops_model.specs.Step.{CallEffect, audited, effect, node_step, unchanged}
use Rattle.cops_node.proofs.AuditLaws.{trail_of_effect}
use Rattle.cops_node.proofs.Effects.{StandsAt-raised}
use Rattle.cops_node.proofs.Slots.{StandsAt-audited, left_by-push, moment_of_effect, step_full, step_open}

-- what is kept is as it was, but for room that was made
pub nothing_done : (counters counters' : Counters) (store store' : Contents) (outbox outbox' : Queues) (slot : ℕ) → IsUnchanged counters store outbox counters' store' outbox' → OthersStay slot store outbox store' outbox'
nothing_done counters counters' store store' outbox outbox' slot same = record {
  rows = λ other differ. ap (λ rs. rows_of other (record store { rows = rs })) same.rows;
  queues = λ other dc differ. ap (queue_of other dc) same.outbox_is;
  tenants = same.tenants;
  own = ap (λ (o : Queues). o.own) same.outbox_is;
  queued = ap (λ (o : Queues). o.tenants) same.outbox_is;
  data_centres = ap (λ (o : Queues). length o.queues) same.outbox_is;
}

pub StandsAt-unchanged : (slot : ℕ) (place : Place) (counters counters' : Counters) (store store' : Contents) (outbox outbox' : Queues) (solo : SoloNode) → IsUnchanged counters store outbox counters' store' outbox'
    → StandsAt slot place counters store outbox solo → StandsAt slot place counters' store' outbox' solo
StandsAt-unchanged slot place counters counters' store store' outbox outbox' solo same h =
    subst (λ (k : Counters). StandsAt slot place k store' outbox' solo) (sym same.counters_are) (record {
      home_is = h.home_is;
      stored = subst (λ n. slot < n) (sym same.tenants) h.stored;
      queued = subst (λ (o : Queues). slot < o.tenants) (sym same.outbox_is) h.queued;
      own_is = ap (λ (o : Queues). o.own) same.outbox_is ∙ h.own_is;
      all_queues = ap (λ (o : Queues). length o.queues) same.outbox_is ∙ h.all_queues;
      rows = subst (λ rs. StandsFor rs solo.recs) (sym (ap (λ rs. rows_of slot (record store { rows = rs })) same.rows)) h.rows;
      queues = λ dc is_other. ap (queue_of slot dc) same.outbox_is ∙ h.queues dc is_other;
      all_acked = h.all_acked;
      acked = h.acked;
      clock_is = h.clock_is;
      clock_fits = h.clock_fits;
      marks = h.marks;
      late = h.late;
    })

module _ (slot : ℕ) (home : Home) (p new : Part) (calls : List AuditEntry) (store store' : Contents) (outbox outbox' : Queues) (old : StandsForTrail slot home p calls store outbox)
    (terms_are : new.terms ≡ p.terms) (moment_is : new.moment ≡ p.moment)
    (same : IsUnchanged p.counters store outbox new.counters store' outbox') where
  pub stands_still : StandsForTrail slot home new calls store' outbox'
  stands_still =
      let terms = sym terms_are in
      record {
        stands = subst (λ (q : Terms). StandsAt slot (place_under home q) new.counters store' outbox' (solo_in home q calls)) terms
            (StandsAt-unchanged slot (place_under home p.terms) p.counters new.counters store store' outbox outbox' (solo_in home p.terms calls) same old.stands);
        moment = subst (λ (q : Terms). (solo_in home q calls).moment ≡ new.moment) terms (old.moment ∙ sym moment_is);
        trail_is = subst (λ (q : Terms). (solo_in home q calls).trail ≡ calls) terms old.trail_is;
      }

-- whether the audit is full, as its calls are counted
audit_room : (slot : ℕ) (home : Home) (p : Part) (calls : List AuditEntry) (store : Contents) (outbox : Queues) → StandsForTrail slot home p calls store outbox
    → nat_lt (length (solo_in home p.terms calls).trail) p.terms.quota.audit ≡ nat_lt (length calls) p.terms.quota.audit
audit_room slot home p calls store outbox h = ap (λ t. nat_lt (length t) p.terms.quota.audit) h.trail_is

not_not : (b : Bool) → not b ≡ false → b ≡ true
not_not true h = refl
not_not false h = absurd (true≢false h)

not_yes : (b : Bool) → not b ≡ true → b ≡ false
not_yes true h = absurd (true≢false (sym h))
not_yes false h = refl

-- a full audit refuses the call
pub full_turn : (slot moment : ℕ) (home : Home) (call : NodeCall) (p : Part) (calls : List AuditEntry) (store : Contents) (outbox : Queues) (full : Bool) → StandsForTrail slot home p calls store outbox
    → full ≡ not (nat_lt (length calls) p.terms.quota.audit) → full ≡ true → IsPartTurn home p.terms moment call (Refused AuditFull) calls calls
full_turn slot moment home call p calls store outbox full h test closed =
    let turn : node_step (place_under home p.terms) moment call (solo_in home p.terms calls) ≡ unchanged (Refused AuditFull) (solo_in home p.terms calls) =
    step_full (place_under home p.terms) moment call (solo_in home p.terms calls) (audit_room slot home p calls store outbox h ∙ not_yes _ (sym test ∙ closed)) in
    (sym (ap (λ (t : CallEffect). t.reply) turn), sym (ap (λ (t : CallEffect). t.after) turn))

-- a call that is not refused for a full audit came to one that has room
pub open_room : (slot : ℕ) (home : Home) (p : Part) (calls : List AuditEntry) (store : Contents) (outbox : Queues) (full : Bool) → StandsForTrail slot home p calls store outbox
    → full ≡ not (nat_lt (length calls) p.terms.quota.audit) → full ≡ false → HasPartRoom home p calls
open_room slot home p calls store outbox full h test open_is = audit_room slot home p calls store outbox h ∙ not_not _ (sym test ∙ open_is)

-- some solo node is what the slot stands for, at the raised timestamp
pub raised_solo : (slot now moment : ℕ) (home : Home) (p : Part) (calls : List AuditEntry) (store : Contents) (outbox : Queues) → StandsForTrail slot home p calls store outbox → now ≡ max p.moment moment
    → HasSolo slot now (place_under home p.terms) p.counters store outbox
raised_solo slot now moment home p calls store outbox old now_is =
    let solo : SoloNode = solo_in home p.terms calls in
    let low = old.moment in
    (record solo { moment = now }, refl, StandsAt-raised slot (place_under home p.terms) p.counters store outbox solo now old.stands (omega arith))

-- a call that has its effect
module _ (slot moment now : ℕ) (home : Home) (call : NodeCall) (p new : Part) (calls calls' : List AuditEntry) (store store' : Contents) (outbox outbox' : Queues) (told : NodeReply) (full : Bool)
    (part : StandsForTrail slot home p calls store outbox)
    (test : full ≡ not (nat_lt (length calls) p.terms.quota.audit)) (open_is : full ≡ false) (now_is : now ≡ max p.moment moment)
    (terms_are : new.terms ≡ p.terms) (moment_is : new.moment ≡ now) (calls_are : calls' ≡ calls ++ record { moment = moment; call = call; reply = told } ∷ [])
    (done : IsDone slot now (place_under home p.terms) call told p.counters store outbox new.counters store' outbox') where
  abbrev entry : AuditEntry
  entry = record { moment = moment; call = call; reply = told }

  abbrev solo : SoloNode
  solo = solo_in home p.terms calls

  abbrev raised : SoloNode
  raised = record (solo_in home p.terms calls) { moment = max (solo_in home p.terms calls).moment moment }

  now_raised : raised.moment ≡ now
  now_raised = ap (λ n. max n moment) part.moment ∙ sym now_is

  stands_raised : StandsAt slot (place_under home p.terms) p.counters store outbox raised
  stands_raised = StandsAt-raised slot (place_under home p.terms) p.counters store outbox solo raised.moment part.stands (omega arith)

  effect_is : (told ≡ (effect (place_under home p.terms) call raised).reply) × StandsAt slot (place_under home p.terms) new.counters store' outbox' (effect (place_under home p.terms) call raised).after
  effect_is = done raised now_raised stands_raised

  turn_is : node_step (place_under home p.terms) moment call solo ≡ audited moment call (effect (place_under home p.terms) call raised)
  turn_is = step_open (place_under home p.terms) moment call solo (audit_room slot home p calls store outbox part ∙ not_not _ (sym test ∙ open_is))

  turn_after : solo_in home p.terms calls' ≡ (node_step (place_under home p.terms) moment call solo).after
  turn_after = ap (solo_in home p.terms) calls_are ∙ left_by-push (place_under home p.terms) calls entry

  after_is : solo_in home p.terms calls' ≡ (audited moment call (effect (place_under home p.terms) call raised)).after
  after_is = turn_after ∙ ap (λ (t : CallEffect). t.after) turn_is

  pub turn_stands : StandsForTrail slot home new calls' store' outbox'
  turn_stands =
      let terms = sym terms_are in
      record {
        stands = subst (λ (q : Terms). StandsAt slot (place_under home q) new.counters store' outbox' (solo_in home q calls')) terms
            (subst (λ (s : SoloNode). StandsAt slot (place_under home p.terms) new.counters store' outbox' s) (sym after_is) (StandsAt-audited slot (place_under home p.terms) new.counters store' outbox' (effect (place_under home p.terms) call raised).after _ effect_is.1));
        moment = subst (λ (q : Terms). (solo_in home q calls').moment ≡ new.moment) terms (ap (λ (s : SoloNode). s.moment) after_is ∙ moment_of_effect (place_under home p.terms) call raised ∙ now_raised ∙ sym moment_is);
        trail_is = subst (λ (q : Terms). (solo_in home q calls').trail ≡ calls') terms
            (ap (λ (s : SoloNode). s.trail) after_is
            ∙ ap (λ t. t ++ record { moment = moment; call = call; reply = (effect (place_under home p.terms) call raised).reply } ∷ []) (trail_of_effect (place_under home p.terms) call raised ∙ part.trail_is)
            ∙ ap (λ r. calls ++ record { moment = moment; call = call; reply = r } ∷ []) (sym effect_is.0)
            ∙ sym calls_are);
      }

  pub turn_done : IsPartTurn home p.terms moment call told calls calls'
  turn_done = (effect_is.0 ∙ sym (ap (λ (t : CallEffect). t.reply) turn_is), turn_after)
