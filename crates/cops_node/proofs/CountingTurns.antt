-- Calls on a node that counts them.
use Rattle.std.proofs.Common.{◌≡◌, ℕ, ◌+◌, ◌<◌, ◌≤◌, true, false, ◌∷◌, [], ◌++◌, length, max, nat_lt, refl, sym, ap, ◌∙◌, subst, arith, length-append}
use Rattle.std.proofs.lemmas.Bool.Decides.{nat_tests}
use Rattle.cops_types.specs.declared.faults.Fault.TheVariants.{AuditFull}
use Rattle.cops_store.specs.Contents.{Contents}
use Rattle.cops_outbox.specs.Queues.{Queues}
use Rattle.cops_model.specs.declared.calls.NodeCall.{NodeCall}
use Rattle.cops_model.specs.declared.calls.NodeReply.{NodeReply}
use Rattle.cops_model.specs.declared.calls.NodeReply.TheVariants.{Refused}
use Rattle.cops_node.specs.Counting.{Counting, IsCountedTurn, RepresentsSolo, place_of_counting}
use Rattle.cops_node.specs.declared.parts.Part.{Part}
use Rattle.cops_node.specs.Parts.{HasSolo, IsDone, IsUnchanged, StandsAt}
use Rattle.cops_model.specs.SoloNode.{SoloNode}
use Rattle.cops_model.specs.Step.{CallEffect, audited, effect, node_step, unchanged}
use Rattle.cops_node.proofs.AuditLaws.{trail_of_effect}
use Rattle.cops_node.proofs.Effects.{StandsAt-raised}
use Rattle.cops_node.proofs.PartTurns.{StandsAt-unchanged}
use Rattle.cops_node.proofs.Slots.{StandsAt-audited, moment_of_effect, step_full, step_open}

-- the node with this state
abbrev pub changed : Counting → Part → ℕ → Contents → Queues → Counting
changed node part calls store outbox = record { home = node.home; part = part; calls = calls; store = store; outbox = outbox }

module _ (node : Counting) where
  -- some solo node has the state at the raised timestamp
  pub raised_solo : (moment now : ℕ) → (solo : SoloNode) × RepresentsSolo node solo → now ≡ max node.part.moment moment → HasSolo 0 now (place_of_counting node) node.part.counters node.store node.outbox
  raised_solo moment now (solo, h) now_is =
      let low = h.moment in
      (record solo { moment = now }, refl, StandsAt-raised 0 (place_of_counting node) node.part.counters node.store node.outbox solo now h.stands (omega arith))

  -- after as many calls as the audit may have
  pub full_turn : (moment : ℕ) (call : NodeCall) (solo : SoloNode) → RepresentsSolo node solo → node.part.terms.quota.audit ≤ node.calls → IsCountedTurn moment call (Refused AuditFull) node solo node
  full_turn moment call solo h many =
      let counted = h.counted in
      let closed : nat_lt (length solo.trail) (place_of_counting node).quota.audit ≡ false = grind (arith, nat_tests) in
      let turn = step_full (place_of_counting node) moment call solo closed in
      record {
        reply_is = sym (ap (λ (t : CallEffect). t.reply) turn);
        after = subst (RepresentsSolo node) (sym (ap (λ (t : CallEffect). t.after) turn)) h;
      }

  module _ (part : Part) (store : Contents) (outbox : Queues) (terms_are : part.terms ≡ node.part.terms) where
    -- memory ran out
    pub nothing_changed : (solo : SoloNode) → part.moment ≡ node.part.moment → IsUnchanged node.part.counters node.store node.outbox part.counters store outbox → RepresentsSolo node solo → RepresentsSolo (changed node part node.calls store outbox) solo
    nothing_changed solo moment_is same h = record {
      stands = subst (λ t. StandsAt 0 (place_of_counting (changed node (record part { terms = t }) node.calls store outbox)) part.counters store outbox solo) (sym terms_are)
          (StandsAt-unchanged 0 (place_of_counting node) node.part.counters part.counters node.store store node.outbox outbox solo same h.stands);
      moment = h.moment ∙ sym moment_is;
      counted = h.counted;
    }

    -- a call that has its effect
    pub open_turn : (moment now : ℕ) (call : NodeCall) (told : NodeReply) (solo : SoloNode) → RepresentsSolo node solo → node.calls < node.part.terms.quota.audit → now ≡ max node.part.moment moment → part.moment ≡ now →
        IsDone 0 now (place_of_counting node) call told node.part.counters node.store node.outbox part.counters store outbox → IsCountedTurn moment call told node solo (changed node part (node.calls + 1) store outbox)
    open_turn moment now call told solo h few now_is moment_is done =
        let counted = h.counted in
        let room : nat_lt (length solo.trail) (place_of_counting node).quota.audit ≡ true = grind (arith, nat_tests) in
        let raised : SoloNode = record solo { moment = max solo.moment moment } in
        let now_raised : raised.moment ≡ now = ap (λ n. max n moment) h.moment ∙ sym now_is in
        let left : CallEffect = effect (place_of_counting node) call raised in
        let is = done raised now_raised (StandsAt-raised 0 (place_of_counting node) node.part.counters node.store node.outbox solo raised.moment h.stands (omega arith)) in
        let turn = step_open (place_of_counting node) moment call solo room in
        record {
          reply_is = is.0 ∙ sym (ap (λ (t : CallEffect). t.reply) turn);
          after = subst (RepresentsSolo (changed node part (node.calls + 1) store outbox)) (sym (ap (λ (t : CallEffect). t.after) turn)) (record {
            stands = subst (λ t. StandsAt 0 (place_of_counting (changed node (record part { terms = t }) node.calls store outbox)) part.counters store outbox (audited moment call left).after) (sym terms_are)
                (StandsAt-audited 0 (place_of_counting node) part.counters store outbox left.after _ is.1);
            moment = moment_of_effect (place_of_counting node) call raised ∙ now_raised ∙ sym moment_is;
            counted = length-append left.after.trail (record { moment = moment; call = call; reply = left.reply } ∷ []) ∙ ap (λ t. length t + 1) (trail_of_effect (place_of_counting node) call raised) ∙ ap (λ n. n + 1) counted;
          });
        }
