use Rattle.std.proofs.Common.{◌∙◌, ap, sym, subst}
use Rattle.cops_types.specs.Records.{mark}
use Rattle.cops_types.specs.Version.{Timestamp, version_le, version_eq}
use Rattle.cops_store.specs.Contents.{LacksVersion, rows_in}
use Rattle.cops_model.specs.declared.calls.NodeReply.TheVariants.{OutOfOrder}
use Rattle.cops_node.specs.Parts.{StandsAt, place_under}
use Rattle.cops_model.specs.Place.{is_home, is_other_equivalent}
use Rattle.cops_model.specs.Step.{CallEffect, commit_refusal}
use Rattle.cops_node.proofs.Stored.{commit_is_new, commit_out_of_order, commit_refused, commit_done, next_is, not_true, not_false, equivalent_of}
use Rattle.cops_node.proofs.commits.commit.Goals as goal

pub returns-then-ne-clause-done : goal.returns-then-ne-clause-done
returns-then-ne-clause-done c = λ outbox solo moment h.
    let entry = c.args.entry in
    let above = ap (λ (v : Timestamp). version_le v (mark v.node solo.recs)) (sym c.version.ensures) ∙ sym (c.was_committed.ensures solo.recs h.marks) ∙ c.if-was_committed.false in
    let last = c.mark_for-mark.ensures solo.recs h.marks in
    let next = next_is (record entry { prev = c.prev-prev.result }) entry c.mark_for-mark.result c.version-2.result solo.recs (λ i. record entry { prev = c.prev-prev.ensures i }) c.version-2.ensures last ∙ not_true (version_eq c.prev-prev.result c.mark_for-mark.result) (sym c.ne.ensures ∙ c.if-ne.true) in
    let turn = commit_out_of_order (place_under c.args.home.now c.args.terms.now) solo entry (OutOfOrder c.mark_for-mark.result) above next (ap OutOfOrder (last ∙ ap (λ (v : Timestamp). mark v.node solo.recs) c.version-2.ensures)) in
    (ap (λ (t : CallEffect). t.reply) turn, subst (λ (t : CallEffect). StandsAt c.args.caller.slot (place_under c.args.home.now c.args.terms.now) c.args.counters.now c.args.store.now outbox t.after) turn h)

pub returns-in-Some-clause-done : goal.returns-in-Some-clause-done
returns-in-Some-clause-done c = λ outbox solo moment h.
    let entry = c.args.entry in
    let above = ap (λ (v : Timestamp). version_le v (mark v.node solo.recs)) (sym c.version.ensures) ∙ sym (c.was_committed.ensures solo.recs h.marks) ∙ c.if-was_committed.false in
    let last = c.mark_for-mark.ensures solo.recs h.marks in
    let next = next_is (record entry { prev = c.prev-prev.result }) entry c.mark_for-mark.result c.version-2.result solo.recs (λ i. record entry { prev = c.prev-prev.ensures i }) c.version-2.ensures last ∙ not_false (version_eq c.prev-prev.result c.mark_for-mark.result) (sym c.ne.ensures ∙ c.if-ne.false) in
    let turn = commit_refused (place_under c.args.home.now c.args.terms.now) solo entry c.in-Some.fault above next ((λ i. commit_refusal (place_under c.args.home.now c.args.terms.now) solo (record entry { key = sym c.key-key.ensures i; value = sym c.value.ensures i })) ∙ sym (c.in-Some.ensures.records solo.recs h.rows)) in
    (c.in_ok-answered.ensures.told ∙ ap (λ (t : CallEffect). t.reply) turn, subst (λ (t : CallEffect). StandsAt c.args.caller.slot (place_under c.args.home.now c.args.terms.now) c.args.counters.now c.args.store.now outbox t.after) turn h)

pub keep-requires-clause-new_version : goal.keep-requires-clause-new_version
keep-requires-clause-new_version c =
    let outbox = c.requires.stands.0 in
    let solo = c.requires.stands.1.0 in
    let h = c.requires.stands.1.2 in
    let above = ap (λ (v : Timestamp). version_le v (mark v.node solo.recs)) (sym c.version.ensures) ∙ sym (c.was_committed.ensures solo.recs h.marks) ∙ c.if-was_committed.false in
    subst (λ rs. LacksVersion c.args.entry.key c.args.entry.version (rows_in c.args.caller.slot rs)) (sym c.reserve.ensures.rows)
    (commit_is_new c.args.caller.slot (place_under c.args.home.now c.args.terms.now) c.args.counters.now c.args.store.now outbox solo c.args.entry h above)

pub returns-clause-done : goal.returns-clause-done
returns-clause-done c = λ outbox solo moment h.
    let entry = c.args.entry in
    let above = ap (λ (v : Timestamp). version_le v (mark v.node solo.recs)) (sym c.version.ensures) ∙ sym (c.was_committed.ensures solo.recs h.marks) ∙ c.if-was_committed.false in
    let last = c.mark_for-mark.ensures solo.recs h.marks in
    let next = next_is (record entry { prev = c.prev-prev.result }) entry c.mark_for-mark.result c.version-2.result solo.recs (λ i. record entry { prev = c.prev-prev.ensures i }) c.version-2.ensures last ∙ not_false (version_eq c.prev-prev.result c.mark_for-mark.result) (sym c.ne.ensures ∙ c.if-ne.false) in
    commit_done c.args.caller.slot c.args.caller.moment (place_under c.args.home.now c.args.terms.now) c.args.counters.now c.keep.new.counters c.args.store.now c.reserve.new.self c.keep.new.store outbox solo entry c.args.entry moment h above next
    ((λ i. commit_refusal (place_under c.args.home.now c.args.terms.now) solo (record entry { key = sym c.key-key.ensures i; value = sym c.value.ensures i })) ∙ sym (c.in_default.ensures.records solo.recs h.rows))
    (equivalent_of (is_home (place_under c.args.home.now c.args.terms.now) entry.key) (is_other_equivalent (place_under c.args.home.now c.args.terms.now) entry.version.node) c.requires.fits)
    (λ _. c.args.entry) c.reserve.ensures.rows c.reserve.ensures.tenants c.keep.ensures.stands_for c.keep.ensures.tenants c.keep.ensures.fits c.keep.ensures.clock c.keep.ensures.marks
