use Rattle.std.proofs.Common.{◌+◌, ◌∙◌, ap, sym, nat_lt, length}
use Rattle.std.specs.Prelude.{Some, None, if◌then◌else◌}
use Rattle.cops_types.specs.declared.faults.Fault.TheVariants.{OutboxFull}
use Rattle.cops_types.specs.Records.{records_in_use, bytes_in_use}
use Rattle.cops_node.specs.Parts.{place_under}
use Rattle.cops_model.specs.Step.{is_outbox_full}
use Rattle.cops_node.proofs.Effects.{full_is, quota_refuses, quota_allows, refused_put, version_found}
use Rattle.cops_node.proofs.puts.version_for.Goals as goal

pub returns-in-Some-clause-refused : goal.returns-in-Some-clause-refused
returns-in-Some-clause-refused c = rw (← c.owned.ensures) (λ solo h near.
    let version = version_found c.args.slot (place_under c.args.home.now c.args.terms.now) c.args.counters.now c.args.storage.now.store c.args.storage.now.outbox solo c.args.put.now.deps c.in_ok-version.version h c.in_ok-version.ensures in
    refused_put (place_under c.args.home.now c.args.terms.now) solo c.args.put.now.key c.owned.result.now c.args.put.now.deps near c.in_ok-version.version c.in-Some.fault version
    (quota_refuses (nat_lt c.args.terms.now.quota.versions (records_in_use solo.recs + 1)) (nat_lt c.args.terms.now.quota.bytes (bytes_in_use solo.recs + (length c.args.put.now.key + length c.owned.result.now))) (is_outbox_full (place_under c.args.home.now c.args.terms.now) solo) c.in-Some.fault (c.in-Some.ensures.records solo.recs h.rows)))

pub returns-then-is_full-clause-refused : goal.returns-then-is_full-clause-refused
returns-then-is_full-clause-refused c = rw (← c.owned.ensures) (λ solo h near.
    let version = version_found c.args.slot (place_under c.args.home.now c.args.terms.now) c.args.counters.now c.args.storage.now.store c.args.storage.now.outbox solo c.args.put.now.deps c.in_ok-version.version h c.in_ok-version.ensures in
    refused_put (place_under c.args.home.now c.args.terms.now) solo c.args.put.now.key c.owned.result.now c.args.put.now.deps near c.in_ok-version.version OutboxFull version
    (quota_allows (nat_lt c.args.terms.now.quota.versions (records_in_use solo.recs + 1)) (nat_lt c.args.terms.now.quota.bytes (bytes_in_use solo.recs + (length c.args.put.now.key + length c.owned.result.now))) (is_outbox_full (place_under c.args.home.now c.args.terms.now) solo) (c.in_default.ensures.records solo.recs h.rows)
    ∙ ap (λ b. if b then Some OutboxFull else None) (sym (full_is c.args.slot (place_under c.args.home.now c.args.terms.now) c.args.counters.now c.args.storage.now.store c.args.storage.now.outbox solo h) ∙ sym c.is_full.ensures ∙ c.if-is_full.true)))

pub returns-clause-unrefused : goal.returns-clause-unrefused
returns-clause-unrefused c = rw (← c.owned.ensures) (λ solo h.
    quota_allows (nat_lt c.args.terms.now.quota.versions (records_in_use solo.recs + 1)) (nat_lt c.args.terms.now.quota.bytes (bytes_in_use solo.recs + (length c.args.put.now.key + length c.owned.result.now))) (is_outbox_full (place_under c.args.home.now c.args.terms.now) solo) (c.in_default.ensures.records solo.recs h.rows)
    ∙ ap (λ b. if b then Some OutboxFull else None) (sym (full_is c.args.slot (place_under c.args.home.now c.args.terms.now) c.args.counters.now c.args.storage.now.store c.args.storage.now.outbox solo h) ∙ sym c.is_full.ensures ∙ c.if-is_full.false))
