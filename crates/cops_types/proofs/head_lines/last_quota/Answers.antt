use Rattle.std.proofs.Common.{◌≡◌, ◌∷◌, [], ◌∙◌}
use Rattle.std.specs.Prelude.{decimal}
use Rattle.cops_types.specs.declared.quotas.Quota.{Quota}
use Rattle.cops_types.specs.HeadLines.{is_quota}
use Rattle.cops_types.proofs.HeadReading.{not_both, quota_fits, same_number, something_left}
use Rattle.cops_types.proofs.head_lines.last_quota.Goals as goal

pub returns-in_err-next_number-clause-none : goal.returns-in_err-next_number-clause-none
returns-in_err-next_number-clause-none c = rw c.from_residual.ensures (λ quota is e.
    let left : c.args.words.now ≡ decimal quota.versions ∷ decimal quota.bytes ∷ decimal quota.outbox ∷ decimal quota.contexts ∷ decimal quota.deps ∷ decimal quota.actors ∷ decimal quota.audit ∷ [] = cc (e) in
    c.in_err-next_number.ensures.none quota.versions (decimal quota.bytes ∷ decimal quota.outbox ∷ decimal quota.contexts ∷ decimal quota.deps ∷ decimal quota.actors ∷ decimal quota.audit ∷ []) (quota_fits quota is).versions left)

pub returns-in_err-next_number-2-clause-none : goal.returns-in_err-next_number-2-clause-none
returns-in_err-next_number-2-clause-none c = rw c.from_residual-in_err-next_number-2.ensures (λ quota is e.
    let left : c.next_number.new.words ≡ decimal quota.bytes ∷ decimal quota.outbox ∷ decimal quota.contexts ∷ decimal quota.deps ∷ decimal quota.actors ∷ decimal quota.audit ∷ [] = cc (e, c.in_ok-next_number.ensures.some) in
    c.in_err-next_number-2.ensures.none quota.bytes (decimal quota.outbox ∷ decimal quota.contexts ∷ decimal quota.deps ∷ decimal quota.actors ∷ decimal quota.audit ∷ []) (quota_fits quota is).bytes left)

pub returns-in_err-next_number-3-clause-none : goal.returns-in_err-next_number-3-clause-none
returns-in_err-next_number-3-clause-none c = rw c.from_residual-in_err-next_number-3.ensures (λ quota is e.
    let left : c.next_number-2.new.words ≡ decimal quota.outbox ∷ decimal quota.contexts ∷ decimal quota.deps ∷ decimal quota.actors ∷ decimal quota.audit ∷ [] = cc (e, c.in_ok-next_number.ensures.some, c.in_ok-next_number-2.ensures.some) in
    c.in_err-next_number-3.ensures.none quota.outbox (decimal quota.contexts ∷ decimal quota.deps ∷ decimal quota.actors ∷ decimal quota.audit ∷ []) (quota_fits quota is).outbox left)

pub returns-in_err-next_number-4-clause-none : goal.returns-in_err-next_number-4-clause-none
returns-in_err-next_number-4-clause-none c = rw c.from_residual-in_err-next_number-4.ensures (λ quota is e.
    let left : c.next_number-3.new.words ≡ decimal quota.contexts ∷ decimal quota.deps ∷ decimal quota.actors ∷ decimal quota.audit ∷ [] = cc (e, c.in_ok-next_number.ensures.some, c.in_ok-next_number-2.ensures.some, c.in_ok-next_number-3.ensures.some) in
    c.in_err-next_number-4.ensures.none quota.contexts (decimal quota.deps ∷ decimal quota.actors ∷ decimal quota.audit ∷ []) (quota_fits quota is).contexts left)

pub returns-in_err-next_number-5-clause-none : goal.returns-in_err-next_number-5-clause-none
returns-in_err-next_number-5-clause-none c = rw c.from_residual-in_err-next_number-5.ensures (λ quota is e.
    let left : c.next_number-4.new.words ≡ decimal quota.deps ∷ decimal quota.actors ∷ decimal quota.audit ∷ [] = cc (e, c.in_ok-next_number.ensures.some, c.in_ok-next_number-2.ensures.some, c.in_ok-next_number-3.ensures.some, c.in_ok-next_number-4.ensures.some) in
    c.in_err-next_number-5.ensures.none quota.deps (decimal quota.actors ∷ decimal quota.audit ∷ []) (quota_fits quota is).deps left)

pub returns-in_err-next_number-6-clause-none : goal.returns-in_err-next_number-6-clause-none
returns-in_err-next_number-6-clause-none c = rw c.from_residual-in_err-next_number-6.ensures (λ quota is e.
    let left : c.next_number-5.new.words ≡ decimal quota.actors ∷ decimal quota.audit ∷ [] = cc (e, c.in_ok-next_number.ensures.some, c.in_ok-next_number-2.ensures.some, c.in_ok-next_number-3.ensures.some, c.in_ok-next_number-4.ensures.some, c.in_ok-next_number-5.ensures.some) in
    c.in_err-next_number-6.ensures.none quota.actors (decimal quota.audit ∷ []) (quota_fits quota is).actors left)

pub returns-in_err-next_number-7-clause-none : goal.returns-in_err-next_number-7-clause-none
returns-in_err-next_number-7-clause-none c = rw c.from_residual-in_err-next_number-7.ensures (λ quota is e.
    let left : c.next_number-6.new.words ≡ decimal quota.audit ∷ [] = cc (e, c.in_ok-next_number.ensures.some, c.in_ok-next_number-2.ensures.some, c.in_ok-next_number-3.ensures.some, c.in_ok-next_number-4.ensures.some, c.in_ok-next_number-5.ensures.some, c.in_ok-next_number-6.ensures.some) in
    c.in_err-next_number-7.ensures.none quota.audit ([]) (quota_fits quota is).audit left)

pub returns-then-not-is_empty-clause-none : goal.returns-then-not-is_empty-clause-none
returns-then-not-is_empty-clause-none c = λ quota is e.
    let left : c.next_number-7.new.words ≡ [] = cc (e, c.in_ok-next_number.ensures.some, c.in_ok-next_number-2.ensures.some, c.in_ok-next_number-3.ensures.some, c.in_ok-next_number-4.ensures.some, c.in_ok-next_number-5.ensures.some, c.in_ok-next_number-6.ensures.some, c.in_ok-next_number-7.ensures.some) in
    something_left c.next_number-7.new.words c.is_empty.result c.is_empty.ensures c.if-not-is_empty.true left

pub returns-then-not-is_quota-clause-none : goal.returns-then-not-is_quota-clause-none
returns-then-not-is_quota-clause-none c = λ quota is e.
    let fits = quota_fits quota is in
    let e1 : decimal c.in_ok-next_number.field-0 ≡ decimal quota.versions = cc (e, c.in_ok-next_number.ensures.some) in
    let s1 = same_number c.in_ok-next_number.field-0 quota.versions c.in_ok-next_number.ensures.small fits.versions e1 in
    let e2 : decimal c.in_ok-next_number-2.field-0 ≡ decimal quota.bytes = cc (e, c.in_ok-next_number.ensures.some, c.in_ok-next_number-2.ensures.some) in
    let s2 = same_number c.in_ok-next_number-2.field-0 quota.bytes c.in_ok-next_number-2.ensures.small fits.bytes e2 in
    let e3 : decimal c.in_ok-next_number-3.field-0 ≡ decimal quota.outbox = cc (e, c.in_ok-next_number.ensures.some, c.in_ok-next_number-2.ensures.some, c.in_ok-next_number-3.ensures.some) in
    let s3 = same_number c.in_ok-next_number-3.field-0 quota.outbox c.in_ok-next_number-3.ensures.small fits.outbox e3 in
    let e4 : decimal c.in_ok-next_number-4.field-0 ≡ decimal quota.contexts = cc (e, c.in_ok-next_number.ensures.some, c.in_ok-next_number-2.ensures.some, c.in_ok-next_number-3.ensures.some, c.in_ok-next_number-4.ensures.some) in
    let s4 = same_number c.in_ok-next_number-4.field-0 quota.contexts c.in_ok-next_number-4.ensures.small fits.contexts e4 in
    let e5 : decimal c.in_ok-next_number-5.field-0 ≡ decimal quota.deps = cc (e, c.in_ok-next_number.ensures.some, c.in_ok-next_number-2.ensures.some, c.in_ok-next_number-3.ensures.some, c.in_ok-next_number-4.ensures.some, c.in_ok-next_number-5.ensures.some) in
    let s5 = same_number c.in_ok-next_number-5.field-0 quota.deps c.in_ok-next_number-5.ensures.small fits.deps e5 in
    let e6 : decimal c.in_ok-next_number-6.field-0 ≡ decimal quota.actors = cc (e, c.in_ok-next_number.ensures.some, c.in_ok-next_number-2.ensures.some, c.in_ok-next_number-3.ensures.some, c.in_ok-next_number-4.ensures.some, c.in_ok-next_number-5.ensures.some, c.in_ok-next_number-6.ensures.some) in
    let s6 = same_number c.in_ok-next_number-6.field-0 quota.actors c.in_ok-next_number-6.ensures.small fits.actors e6 in
    let e7 : decimal c.in_ok-next_number-7.field-0 ≡ decimal quota.audit = cc (e, c.in_ok-next_number.ensures.some, c.in_ok-next_number-2.ensures.some, c.in_ok-next_number-3.ensures.some, c.in_ok-next_number-4.ensures.some, c.in_ok-next_number-5.ensures.some, c.in_ok-next_number-6.ensures.some, c.in_ok-next_number-7.ensures.some) in
    let s7 = same_number c.in_ok-next_number-7.field-0 quota.audit c.in_ok-next_number-7.ensures.small fits.audit e7 in
    not_both c.is_quota.result c.if-not-is_quota.true (c.is_quota.ensures ∙ (λ i. let read : Quota = record { versions = s1 i; bytes = s2 i; outbox = s3 i; contexts = s4 i; deps = s5 i; actors = s6 i; audit = s7 i } in is_quota read) ∙ is)
