use Rattle.std.proofs.Common.{◌≡◌, ◌∷◌, [], true, refl, sym, ◌∙◌, ap, arith}
use Rattle.std.specs.Prelude.{decimal}
use Rattle.uuid.specs.Text.{parsed}
use Rattle.cops_types.specs.HeadWords.{quota_words}
use Rattle.cops_types.specs.Key.{is_name}
use Rattle.cops_types.proofs.HeadLemmas.{tenant_fits}
use Rattle.cops_types.proofs.HeadReading.{clock_within, is_tenant-made, name_of_made, no_token, quota_of_tenant, same_number}
use Rattle.cops_types.proofs.SlotLemmas.{no_name}
use Rattle.cops_types.proofs.head_lines.last_tenant.Goals as goal

pub returns-in_err-next_word-clause-none : goal.returns-in_err-next_word-clause-none
returns-in_err-next_word-clause-none c = rw c.from_residual.ensures (λ tenant is.
    let left : c.args.words.now ≡ tenant.name ∷ is.token ∷ decimal tenant.first_clock ∷ quota_words tenant.quota = cc is.spelled in
    let none : c.args.words.now ≡ [] = c.in_err-next_word.ensures.0 in
    cc)

pub returns-in_default-clause-none : goal.returns-in_default-clause-none
returns-in_default-clause-none c = λ tenant is.
    let name : c.in_ok-next_word.field-0.now ≡ tenant.name = cc (is.spelled, c.in_ok-next_word.ensures) in
    let named : is_name c.in_ok-next_word.field-0.now ≡ true = ap is_name name ∙ (tenant_fits c.args.last_clock (omega arith) tenant is.within).name in
    let none = no_name c.in_ok-next_word.field-0.now c.in_default.field-0 (is_name c.in_ok-next_word.field-0.now) refl (sym c.new.ensures ∙ c.in_default.is) in
    cc

pub returns-in_err-next_word-2-clause-none : goal.returns-in_err-next_word-2-clause-none
returns-in_err-next_word-2-clause-none c = rw c.from_residual-in_err-next_word-2.ensures (λ tenant is.
    let left : c.next_word.new.self ≡ is.token ∷ decimal tenant.first_clock ∷ quota_words tenant.quota = cc (is.spelled, c.in_ok-next_word.ensures) in
    let none : c.next_word.new.self ≡ [] = c.in_err-next_word-2.ensures.0 in
    cc)

pub returns-in_default-try_parse_ascii-clause-none : goal.returns-in_default-try_parse_ascii-clause-none
returns-in_default-try_parse_ascii-clause-none c = λ tenant is.
    let token : c.in_ok-next_word-2.field-0.now ≡ is.token = cc (is.spelled, c.in_ok-next_word.ensures, c.in_ok-next_word-2.ensures) in
    no_token c.try_parse_ascii.result c.in_default-try_parse_ascii.field-0 c.in_ok-next_word-2.field-0.now tenant.token c.try_parse_ascii.ensures.ok c.in_default-try_parse_ascii.is (ap parsed token ∙ is.parses)

pub returns-in_err-first_clock-clause-none : goal.returns-in_err-first_clock-clause-none
returns-in_err-first_clock-clause-none c = rw c.from_residual-in_err-first_clock.ensures (λ tenant is.
    let left : c.next_word-2.new.self ≡ decimal tenant.first_clock ∷ quota_words tenant.quota = cc (is.spelled, c.in_ok-next_word.ensures, c.in_ok-next_word-2.ensures) in
    c.in_err-first_clock.ensures.none tenant.first_clock (quota_words tenant.quota) (tenant_fits c.args.last_clock (omega arith) tenant is.within).first_clock left)

pub returns-then-first_clock-last_clock-clause-none : goal.returns-then-first_clock-last_clock-clause-none
returns-then-first_clock-last_clock-clause-none c = λ tenant is.
    let clock : decimal c.in_ok-first_clock.first_clock ≡ decimal tenant.first_clock = cc (is.spelled, c.in_ok-next_word.ensures, c.in_ok-next_word-2.ensures, c.in_ok-first_clock.ensures.some) in
    let same = same_number c.in_ok-first_clock.first_clock tenant.first_clock c.in_ok-first_clock.ensures.small (tenant_fits c.args.last_clock (omega arith) tenant is.within).first_clock clock in
    omega (arith, same, clock_within c.args.last_clock tenant is.within, c.if-first_clock-last_clock.true)

pub returns-in_err-quota-clause-none : goal.returns-in_err-quota-clause-none
returns-in_err-quota-clause-none c = rw c.from_residual-in_err-quota.ensures (λ tenant is.
    let left : c.next_number.new.words ≡ quota_words tenant.quota = cc (is.spelled, c.in_ok-next_word.ensures, c.in_ok-next_word-2.ensures, c.in_ok-first_clock.ensures.some) in
    c.in_err-quota.ensures.none tenant.quota (quota_of_tenant c.args.last_clock tenant is.within) left)

pub returns-clause-some : goal.returns-clause-some
returns-clause-some c =
    let name = name_of_made c.in_ok-next_word.field-0.now c.in-Ok.name (sym c.new.ensures ∙ c.in-Ok.is) in
    let quota = c.in_ok-quota.ensures.some in
    record {
      token = c.in_ok-next_word-2.field-0.now;
      spelled = cc (name.0, quota.0, c.in_ok-next_word.ensures, c.in_ok-next_word-2.ensures, c.in_ok-first_clock.ensures.some);
      parses = sym c.in-Ok-try_parse_ascii.ensures.bytes;
      within = is_tenant-made c.args.last_clock c.in-Ok.name c.in-Ok-try_parse_ascii.token c.in_ok-first_clock.first_clock c.in_ok-quota.quota name.1 c.if-first_clock-last_clock.false quota.1;
    }
