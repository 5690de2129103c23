use Rattle.std.proofs.Common.{◌≡◌, ◌∷◌, [], sym, ◌∙◌, arith}
use Rattle.std.specs.Prelude.{codes}
use Rattle.cops_types.specs.HeadWords.{tenant_words}
use Rattle.cops_types.specs.Words.{parts_at, space}
use Rattle.cops_types.proofs.HeadReading.{none_so, other_word, same_word, some_so, tenant_parts, tenant_spelled, words_of_tenant}
use Rattle.cops_types.proofs.head_lines.tenant_of.Goals as goal

pub returns-in_err-next_word-clause-none : goal.returns-in_err-next_word-clause-none
returns-in_err-next_word-clause-none c = rw c.from_residual.ensures (λ tenant is.
    let words : c.of-words.result ≡ tenant_words is.token tenant = c.of-words.ensures ∙ tenant_parts c.args.last_clock (omega arith) c.args.line.now tenant is in
    let none : c.of-words.result ≡ [] = c.in_err-next_word.ensures.0 in
    cc)

pub returns-then-ne-clause-none : goal.returns-then-ne-clause-none
returns-then-ne-clause-none c = λ tenant is.
    let words : c.of-words.result ≡ tenant_words is.token tenant = c.of-words.ensures ∙ tenant_parts c.args.last_clock (omega arith) c.args.line.now tenant is in
    let first : c.in_ok-next_word.field-0.now ≡ codes "tenant" = cc (words, c.in_ok-next_word.ensures) in
    other_word c.in_ok-next_word.field-0.now (codes "tenant") c.as_slice.result.now c.ne.result c.ne.ensures c.as_slice.ensures c.if-ne.true first

pub returns-clause-some : goal.returns-clause-some
returns-clause-some c =
    let first = same_word c.in_ok-next_word.field-0.now (codes "tenant") c.as_slice.result.now c.ne.result c.ne.ensures c.as_slice.ensures c.if-ne.false in
    let words : parts_at space c.args.line.now ≡ codes "tenant" ∷ c.next_word.new.self = cc (c.of-words.ensures, first, c.in_ok-next_word.ensures) in
    some_so c.last_tenant.result (λ tenant are. tenant_spelled c.args.last_clock c.args.line.now c.next_word.new.self tenant words are) c.last_tenant.ensures.some

pub returns-clause-none : goal.returns-clause-none
returns-clause-none c =
    let words : parts_at space c.args.line.now ≡ c.in_ok-next_word.field-0.now ∷ c.next_word.new.self = sym c.of-words.ensures ∙ c.in_ok-next_word.ensures in
    none_so c.last_tenant.result (λ none tenant is. none tenant (words_of_tenant c.args.last_clock (omega arith) c.args.line.now c.in_ok-next_word.field-0.now c.next_word.new.self tenant words is)) c.last_tenant.ensures.none
