use Rattle.std.proofs.Common.{◌≡◌, ◌∷◌, [], ◌∙◌}
use Rattle.std.specs.Prelude.{codes}
use Rattle.cops_types.specs.Words.{parts_at, space}
use Rattle.cops_types.proofs.HeadReading.{other_word, same_word}
use Rattle.cops_script.proofs.HostLineLemmas.{admission_found, admits_none, words_admitted}
use Rattle.cops_script.proofs.host_lines.read_admission.Goals as goal

pub returns-in_err-next_word-clause-value : goal.returns-in_err-next_word-clause-value
returns-in_err-next_word-clause-value c = c.from_residual.ensures ∙ admits_none c.args.line.now (λ tenant e.
    let given = words_admitted c.args.line.now tenant e in
    let words : c.of-words.result ≡ codes "+" ∷ given.0 = c.of-words.ensures ∙ given.1 in
    let none : c.of-words.result ≡ [] = c.in_err-next_word.ensures.0 in
    cc)

pub returns-then-ne-clause-value : goal.returns-then-ne-clause-value
returns-then-ne-clause-value c = admits_none c.args.line.now (λ tenant e.
    let given = words_admitted c.args.line.now tenant e in
    let words : c.of-words.result ≡ codes "+" ∷ given.0 = c.of-words.ensures ∙ given.1 in
    let first : c.in_ok-next_word.field-0.now ≡ codes "+" = cc (words, c.in_ok-next_word.ensures) in
    other_word c.in_ok-next_word.field-0.now (codes "+") c.as_slice.result.now c.ne.result c.ne.ensures c.as_slice.ensures c.if-ne.true first)

pub returns-clause-value : goal.returns-clause-value
returns-clause-value c =
    let first = same_word c.in_ok-next_word.field-0.now (codes "+") c.as_slice.result.now c.ne.result c.ne.ensures c.as_slice.ensures c.if-ne.false in
    let words : parts_at space c.args.line.now ≡ codes "+" ∷ c.next_word.new.self = cc (c.of-words.ensures, first, c.in_ok-next_word.ensures) in
    admission_found c.args.line.now c.last_tenant.result c.next_word.new.self words c.last_tenant.ensures.some c.last_tenant.ensures.none
