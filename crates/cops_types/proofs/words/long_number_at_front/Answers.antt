use Rattle.std.proofs.Common.{◌≡◌, ap, ◌∙◌}
use Rattle.std.specs.Prelude.{decimal, Some}
use Rattle.cops_types.specs.Words.{number_of, space}
use Rattle.cops_types.proofs.FrontWords.{no_front, same_front}
use Rattle.cops_types.proofs.WordLemmas.{decimal_lacks, lacks_space, number_of-decimal, space_foreign}
use Rattle.cops_types.proofs.words.long_number_at_front.Goals as goal

pub returns-in_err-word-clause-none : goal.returns-in_err-word-clause-none
returns-in_err-word-clause-none c =
    rw c.from_residual.ensures (λ n rest is e. no_front c.args.bytes.now (decimal n) rest c.in_err-word.ensures.none (decimal_lacks space space_foreign n is) e)

pub returns-in_err-number-clause-none : goal.returns-in_err-number-clause-none
returns-in_err-number-clause-none c =
    let parts = c.in_ok-word.ensures.some in
    let word = c.in_ok-word.word.now in
    rw c.from_residual-in_err-number.ensures (λ n rest is e.
    let same = same_front c.args.bytes.now word c.in_ok-word.rest.now (decimal n) rest (lacks_space word parts.0) (decimal_lacks space space_foreign n is) parts.1 e in
    let written : number_of word ≡ Some n = ap number_of same ∙ number_of-decimal n is in
    let none = c.in_err-number.ensures in
    cc)
