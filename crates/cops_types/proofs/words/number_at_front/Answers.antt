use Rattle.std.proofs.Common.{◌≡◌, ◌<◌, ◌++◌, ◌∷◌, ap, false, get_or, length, nat_lt, sym, take, ◌∙◌, arith, length-take-le}
use Rattle.std.specs.Prelude.{◌==◌, ◌&&◌, decimal, Some}
use Rattle.std.proofs.lemmas.Bool.Decides.{nat_tests}
use Rattle.cops_types.specs.Words.{number_of}
use Rattle.cops_types.proofs.FrontWords.{decimal_filled, number_ends, word_front, zero_ends}
use Rattle.cops_types.proofs.NumberLemmas.{read_whole}
use Rattle.cops_types.proofs.WordLemmas.{number_written}
use Rattle.cops_types.proofs.words.number_at_front.Goals as goal

pub returns-then-len-eq0-clause-none : goal.returns-then-len-eq0-clause-none
returns-then-len-eq0-clause-none c =
    let front = c.digits_at_front-value.ensures in
    λ n rest is e.
    let size = number_ends c.args.bytes.now c.digits_at_front-value.result.1 front.digits (omega arith) front.ends n rest is e in
    omega (arith, size, decimal_filled n is, c.if-len-eq0.true)

pub returns-then-has_leading_zero-clause-none : goal.returns-then-has_leading_zero-clause-none
returns-then-has_leading_zero-clause-none c =
    let bytes = c.args.bytes.now in
    let len = c.digits_at_front-value.result.1 in
    let front = c.digits_at_front-value.ensures in
    λ n rest is e.
    let size = number_ends bytes len front.digits (omega arith) front.ends n rest is e in
    zero_ends (take len bytes) n is (sym c.has_leading_zero.ensures ∙ c.if-has_leading_zero.true) (word_front bytes (decimal n) rest len size e)

pub returns-in_err-rest-clause-none : goal.returns-in_err-rest-clause-none
returns-in_err-rest-clause-none c =
    let bytes = c.args.bytes.now in
    let len = c.digits_at_front-value.result.1 in
    let front = c.digits_at_front-value.ensures in
    rw c.from_residual.ensures (λ n rest is e. c.in_err-rest.ensures.none (decimal n) rest (number_ends bytes len front.digits (omega arith) front.ends n rest is e) e)

pub returns-clause-some : goal.returns-clause-some
returns-clause-some c =
    let bytes = c.args.bytes.now in
    let value = c.digits_at_front-value.result.0 in
    let len = c.digits_at_front-value.result.1 in
    let front = c.digits_at_front-value.ensures in
    let word = take len bytes in
    let size : length word ≡ len = length-take-le len bytes front.within in
    let plain : (nat_lt 1 (length word) && (get_or word 0 0 == 48)) ≡ false = sym c.has_leading_zero.ensures ∙ c.if-has_leading_zero.false in
    let filled : 0 < length word = omega (arith, size, c.if-len-eq0.false) in
    let is : Some value ≡ number_of word = read_whole word (Some value) filled (λ zero. grind (arith, nat_tests)) (front.small, front.digits, front.value) tt in
    let written = number_written word value (sym is) in
    (written.1, c.in_ok-rest.ensures.some ∙ ap (λ w. w ++ 32 ∷ c.in_ok-rest.rest.now) written.0)
