use Rattle.std.proofs.Common.{◌+◌, ◌*◌, ap, get_or, refl, sym, ◌∙◌, arith}
use Rattle.cops_types.proofs.NumberLemmas.{in_digits, no_digit, read_more, read_small}
use Rattle.cops_types.proofs.words.value_of.Goals as goal

pub returns-then-not-is_ascii_digit-clause-none : goal.returns-then-not-is_ascii_digit-clause-none
returns-then-not-is_ascii_digit-clause-none c = λ all.
    absurd (no_digit c.args.word.now c.loop-byte.byte-index c.loop-byte-test.true (sym c.is_ascii_digit.ensures.value ∙ c.if-not-is_ascii_digit.true) all)

pub overflow_mul-value : goal.overflow_mul-value
overflow_mul-value c =
    let small = read_small c.args.word.now c.loop-byte.byte-index c.loop-byte.value c.loop-byte-test.true (omega arith) c.loop-byte.invariant in
    omega (arith, small)

pub overflow_add-value : goal.overflow_add-value
overflow_add-value c =
    let small = read_small c.args.word.now c.loop-byte.byte-index c.loop-byte.value c.loop-byte-test.true (omega arith) c.loop-byte.invariant in
    let digit = in_digits (get_or c.args.word.now c.loop-byte.byte-index 0) (sym c.is_ascii_digit.ensures.value ∙ c.if-not-is_ascii_digit.false) in
    omega (arith, small, digit.0, digit.1, c.from.ensures)

pub loop-byte-preserved : goal.loop-byte-preserved
loop-byte-preserved c =
    let word = c.args.word.now in
    let i = c.loop-byte.byte-index in
    let small = read_small word i c.loop-byte.value c.loop-byte-test.true (omega arith) c.loop-byte.invariant in
    let digit = in_digits (get_or word i 0) (sym c.is_ascii_digit.ensures.value ∙ c.if-not-is_ascii_digit.false) in
    read_more word i (get_or word i 0) c.loop-byte.value _ c.loop-byte-test.true refl c.loop-byte.invariant digit.0 digit.1 (ap (λ n. c.loop-byte.value * 10 + n) c.from.ensures) (omega (arith, small, digit.0, digit.1, c.from.ensures))
