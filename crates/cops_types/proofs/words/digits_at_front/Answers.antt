use Rattle.std.proofs.Common.{◌+◌, ◌*◌, ◌<◌, ap, get_or, length, refl, sym, ◌∙◌, arith}
use Rattle.cops_types.proofs.FrontWords.{read_few}
use Rattle.cops_types.proofs.NumberLemmas.{in_digits, read_more}
use Rattle.cops_types.proofs.words.digits_at_front.Goals as goal

pub overflow_mul-value : goal.overflow_mul-value
overflow_mul-value c =
    let bounds = c.min-most.ensures in
    let small = read_few c.args.bytes.now c.loop-at.at c.loop-at.value (omega arith) (omega arith) c.loop-at.invariant in
    omega (arith, small)

pub overflow_add-value : goal.overflow_add-value
overflow_add-value c =
    let bounds = c.min-most.ensures in
    let small = read_few c.args.bytes.now c.loop-at.at c.loop-at.value (omega arith) (omega arith) c.loop-at.invariant in
    let digit = in_digits (get_or c.args.bytes.now c.loop-at.at 0) (sym c.is_ascii_digit.ensures.value ∙ c.if-not-is_ascii_digit.false) in
    omega (arith, small, digit.0, digit.1, c.from.ensures)

pub loop-at-preserved : goal.loop-at-preserved
loop-at-preserved c =
    let bytes = c.args.bytes.now in
    let i = c.loop-at.at in
    let inside : i < length bytes = omega (arith, c.min-most.ensures, c.loop-at-test.true) in
    let few : i < 19 = omega (arith, c.min-most.ensures, c.loop-at-test.true) in
    let small = read_few bytes i c.loop-at.value inside few c.loop-at.invariant in
    let digit = in_digits (get_or bytes i 0) (sym c.is_ascii_digit.ensures.value ∙ c.if-not-is_ascii_digit.false) in
    read_more bytes i (get_or bytes i 0) c.loop-at.value _ inside refl c.loop-at.invariant digit.0 digit.1 (ap (λ n. c.loop-at.value * 10 + n) c.from.ensures) (omega (arith, small, digit.0, digit.1, c.from.ensures))
