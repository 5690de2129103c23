use Rattle.std.proofs.Common.{refl}
use Rattle.cops_types.proofs.NumberLemmas.{read_more, read_too_great}
use Rattle.cops_types.proofs.words.value_of_many.Goals as goal

pub returns-in_err-value-clause-none : goal.returns-in_err-value-clause-none
returns-in_err-value-clause-none c =
    rw c.from_residual.ensures (read_too_great c.args.word.now c.loop-byte.byte-index _ c.loop-byte.value c.loop-byte-test.true refl c.loop-byte.invariant c.in_err-value.ensures.none)

pub loop-byte-preserved : goal.loop-byte-preserved
loop-byte-preserved c =
    let digit = c.in_ok-value.ensures.some in
    read_more c.args.word.now c.loop-byte.byte-index _ c.loop-byte.value c.in_ok-value.value c.loop-byte-test.true refl c.loop-byte.invariant digit.0 digit.1 digit.2 digit.3
