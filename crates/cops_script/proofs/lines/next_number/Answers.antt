use Rattle.std.specs.Prelude.{decimal}
use Rattle.cops_types.specs.Words.{space}
use Rattle.cops_types.proofs.WordLemmas.{decimal_lacks, space_foreign}
use Rattle.cops_script.proofs.ActReading.{front_parts, two_parts}
use Rattle.cops_script.proofs.lines.next_number.Goals as goal

pub returns-in_err-number-clause-none : goal.returns-in_err-number-clause-none
returns-in_err-number-clause-none c =
    rw c.from_residual.ensures (λ n second rest is e. c.in_err-number.ensures.none n _ is (two_parts c.args.words.now (decimal n) second rest e))

pub returns-clause-some : goal.returns-clause-some
returns-clause-some c =
    let front = c.in_ok-number.ensures.some in
    (front.0, front_parts c.args.words.now (decimal c.in_ok-number.number) c.in_ok-number.rest.now (decimal_lacks space space_foreign c.in_ok-number.number front.0) front.1)
