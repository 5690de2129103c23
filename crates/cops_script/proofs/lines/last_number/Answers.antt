use Rattle.std.proofs.Common.{sym}
use Rattle.std.specs.Prelude.{decimal}
use Rattle.cops_types.specs.Words.{space}
use Rattle.cops_types.proofs.WordLemmas.{decimal_lacks, number_written, space_foreign}
use Rattle.cops_script.proofs.ActReading.{no_number_last, whole_part}
use Rattle.cops_script.proofs.lines.last_number.Goals as goal

pub returns-in_err-number-clause-none : goal.returns-in_err-number-clause-none
returns-in_err-number-clause-none c = rw c.from_residual.ensures (no_number_last c.args.words.now (sym c.in_err-number.ensures))

pub returns-clause-some : goal.returns-clause-some
returns-clause-some c =
    let n = c.in_ok-number.number in
    let written = number_written c.args.words.now n (sym c.in_ok-number.ensures) in
    (written.1, whole_part c.args.words.now (decimal n) (decimal_lacks space space_foreign n written.1) written.0)
