use Rattle.cops_script.proofs.ActReading.{name_parts, two_parts}
use Rattle.cops_script.proofs.lines.next_name.Goals as goal

pub returns-in_err-name-clause-none : goal.returns-in_err-name-clause-none
returns-in_err-name-clause-none c =
    rw c.from_residual.ensures (λ name second rest is e. c.in_err-name.ensures.none name _ is (two_parts c.args.words.now name second rest e))

pub returns-clause-some : goal.returns-clause-some
returns-clause-some c = name_parts c.args.words.now c.in_ok-name.name c.in_ok-name.ensures.some
