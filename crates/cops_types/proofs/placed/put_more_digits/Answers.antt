use Rattle.std.proofs.Common.{arith}
use Rattle.cops_types.proofs.PlacedLemmas.{decimal_last_four, two_placed}
use Rattle.cops_types.proofs.placed.put_more_digits.Goals as goal

pub returns-then-number-lt100000000-clause-text : goal.returns-then-number-lt100000000-clause-text
returns-then-number-lt100000000-clause-text c =
    two_placed _ _ _ _ _ _ c.put_four-last.ensures.text c.put_last_four.ensures.text (decimal_last_four c.args.number (omega arith) (omega arith))
