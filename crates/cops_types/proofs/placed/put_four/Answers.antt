use Rattle.std.proofs.Common.{◌∙◌, ◌++◌, ap, sym, take, arith}
use Rattle.cops_types.proofs.PlacedLemmas.{decimal_last, decimal_last_two, decimal_of_four, three_placed, two_placed}
use Rattle.cops_types.proofs.placed.put_four.Goals as goal

pub returns-then-number-lt100-clause-text : goal.returns-then-number-lt100-clause-text
returns-then-number-lt100-clause-text c =
    two_placed _ _ _ _ _ _ c.put_digit-second.ensures.text c.put_last_digit.ensures.text (decimal_last c.args.number (omega arith) (omega arith))

pub returns-then-number-lt1000-clause-text : goal.returns-then-number-lt1000-clause-text
returns-then-number-lt1000-clause-text c =
    three_placed _ _ _ _ _ _ _ _ c.put_digit-second-then-number-lt1000.ensures.text c.put_last_digit-third.ensures.text c.put_last_digit-then-number-lt1000.ensures.text
    (decimal_last_two c.args.number (omega arith) (omega arith))

pub returns-clause-text : goal.returns-clause-text
returns-clause-text c =
    c.put_last_four.ensures.text ∙ ap (λ digits. take c.args.at c.args.bytes.now ++ digits) (sym (decimal_of_four c.args.number (omega arith) (omega arith)))
