use Rattle.std.proofs.Common.{◌∙◌, ◌++◌, ◌∷◌, [], ap, arith, sym}
use Rattle.std.proofs.lemmas.Fmt.{decimal_digit}
use Rattle.cops_types.proofs.PlacedLemmas.{decimal_two, decimal_three, decimal_four}
use Rattle.cops_types.proofs.texts.push_number.Goals as goal

pub returns-then-number-lt10-clause-ok : goal.returns-then-number-lt10-clause-ok
returns-then-number-lt10-clause-ok c =
    c.in_ok-push.ensures.items ∙ ap (λ digits. c.args.out.now.items ++ digits) (sym (decimal_digit c.args.number c.if-number-lt10.true))

pub returns-then-number-lt100-clause-ok : goal.returns-then-number-lt100-clause-ok
returns-then-number-lt100-clause-ok c =
    c.in_ok-extend_from_slice.ensures.items
    ∙ (λ i. c.args.out.now.items ++ (c.digit.ensures i ∷ c.digit-then-number-lt100.ensures i ∷ []))
    ∙ ap (λ digits. c.args.out.now.items ++ digits) (sym (decimal_two c.args.number (omega arith) (omega arith)))

pub returns-then-number-lt1000-clause-ok : goal.returns-then-number-lt1000-clause-ok
returns-then-number-lt1000-clause-ok c =
    c.in_ok-extend_from_slice-2.ensures.items
    ∙ (λ i. c.args.out.now.items ++ (c.digit-then-number-lt1000.ensures i ∷ c.digit-then-number-lt1000-2.ensures i ∷ c.digit-then-number-lt1000-3.ensures i ∷ []))
    ∙ ap (λ digits. c.args.out.now.items ++ digits) (sym (decimal_three c.args.number (omega arith) (omega arith)))

pub returns-then-number-lt10000-clause-ok : goal.returns-then-number-lt10000-clause-ok
returns-then-number-lt10000-clause-ok c =
    c.in_ok-extend_from_slice-3.ensures.items
    ∙ (λ i. c.args.out.now.items ++ (c.digit-then-number-lt10000.ensures i ∷ c.digit-then-number-lt10000-2.ensures i ∷ c.digit-then-number-lt10000-3.ensures i ∷ c.digit-then-number-lt10000-4.ensures i ∷ []))
    ∙ ap (λ digits. c.args.out.now.items ++ digits) (sym (decimal_four c.args.number (omega arith) (omega arith)))
