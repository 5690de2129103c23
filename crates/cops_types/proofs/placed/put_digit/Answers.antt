use Rattle.std.proofs.Common.{◌∙◌, ◌++◌, ap, sym, take}
use Rattle.std.proofs.lemmas.Fmt.{decimal_digit}
use Rattle.cops_types.proofs.placed.put_digit.Goals as goal

pub returns-clause-text : goal.returns-clause-text
returns-clause-text c =
    c.put_byte.ensures.text ∙ ap (λ digits. take c.args.at c.args.bytes.now ++ digits) (sym (decimal_digit c.args.number c.requires.small))
