use Rattle.cops_replay.proofs.Names.{sym, ◌∙◌, refl}
use Rattle.cops_replay.proofs.OldFronts.{bad_said, goes_on, too_great}
use Rattle.cops_replay.proofs.migrations.read_old_head.Goals as goal

pub returns-then-has_clocks_to-clause-more : goal.returns-then-has_clocks_to-clause-more
returns-then-has_clocks_to-clause-more c =
    goes_on c.args.reader.now c.args.line.now c.line.new.self (sym c.in-Ok-More.field-0-is ∙ c.in-Ok-More.ensures.said) c.in-Ok-More.ensures.front (sym c.has_clocks_to.ensures ∙ c.if-has_clocks_to.true)

pub returns-else-has_clocks_to-clause-err : goal.returns-else-has_clocks_to-clause-err
returns-else-has_clocks_to-clause-err c =
    let found = too_great c.args.reader.now c.args.line.now c.line.new.self (sym c.in-Ok-More.field-0-is ∙ c.in-Ok-More.ensures.said) c.in-Ok-More.ensures.front (sym c.has_clocks_to.ensures ∙ c.if-has_clocks_to.false) in
    (found.0, found.1, found.2, refl, refl)

pub returns-in-Ok-BadLine-clause-err : goal.returns-in-Ok-BadLine-clause-err
returns-in-Ok-BadLine-clause-err c = (bad_said c.args.reader.now c.args.line.now (sym c.in-Ok-BadLine.field-0-is ∙ c.in-Ok-BadLine.ensures.said), refl)
