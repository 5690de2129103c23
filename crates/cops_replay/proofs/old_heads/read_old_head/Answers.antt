use Rattle.cops_replay.proofs.Names.{sym, ◌∙◌}
use Rattle.cops_replay.proofs.OldFronts.{bad_said, begin_said, begin_sized, more_said, still_sized}
use Rattle.cops_replay.proofs.old_heads.read_old_head.Goals as goal

pub invariant_of-head : goal.invariant_of-head
invariant_of-head c =
    record { within_limits = still_sized c.args.head.now.reader c.args.line.now c.line.new.self c.args.head.now.within_limits c.in-Ok-More.ensures.front }

pub invariant_of-head-in-Ok-BadLine : goal.invariant_of-head-in-Ok-BadLine
invariant_of-head-in-Ok-BadLine c =
    record { within_limits = still_sized c.args.head.now.reader c.args.line.now c.line.new.self c.args.head.now.within_limits c.in-Ok-BadLine.ensures.front }

pub returns-in-Ok-More-clause-more : goal.returns-in-Ok-More-clause-more
returns-in-Ok-More-clause-more c =
    more_said c.args.head.now.reader c.args.head.now.lines c.args.line.now c.line.new.self c.saturating_add-number.result
    (sym c.in-Ok-More.field-0-is ∙ c.in-Ok-More.ensures.said) c.in-Ok-More.ensures.front c.saturating_add-number.ensures

pub returns-in-Ok-Begin-clause-sizes : goal.returns-in-Ok-Begin-clause-sizes
returns-in-Ok-Begin-clause-sizes c =
    begin_sized c.args.head.now.reader c.args.line.now c.in-Ok-Begin.config c.args.head.now.within_limits
    (begin_said c.args.head.now.reader c.args.line.now c.in-Ok-Begin.config (sym c.in-Ok-Begin.field-0-is ∙ c.in-Ok-Begin.ensures.said))

pub returns-in-Ok-BadLine-clause-err : goal.returns-in-Ok-BadLine-clause-err
returns-in-Ok-BadLine-clause-err c = bad_said c.args.head.now.reader c.args.line.now (sym c.in-Ok-BadLine.field-0-is ∙ c.in-Ok-BadLine.ensures.said)
