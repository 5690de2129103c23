use Rattle.std.proofs.Common.{◌∙◌, ap, sym}
use Rattle.cops_session.proofs.RepeatLaws.{comes_again, has_repeats-again}
use Rattle.cops_session.proofs.repeats.are_repeated.Goals as goal

pub loop-key-init : goal.loop-key-init
loop-key-init c = has_repeats-again c.args.keys.now ∙ ap comes_again (sym c.again-left.ensures)
