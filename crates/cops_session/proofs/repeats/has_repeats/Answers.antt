use Rattle.cops_session.proofs.RepeatLaws.{has_repeats-again}
use Rattle.cops_session.proofs.repeats.has_repeats.Goals as goal

pub loop-place-init : goal.loop-place-init
loop-place-init c = has_repeats-again c.args.keys.now
