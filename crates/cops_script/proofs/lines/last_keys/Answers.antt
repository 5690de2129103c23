use Rattle.cops_script.proofs.ActReading.{all_keys, all_to_come}
use Rattle.cops_script.proofs.lines.last_keys.Goals as goal

pub loop-word-init : goal.loop-word-init
loop-word-init c = all_to_come c.args.words.now c.in_line-rest.result c.in_line-rest.ensures

pub returns : goal.returns
returns c = all_keys c.args.words.now c.in_line.result c.loop-word.rest c.loop-word.invariant c.in_default.ensures.0 c.in_line.ensures
