use Rattle.std.proofs.Common.{length}
use Rattle.cops_types.specs.Words.{parts_at, space}
use Rattle.cops_script.proofs.ActReading.{AreKeys}
use Rattle.cops_script.proofs.lines.last_keys.Given as goal

abbrev pub invariant-loop-word : goal.invariant-loop-word
invariant-loop-word l = AreKeys (parts_at space l.words) l.rest

abbrev pub decreases-loop-word : goal.decreases-loop-word
decreases-loop-word l = length l.rest
