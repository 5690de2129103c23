use Rattle.std.proofs.Common.{◌≡◌, length}
use Rattle.std.specs.List.{list_any}
use Rattle.cops_types.specs.Key.{key_eq}
use Rattle.cops_session.proofs.repeats.has_key.Given as goal

abbrev pub invariant-loop-other : goal.invariant-loop-other
invariant-loop-other l = list_any (key_eq l.key) l.keys ≡ list_any (key_eq l.key) l.left

abbrev pub decreases-loop-other : goal.decreases-loop-other
decreases-loop-other l = length l.left
