use Rattle.std.proofs.Common.{◌≡◌, false, take}
use Rattle.std.specs.List.{list_any}
use Rattle.cops_types.specs.Pairs.{holds}
use Rattle.cops_types.proofs.pair_lists.has_held_short.Given as goal

-- none of the pairs so far is held
abbrev pub invariant-loop-pair : goal.invariant-loop-pair
invariant-loop-pair l = list_any (holds l.deps) (take l.pair-index l.pairs) ≡ false
