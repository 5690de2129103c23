use Rattle.std.proofs.Common.{◌≡◌, false, take}
use Rattle.cops_types.specs.Pairs.{has_key}
use Rattle.cops_types.proofs.packed.version_among_short.Given as goal

-- the pairs so far don't have the key
abbrev pub invariant-loop-pair : goal.invariant-loop-pair
invariant-loop-pair l = has_key (take l.pair-index l.pairs) l.key ≡ false
