use Rattle.std.proofs.Common.{take}
use Rattle.std.specs.List.{AllByRecursion}
use Rattle.cops_types.specs.declared.pairs.Pair.{Pair}
use Rattle.cops_wire.specs.Limits.{IsShort}
use Rattle.cops_wire.proofs.replies.see_pairs.Given as goal

abbrev pub invariant-loop-place : goal.invariant-loop-place
invariant-loop-place l = record { short : AllByRecursion (λ (pair : Pair). IsShort pair.key) (take l.place l.deps) }
