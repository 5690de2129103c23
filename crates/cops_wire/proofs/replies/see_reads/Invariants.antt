use Rattle.std.proofs.Common.{take}
use Rattle.std.specs.List.{AllByRecursion}
use Rattle.cops_wire.specs.Limits.{IsTyped}
use Rattle.cops_wire.proofs.replies.see_reads.Given as goal

abbrev pub invariant-loop-read : goal.invariant-loop-read
invariant-loop-read l = record { typed : AllByRecursion IsTyped (take l.read-index l.reads) }
