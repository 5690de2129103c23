use Rattle.cops_replay.proofs.Names.{Nowhere, is_byte}
use Rattle.memchr.specs.Find.{Passes}
use Rattle.cops_replay.proofs.said.place_of.Given as goal

abbrev pub invariant-loop-at : goal.invariant-loop-at
invariant-loop-at l = Nowhere (Passes (is_byte l.separator) l.bytes) 0 l.at
