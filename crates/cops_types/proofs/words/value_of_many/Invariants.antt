use Rattle.cops_types.proofs.NumberLemmas.{IsRead}
use Rattle.cops_types.proofs.words.value_of_many.Given as goal

abbrev pub invariant-loop-byte : goal.invariant-loop-byte
invariant-loop-byte l = IsRead l.word l.byte-index l.value
