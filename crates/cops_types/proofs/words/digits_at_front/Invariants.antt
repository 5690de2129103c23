use Rattle.cops_types.proofs.NumberLemmas.{IsRead}
use Rattle.cops_types.proofs.words.digits_at_front.Given as goal

abbrev pub invariant-loop-at : goal.invariant-loop-at
invariant-loop-at l = IsRead l.bytes l.at l.value
