use Rattle.std.proofs.Common.{◌≡◌, take}
use Rattle.cops_types.proofs.words.are_same.Given as goal

-- so many bytes are the same
abbrev pub invariant-loop-at : goal.invariant-loop-at
invariant-loop-at l = take l.at l.bytes ≡ take l.at l.others
