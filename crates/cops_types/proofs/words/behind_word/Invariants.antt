use Rattle.std.proofs.Common.{◌≡◌, take}
use Rattle.cops_types.proofs.words.behind_word.Given as goal

-- so many bytes are those of the word
abbrev pub invariant-loop-at : goal.invariant-loop-at
invariant-loop-at l = take l.at l.bytes ≡ take l.at l.word
