use Rattle.std.proofs.Common.{◌≡◌, take}
use Rattle.std.specs.List.{list_all}
use Rattle.cops_types.specs.HeadLines.{is_between}
use Rattle.cops_script.proofs.lines.is_value_word.Given as goal

-- whether all bytes so far can be seen
abbrev pub invariant-loop-byte : goal.invariant-loop-byte
invariant-loop-byte l = l.seen ≡ list_all (is_between 33 126) (take l.byte-index l.word)
