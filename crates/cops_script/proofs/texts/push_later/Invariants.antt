use Rattle.std.proofs.Common.{◌≡◌, ◌++◌, take}
use Rattle.cops_script.specs.ReplyWords.{later_texts}
use Rattle.cops_script.proofs.texts.push_later.Given as goal

abbrev pub invariant-loop-read : goal.invariant-loop-read
invariant-loop-read l = l.out.items ≡ l.fn.out.items ++ later_texts (take l.read-index l.reads)
