use Rattle.cops_replay.proofs.Names.{◌≡◌, ◌+◌, ◌*◌, ◌++◌, take, bytes_text}
use Rattle.cops_replay.proofs.put_words.put_digits.Given as goal

abbrev pub invariant-loop-byte : goal.invariant-loop-byte
invariant-loop-byte l = record {
  end : l.end ≡ l.at + 2 * l.byte-index;
  text : take l.end l.bytes ≡ take l.fn.at l.fn.bytes ++ bytes_text (take l.byte-index l.value);
}
