use Rattle.std.proofs.Common.{◌≡◌, ◌≤◌, ◌++◌, length, take}
use Rattle.std.specs.List.{flat_map}
use Rattle.cops_wire.specs.Spelling.{spelled_key}
use Rattle.cops_wire.proofs.placed.put_keys.Given as goal

abbrev pub invariant-loop-key : goal.invariant-loop-key
invariant-loop-key l = record {
  text : take l.end l.bytes ≡ take l.fn.at l.fn.bytes ++ flat_map spelled_key (take l.key-index l.keys);
  low : l.fn.at ≤ l.end;
  high : l.end ≤ length l.bytes;
  front : take l.fn.at l.bytes ≡ take l.fn.at l.fn.bytes;
}
