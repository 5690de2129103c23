use Rattle.std.proofs.Common.{◌≡◌, true, ◌++◌, take, drop}
use Rattle.std.specs.List.{list_all}
use Rattle.cops_types.specs.Key.{is_key_byte}
use Rattle.cops_types.proofs.keys.copy_key_bytes.Given as goal

-- so many bytes are copied, and a key may have each of them
abbrev pub invariant-loop-at : goal.invariant-loop-at
invariant-loop-at l = record {
  key : list_all is_key_byte (take l.at l.bytes) ≡ true;
  copied : l.cells ≡ take l.at l.bytes ++ drop l.at l.initial.cells;
}
