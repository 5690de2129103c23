use Rattle.std.proofs.Common.{◌≡◌, ◌∷◌, ◌++◌, true, length, map, take}
use Rattle.std.specs.List.{flat_map, list_all}
use Rattle.byteorder.specs.Endian.{big_bytes}
use Rattle.cops_types.specs.Words.{StartsWith}
use Rattle.cops_wire.specs.Requests.{is_counted, outcome_of_read}
use Rattle.cops_wire.specs.Spelling.{outcome_of}
use Rattle.cops_wire.proofs.replies.push_reads.Given as goal

abbrev pub invariant-loop-read : goal.invariant-loop-read
invariant-loop-read l = record {
  items : l.out.items ≡ l.fn.out.items ++ (133 ∷ (big_bytes 1 (length l.reads) ++ flat_map outcome_of (map outcome_of_read (take l.read-index l.reads))));
  all : list_all is_counted (take l.read-index l.reads) ≡ true;
  front : StartsWith l.out.items l.fn.out.items;
}
