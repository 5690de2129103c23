use Rattle.std.proofs.Common.{◌≡◌, ◌++◌, map, take}
use Rattle.std.specs.List.{flat_map}
use Rattle.cops_types.specs.Words.{StartsWith}
use Rattle.cops_wire.specs.Requests.{link_to}
use Rattle.cops_wire.specs.Spelling.{link_of}
use Rattle.cops_wire.proofs.replies.push_short_pairs.Given as goal

abbrev pub invariant-loop-pair : goal.invariant-loop-pair
invariant-loop-pair l = record {
  items : l.out.items ≡ l.fn.out.items ++ flat_map link_of (map link_to (take l.pair-index l.pairs));
  front : StartsWith l.out.items l.fn.out.items;
}
