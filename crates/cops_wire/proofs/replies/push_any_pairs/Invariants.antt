use Rattle.std.proofs.Common.{◌≡◌, ◌++◌, map, take}
use Rattle.std.specs.List.{flat_map}
use Rattle.cops_types.specs.Words.{StartsWith}
use Rattle.cops_wire.specs.Requests.{link_to}
use Rattle.cops_wire.specs.Spelling.{link_of}
use Rattle.cops_wire.proofs.replies.push_any_pairs.Given as goal

abbrev pub invariant-loop-place : goal.invariant-loop-place
invariant-loop-place l = record {
  items : l.out.items ≡ l.fn.out.items ++ flat_map link_of (map link_to (take l.place l.deps));
  front : StartsWith l.out.items l.fn.out.items;
}
