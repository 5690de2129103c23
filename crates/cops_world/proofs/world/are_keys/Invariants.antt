use Rattle.std.proofs.Common.{◌≡◌, length}
use Rattle.std.specs.List.{list_all}
use Rattle.cops_types.specs.Key.{is_key}
use Rattle.cops_world.proofs.world.are_keys.Given as goal

abbrev pub invariant-loop-slice : goal.invariant-loop-slice
invariant-loop-slice l = list_all is_key l.slices ≡ list_all is_key l.left

abbrev pub decreases-loop-slice : goal.decreases-loop-slice
decreases-loop-slice l = length l.left
