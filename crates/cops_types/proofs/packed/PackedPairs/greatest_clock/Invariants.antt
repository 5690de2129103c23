use Rattle.std.proofs.Common.{◌≡◌, ◌≤◌, take}
use Rattle.cops_types.specs.Pairs.{greatest_clock}
use Rattle.cops_types.specs.Version.{last_clock}
use Rattle.cops_types.proofs.packed.PackedPairs.greatest_clock.Given as goal

abbrev pub invariant-loop-place : goal.invariant-loop-place
invariant-loop-place l = record {
  greatest : l.greatest ≡ greatest_clock (take l.place l.self);
  fits : l.greatest ≤ last_clock;
}
