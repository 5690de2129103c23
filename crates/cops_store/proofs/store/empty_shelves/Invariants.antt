use Rattle.std.proofs.Common.{◌≡◌}
use Rattle.std.specs.Prelude.{replicate}
use Rattle.cops_store.specs.Shelves.{empty_shelf}
use Rattle.cops_store.proofs.store.empty_shelves.Given as goal

abbrev pub invariant-loop-slot : goal.invariant-loop-slot
invariant-loop-slot l = record { made : l.shelves.items ≡ replicate l._slot empty_shelf }
