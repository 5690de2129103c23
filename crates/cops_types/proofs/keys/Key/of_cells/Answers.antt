use Rattle.std.proofs.Common.{ℕ, List, ◌++◌, replicate, sym, subst}
use Rattle.cops_types.specs.Key.{is_key}
use Rattle.cops_types.specs.Padding.{IsPadded}
use Rattle.cops_types.proofs.Padded.{long_cells-padded}
use Rattle.cops_types.proofs.keys.Key.of_cells.Goals as goal

pub invariant_of-result : goal.invariant_of-result
invariant_of-result c =
    subst (λ (cells : List ℕ). IsPadded 64 is_key (cells ++ replicate 49 0) c.args.len) (sym c.copy_from_slice.ensures.after) (long_cells-padded c.args.cells.now c.args.len c.requires)
