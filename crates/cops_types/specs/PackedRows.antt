-- The pairs that rows represent, in either form.
use Rattle.std.specs.Prelude.{List, [], ◌∷◌}
use Rattle.cops_types.specs.declared.packed.Rows.{Rows}
use Rattle.cops_types.specs.declared.packed.Rows.TheVariants.{One, Short, Full}
use Rattle.cops_types.specs.declared.pairs.Pair.{Pair}

abbrev pub pairs_of : Rows → List Pair
pairs_of (One pair) = pair ∷ []
pairs_of (Short pairs) = pairs.items
pairs_of (Full pairs) = pairs.items
