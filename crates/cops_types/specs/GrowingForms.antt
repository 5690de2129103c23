-- The list that growing rows represent, in either form.
use Rattle.std.specs.Prelude.{true, false, ◌-◌, vec_len, vec_capacity}
use Rattle.cops_types.specs.Growing.{Growing}
use Rattle.cops_types.specs.declared.growing_pairs.GrowingRows.{GrowingRows}
use Rattle.cops_types.specs.declared.growing_pairs.GrowingRows.TheVariants.{Short, Full}

abbrev pub growing_of : GrowingRows → Growing
growing_of (Short pairs) = record { pairs = pairs.items; spare = vec_capacity pairs - vec_len pairs; takes_long = false }
growing_of (Full pairs) = record { pairs = pairs.items; spare = vec_capacity pairs - vec_len pairs; takes_long = true }
