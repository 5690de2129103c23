-- What a value and the lists of a put hold: memory of their own, or that of an entry.
use Rattle.std.specs.Prelude.{List, ℕ}
use Rattle.std.specs.Arc.{arc_value}
use Rattle.cops_types.specs.declared.deps.DepsHolder.{DepsHolder}
use Rattle.cops_types.specs.declared.deps.DepsHolder.TheVariants as deps
use Rattle.cops_types.specs.declared.near.NearHolder.{NearHolder}
use Rattle.cops_types.specs.declared.near.NearHolder.TheVariants as near
use Rattle.cops_types.specs.declared.pairs.Pair.{Pair}
use Rattle.cops_types.specs.declared.values.ValueHolder.{ValueHolder}
use Rattle.cops_types.specs.declared.values.ValueHolder.TheVariants as value

abbrev pub held_value : ValueHolder → List ℕ
held_value (value.Own bytes) = bytes
held_value (value.Entry parts) = (arc_value parts).value

abbrev pub held_deps : DepsHolder → List Pair
held_deps (deps.Own pairs) = pairs
held_deps (deps.Entry parts) = (arc_value parts).deps

abbrev pub held_near : NearHolder → List Pair
held_near (near.Own pairs) = pairs
held_near (near.Entry parts) = (arc_value parts).near
