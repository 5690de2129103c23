-- How far a reader of a head has come.
use Rattle.std.specs.Prelude.{Option, Some, None}
use Rattle.cops_types.specs.declared.heads.Progress.{Progress}
use Rattle.cops_types.specs.declared.heads.Progress.TheVariants as progress
use Rattle.cops_types.specs.Head.{Front, AtStart, Within}

abbrev pub front_of : Progress → Option Front
front_of progress.Start = Some AtStart
front_of (progress.Within config) = Some (Within config)
front_of progress.Over = None
