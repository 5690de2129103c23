-- What a reader of a head returns for each line.
use Rattle.std.specs.Prelude.{Option, Some, None}
use Rattle.std.specs.Option.{option_and_then}
use Rattle.std.specs.Prelude.{ℕ, List}
use Rattle.cops_types.specs.declared.heads.HeadLine.{HeadLine}
use Rattle.cops_types.specs.declared.heads.HeadLine.TheVariants.{More, Begin, BadLine}
use Rattle.cops_types.specs.Head.{Front, AtStart, Within, Begun, front_after}

-- how far the head has come with one more line; nowhere if a line was bad
abbrev pub front_with : Option Front → List ℕ → Option Front
front_with front line = option_and_then (λ front. front_after front line) front

-- the head goes on; or it is complete, with this configuration; or the line is bad
abbrev pub said_at : Option Front → HeadLine
said_at None = BadLine
said_at (Some AtStart) = More
said_at (Some (Within config)) = More
said_at (Some (Begun config)) = Begin config

-- the states in which more lines may follow: none may follow the end of a head or a bad line
abbrev pub still_open : Option Front → Option Front
still_open None = None
still_open (Some AtStart) = Some AtStart
still_open (Some (Within config)) = Some (Within config)
still_open (Some (Begun config)) = None
