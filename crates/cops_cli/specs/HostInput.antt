-- The host's lines on the standard input of a service.
use Rattle.std.specs.Prelude.{ℕ, nat_lt, if◌then◌else◌, List, [], ◌∷◌, ◌++◌, codes, length, Option, Some, None}
use Rattle.std.specs.Option.{option_map_or}
use Rattle.std.specs.Str.{bytes_eq}
use Rattle.cops_script.specs.HostLines.{admitted_in, closed_in}
use Rattle.cops_service.specs.declared.host_lines.HostLine.{HostLine}
use Rattle.cops_service.specs.declared.host_lines.HostLine.TheVariants.{Admit, Close, Unknown, End}

-- the line asks for the end, or is a line of the host as scripts have it
abbrev pub meaning_of_line : List ℕ → HostLine
meaning_of_line line = if bytes_eq line (codes "end") then End else option_map_or Admit (admitted_in line) (option_map_or Close (closed_in line) Unknown)

-- the most bytes of a line; further ones are dropped
abbrev pub longest : ℕ
longest = 256

-- a line with one byte more; none if it is longer than that
abbrev pub with_byte : ℕ → Option (List ℕ) → Option (List ℕ)
with_byte byte None = None
with_byte byte (Some line) = if nat_lt (length line) longest then Some (line ++ byte ∷ []) else None

-- the meaning of a whole line; an empty one has none
abbrev pub line_said : Option (List ℕ) → Option HostLine
line_said None = Some Unknown
line_said (Some []) = None
line_said (Some (byte ∷ line)) = Some (meaning_of_line (byte ∷ line))
