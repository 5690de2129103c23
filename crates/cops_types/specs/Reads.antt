-- What a transaction reads for a key.
use Rattle.std.specs.Prelude.{ℕ, List, [], Option, Some, None}
use Rattle.cops_types.specs.declared.contexts.ReadParts.{ReadParts}
use Rattle.cops_types.specs.declared.founds.FoundParts.{FoundParts}
use Rattle.cops_types.specs.Version.{no_version}

-- what was found under the key, or that the key is absent
abbrev pub read_in : List ℕ → Option FoundParts → ReadParts
read_in key (Some found) = record { key = key; value = Some found.value; version = found.version; deps = found.deps }
read_in key None = record { key = key; value = None; version = no_version; deps = [] }
