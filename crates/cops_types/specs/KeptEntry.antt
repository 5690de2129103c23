-- The parts that a stored entry represents.
use Rattle.cops_types.specs.declared.records.EntryParts.{EntryParts}
use Rattle.cops_types.specs.declared.records.KeptParts.{KeptParts}

abbrev pub unpacked_parts : KeptParts → EntryParts
unpacked_parts p = record { key = p.key; version = p.version; value = p.value; deps = p.deps; near = p.near; prev = p.prev }
