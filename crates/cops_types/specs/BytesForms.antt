-- Bytes in place, or in a block of their own.
use Rattle.std.specs.Prelude.{ℕ, List}
use Rattle.cops_types.specs.declared.bytes.BytesForm.{BytesForm}
use Rattle.cops_types.specs.declared.bytes.BytesForm.TheVariants.{Few, Many}

-- the bytes
abbrev pub formed_bytes : BytesForm → List ℕ
formed_bytes (Few bytes) = bytes
formed_bytes (Many bytes) = bytes.items
