-- The first byte of a handle on the wire: the letters C and R.
use Rattle.std.specs.Prelude.{ℕ}

abbrev pub context_tag : ℕ
context_tag = 67

abbrev pub request_tag : ℕ
request_tag = 82
