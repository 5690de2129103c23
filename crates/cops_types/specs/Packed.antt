-- Which keys are short.
use Rattle.std.specs.Prelude.{ℕ, Bool, nat_le, length}
use Rattle.cops_types.specs.declared.pairs.Pair.{Pair}

-- the most bytes of a short key
abbrev pub SHORT : ℕ
SHORT = 15

abbrev pub has_short_key : Pair → Bool
has_short_key pair = nat_le (length pair.key) SHORT
