-- Counts of turns that stay at the last value of a u64.
use Rattle.std.proofs.Common.{◌≡◌, ℕ, ◌+◌, inl, inr, arith}
use Rattle.cops_types.specs.Counts.{counted, HasRisenBy}

pub HasRisenBy-start : (count : ℕ) → HasRisenBy count count 0
HasRisenBy-start count = inl (omega arith)

pub HasRisenBy-next : (old count turns new : ℕ) → HasRisenBy old count turns → new ≡ counted count → HasRisenBy old new (turns + 1)
HasRisenBy-next old count turns new (inl e) d = grind arith
HasRisenBy-next old count turns new (inr e) d = inr (omega arith)
