-- Steps that are taken one after another.
use Rattle.std.specs.Prelude.{◌≡◌, ℕ, zero, suc}

module _ {N : Type 0} (Step : N → N → Type 0) where
  -- this many steps
  abbrev pub Repeats : ℕ → N → N → Type 0
  Repeats zero old new = new ≡ old
  Repeats (suc count) old new = (between : N) × Repeats count old between × Step between new

  -- no step, or some
  abbrev pub IsRepeated : N → N → Type 0
  IsRepeated old new = (count : ℕ) × Repeats count old new
