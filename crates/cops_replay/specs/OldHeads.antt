-- Heads of layout 1 that are not complete.
use Rattle.std.specs.Prelude.{◌≡◌, ℕ, Bool, true, List, Option, Some, None}
use Rattle.cops_types.specs.declared.configs.Config.{Config}
use Rattle.cops_types.specs.Counts.{counted}
use Rattle.cops_types.specs.Head.{Front, AtStart, Within, Begun}
use Rattle.cops_types.specs.HeadLines.{are_sizes}
use Rattle.cops_types.specs.OldHead.{old_front_with}

-- the sizes so far are within the limits
abbrev pub has_sizes : Option Front → Bool
has_sizes None = true
has_sizes (Some AtStart) = true
has_sizes (Some (Within config)) = are_sizes config
has_sizes (Some (Begun config)) = are_sizes config

-- after this many lines this one continues the head
pub record OldHeadContinues (old : Option Front) (count : ℕ) (line : List ℕ) (new : Option Front) (new_count : ℕ) : Type 0 where
  pub config : Config
  pub found : old_front_with old line ≡ Some (Within config)
  pub kept : new ≡ Some (Within config)
  pub counts : new_count ≡ counted count
