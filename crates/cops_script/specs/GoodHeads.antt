-- The configurations that a head may give.
use Rattle.std.specs.Prelude.{◌≡◌, ℕ, Bool, true, ◌&&◌, List, Option, Some, None}
use Rattle.std.specs.List.{list_all}
use Rattle.cops_types.specs.declared.configs.Config.{Config}
use Rattle.cops_types.specs.Head.{Front, AtStart, Within, Begun}
use Rattle.cops_types.specs.Counts.{counted}
use Rattle.cops_types.specs.HeadLines.{are_sizes, is_tenant}
use Rattle.cops_types.specs.HeadReader.{front_with}

-- the sizes and each tenant are within the limits
abbrev pub is_good : Config → Bool
is_good config = are_sizes config && list_all is_tenant config.tenants

abbrev pub is_front_good : Option Front → Bool
is_front_good None = true
is_front_good (Some AtStart) = true
is_front_good (Some (Within config)) = is_good config
is_front_good (Some (Begun config)) = is_good config

-- after this many lines this one continues the head
pub record HeadContinues (old : Option Front) (count : ℕ) (line : List ℕ) (new : Option Front) (new_count : ℕ) : Type 0 where
  pub config : Config
  pub found : front_with old line ≡ Some (Within config)
  pub kept : new ≡ Some (Within config)
  pub counts : new_count ≡ counted count
