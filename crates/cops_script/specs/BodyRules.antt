-- The programs that may run behind the head of a script.
use Rattle.cops_types.specs.declared.configs.Config.{Config}
use Rattle.cops_script.specs.LineRules.{LineRules}
use Rattle.cops_script.specs.declared.scripts.BadConfig.{BadConfig}

-- the rules of bodies of type B, with states of type R and refusals of type F
pub record BodyRules (B R F : Type 0) : Type 1 where
  -- a configuration starts this state
  pub starts : B → Config → R → Type 0
  -- or is refused with this value
  pub refuses_start : B → Config → F → Type 0
  -- the lines behind a head
  pub lines : B → LineRules R F
  -- the refusal of a bad head
  pub bad_head : BadConfig → F
