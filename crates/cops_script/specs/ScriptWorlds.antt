-- The world after a script.
use Rattle.std.specs.Prelude.{◌≡◌, ℕ, List, IsTrue, Option}
use Rattle.std.specs.Io.KnownBytes.{Consumes}
use Rattle.cops_types.specs.declared.configs.Config.{Config}
use Rattle.cops_types.specs.Head.{Whole, head_of}
use Rattle.cops_types.specs.Lines.{lines_of}
use Rattle.cops_types.specs.OpenSlots.{begun_with}
use Rattle.cops_model.specs.Cluster.{SoloCluster}
use Rattle.cops_model.specs.Events.{config_at, own, cluster_of}
use Rattle.cops_script.specs.Lives.{first_lives, lives_past, of_lives, with_all_lives}
use Rattle.cops_script.specs.Said.{tenants_past}
use Rattle.cops_model.specs.Setups.{Setup, is_open_at}
use Rattle.cops_script.specs.declared.scripts.Script.{Script}
use Rattle.cops_script.specs.declared.scripts.Script.TheVariants.{Head, Running}
use Rattle.cops_script.specs.Script.{events_in, said_by_lines}

-- the head, and the tenants that are open after the lines behind it
abbrev pub setup_left : Config → List (List ℕ) → Setup
setup_left config lines = record { head = config; tenants = tenants_past (begun_with config.tenants) (said_by_lines config lines) }

-- the last life of a slot
abbrev pub life_left : Config → List (List ℕ) → ℕ → ℕ
life_left config lines slot = (lives_past (first_lives config) (said_by_lines config lines)).last_at slot

-- the cluster after the lines, for a life that has it to itself
abbrev pub cluster_left : Config → List (List ℕ) → ℕ → SoloCluster
cluster_left config lines life =
    let said = said_by_lines config lines in cluster_of (config_at (with_all_lives config said) life) (own life (events_in (of_lives config said)))

-- it is past its head
abbrev pub IsRunning : {W : Type 0} → Script W → Type 0
IsRunning (Head head) = ⊥
IsRunning (Running world) = Unit {0}

module _ {W : Type 0} (setup : W → Setup) (StandsFor : W → ℕ → SoloCluster → Type 0) where
  -- the bytes are a script, and each open tenant's part of the world is the cluster after its life's lines
  pub record IsLeftBy (bytes : List ℕ) (world : W) : Type 0 where
    pub config : Config
    pub lines : List (List ℕ)
    pub head : head_of (lines_of bytes) ≡ Whole config lines
    pub setup_is : setup world ≡ setup_left config lines
    pub clusters : (slot : ℕ) → IsTrue (is_open_at (setup_left config lines) slot) → StandsFor world slot (cluster_left config lines (life_left config lines slot))

  -- some bytes were read, and they are a script of this kind
  pub record IsLeftByRead (old_remaining new_remaining : Option (List ℕ)) (world : W) : Type 0 where
    pub bytes : List ℕ
    pub read : Consumes old_remaining new_remaining bytes
    pub left : IsLeftBy bytes world
