-- The nodes that a service leaves whose tenants came and went.
use Rattle.std.specs.Prelude.{◌≡◌, ℕ, List, length, map}
use Rattle.std.specs.List.{AllByRecursion}
use mathlib.Core.Option.{some}
use lib.ListN.{get_elem?}
use Rattle.cops_types.specs.declared.configs.Config.{Config}
use Rattle.cops_gate.specs.History.{Leads, turns_at}
use Rattle.cops_node.specs.Clusters.{new_nodes}
use Rattle.cops_node.specs.Hosting.{Hosted, IsSlotTurn}
use Rattle.cops_node.specs.Parts.{Shared}
use Rattle.cops_service.specs.Hosted.{HostedLog}
use Rattle.cops_service.specs.HostedDesks.{IsInFirstLives, hosted_node}

-- the turns of this history at each node leave the node of the same number
abbrev pub LeavesEachHosted : List Hosted → HostedLog → List Hosted → Type 0
LeavesEachHosted openings log nodes =
    (length nodes ≡ length openings)
    × ((number : ℕ) (first node : Hosted) → get_elem? openings number ≡ some first → get_elem? nodes number ≡ some node → Leads IsSlotTurn first (turns_at number log) node)

-- One history of all nodes, calls of the host among them, leaves these from the new ones of the configuration. Its tenants are in their slots' lives 0
pub record AreLeftByLives (config : Config) (nodes : List Shared) : Type 0 where
  pub opening : List Hosted
  pub opened : map hosted_node opening ≡ (new_nodes config).nodes
  pub lives : AllByRecursion IsInFirstLives opening
  pub left : List Hosted
  pub nodes_are : map hosted_node left ≡ nodes
  pub log : HostedLog
  pub leaves : LeavesEachHosted opening log left
