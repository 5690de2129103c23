-- Logs as gates keep them: a call that was refused memory is a no-op turn.
use Rattle.std.specs.Prelude.{◌≡◌, ℕ, ◌<◌, ◌*◌, map, List, ◌∷◌, ◌++◌, Option, Some, None, if◌then◌else◌}
use Rattle.std.specs.List.{AllByRecursion}
use Rattle.cops_types.specs.declared.configs.Config.{Config}
use Rattle.cops_types.specs.declared.faults.Fault.TheVariants.{OutOfMemory}
use Rattle.cops_model.specs.declared.calls.NodeReply.TheVariants.{Refused}
use Rattle.cops_node.specs.Clusters.{new_shared}
use Rattle.cops_node.specs.Lacking.{MayLack}
use Rattle.cops_node.specs.Parts.{Shared}
use Rattle.cops_history.specs.Turns.{was_refused_memory}
use Rattle.cops_whole.specs.Whole.{CallEntry, WholeTurn, LeadsOn, entries_at, whole_turn}

-- no entry if memory was refused
abbrev pub unless_lacking : Option CallEntry → Option CallEntry
unless_lacking None = None
unless_lacking (Some e) = if was_refused_memory e.reply then None else Some e

-- the log as gates keep it
abbrev pub kept_log : List WholeTurn → List WholeTurn
kept_log log = map (λ w. whole_turn w.seat w.node (unless_lacking w.entry)) log

-- The log that gates keep is legal at each node. In the state before each call that was refused memory, the node may lack it.
pub record IsLogOfGates (config : Config) (log : List WholeTurn) : Type 0 where
  pub there : AllByRecursion (λ (w : WholeTurn). w.node < config.data_centres * config.shards) log
  pub legal : (number : ℕ) → number < config.data_centres * config.shards → (left : Shared) × LeadsOn (new_shared config number) (entries_at number (kept_log log)) left
  pub lacks : (before later : List WholeTurn) (w : WholeTurn) (e : CallEntry) → log ≡ before ++ w ∷ later → w.entry ≡ Some e → e.reply ≡ Refused OutOfMemory →
      (state : Shared) × LeadsOn (new_shared config w.node) (entries_at w.node (kept_log before)) state × MayLack state e.slot e.call
