-- A service that ran the small cluster: what its gate kept, and its two seats.
use Rattle.std.specs.Prelude.{ℕ, zero, suc, List, [], ◌∷◌, Some, None}
use Rattle.cops_types.specs.declared.faults.Fault.TheVariants.{OutOfMemory}
use Rattle.cops_gate.specs.Accounts.{counted_account}
use Rattle.cops_gate.specs.History.{entry, turn}
use Rattle.cops_gate.specs.Seats.{Origin, gate_home}
use Rattle.cops_model.specs.declared.calls.NodeReply.TheVariants.{Refused}
use Rattle.cops_model.specs.declared.replies.Reply.TheVariants as reply
use Rattle.cops_node.specs.Clusters.{new_nodes}
use Rattle.cops_node.specs.Parts.{Shared}
use Rattle.cops_history.specs.Commands.{Collects}
use Rattle.cops_history.specs.Example.{told}
use Rattle.cops_history.specs.Turns.{Turn}
use Rattle.cops_service.specs.Desks.{NodeSeat}
use Rattle.cops_service.specs.Gates.{Gates}
use Rattle.cops_service.specs.Slots.{NodeEntry, NodeLog}
use Rattle.cops_whole.specs.Seats.{SlotActor}
use Rattle.cops_whole.specs.SmallCluster.{small_actors, small_collection, small_config, small_put}

-- the gate has any identity
abbrev pub small_gates : Origin Shared → Gates Shared
small_gates gate = record { shards = 1; gate = record gate { opening = (new_nodes small_config).nodes; ticket = 0 } }

abbrev pub small_entry : ℕ → Turn → NodeEntry
small_entry slot t = entry slot t.moment t.call t.reply

-- the history after the put, and after the collection
abbrev pub small_beginning : NodeLog
small_beginning = turn 0 0 (Some (small_entry 0 small_put)) ∷ []

abbrev pub small_history : NodeLog
small_history = turn 0 0 (Some (small_entry 0 small_put)) ∷ turn 1 0 (Some (small_entry 1 small_collection)) ∷ []

abbrev pub small_seat : Origin Shared → ℕ → NodeLog → NodeSeat
small_seat gate number history = record { gate = gate_home (small_gates gate).gate; number = number; history = history; spent = []; account = counted_account }

-- ---- the same, but the collection was refused memory

abbrev pub lacking_collection : Turn
lacking_collection = record small_collection { reply = Refused OutOfMemory }

abbrev pub lacking_history : NodeLog
lacking_history = turn 0 0 (Some (small_entry 0 small_put)) ∷ turn 1 0 None ∷ []

abbrev pub lacking_actors : ℕ → List SlotActor
lacking_actors zero = small_actors 0
lacking_actors (suc zero) = record { slot = 1; did = told (Collects lacking_collection) (reply.Refused OutOfMemory) ∷ [] } ∷ []
lacking_actors (suc (suc seat)) = []
