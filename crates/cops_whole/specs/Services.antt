-- A service that ran: one history of all turns at its nodes, and what each seat did.
use Rattle.std.specs.Prelude.{◌≡◌, ◌⊎◌, ℕ, suc, ◌*◌, ◌<◌, ◌≤◌, ◌==◌, max, map, List, [], ◌∷◌, Option, Some, None, if◌then◌else◌}
use Rattle.std.specs.List.{AllByRecursion}
use Rattle.cops_types.specs.declared.configs.Config.{Config}
use Rattle.cops_types.specs.declared.configs.Tenant.{Tenant}
use Rattle.cops_types.specs.declared.faults.Fault.TheVariants.{OutOfMemory}
use Rattle.cops_types.specs.TenantConfig.{tenant_config}
use Rattle.cops_gate.specs.declared.history.Turn.{Turn}
use Rattle.cops_gate.specs.History.{IsLegal, Leads, LeavesLacking, entry, turns_at}
use Rattle.cops_gate.specs.Seats.{Extends, HasAllOf}
use Rattle.cops_model.specs.declared.calls.NodeCall.{NodeCall}
use Rattle.cops_model.specs.declared.calls.NodeId.{NodeId}
use Rattle.cops_model.specs.declared.calls.NodeReply.{NodeReply}
use Rattle.cops_model.specs.declared.calls.NodeReply.TheVariants.{Refused}
use Rattle.cops_model.specs.Place.{node_number}
use Rattle.cops_node.specs.Clusters.{new_nodes, new_shared}
use Rattle.cops_node.specs.Lacking.{MayLack}
use Rattle.cops_node.specs.Parts.{Shared, IsMachineTurn}
use Rattle.cops_service.specs.Desks.{IsDeskCall, NodeSeat}
use Rattle.cops_service.specs.Gates.{Gates, HasNoTurn, openings}
use Rattle.cops_service.specs.Slots.{NodeEntry, NodeLog}
use Rattle.cops_history.specs.History.{AreActs, all_done, seat_in}
use Rattle.cops_history.specs.Turns.{node_numbered}
use Rattle.cops_whole.specs.NoOps.{kept_log}
use Rattle.cops_whole.specs.Seats.{BehavesInSlot, IsServedCluster, MakesAll, SlotActor, own_commands}
use Rattle.cops_whole.specs.Whole.{CallEntry, WholeTurn, Represents, own_log, place_there, whole_turn}

-- an entry of a history that a gate keeps, in a log
abbrev pub logged_entry : Option NodeEntry → Option CallEntry
logged_entry None = None
logged_entry (Some e) = Some (record { slot = e.slot; moment = e.moment; call = e.call; reply = e.reply })

-- a history that a gate keeps, as a log
abbrev pub logged_history : NodeLog → List WholeTurn
logged_history history = map (λ t. whole_turn t.seat t.node (logged_entry t.entry)) history

-- a call at a desk, at a shard that exists
abbrev pub IsCallAtShard : Config → Gates Shared → NodeSeat → NodeId → ℕ → ℕ → NodeCall → NodeReply → NodeSeat → Type 0
IsCallAtShard config cluster old id slot moment call reply new = (id.shard < config.shards) × IsDeskCall cluster old id slot moment call reply new

-- a call of a seat that got a ticket: the node of this number made a turn, a no-op turn if memory ran out
abbrev pub IsTurnAtNode : Gates Shared → ℕ → NodeSeat → ℕ → ℕ → NodeCall → NodeReply → NodeSeat → Type 0
IsTurnAtNode cluster node old slot moment call reply new =
    (new.number ≡ old.number)
    × (Extends IsMachineTurn (openings cluster) node old (Some (entry slot moment call reply)) new
    ⊎ (reply ≡ Refused OutOfMemory) × Extends IsMachineTurn (openings cluster) node old None new × LeavesLacking IsMachineTurn MayLack (openings cluster) old.number node slot call new.history)

-- such a call at a shard that exists
abbrev pub IsTurnAtShard : Config → Gates Shared → NodeSeat → NodeId → ℕ → ℕ → NodeCall → NodeReply → NodeSeat → Type 0
IsTurnAtShard config cluster old id slot moment call reply new = (id.shard < config.shards) × IsTurnAtNode cluster (node_number cluster.shards id) old slot moment call reply new

-- The seat of this number had made no turn. Then it made the calls of these actors at a desk, one after another. Each actor behaves, and each of its
-- calls got a ticket. The history has all that the seat has seen as a prefix, and no other turn of it.
pub record SeatDid (config : Config) (cluster : Gates Shared) (history : NodeLog) (seat : ℕ) (actors : List SlotActor) : Type 0 where
  pub first : NodeSeat
  pub last : NodeSeat
  pub number_is : first.number ≡ seat
  pub no_turn : HasNoTurn first
  pub made : MakesAll (IsTurnAtShard config cluster) first actors last
  pub behave : AllByRecursion (BehavesInSlot config) actors
  pub all_of : HasAllOf history last

-- The gate opened with the new nodes of the configuration, and the history is legal at each node.
pub record IsGateHistory (config : Config) (cluster : Gates Shared) (history : NodeLog) : Type 0 where
  pub shards : cluster.shards ≡ config.shards
  pub opened : openings cluster ≡ (new_nodes config).nodes
  pub legal : (number : ℕ) → number < config.data_centres * config.shards → IsLegal IsMachineTurn (new_shared config number) (turns_at number history)

-- Each turn of the gate's history is of one of so many seats, and each seat did the calls of its actors.
pub record IsServiceRun (config : Config) (cluster : Gates Shared) (history : NodeLog) (seats : ℕ) (actors : ℕ → List SlotActor) : Type 0 where
  pub gate : IsGateHistory config cluster history
  pub seated : AllByRecursion (λ (t : Turn NodeCall NodeReply). t.seat < seats) history
  pub did : (seat : ℕ) → seat < seats → SeatDid config cluster history seat (actors seat)
  pub few : (seat : ℕ) → seats ≤ seat → actors seat ≡ []

-- a log of all calls of the service: the gate keeps it as this history
pub record IsLogOfService (config : Config) (history : NodeLog) (seats : ℕ) (actors : ℕ → List SlotActor) (log : List WholeTurn) : Type 0 where
  pub kept : kept_log log ≡ logged_history history
  pub served : IsServedCluster config log seats actors

-- The commands of the tenant's actors are acts of a cluster that the tenant has to itself. A node that the history leaves represents, for the tenant,
-- the node that these acts leave.
pub record IsTenantOfService (config : Config) (tenant : Tenant) (slot : ℕ) (history : NodeLog) (actors : ℕ → List SlotActor) (log : List WholeTurn) : Type 0 where
  pub acts : AreActs (tenant_config config tenant) (own_log config slot log) seat_in (all_done (λ seat. own_commands slot (actors seat)))
  pub nodes : (number : ℕ) (left : Shared) → number < config.data_centres * config.shards → Leads IsMachineTurn (new_shared config number) (turns_at number history) left →
      Represents slot (place_there config tenant number) (node_numbered (tenant_config config tenant) number acts.run.left.nodes) left

-- ---- seats that threads gave back

-- a seat's number, and what it did
pub record SeatDeeds (D : Type 0) : Type 0 where
  pub number : ℕ
  pub did : List D

-- the actors whose calls a seat made
abbrev pub SeatActors : Type 0
SeatActors = SeatDeeds SlotActor

module _ {D : Type 0} where
  -- one of these seats has this number
  abbrev pub IsNumbered : List (SeatDeeds D) → ℕ → Type 0
  IsNumbered [] number = ⊥
  IsNumbered (seat ∷ crew) number = (seat.number ≡ number) ⊎ IsNumbered crew number

  -- what the first of these seats with this number did
  abbrev pub did_by : List (SeatDeeds D) → ℕ → List D
  did_by [] number = []
  did_by (seat ∷ crew) number = if seat.number == number then seat.did else did_by crew number

  -- more than each of their numbers
  abbrev pub past_numbers : List (SeatDeeds D) → ℕ
  past_numbers [] = 0
  past_numbers (seat ∷ crew) = max (suc seat.number) (past_numbers crew)

-- Each of these seats did the calls of its actors, and no other seat made a turn.
pub record IsCrewRun (config : Config) (cluster : Gates Shared) (history : NodeLog) (crew : List SeatActors) : Type 0 where
  pub gate : IsGateHistory config cluster history
  pub did : AllByRecursion (λ (s : SeatActors). SeatDid config cluster history s.number s.did) crew
  pub seated : AllByRecursion (λ (t : Turn NodeCall NodeReply). IsNumbered crew t.seat) history
