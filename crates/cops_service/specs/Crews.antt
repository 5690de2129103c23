-- The threads of a service: what each did with its seat, and the one history that has it all.
use Rattle.std.specs.Prelude.{◌≡◌, ℕ, ◌+◌, ◌^◌, List, [], ◌∷◌, ◌++◌, map, length, IsTrue}
use Rattle.cops_types.specs.declared.configs.Config.{Config}
use Rattle.cops_types.specs.HeadLines.{are_sizes}
use Rattle.cops_gate.specs.History.{turns_at}
use Rattle.cops_gate.specs.Rule.{AreDistinctNumbers, Met}
use Rattle.cops_gate.specs.Seats.{AreMadeBy}
use Rattle.cops_node.specs.Clusters.{new_nodes, shape_of}
use Rattle.cops_node.specs.Parts.{Shared}
use Rattle.cops_service.specs.Calling.{CollectAll}
use Rattle.cops_service.specs.Carried.{DeliverAll}
use Rattle.cops_service.specs.Conversing.{ConverseAll}
use Rattle.cops_service.specs.Desks.{AreNodes, IsDeskCall, NodeSeat, shape_in}
use Rattle.cops_service.specs.Gates.{Gates, openings}
use Rattle.cops_service.specs.Left.{LeavesEach}
use Rattle.cops_service.specs.SeatsDone.{AreAllDone, HasSeenAll, HasSinceDone}
use Rattle.cops_service.specs.Slots.{NodeLog}

-- the cluster has the nodes of this configuration
pub record IsOpenFor (config : Config) (cluster : Gates Shared) : Type 0 where
  pub nodes : AreNodes cluster
  pub shape : shape_in cluster ≡ shape_of config
  pub sizes : IsTrue (are_sizes config)

module _ (config : Config) (cluster : Gates Shared) where
  -- A worker's seat goes from the first to the second: conversations with clients, one after another. Each call is one at the cluster
  abbrev pub ServesClients : {M : Type 0} → (M → ℕ → M → Type 0) → M → NodeSeat → NodeSeat → Type 0
  ServesClients {M = M} Gives moments first last = (count : ℕ) × (later : M) × ConverseAll (IsDeskCall cluster) Gives config count first last moments later

  -- a carrier's: each stream is carried from its first call to its end
  abbrev pub CarriesStreams : NodeSeat → NodeSeat → Type 0
  CarriesStreams first last = (count : ℕ) × DeliverAll (IsDeskCall cluster) config count first last

  -- a collector's: places are collected
  abbrev pub CollectsPlaces : NodeSeat → NodeSeat → Type 0
  CollectsPlaces first last = (count : ℕ) × CollectAll (IsDeskCall cluster) config count first last

module _ {M : Type 0} (Gives : M → ℕ → M → Type 0) (moments : M) (config : Config) (cluster : Gates Shared) where
  -- the seats of this many workers
  abbrev pub AreOfWorkers : ℕ → List NodeSeat → Type 0
  AreOfWorkers = AreAllDone cluster (ServesClients config cluster Gives moments)

  -- the seats of this many workers, and then that of the carrier
  pub record AreOfServers (count : ℕ) (seats : List NodeSeat) : Type 0 where
    pub workers : List NodeSeat
    pub carrier : NodeSeat
    pub are : seats ≡ workers ++ carrier ∷ []
    pub serve : AreOfWorkers count workers
    pub carries : HasSinceDone cluster (CarriesStreams config cluster) carrier

  -- and then that of the collector
  pub record AreOfCrew (count : ℕ) (seats : List NodeSeat) : Type 0 where
    pub servers : List NodeSeat
    pub collector : NodeSeat
    pub are : seats ≡ servers ++ collector ∷ []
    pub serve : AreOfServers count servers
    pub collects : HasSinceDone cluster (CollectsPlaces config cluster) collector

  -- the first seat, into which the threads' seats ended
  abbrev pub HasSeenCrew : ℕ → NodeSeat → Type 0
  HasSeenCrew workers = HasSeenAll (AreOfCrew workers) (workers + 1 + 1)

-- One history leaves these nodes from the new ones of the configuration. It has all that the threads' seats saw, and each of its turns was made by one
-- of these seats, no two of which have one number. The turns of a seat are those that it made: conversations of a worker, carriers, or collections.
-- At a node at which one of them met the last ticket, 2^62 turns were made.
pub record AreServedBy {M : Type 0} (Gives : M → ℕ → M → Type 0) (moments : M) (config : Config) (workers : ℕ) (nodes : List Shared) : Type 0 where
  pub cluster : Gates Shared
  pub opened : openings cluster ≡ (new_nodes config).nodes
  pub shards : cluster.shards ≡ config.shards
  pub log : NodeLog
  pub leaves : LeavesEach (openings cluster) log nodes
  pub last : NodeSeat
  pub whole : log ≡ last.history
  pub seen : HasSeenCrew Gives moments config cluster workers last
  pub made : AreMadeBy (map (λ (s : NodeSeat). s.number) seen.seats) log
  pub apart : AreDistinctNumbers (map (λ (s : NodeSeat). s.number) seen.seats)
  pub exhausted : (node : ℕ) → Met node last.spent → length (turns_at node log) ≡ 2 ^ 62
