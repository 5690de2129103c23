-- The threads of a service whose tenants come and go: what each did with its seat, and the one history that has it all.
use Rattle.std.specs.Prelude.{◌≡◌, ◌⊎◌, ℕ, ◌+◌, ◌^◌, List, map, length, IsTrue}
use Rattle.std.specs.List.{AllByRecursion}
use Rattle.cops_types.specs.declared.configs.Config.{Config}
use Rattle.cops_types.specs.declared.configs.Tenant.{Tenant}
use Rattle.cops_types.specs.HeadLines.{are_sizes}
use Rattle.cops_gate.specs.History.{turns_at}
use Rattle.cops_gate.specs.Rule.{AreDistinctNumbers, Met}
use Rattle.cops_gate.specs.Seats.{AreMadeBy}
use Rattle.cops_model.specs.MainTheorem.{with_tenant_alone}
use Rattle.cops_node.specs.Clusters.{new_nodes, shape_of}
use Rattle.cops_node.specs.Hosting.{Hosted}
use Rattle.cops_node.specs.Parts.{Shared}
use Rattle.cops_service.specs.Conversing.{Converses}
use Rattle.cops_service.specs.Admitted.{ShowsLife}
use Rattle.cops_service.specs.Gates.{Gates, HasSeenMore, openings}
use Rattle.cops_service.specs.Hosted.{HostedLog}
use Rattle.cops_service.specs.HostedCrews.{CallsInLife, CarriesLives, CollectsLives, FollowsLine, Hosting}
use Rattle.cops_service.specs.HostedDesks.{AreHosted, HostedSeat, IsInFirstLives, hosted_node, hosted_shape}
use Rattle.cops_service.specs.HostedLeft.{LeavesEachHosted}
use Rattle.cops_service.specs.Repeated.{IsRepeated}
use Rattle.cops_service.specs.Rosters.{Roster, first_roster}
use Rattle.cops_service.specs.SeatsDone.{AreAllDone, AreThenOne, HasSeenAll, HasSinceDone}
use Rattle.cops_service.specs.declared.host_lines.HostLine.{HostLine}
use Rattle.cops_service.specs.declared.roster.Life.{Life}

-- the cluster has the nodes of this configuration, at which tenants come and go
pub record IsHostedFor (config : Config) (cluster : Gates Hosted) : Type 0 where
  pub nodes : AreHosted cluster
  pub shape : hosted_shape cluster ≡ shape_of config
  pub sizes : IsTrue (are_sizes config)

module _ (config : Config) (cluster : Gates Hosted) where
  -- ---- workers

  -- A client was greeted as this tenant and served with a session of it, all of whose calls are in this life; or its greeting was refused
  abbrev pub ConversesInLife : {M : Type 0} → (M → ℕ → M → Type 0) → Life → Tenant → (HostedSeat × M) → (HostedSeat × M) → Type 0
  ConversesInLife Gives life tenant first last = Converses (CallsInLife cluster life) Gives (with_tenant_alone config tenant) first.0 last.0 first.1 last.1

  -- So it was, in a life of the tenant, as the seat had seen by then. Or no call was made. Meanwhile the seat may have seen more
  abbrev pub ServesInLife : {M : Type 0} → (M → ℕ → M → Type 0) → (HostedSeat × M) → (HostedSeat × M) → Type 0
  ServesInLife Gives first last =
      (HasSeenMore first.0 last.0 × (last.1 ≡ first.1))
      ⊎ ((seen : HostedSeat) × HasSeenMore first.0 seen × (life : Life) × (tenant : Tenant) × ShowsLife config cluster life tenant seen.history × ConversesInLife Gives life tenant (seen, first.1) last)

  -- a worker's seat goes from the first to the second: clients are served, one after another, each in one life
  abbrev pub ServesLives : {M : Type 0} → (M → ℕ → M → Type 0) → M → HostedSeat → HostedSeat → Type 0
  ServesLives {M = M} Gives moments first last = (later : M) × IsRepeated (ServesInLife Gives) (first, moments) (last, later)

-- ---- host

module _ (cluster : Gates Hosted) where
  abbrev pub FollowsSomeLine : Hosting → Hosting → Type 0
  FollowsSomeLine old new = (said : HostLine) × FollowsLine cluster said old new

  -- the host's seat goes from the first to the second, and its tenants likewise: lines are followed, one after another
  abbrev pub FollowsLines : Roster → Roster → HostedSeat → HostedSeat → Type 0
  FollowsLines before after first last = IsRepeated FollowsSomeLine (record { roster = before; seat = first }) (record { roster = after; seat = last })

-- ---- all threads

module _ {M : Type 0} (Gives : M → ℕ → M → Type 0) (moments : M) (config : Config) (cluster : Gates Hosted) where
  -- the seats of this many workers
  abbrev pub AreOfLifeWorkers : ℕ → List HostedSeat → Type 0
  AreOfLifeWorkers = AreAllDone cluster (ServesLives config cluster Gives moments)

  -- and then that of the host, who began and ended with these tenants
  abbrev pub AreOfHosts : ℕ → Roster → Roster → List HostedSeat → Type 0
  AreOfHosts count before after = AreThenOne (AreOfLifeWorkers count) (HasSinceDone cluster (FollowsLines cluster before after))

  -- and then that of the carrier
  abbrev pub AreOfLifeServers : ℕ → Roster → Roster → List HostedSeat → Type 0
  AreOfLifeServers count before after = AreThenOne (AreOfHosts count before after) (HasSinceDone cluster (CarriesLives config cluster))

  -- and then that of the collector
  abbrev pub AreOfLifeCrew : ℕ → Roster → Roster → List HostedSeat → Type 0
  AreOfLifeCrew count before after = AreThenOne (AreOfLifeServers count before after) (HasSinceDone cluster (CollectsLives config cluster))

  -- the first seat, into which the threads' seats ended
  abbrev pub HasSeenLives : ℕ → Roster → Roster → HostedSeat → Type 0
  HasSeenLives count before after = HasSeenAll (AreOfLifeCrew count before after) (count + 1 + 1 + 1)

-- One history leaves these nodes from the new ones of the configuration, whose tenants are in their slots' lives 0. It has all that the threads' seats saw,
-- and each of its turns was made by one of these seats, no two of which have one number. The turns of a seat are those that it made: conversations of a
-- worker, the host's admissions and closes, carriers, or collections. In the end these tenants are open. At a node at which one of them met the last
-- ticket, 2^62 turns were made.
pub record AreServedInLives {M : Type 0} (Gives : M → ℕ → M → Type 0) (moments : M) (config : Config) (workers : ℕ) (nodes : List Shared) (open_tenants : Roster) : Type 0 where
  pub cluster : Gates Hosted
  pub opened : map hosted_node (openings cluster) ≡ (new_nodes config).nodes
  pub lives : AllByRecursion IsInFirstLives (openings cluster)
  pub shards : cluster.shards ≡ config.shards
  pub left : List Hosted
  pub nodes_are : map hosted_node left ≡ nodes
  pub log : HostedLog
  pub leaves : LeavesEachHosted (openings cluster) log left
  pub last : HostedSeat
  pub whole : log ≡ last.history
  pub seen : HasSeenLives Gives moments config cluster workers (first_roster config) open_tenants last
  pub made : AreMadeBy (map (λ (s : HostedSeat). s.number) seen.seats) log
  pub apart : AreDistinctNumbers (map (λ (s : HostedSeat). s.number) seen.seats)
  pub exhausted : (node : ℕ) → Met node last.spent → length (turns_at node log) ≡ 2 ^ 62
