-- The seats that the threads of a service gave back, as actors of its tenants.
use Rattle.std.specs.Prelude.{◌≡◌, ℕ, ◌^◌, ◌<◌, map, length, List, slice_get, Some}
use Rattle.cops_types.specs.declared.configs.Config.{Config}
use Rattle.cops_types.specs.declared.configs.Tenant.{Tenant}
use Rattle.cops_types.specs.TenantConfig.{tenant_config}
use Rattle.cops_gate.specs.History.{turns_at}
use Rattle.cops_node.specs.Parts.{Shared}
use Rattle.cops_service.specs.Crews.{AreServedBy}
use Rattle.cops_service.specs.Desks.{NodeSeat}
use Rattle.cops_service.specs.Slots.{NodeLog}
use Rattle.cops_history.specs.Turns.{node_numbered}
use Rattle.cops_whole.specs.Services.{IsLogOfService, IsTenantOfService, SeatActors, did_by, past_numbers}
use Rattle.cops_whole.specs.Clients.{AnswerClients}
use Rattle.cops_whole.specs.Whole.{WholeTurn, Represents, place_there}

-- fewer than 2^62 turns were made at each node
abbrev pub HasTicketsLeft : NodeLog → Type 0
HasTicketsLeft history = (node : ℕ) → length (turns_at node history) < 2 ^ 62

-- One log of all calls of the service serves each tenant causally. The nodes that are left represent what the tenant's acts leave.
pub record ServesAllCausally (config : Config) (history : NodeLog) (nodes : List Shared) (crew : List SeatActors) : Type 0 where
  pub log : List WholeTurn
  pub is_log : IsLogOfService config history (past_numbers crew) (did_by crew) log
  pub tenants : (slot : ℕ) (tenant : Tenant) → slice_get config.tenants slot ≡ Some tenant → IsTenantOfService config tenant slot history (did_by crew) log
  pub left : (slot : ℕ) (tenant : Tenant) (found : slice_get config.tenants slot ≡ Some tenant) (number : ℕ) (node : Shared) → slice_get nodes number ≡ Some node →
      Represents slot (place_there config tenant number) (node_numbered (tenant_config config tenant) number (tenants slot tenant found).acts.run.left.nodes) node

-- The calls of the threads' seats are those of these actors, who behave. Those of a worker are the sessions of its clients' conversations, with the replies
-- that the clients got. If no node ran out of tickets, all tenants were served causally.
pub record AreServedByActors {M : Type 0} (Gives : M → ℕ → M → Type 0) (moments : M) (config : Config) (workers : ℕ) (nodes : List Shared) (served : AreServedBy Gives moments config workers nodes) : Type 0 where
  pub crew : List SeatActors
  pub numbers : map (λ (s : SeatActors). s.number) crew ≡ map (λ (s : NodeSeat). s.number) served.seen.seats
  pub sessions : AnswerClients Gives moments config served.cluster (did_by crew) served.seen.crew.serve.workers served.seen.crew.serve.serve.1
  pub causally : HasTicketsLeft served.log → ServesAllCausally config served.log nodes crew
