-- The seats that the threads of a service gave back whose tenants come and go, as actors of its tenants in their lives.
use Rattle.std.specs.Prelude.{◌≡◌, ◌⊎◌, ℕ, zero, suc, ◌^◌, ◌<◌, ◌++◌, map, length, List, Option, Some, slice_get}
use Rattle.std.specs.List.{AllByRecursion}
use Rattle.cops_types.specs.declared.configs.Config.{Config}
use Rattle.cops_types.specs.declared.configs.Tenant.{Tenant}
use Rattle.cops_types.specs.TenantConfig.{tenant_config}
use Rattle.cops_gate.specs.History.{turns_at}
use Rattle.cops_node.specs.Hosting.{Held, Hosted, slot_holds}
use Rattle.cops_node.specs.Parts.{Shared}
use Rattle.cops_model.specs.declared.replies.HostReply.{HostReply}
use Rattle.cops_model.specs.declared.replies.HostReply.TheVariants.{Admitted}
use Rattle.cops_model.specs.Setups.{next_slot}
use Rattle.cops_service.specs.Gates.{Gates}
use Rattle.cops_service.specs.Hosted.{HostedLog}
use Rattle.cops_service.specs.HostedCrews.{Hosting}
use Rattle.cops_service.specs.HostedDesks.{HostedSeat}
use Rattle.cops_service.specs.LifeCrews.{AreServedInLives, FollowsSomeLine}
use Rattle.cops_service.specs.Repeated.{Repeats}
use Rattle.cops_service.specs.Rosters.{Roster, first_roster}
use Rattle.cops_service.specs.declared.host_lines.HostLine.{HostLine}
use Rattle.cops_service.specs.declared.host_lines.HostLine.TheVariants as line
use Rattle.cops_history.specs.Lives.{IsToldUnknown, LivesCausally, SlotTurn, held_there}
use Rattle.cops_history.specs.Turns.{node_numbered}
use Rattle.cops_whole.specs.LifeClients.{AnswerInLives, LifeConversation, clients_of_all}
use Rattle.cops_whole.specs.LivesRuns.{Deed, IsLogOfLives, commands_in_life}
use Rattle.cops_whole.specs.Services.{SeatDeeds, did_by}

-- fewer than 2^62 turns were made at each node
abbrev pub HasTicketsForLives : HostedLog → Type 0
HasTicketsForLives history = (node : ℕ) → length (turns_at node history) < 2 ^ 62

-- each client that was served in this life was greeted as this tenant
abbrev pub GreetAs : Tenant → ℕ → ℕ → List LifeConversation → Type 0
GreetAs tenant slot life clients = AllByRecursion (λ (c : LifeConversation). c.life.slot ≡ slot → c.life.number ≡ life → c.tenant ≡ tenant) clients

-- ---- lives

-- the answer to the line is that the tenant is admitted, in this life of the slot
pub record IsAdmittedAs (tenant : Tenant) (slot life : ℕ) (roster : Roster) (said : HostLine) (answer : Option HostReply) : Type 0 where
  pub asked : said ≡ line.Admit tenant
  pub told : answer ≡ Some (Admitted tenant.name)
  pub slot_is : slot ≡ next_slot roster.tenants
  pub life_is : life ≡ roster.next

-- one of these lines of the host is answered so
abbrev pub BeganIn : (cluster : Gates Hosted) (tenant : Tenant) (slot life : ℕ) (count : ℕ) (old new : Hosting) → Repeats (FollowsSomeLine cluster) count old new → Type 0
BeganIn cluster tenant slot life zero old new same = ⊥
BeganIn cluster tenant slot life (suc count) old new (between, earlier, (said, follows)) =
    BeganIn cluster tenant slot life count old between earlier ⊎ IsAdmittedAs tenant slot life between.roster said follows.told

-- the tenant has this life of the slot: in the configuration it is life 0, and the host's lines begin others
abbrev pub HasLife : {M : Type 0} (Gives : M → ℕ → M → Type 0) (moments : M) (config : Config) (workers : ℕ) (nodes : List Shared) (open_tenants : Roster) → AreServedInLives Gives moments config workers nodes open_tenants → Tenant → ℕ → ℕ → Type 0
HasLife Gives moments config workers nodes open_tenants served tenant slot life =
    let host = served.seen.crew.those.those in
    ((life ≡ 0) × (slice_get config.tenants slot ≡ Some tenant))
    ⊎ BeganIn served.cluster tenant slot life host.that.does.0 (record { roster = first_roster config; seat = host.that.first }) (record { roster = open_tenants; seat = host.one }) host.that.does.1

-- turns of a log, from its beginning, in which no call of the life got `UnknownTenant`
pub record IsUntilUnknown (slot life : ℕ) (prefix log : List SlotTurn) : Type 0 where
  pub later : List SlotTurn
  pub are : log ≡ prefix ++ later
  pub known : AllByRecursion (λ (t : SlotTurn). IsToldUnknown slot life t.entry → ⊥) prefix

-- ---- the service

-- One log of all calls of the service serves each life causally until one of its calls gets `UnknownTenant`. If none does, a node that has the life in
-- the end holds what its acts leave. `who` is the tenant of each life of a slot: the clients of the life were greeted as this tenant.
pub record ServesLivesCausally (Has : Tenant → ℕ → ℕ → Type 0) (who : ℕ → ℕ → Tenant) (config : Config) (history : HostedLog) (left : List Hosted) (crew : List (SeatDeeds Deed)) (clients : List LifeConversation) : Type 0 where
  pub log : List SlotTurn
  pub is_log : IsLogOfLives config history (did_by crew) log
  pub greet : (slot life : ℕ) → Has (who slot life) slot life → GreetAs (who slot life) slot life clients
  pub lives : (slot life : ℕ) (prefix : List SlotTurn) → Has (who slot life) slot life → IsUntilUnknown slot life prefix log →
      LivesCausally config (who slot life) slot life prefix (λ seat. commands_in_life slot life (did_by crew seat))
  pub holds : (slot life number : ℕ) (node : Hosted) (held : Held) (has : Has (who slot life) slot life) (known : IsUntilUnknown slot life log log) →
      slice_get left number ≡ Some node → slot_holds slot node ≡ Some held → held.life ≡ life →
      held ≡ held_there config (who slot life) life number (node_numbered (tenant_config config (who slot life)) number (lives slot life log has known).acts.run.left.nodes)

-- What the threads' seats did are the sessions of its clients, carriers, collections, and the host's calls. If no node ran out of tickets, each life was
-- served causally.
pub record AreServedByDeeds {M : Type 0} (Gives : M → ℕ → M → Type 0) (moments : M) (who : ℕ → ℕ → Tenant) (config : Config) (workers : ℕ) (nodes : List Shared) (open_tenants : Roster)
    (served : AreServedInLives Gives moments config workers nodes open_tenants) : Type 0 where
  pub crew : List (SeatDeeds Deed)
  pub numbers : map (λ (s : SeatDeeds Deed). s.number) crew ≡ map (λ (s : HostedSeat). s.number) served.seen.seats
  pub sessions : AnswerInLives Gives moments config served.cluster (did_by crew) served.seen.crew.those.those.others served.seen.crew.those.those.those.1
  pub causally : HasTicketsForLives served.log →
      ServesLivesCausally (HasLife Gives moments config workers nodes open_tenants served) who config served.log served.left crew (clients_of_all Gives moments config served.cluster served.seen.crew.those.those.others served.seen.crew.those.those.those.1)
