-- The clients of a service whose tenants come and go, and the sessions that answered them.
use Rattle.std.specs.Prelude.{◌≡◌, ℕ, zero, suc, map, List, [], ◌∷◌, ◌++◌, None}
use Rattle.std.specs.List.{AllByRecursion}
use mathlib.Core.Logic.{inl, inr}
use Rattle.cops_types.specs.declared.configs.Config.{Config}
use Rattle.cops_types.specs.declared.configs.Tenant.{Tenant}
use Rattle.cops_types.specs.TenantConfig.{tenant_config}
use Rattle.cops_model.specs.declared.replies.Reply.TheVariants as reply
use Rattle.cops_model.specs.MainTheorem.{with_tenant_alone}
use Rattle.cops_node.specs.Hosting.{Hosted}
use Rattle.cops_history.specs.Commands.{Opens}
use Rattle.cops_history.specs.History.{Behaves, Told}
use Rattle.cops_served.specs.Conversations.{AnswersEach}
use Rattle.cops_service.specs.Gates.{Gates}
use Rattle.cops_service.specs.HostedCrews.{CallsInLife}
use Rattle.cops_service.specs.HostedDesks.{HostedSeat}
use Rattle.cops_service.specs.LifeCrews.{ServesInLife, ServesLives}
use Rattle.cops_service.specs.Repeated.{Repeats}
use Rattle.cops_service.specs.SeatsDone.{HasSinceDone}
use Rattle.cops_service.specs.declared.roster.Life.{Life}
use Rattle.cops_wire.specs.declared.messages.Message.{Message}
use Rattle.cops_whole.specs.Clients.{Conversation, conversation_in}
use Rattle.cops_whole.specs.LivesRuns.{Deed, LifeActor}
use Rattle.cops_whole.specs.LivesRuns.Deed.{Acts, Hosts}

-- a client's conversation: the life in which it was served, the tenant that it greeted as, its data centre, and its requests with their replies, in order
pub record LifeConversation : Type 0 where
  pub life : Life
  pub tenant : Tenant
  pub dc : ℕ
  pub requests : List Message
  pub replies : List Message

abbrev pub in_life : Life → Tenant → Conversation → LifeConversation
in_life life tenant c = record { life = life; tenant = tenant; dc = c.dc; requests = c.requests; replies = c.replies }

-- the actor is the session that was opened for the client: its commands are the client's requests, and its replies those that the client got
pub record IsSessionInLife (config : Config) (c : LifeConversation) (actor : LifeActor) : Type 0 where
  pub slot : actor.slot ≡ c.life.slot
  pub life : actor.life ≡ c.life.number
  pub did : List Told
  pub opened : actor.did ≡ record { command = Opens c.dc; reply = reply.Opened } ∷ did
  pub answers : AnswersEach c.requests c.replies did
  pub behaves : Behaves (tenant_config config c.tenant) None actor.did

abbrev pub IsSessionDeed : Config → LifeConversation → Deed → Type 0
IsSessionDeed config c (Acts actor) = IsSessionInLife config c actor
IsSessionDeed config c (Hosts call) = ⊥

-- one for each, in order
abbrev pub AreSessionsInLives : Config → List LifeConversation → List Deed → Type 0
AreSessionsInLives config [] [] = Unit {0}
AreSessionsInLives config [] (deed ∷ deeds) = ⊥
AreSessionsInLives config (c ∷ conversations) [] = ⊥
AreSessionsInLives config (c ∷ conversations) (deed ∷ deeds) = IsSessionDeed config c deed × AreSessionsInLives config conversations deeds

module _ {M : Type 0} (Gives : M → ℕ → M → Type 0) (moments : M) (config : Config) (cluster : Gates Hosted) where
  -- a client that was served to the end or in part, and none if its greeting was refused
  abbrev pub served_once : (first last : HostedSeat × M) → ServesInLife config cluster Gives first last → List LifeConversation
  served_once first last (inl none) = []
  served_once first last (inr (seen, more, life, tenant, shown, h)) = map (in_life life tenant) (conversation_in (CallsInLife cluster life) Gives (with_tenant_alone config tenant) seen last.0 first.1 last.1 h)

  abbrev pub served_in : (count : ℕ) (first last : HostedSeat × M) → Repeats (ServesInLife config cluster Gives) count first last → List LifeConversation
  served_in zero first last same = []
  served_in (suc count) first last (between, earlier, step) = served_in count first between earlier ++ served_once between last step

  abbrev pub IsWorker : HostedSeat → Type 0
  IsWorker = HasSinceDone cluster (ServesLives config cluster Gives moments)

  -- the clients of a worker's seat
  abbrev pub clients_of : (seat : HostedSeat) → IsWorker seat → List LifeConversation
  clients_of seat done = served_in done.does.1.0 (done.first, moments) (seat, done.does.0) done.does.1.1

  -- the clients of all workers
  abbrev pub clients_of_all : (seats : List HostedSeat) → AllByRecursion IsWorker seats → List LifeConversation
  clients_of_all [] all = []
  clients_of_all (seat ∷ seats) all = clients_of seat all.0 ++ clients_of_all seats all.1

  -- what each worker's seat did, by its number, are the sessions of its clients
  abbrev pub AnswerInLives : (ℕ → List Deed) → (seats : List HostedSeat) → AllByRecursion IsWorker seats → Type 0
  AnswerInLives deeds [] all = Unit {0}
  AnswerInLives deeds (seat ∷ seats) all = AreSessionsInLives config (clients_of seat all.0) (deeds seat.number) × AnswerInLives deeds seats all.1
