-- The conversations of a service's workers, and the sessions that answered them.
use Rattle.std.specs.Prelude.{◌≡◌, ℕ, zero, suc, List, [], ◌∷◌, ◌++◌}
use Rattle.std.specs.List.{AllByRecursion}
use mathlib.Core.Logic.{inl, inr}
use Rattle.cops_types.specs.declared.configs.Config.{Config}
use Rattle.cops_model.specs.declared.calls.NodeCall.{NodeCall}
use Rattle.cops_model.specs.declared.calls.NodeId.{NodeId}
use Rattle.cops_model.specs.declared.calls.NodeReply.{NodeReply}
use Rattle.cops_model.specs.declared.replies.Reply.TheVariants as reply
use Rattle.cops_node.specs.Parts.{Shared}
use Rattle.cops_history.specs.Commands.{Opens}
use Rattle.cops_history.specs.History.{Told}
use Rattle.cops_served.specs.Conversations.{AnswersEach}
use Rattle.cops_service.specs.Conversing.{ConverseAll, Converses}
use Rattle.cops_service.specs.Crews.{ServesClients}
use Rattle.cops_service.specs.Desks.{IsDeskCall, NodeSeat}
use Rattle.cops_service.specs.Gates.{Gates}
use Rattle.cops_service.specs.SeatsDone.{HasSinceDone}
use Rattle.cops_wire.specs.declared.messages.Message.{Message}
use Rattle.cops_whole.specs.Seats.{SlotActor}

-- a client's conversation: the slot of the tenant that it greeted as, its data centre, and its requests with their replies, in order
pub record Conversation : Type 0 where
  pub slot : ℕ
  pub dc : ℕ
  pub requests : List Message
  pub replies : List Message

module _ {N M : Type 0} (Calls : N → NodeId → ℕ → ℕ → NodeCall → NodeReply → N → Type 0) (Gives : M → ℕ → M → Type 0) (config : Config) where
  -- a client that was served to the end or in part, and none if its greeting was refused
  abbrev pub conversation_in : (nodes new_nodes : N) (moments new_moments : M) → Converses Calls Gives config nodes new_nodes moments new_moments → List Conversation
  conversation_in nodes new_nodes moments new_moments (inl (ended, h)) = record { slot = h.slot; dc = h.dc; requests = h.serves.requests; replies = h.serves.replies } ∷ []
  conversation_in nodes new_nodes moments new_moments (inr (inl greeting)) = []
  conversation_in nodes new_nodes moments new_moments (inr (inr h)) = record { slot = h.slot; dc = h.dc; requests = h.serves.requests; replies = h.serves.replies } ∷ []

  abbrev pub conversations_in : (count : ℕ) (nodes new_nodes : N) (moments new_moments : M) → ConverseAll Calls Gives config count nodes new_nodes moments new_moments → List Conversation
  conversations_in zero nodes new_nodes moments new_moments h = []
  conversations_in (suc count) nodes new_nodes moments new_moments (between, middle, earlier, last) =
      conversations_in count nodes between moments middle earlier ++ conversation_in between new_nodes middle new_moments last

-- the actor is the session that was opened for the client: its commands are the client's requests, and its replies those that the client got
pub record IsSessionOf (conversation : Conversation) (actor : SlotActor) : Type 0 where
  pub slot : actor.slot ≡ conversation.slot
  pub did : List Told
  pub opened : actor.did ≡ record { command = Opens conversation.dc; reply = reply.Opened } ∷ did
  pub answers : AnswersEach conversation.requests conversation.replies did

-- one for each, in order
abbrev pub AreSessionsOf : List Conversation → List SlotActor → Type 0
AreSessionsOf [] [] = Unit {0}
AreSessionsOf [] (a ∷ actors) = ⊥
AreSessionsOf (c ∷ conversations) [] = ⊥
AreSessionsOf (c ∷ conversations) (a ∷ actors) = IsSessionOf c a × AreSessionsOf conversations actors

module _ {M : Type 0} (Gives : M → ℕ → M → Type 0) (moments : M) (config : Config) (cluster : Gates Shared) where
  -- what a worker's seat did
  abbrev pub conversations_by : (seat : NodeSeat) → HasSinceDone cluster (ServesClients config cluster Gives moments) seat → List Conversation
  conversations_by seat done = conversations_in (IsDeskCall cluster) Gives config done.does.0 done.first seat moments done.does.1 done.does.2

  -- the actors of each worker's seat, by its number, are the sessions of its conversations
  abbrev pub AnswerClients : (ℕ → List SlotActor) → (seats : List NodeSeat) → AllByRecursion (HasSinceDone cluster (ServesClients config cluster Gives moments)) seats → Type 0
  AnswerClients actors [] all = Unit {0}
  AnswerClients actors (seat ∷ seats) all = AreSessionsOf (conversations_by seat all.0) (actors seat.number) × AnswerClients actors seats all.1
