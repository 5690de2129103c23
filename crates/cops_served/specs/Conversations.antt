-- What a conversation is in a history: the commands of its session, which its client's requests began, and the calls that they made.
use Rattle.std.specs.Prelude.{◌≡◌, ◌⊎◌, ℕ, Bool, true, false, List, [], ◌∷◌, ◌++◌, Option, Some, None}
use Rattle.std.specs.List.{AllByRecursion, flat_map}
use Rattle.cops_types.specs.declared.faults.Fault.{Fault}
use Rattle.cops_types.specs.TenantConfig.{TenantConfig}
use Rattle.cops_handles.specs.Wire.{wire_of}
use Rattle.cops_model.specs.declared.calls.NodeCall.{NodeCall}
use Rattle.cops_model.specs.declared.calls.NodeId.{NodeId}
use Rattle.cops_model.specs.declared.calls.NodeReply.{NodeReply}
use Rattle.cops_model.specs.declared.replies.Reply.{Reply}
use Rattle.cops_model.specs.declared.replies.Reply.TheVariants as reply
use Rattle.cops_model.specs.declared.requests.Answer.TheVariants as answer
use Rattle.cops_session.specs.Tags.{context_tag}
use Rattle.cops_wire.specs.declared.messages.Message.{Message}
use Rattle.cops_wire.specs.declared.messages.Message.TheVariants.{CreateContext, Created, DeleteContext, Deleted, GetTrans, Put, Refused}
use Rattle.cops_wire.specs.Requests.{message_of_answer, number_in}
use Rattle.cops_history.specs.Turns.{Turn}
use Rattle.cops_history.specs.Commands.{Command, Creates, Deletes, Gets, Opens, Puts, Steps, StepsLate, StepsUnread, turn_made_by}
use Rattle.cops_history.specs.History.{Told, Behaves}

-- these calls were made for the tenant of this slot, one after another, and had these replies
abbrev pub MakesTurns : {N : Type 0} → (N → NodeId → ℕ → ℕ → NodeCall → NodeReply → N → Type 0) → ℕ → N → List Turn → N → Type 0
MakesTurns Calls slot old [] new = new ≡ old
MakesTurns {N = N} Calls slot old (t ∷ turns) new = (mid : N) × Calls old t.node slot t.moment t.call t.reply mid × MakesTurns Calls slot mid turns new

-- the turns that these commands made
abbrev pub turns_of_told : List Told → List Turn
turns_of_told did = flat_map (λ t. turn_made_by t.command) did

-- ---- records of turns

-- Each call for the tenant of this slot adds its turn to `made`, unless its reply is one of `lost`. `Holds` stays.
abbrev pub Records : {N : Type 0} → (NodeReply → Bool) → (N → NodeId → ℕ → ℕ → NodeCall → NodeReply → N → Type 0) → ℕ → (N → Type 0) → (N → List Turn) → Type 0
Records {N = N} lost Calls slot Holds made =
    (old new : N) (id : NodeId) (moment : ℕ) (call : NodeCall) (reply : NodeReply) → Holds old → Calls old id slot moment call reply new
    → Holds new × (lost reply ≡ false → made new ≡ made old ++ record { node = id; moment = moment; call = call; reply = reply } ∷ [])

-- no reply to these calls is one of `lost`
abbrev pub AreRecorded : (NodeReply → Bool) → List Turn → Type 0
AreRecorded lost turns = AllByRecursion (λ (t : Turn). lost t.reply ≡ false) turns

-- ---- conversations

-- the message that gives a client the session's reply, if one does
abbrev pub message_of_reply : Reply → List Message
message_of_reply (reply.Created number) = Created (wire_of context_tag number) ∷ []
message_of_reply reply.Deleted = Deleted ∷ []
message_of_reply (reply.Stored pair) = message_of_answer (answer.Stored pair) ∷ []
message_of_reply (reply.Values reads) = message_of_answer (answer.Values reads) ∷ []
message_of_reply (reply.Refused fault) = message_of_answer (answer.Refused fault) ∷ []
message_of_reply others = []

abbrev pub messages_told : List Told → List Message
messages_told did = flat_map (λ t. message_of_reply t.reply) did

-- the command that a request begins with
abbrev pub command_asked : Message → Option Command
command_asked CreateContext = Some Creates
command_asked (DeleteContext handle) = Some (Deletes (number_in handle))
command_asked (Put handle key value) = Some (Puts (number_in handle) key value)
command_asked (GetTrans handle keys) = Some (Gets (number_in handle) keys)
command_asked others = None

-- the command goes on with what began
abbrev pub is_step : Command → Bool
is_step (StepsLate given) = true
is_step (Steps given t) = true
is_step (StepsUnread given t) = true
is_step others = false

-- These commands answered one request. It was refused at once, and there are none; or the first is the request's own, the others are its steps, and
-- their replies make up this message
abbrev pub AnswersOne : Message → Message → List Told → Type 0
AnswersOne request message did =
    ((did ≡ []) × ((fault : Fault) × (message ≡ Refused fault)))
    ⊎ ((asked : Told) × (steps : List Told) × (did ≡ asked ∷ steps) × (command_asked request ≡ Some asked.command) × AllByRecursion (λ (t : Told). is_step t.command ≡ true) steps × (messages_told did ≡ message ∷ []))

-- each of these requests was answered so by the message at its place, in order
abbrev pub AnswersEach : List Message → List Message → List Told → Type 0
AnswersEach [] [] did = did ≡ []
AnswersEach [] (message ∷ messages) did = ⊥
AnswersEach (request ∷ requests) [] did = ⊥
AnswersEach (request ∷ requests) (message ∷ messages) did =
    (here : List Told) × (later : List Told) × (did ≡ here ++ later) × AnswersOne request message here × AnswersEach requests messages later

-- A session was opened and carried out these commands. Their turns are the calls that were made. They are its client's requests, and their replies are the
-- messages to it.
pub record IsConversationOf {N : Type 0} (Calls : N → NodeId → ℕ → ℕ → NodeCall → NodeReply → N → Type 0) (config : TenantConfig) (slot dc : ℕ) (old new : N) (requests messages : List Message) : Type 0 where
  pub did : List Told
  pub behaves : Behaves config None (record { command = Opens dc; reply = reply.Opened } ∷ did)
  pub made : MakesTurns Calls slot old (turns_of_told did) new
  pub answers : AnswersEach requests messages did
