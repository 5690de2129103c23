-- A whole connection: from the bytes that a client sends to those that it receives.
use Rattle.std.specs.Prelude.{◌≡◌, ◌⊎◌, ℕ, Bool, true, false, ◌&&◌, List, [], ◌∷◌, ◌++◌, slice_get, Option, Some, Ok}
use Rattle.std.specs.List.{flat_map}
use Rattle.cops_types.specs.declared.configs.Config.{Config}
use Rattle.cops_types.specs.declared.configs.Tenant.{Tenant}
use Rattle.cops_types.specs.declared.faults.Fault.{Fault}
use Rattle.cops_types.specs.TenantConfig.{TenantConfig, tenant_config}
use Rattle.cops_model.specs.declared.calls.NodeCall.{NodeCall}
use Rattle.cops_model.specs.declared.calls.NodeId.{NodeId}
use Rattle.cops_model.specs.declared.calls.NodeReply.{NodeReply}
use Rattle.cops_model.specs.SoloNode.{SoloNode}
use Rattle.cops_node.specs.Clusters.{Cluster}
use Rattle.cops_model.specs.Session.{Session, new_session}
use Rattle.cops_wire.specs.declared.messages.Message.{Message}
use Rattle.cops_wire.specs.declared.messages.Message.TheVariants.{Ready}
use Rattle.cops_wire.specs.declared.serving.Ended.{Ended}
use Rattle.cops_wire.specs.declared.serving.Ended.TheVariants.{Clean, Torn}
use Rattle.cops_wire.specs.Alone.{Alone, AreGiven, TellNone, AreUninterrupted, Given, IsTenantAt, is_memory_refusal, left_alone, replies_alone}
use Rattle.cops_wire.specs.Decoding.{KeptBytes}
use Rattle.cops_wire.specs.Greeting.{Greets, GreetsInPart, greeted}
use Rattle.cops_wire.specs.Requests.{Answers, backend}
use Rattle.cops_wire.specs.Serving.{ServesAll, ServesInPart, is_request, last_reply}
use Rattle.cops_wire.specs.Spelling.{spelling}
use Rattle.cops_wire.specs.Streams.{SplitStream, split_of}

abbrev pub unless_other : Bool → List Message → List Message
unless_other true requests = requests
unless_other false requests = []

-- the requests before the first message that is none
abbrev pub requests_in : List Message → List Message
requests_in [] = []
requests_in (message ∷ messages) = unless_other (is_request message) (message ∷ requests_in messages)

-- all messages are requests
abbrev pub are_requests : List Message → Bool
are_requests [] = true
are_requests (message ∷ messages) = is_request message && are_requests messages

abbrev pub behind_first : List Message → List Message
behind_first [] = []
behind_first (first ∷ messages) = messages

-- It ends clean if all messages are requests, and the stream ends behind a whole frame.
abbrev pub ended_at : Bool → Bool → List ℕ → Ended
ended_at true false [] = Clean
ended_at all broken rest = Torn

abbrev pub conversation_end : SplitStream → Ended
conversation_end split = ended_at (are_requests (behind_first split.messages)) split.broken split.rest

-- what is said behind a greeting that was taken, at nodes that the tenant has to itself
abbrev pub said_alone : TenantConfig → Alone → SplitStream → List Message
said_alone config old split = replies_alone config (requests_in (behind_first split.messages)) old ++ last_reply (conversation_end split)

-- the bytes that a client receives who sends these, if the greeting is taken and the tenant has the nodes to itself
abbrev pub received_alone : TenantConfig → Alone → List ℕ → List ℕ
received_alone config old sent = spelling Ready ++ flat_map spelling (said_alone config old (split_of sent))

-- A client was greeted as the tenant of a slot, and then served up to the end with a new session of this tenant.
pub record HasConversed {N M : Type 0} (Calls : N → NodeId → ℕ → ℕ → NodeCall → NodeReply → N → Type 0) (Gives : M → ℕ → M → Type 0) (config : Config)
    (remaining new_remaining contents new_contents : Option (List ℕ)) (nodes new_nodes : N) (moments new_moments : M) (ended : Ended) : Type 0 where
  pub slot : ℕ
  pub dc : ℕ
  pub tenant : Tenant
  pub tenant_is : slice_get config.tenants slot ≡ Some tenant
  pub greeted_remaining : Option (List ℕ)
  pub greeted_contents : Option (List ℕ)
  pub kept : KeptBytes
  pub waiting : List Message
  pub greets : Greets config.tenants config.data_centres remaining greeted_remaining contents greeted_contents kept waiting (Ok (slot, dc))
  pub hello : Message
  pub first : greets.messages ≡ hello ∷ waiting
  pub after : Session
  pub serves : ServesAll (Answers Calls Gives (tenant_config config tenant) slot) greets.came.input (hello ∷ []) greeted_remaining new_remaining greeted_contents new_contents
      (backend (new_session dc 1) nodes moments) (backend after new_nodes new_moments) ended

-- nothing was written, or a prefix of the answer to the first message
abbrev pub IsGreetedInPart : List Tenant → ℕ → Option (List ℕ) → Option (List ℕ) → Option (List ℕ) → Type 0
IsGreetedInPart tenants dcs remaining contents new_contents =
    (new_contents ≡ contents) ⊎ ((new_remaining : Option (List ℕ)) × (kept : KeptBytes) × GreetsInPart tenants dcs remaining new_remaining contents new_contents kept)

-- A client was greeted as the tenant of a slot, and then served with a new session of this tenant: a prefix of the requests was answered,
-- and a prefix of the replies was written.
pub record ConversesInPart {N M : Type 0} (Calls : N → NodeId → ℕ → ℕ → NodeCall → NodeReply → N → Type 0) (Gives : M → ℕ → M → Type 0) (config : Config)
    (remaining contents new_contents : Option (List ℕ)) (nodes new_nodes : N) (moments new_moments : M) : Type 0 where
  pub slot : ℕ
  pub dc : ℕ
  pub tenant : Tenant
  pub tenant_is : slice_get config.tenants slot ≡ Some tenant
  pub greeted_remaining : Option (List ℕ)
  pub greeted_contents : Option (List ℕ)
  pub kept : KeptBytes
  pub waiting : List Message
  pub greets : Greets config.tenants config.data_centres remaining greeted_remaining contents greeted_contents kept waiting (Ok (slot, dc))
  pub hello : Message
  pub first : greets.messages ≡ hello ∷ waiting
  pub after : Session
  pub serves : ServesInPart (Answers Calls Gives (tenant_config config tenant) slot) greets.came.input (hello ∷ []) greeted_remaining greeted_contents new_contents
      (backend (new_session dc 1) nodes moments) (backend after new_nodes new_moments)

-- The conversation ended in its greeting, and no node was called; or behind it.
abbrev pub HasConversedInPart : {N M : Type 0} → (N → NodeId → ℕ → ℕ → NodeCall → NodeReply → N → Type 0) → (M → ℕ → M → Type 0) → Config
    → Option (List ℕ) → Option (List ℕ) → Option (List ℕ) → N → N → M → M → Type 0
HasConversedInPart Calls Gives config remaining contents new_contents nodes new_nodes moments new_moments =
    (IsGreetedInPart config.tenants config.data_centres remaining contents new_contents × (new_nodes ≡ nodes) × (new_moments ≡ moments))
    ⊎ ConversesInPart Calls Gives config remaining contents new_contents nodes new_nodes moments new_moments

-- A client sent these bytes and received those, and no reply is one of these refusals.
pub record IsConversation {N M : Type 0} (Calls : N → NodeId → ℕ → ℕ → NodeCall → NodeReply → N → Type 0) (Gives : M → ℕ → M → Type 0) (lost : Fault → Bool) (config : Config)
    (sent received : List ℕ) (nodes new_nodes : N) (moments new_moments : M) : Type 0 where
  pub new_remaining : Option (List ℕ)
  pub ended : Ended
  pub conversed : HasConversed Calls Gives config (Some sent) new_remaining (Some []) (Some received) nodes new_nodes moments new_moments ended
  pub spared : TellNone lost conversed.serves.replies

-- The same at the nodes of a cluster that has the tenant. No reply says that memory was refused.
pub record IsConversationAt {M : Type 0} (Calls : Cluster → NodeId → ℕ → ℕ → NodeCall → NodeReply → Cluster → Type 0) (Gives : M → ℕ → M → Type 0) (config : Config)
    (sent received : List ℕ) (nodes new_nodes : Cluster) (moments new_moments : M) : Type 0 where
  pub conversation : IsConversation Calls Gives is_memory_refusal config sent received nodes new_nodes moments new_moments
  pub there : IsTenantAt (tenant_config config conversation.conversed.tenant) conversation.conversed.slot nodes

-- The client received the bytes that it receives if its tenant, whom the first message names, has the nodes to itself; and these are
-- left as there. The timestamps are the ones that were given, and the calls between are calls of the tenant.
pub record IsReceivedAlone {N M : Type 0} (Gives : M → ℕ → M → Type 0) (nodes_at : TenantConfig → ℕ → N → List SoloNode) (config : Config) (sent received : List ℕ)
    (nodes new_nodes : N) (moments new_moments : M) : Type 0 where
  pub slot : ℕ
  pub dc : ℕ
  pub tenant : Tenant
  pub tenant_is : slice_get config.tenants slot ≡ Some tenant
  pub greeted_is : Ok (slot, dc) ≡ greeted config.tenants config.data_centres (slice_get (split_of sent).messages 0)
  pub given : List Given
  pub are : AreGiven Gives moments given new_moments
  pub received_is : received ≡ received_alone (tenant_config config tenant) (backend (new_session dc 1) (nodes_at (tenant_config config tenant) slot nodes) given) sent
  pub after : Session
  pub left : left_alone (tenant_config config tenant) (requests_in (behind_first (split_of sent).messages)) (backend (new_session dc 1) (nodes_at (tenant_config config tenant) slot nodes) given)
      ≡ Some (backend after (nodes_at (tenant_config config tenant) slot new_nodes) [])

-- the same, and nobody else made a call for the tenant
abbrev pub IsReceivedUninterrupted : {N M : Type 0} → (M → ℕ → M → Type 0) → (TenantConfig → ℕ → N → List SoloNode) → Config → List ℕ → List ℕ → N → N → M → M → Type 0
IsReceivedUninterrupted Gives nodes_at config sent received nodes new_nodes moments new_moments =
    (alone : IsReceivedAlone Gives nodes_at config sent received nodes new_nodes moments new_moments) × AreUninterrupted alone.given
