-- Requests at nodes that their tenant has to itself, at which requests for memory may be refused.
use Rattle.std.specs.Prelude.{◌≡◌, ◌⊎◌, ◌++◌, ℕ, List, [], ◌∷◌, slice_get, Option, Some, Ok}
use Rattle.std.specs.List.{flat_map}
use Rattle.cops_types.specs.declared.configs.Config.{Config}
use Rattle.cops_types.specs.declared.configs.Tenant.{Tenant}
use Rattle.cops_types.specs.declared.faults.Fault.TheVariants.{OutOfMemory}
use Rattle.cops_types.specs.TenantConfig.{TenantConfig, tenant_config}
use Rattle.cops_model.specs.declared.calls.NodeCall.{NodeCall}
use Rattle.cops_model.specs.declared.calls.NodeId.{NodeId}
use Rattle.cops_model.specs.declared.calls.NodeReply.{NodeReply}
use Rattle.cops_model.specs.Cluster.{OfSession, SoloCluster}
use Rattle.cops_model.specs.Lacks.{SessionStops}
use Rattle.cops_model.specs.Request.{Action, Fetch, Write}
use Rattle.cops_model.specs.Session.{Running, Session, new_session, request_begun}
use Rattle.cops_model.specs.SoloNode.{SoloNode}
use Rattle.cops_node.specs.Clusters.{Cluster}
use Rattle.cops_wire.specs.declared.messages.Message.{Message}
use Rattle.cops_wire.specs.declared.messages.Message.TheVariants.{Put, GetTrans, Ready, Refused}
use Rattle.cops_wire.specs.declared.serving.Ended.{Ended}
use Rattle.cops_wire.specs.Alone.{Alone, AreGiven, AreUninterrupted, Given, IsTenantAt, after_calls, answer_alone, step_alone}
use Rattle.cops_wire.specs.Conversation.{HasConversed, behind_first, conversation_end, requests_in}
use Rattle.cops_wire.specs.Greeting.{greeted}
use Rattle.cops_wire.specs.Requests.{Answers, Backend, RequestGoesOn, backend, number_in}
use Rattle.cops_wire.specs.Serving.{Serves, last_reply}
use Rattle.cops_wire.specs.Spelling.{spelling}
use Rattle.cops_wire.specs.Streams.{split_of}

-- the tenant's cluster as a connection sees it: its nodes, and the connection's session, which needs no name
abbrev pub cluster_with : Session → List SoloNode → SoloCluster
cluster_with session nodes = record { nodes = nodes; actors = record { name = []; actor = OfSession session } ∷ [] }

-- a step stopped where it made its call, as a step of a session in a cluster does
abbrev pub StopsAlone : TenantConfig → Given → Session → List SoloNode → Session → List SoloNode → Type 0
StopsAlone config given session nodes after left =
    SessionStops config [] given.moment session (cluster_with session (after_calls config given.before nodes)) (cluster_with after left)

-- steps of the running request after which it goes on, then one that stopped
abbrev pub RequestStops : TenantConfig → List Given → Session → List SoloNode → Alone → Type 0
RequestStops config [] session nodes new = ⊥
RequestStops config (given ∷ later) session nodes new =
    (StopsAlone config given session nodes new.session new.nodes × (new.moments ≡ later))
    ⊎ ((running : Running) × (session.running ≡ Some running)
    × (let step = step_alone config session running given nodes in RequestGoesOn step.shown × RequestStops config later step.session step.nodes new))

-- the request wasn't begun, and nothing changed; or it was begun, and its last step stopped
abbrev pub BegunStops : TenantConfig → Alone → ℕ → Action → Alone → Type 0
BegunStops config old context action new = (new ≡ old) ⊎ RequestStops config old.moments (request_begun context action old.session) old.nodes new

-- what a request leaves if memory ran out
abbrev pub LacksAlone : TenantConfig → Alone → Message → Alone → Type 0
LacksAlone config old (Put handle key value) new = BegunStops config old (number_in handle) (Write key value) new
LacksAlone config old (GetTrans handle keys) new = BegunStops config old (number_in handle) (Fetch keys) new
LacksAlone config old others new = new ≡ old

-- the reply to the request, and what it leaves, are those alone; or the reply is that memory ran out, and what remains is as `LacksAlone` says
abbrev pub TurnsAlone : TenantConfig → Alone → Message → Message → Alone → Type 0
TurnsAlone config old request reply new =
    (answer_alone config old request ≡ Some (record { reply = reply; after = new })) ⊎ ((reply ≡ Refused OutOfMemory) × LacksAlone config old request new)

-- The requests take such turns, one after another, with these replies, at nodes that the tenant has to itself, and these are left as there.
-- The timestamps are the ones that were given.
pub record GoesAlone {N M : Type 0} (Gives : M → ℕ → M → Type 0) (config : TenantConfig) (nodes_at : N → List SoloNode)
    (old : Backend Session N M) (requests replies : List Message) (new : Backend Session N M) : Type 0 where
  pub given : List Given
  pub are : AreGiven Gives old.moments given new.moments
  pub goes : Serves (TurnsAlone config) (backend old.session (nodes_at old.nodes) given) requests replies (backend new.session (nodes_at new.nodes) [])

-- the same, and nobody else made a call for the tenant
abbrev pub GoesUninterrupted : {N M : Type 0} → (M → ℕ → M → Type 0) → TenantConfig → (N → List SoloNode) → Backend Session N M → List Message → List Message → Backend Session N M → Type 0
GoesUninterrupted Gives config nodes_at old requests replies new = (alone : GoesAlone Gives config nodes_at old requests replies new) × AreUninterrupted alone.given

-- ---- at the nodes of a cluster

-- requests of the tenant, to which the nodes of a cluster led to these replies
pub record AreServedAt {M : Type 0} (Calls : Cluster → NodeId → ℕ → ℕ → NodeCall → NodeReply → Cluster → Type 0) (Gives : M → ℕ → M → Type 0) (config : TenantConfig) (slot : ℕ)
    (old : Backend Session Cluster M) (requests replies : List Message) (new : Backend Session Cluster M) : Type 0 where
  pub there : IsTenantAt config slot old.nodes
  pub served : Serves (Answers Calls Gives config slot) old requests replies new

-- a client of a cluster that has its tenant sent these bytes and received those
pub record HasConversedAt {M : Type 0} (Calls : Cluster → NodeId → ℕ → ℕ → NodeCall → NodeReply → Cluster → Type 0) (Gives : M → ℕ → M → Type 0) (config : Config)
    (sent received : List ℕ) (nodes new_nodes : Cluster) (moments new_moments : M) : Type 0 where
  pub new_remaining : Option (List ℕ)
  pub ended : Ended
  pub conversed : HasConversed Calls Gives config (Some sent) new_remaining (Some []) (Some received) nodes new_nodes moments new_moments ended
  pub there : IsTenantAt (tenant_config config conversed.tenant) conversed.slot nodes

-- The client received the frames of replies to the requests that it sent, as if its tenant, whom the first message names, had the nodes to itself.
pub record IsReceivedAsAlone {N M : Type 0} (Gives : M → ℕ → M → Type 0) (nodes_at : TenantConfig → ℕ → N → List SoloNode) (config : Config) (sent received : List ℕ)
    (nodes new_nodes : N) (moments new_moments : M) : Type 0 where
  pub slot : ℕ
  pub dc : ℕ
  pub tenant : Tenant
  pub tenant_is : slice_get config.tenants slot ≡ Some tenant
  pub greeted_is : Ok (slot, dc) ≡ greeted config.tenants config.data_centres (slice_get (split_of sent).messages 0)
  pub replies : List Message
  pub after : Session
  pub alone : GoesAlone Gives (tenant_config config tenant) (nodes_at (tenant_config config tenant) slot) (backend (new_session dc 1) nodes moments)
      (requests_in (behind_first (split_of sent).messages)) replies (backend after new_nodes new_moments)
  pub received_is : received ≡ spelling Ready ++ flat_map spelling (replies ++ last_reply (conversation_end (split_of sent)))

-- the same, and nobody else made a call for the tenant
abbrev pub IsReceivedAsUninterrupted : {N M : Type 0} → (M → ℕ → M → Type 0) → (TenantConfig → ℕ → N → List SoloNode) → Config → List ℕ → List ℕ → N → N → M → M → Type 0
IsReceivedAsUninterrupted Gives nodes_at config sent received nodes new_nodes moments new_moments =
    (told : IsReceivedAsAlone Gives nodes_at config sent received nodes new_nodes moments new_moments) × AreUninterrupted told.alone.given
