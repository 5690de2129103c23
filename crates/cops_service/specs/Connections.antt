-- Connections whose calls are made at the desks of a service: what their tenant has there, and which replies count.
use Rattle.std.specs.Prelude.{◌≡◌, ℕ, suc, ◌<◌, Bool, true, false, List, [], ◌∷◌, IsTrue}
use Rattle.cops_types.specs.declared.configs.Config.{Config}
use Rattle.cops_types.specs.declared.faults.Fault.{Fault}
use Rattle.cops_types.specs.declared.faults.Fault.TheVariants.{GateSpent}
use Rattle.cops_types.specs.HeadLines.{are_sizes}
use Rattle.cops_types.specs.TenantConfig.{TenantConfig}
use Rattle.cops_gate.specs.History.{turns_at}
use Rattle.cops_model.specs.declared.calls.NodeCall.{NodeCall}
use Rattle.cops_model.specs.declared.calls.NodeId.{NodeId}
use Rattle.cops_model.specs.declared.calls.NodeReply.{NodeReply}
use Rattle.cops_model.specs.Place.{place_of}
use Rattle.cops_model.specs.Session.{Session}
use Rattle.cops_model.specs.SoloNode.{SoloNode}
use Rattle.cops_node.specs.Clusters.{HasTenant, new_nodes}
use Rattle.cops_node.specs.Parts.{Shared, solo_of}
use Rattle.cops_node.specs.Run.{node_after}
use Rattle.cops_service.specs.Desks.{AreNodes, IsDeskCall, NodeSeat, shape_in}
use Rattle.cops_service.specs.Gates.{Gates, IsSeatOf, openings}
use Rattle.cops_service.specs.Slots.{NodeLog, calls_at}
use Rattle.cops_wire.specs.Alone.{TellNone, is_memory_refusal}
use Rattle.cops_wire.specs.Conversation.{IsConversation}
use Rattle.cops_wire.specs.declared.messages.Message.{Message}
use Rattle.cops_wire.specs.Requests.{Answers, Backend}
use Rattle.cops_wire.specs.Serving.{Serves}

-- ---- what a tenant has at the nodes

-- the tenant's solo node, as a history of that node leaves it
abbrev pub seen_at : TenantConfig → ℕ → Shared → NodeLog → SoloNode
seen_at config slot opening log =
    let place = place_of config opening.home.id in node_after place (calls_at slot log) (solo_of slot place opening)

-- so is each node, as a history of all nodes leaves it. The first of these nodes has this number
abbrev pub seen_from : TenantConfig → ℕ → ℕ → List Shared → NodeLog → List SoloNode
seen_from config slot number [] log = []
seen_from config slot number (opening ∷ nodes) log = seen_at config slot opening (turns_at number log) ∷ seen_from config slot (suc number) nodes log

-- by number, as the history that a seat has seen leaves them
abbrev pub seen_by : TenantConfig → ℕ → Gates Shared → NodeSeat → List SoloNode
seen_by config slot cluster seat = seen_from config slot 0 (openings cluster) seat.history

-- ---- desks

-- These nodes are a desk: each call at them is a call at this cluster with this seat.
pub record IsDesk {N : Type 0} (Calls : N → NodeId → ℕ → ℕ → NodeCall → NodeReply → N → Type 0) (cluster : N → Gates Shared) (seat : N → NodeSeat) : Type 0 where
  pub stays : (old new : N) (id : NodeId) (slot moment : ℕ) (call : NodeCall) (reply : NodeReply) → Calls old id slot moment call reply new → cluster new ≡ cluster old
  pub call : (old new : N) (id : NodeId) (slot moment : ℕ) (call : NodeCall) (reply : NodeReply) → Calls old id slot moment call reply new
      → IsDeskCall (cluster old) (seat old) id slot moment call reply (seat new)

-- the gate opened with the nodes of a cluster at which the slot is this tenant's, and the seat is one of it
pub record IsTenantIn (config : TenantConfig) (slot : ℕ) (cluster : Gates Shared) (seat : NodeSeat) : Type 0 where
  pub nodes : AreNodes cluster
  pub own : IsSeatOf cluster seat
  pub tenant : HasTenant config slot (record { shape = shape_in cluster; nodes = openings cluster })
  pub shards : config.shards ≡ cluster.shards
  pub some : 0 < config.shards

-- the gate opened with the new nodes of this configuration, and the seat is one of it
pub record IsServiceOf (config : Config) (cluster : Gates Shared) (seat : NodeSeat) : Type 0 where
  pub opened : openings cluster ≡ (new_nodes config).nodes
  pub shards : cluster.shards ≡ config.shards
  pub sizes : IsTrue (are_sizes config)
  pub own : IsSeatOf cluster seat

-- ---- connections

-- memory was refused, or the node's tickets are exhausted
abbrev pub is_without_turn : Fault → Bool
is_without_turn GateSpent = true
is_without_turn fault = is_memory_refusal fault

-- the node's tickets are exhausted
abbrev pub is_ticket_refusal : Fault → Bool
is_ticket_refusal GateSpent = true
is_ticket_refusal fault = false

-- Requests of a tenant, and the replies to them that came from calls at a desk. None says that memory was refused or tickets are exhausted.
pub record IsServedAtDesk {N M : Type 0} (Calls : N → NodeId → ℕ → ℕ → NodeCall → NodeReply → N → Type 0) (Gives : M → ℕ → M → Type 0) (cluster : N → Gates Shared) (seat : N → NodeSeat)
    (config : TenantConfig) (slot : ℕ) (old : Backend Session N M) (requests replies : List Message) (new : Backend Session N M) : Type 0 where
  pub desk : IsDesk Calls cluster seat
  pub there : IsTenantIn config slot (cluster old.nodes) (seat old.nodes)
  pub served : Serves (Answers Calls Gives config slot) old requests replies new
  pub spared : TellNone is_without_turn replies

-- A client sent these bytes to a service of the configuration and received those. No reply says that memory was refused or tickets are exhausted.
pub record IsConversationAtDesk {N M : Type 0} (Calls : N → NodeId → ℕ → ℕ → NodeCall → NodeReply → N → Type 0) (Gives : M → ℕ → M → Type 0) (cluster : N → Gates Shared) (seat : N → NodeSeat)
    (config : Config) (sent received : List ℕ) (nodes new_nodes : N) (moments new_moments : M) : Type 0 where
  pub desk : IsDesk Calls cluster seat
  pub there : IsServiceOf config (cluster nodes) (seat nodes)
  pub conversation : IsConversation Calls Gives is_without_turn config sent received nodes new_nodes moments new_moments

-- Requests of a tenant at a desk and the replies to them, which may say that memory was refused. None says that tickets are exhausted.
pub record AreServedAtDesk {N M : Type 0} (Calls : N → NodeId → ℕ → ℕ → NodeCall → NodeReply → N → Type 0) (Gives : M → ℕ → M → Type 0) (cluster : N → Gates Shared) (seat : N → NodeSeat)
    (config : TenantConfig) (slot : ℕ) (old : Backend Session N M) (requests replies : List Message) (new : Backend Session N M) : Type 0 where
  pub desk : IsDesk Calls cluster seat
  pub there : IsTenantIn config slot (cluster old.nodes) (seat old.nodes)
  pub served : Serves (Answers Calls Gives config slot) old requests replies new
  pub spared : TellNone is_ticket_refusal replies

-- So is a conversation with a service of the configuration: replies may say that memory was refused, and none says that tickets are exhausted.
pub record HasConversedAtDesk {N M : Type 0} (Calls : N → NodeId → ℕ → ℕ → NodeCall → NodeReply → N → Type 0) (Gives : M → ℕ → M → Type 0) (cluster : N → Gates Shared) (seat : N → NodeSeat)
    (config : Config) (sent received : List ℕ) (nodes new_nodes : N) (moments new_moments : M) : Type 0 where
  pub desk : IsDesk Calls cluster seat
  pub there : IsServiceOf config (cluster nodes) (seat nodes)
  pub conversation : IsConversation Calls Gives is_ticket_refusal config sent received nodes new_nodes moments new_moments
