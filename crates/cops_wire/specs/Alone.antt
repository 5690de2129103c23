-- Requests at nodes that their tenant has to itself, with timestamps and calls between that are known: their replies.
use Rattle.std.specs.Prelude.{◌≡◌, ◌≢◌, ℕ, Bool, true, false, List, [], ◌∷◌, slice_index_or, slice_set, Option, Some, None}
use Rattle.std.specs.List.{AllByRecursion}
use Rattle.cops_types.specs.declared.faults.Fault.{Fault}
use Rattle.cops_types.specs.declared.faults.Fault.TheVariants.{OutOfMemory}
use Rattle.cops_types.specs.TenantConfig.{TenantConfig}
use Rattle.cops_handles.specs.Wire.{wire_of}
use Rattle.cops_model.specs.declared.calls.NodeCall.{NodeCall}
use Rattle.cops_model.specs.declared.calls.NodeId.{NodeId}
use Rattle.cops_model.specs.declared.calls.NodeReply.{NodeReply}
use Rattle.cops_node.specs.Clusters.{Cluster, HasTenant, IsCall}
use Rattle.cops_model.specs.Log.{LogStep, Late, Replied, Next, Call, Restart, Ended}
use Rattle.cops_model.specs.Place.{node_number, place_of}
use Rattle.cops_model.specs.SoloNode.{SoloNode, new_node}
use Rattle.cops_model.specs.Step.{CallEffect, node_step}
use Rattle.cops_model.specs.declared.requests.Answer.{Answer}
use Rattle.cops_model.specs.declared.requests.Progress.{Progress}
use Rattle.cops_model.specs.declared.requests.Progress.TheVariants.{Working, Restarted, Done}
use Rattle.cops_model.specs.Request.{Write, Fetch, next}
use Rattle.cops_model.specs.Session.{Running, Session, context_created, context_deleted, create_refusal, moment_at, progress, request_begun, request_of, session_after}
use Rattle.cops_wire.specs.declared.messages.Message.{Message}
use Rattle.cops_wire.specs.declared.messages.Message.TheVariants.{CreateContext, DeleteContext, Put, GetTrans, Created, Deleted, Refused}
use Rattle.cops_wire.specs.Requests.{Answers, Backend, KeepsShape, backend, deletion_refusal, message_of_answer, number_in, reading_refusal, writing_refusal}
use Rattle.cops_wire.specs.Serving.{Serves}
use Rattle.cops_session.specs.Tags.{context_tag}

-- ---- calls between

-- a call that somebody else makes for the tenant: another connection, or the service's carrier or collector
pub record OwnCall : Type 0 where
  pub node : NodeId
  pub moment : ℕ
  pub call : NodeCall

-- what a step of a request is given: its timestamp, and the tenant's calls by others since the step before
pub record Given : Type 0 where
  pub moment : ℕ
  pub before : List OwnCall

-- a call at one of the tenant's nodes
abbrev pub call_alone : TenantConfig → NodeId → ℕ → NodeCall → List SoloNode → CallEffect
call_alone config id moment call nodes = node_step (place_of config id) moment call (slice_index_or nodes (node_number config.shards id) (new_node config.data_centres))

-- the nodes after a call, of which only one changes
abbrev pub after_call : TenantConfig → NodeId → ℕ → NodeCall → List SoloNode → List SoloNode
after_call config id moment call nodes = slice_set nodes (node_number config.shards id) (call_alone config id moment call nodes).after

-- the nodes after some calls
abbrev pub after_calls : TenantConfig → List OwnCall → List SoloNode → List SoloNode
after_calls config [] nodes = nodes
after_calls config (c ∷ calls) nodes = after_calls config calls (after_call config c.node c.moment c.call nodes)

-- nobody else made a call for the tenant
abbrev pub AreUninterrupted : List Given → Type 0
AreUninterrupted given = AllByRecursion (λ g. g.before ≡ []) given

-- a session, the tenant's own nodes by number, and what the steps to come are given
abbrev pub Alone : Type 0
Alone = Backend Session (List SoloNode) (List Given)

-- ---- steps

-- what a step shows, and what it leaves
pub record StepAlone : Type 0 where
  pub shown : Progress
  pub session : Session
  pub nodes : List SoloNode

abbrev pub stepped : TenantConfig → Session → Running → LogStep → List SoloNode → StepAlone
stepped config session running step nodes =
    let shown = progress config (request_of session running) running.log step in
    record { shown = shown; session = session_after session running step shown; nodes = nodes }

-- the running request does what comes next: its call is the turn of one of the tenant's nodes
abbrev pub does_alone : TenantConfig → Session → Running → ℕ → List SoloNode → Next Answer → StepAlone
does_alone config session running moment nodes (Call directed) =
    let turn = call_alone config directed.node moment directed.call nodes in
    stepped config session running (record { moment = moment; outcome = Replied turn.reply }) (after_call config directed.node moment directed.call nodes)
does_alone config session running moment nodes Restart = stepped config session running (record { moment = moment; outcome = Late }) nodes
does_alone config session running moment nodes (Ended ended) = record { shown = Done ended; session = session; nodes = nodes }

-- the calls of others come first
abbrev pub step_alone : TenantConfig → Session → Running → Given → List SoloNode → StepAlone
step_alone config session running given nodes =
    let moment = moment_at given.moment session in
    does_alone config session running moment (after_calls config given.before nodes) (next config (request_of session running) running.log moment)

-- an answer, and what is left with it
pub record EndAlone : Type 0 where
  pub answer : Answer
  pub after : Alone

-- the request has ended, or goes on
abbrev pub further : StepAlone → Progress → List Given → (Session → List SoloNode → Option EndAlone) → Option EndAlone
further step (Done ended) later go_on = Some (record { answer = ended; after = backend step.session step.nodes later })
further step Working later go_on = go_on step.session step.nodes
further step (Restarted times) later go_on = go_on step.session step.nodes

abbrev pub runs_on : TenantConfig → Given → List Given → Session → List SoloNode → (Session → List SoloNode → Option EndAlone) → Option Running → Option EndAlone
runs_on config given later session nodes go_on None = None
runs_on config given later session nodes go_on (Some running) =
    let step = step_alone config session running given nodes in further step step.shown later go_on

-- steps of the running request, each as it is given, until it has its answer
abbrev pub steps_alone : TenantConfig → List Given → Session → List SoloNode → Option EndAlone
steps_alone config [] session nodes = None
steps_alone config (given ∷ later) session nodes = runs_on config given later session nodes (steps_alone config later) session.running

-- ---- requests

-- a reply, and what is left with it
pub record ReplyAlone : Type 0 where
  pub reply : Message
  pub after : Alone

abbrev pub unless_told : Option Fault → Alone → Option ReplyAlone → Option ReplyAlone
unless_told (Some fault) old answered = Some (record { reply = Refused fault; after = old })
unless_told None old answered = answered

abbrev pub replied : Option EndAlone → Option ReplyAlone
replied None = None
replied (Some end) = Some (record { reply = message_of_answer end.answer; after = end.after })

-- the reply to a request, if what is given lasts for it
abbrev pub answer_alone : TenantConfig → Alone → Message → Option ReplyAlone
answer_alone config old CreateContext =
    unless_told (create_refusal config old.session) old
    (Some (record { reply = Created (wire_of context_tag old.session.next_context); after = backend (context_created old.session) old.nodes old.moments }))
answer_alone config old (DeleteContext handle) =
    unless_told (deletion_refusal handle old.session) old
    (Some (record { reply = Deleted; after = backend (context_deleted (number_in handle) old.session) old.nodes old.moments }))
answer_alone config old (Put handle key value) =
    unless_told (writing_refusal config handle key value old.session) old
    (replied (steps_alone config old.moments (request_begun (number_in handle) (Write key value) old.session) old.nodes))
answer_alone config old (GetTrans handle keys) =
    unless_told (reading_refusal config handle keys old.session) old
    (replied (steps_alone config old.moments (request_begun (number_in handle) (Fetch keys) old.session) old.nodes))
answer_alone config old others = None

-- ---- connections

abbrev pub replies_after : Option ReplyAlone → (Alone → List Message) → List Message
replies_after None later = []
replies_after (Some told) later = told.reply ∷ later told.after

-- the replies to requests, one after another, as far as what is given lasts
abbrev pub replies_alone : TenantConfig → List Message → Alone → List Message
replies_alone config [] old = []
replies_alone config (request ∷ requests) old = replies_after (answer_alone config old request) (replies_alone config requests)

abbrev pub left_after : Option ReplyAlone → (Alone → Option Alone) → Option Alone
left_after None later = None
left_after (Some told) later = later told.after

-- what requests leave, if what is given lasts for all of them
abbrev pub left_alone : TenantConfig → List Message → Alone → Option Alone
left_alone config [] old = Some old
left_alone config (request ∷ requests) old = left_after (answer_alone config old request) (left_alone config requests)

-- these timestamps were given, one after another
abbrev pub AreGiven : {M : Type 0} → (M → ℕ → M → Type 0) → M → List Given → M → Type 0
AreGiven Gives old [] new = new ≡ old
AreGiven {M = M} Gives old (given ∷ later) new = (mid : M) × Gives old given.moment mid × AreGiven Gives mid later new

-- The replies are those at nodes that the tenant has to itself, and these nodes are left as there. The timestamps are the ones
-- that were given. So the calls between are calls of the tenant: each stands in the trail of a node that is left, unless that was full.
pub record IsConnectionToldAlone {N M : Type 0} (Gives : M → ℕ → M → Type 0) (config : TenantConfig) (nodes_at : N → List SoloNode)
    (old : Backend Session N M) (requests replies : List Message) (new : Backend Session N M) : Type 0 where
  pub given : List Given
  pub are : AreGiven Gives old.moments given new.moments
  pub told : replies ≡ replies_alone config requests (backend old.session (nodes_at old.nodes) given)
  pub left : left_alone config requests (backend old.session (nodes_at old.nodes) given) ≡ Some (backend new.session (nodes_at new.nodes) [])

-- the same, and nobody else made a call for the tenant
abbrev pub IsToldUninterrupted : {N M : Type 0} → (M → ℕ → M → Type 0) → TenantConfig → (N → List SoloNode) → Backend Session N M → List Message → List Message → Backend Session N M → Type 0
IsToldUninterrupted Gives config nodes_at old requests replies new =
    (alone : IsConnectionToldAlone Gives config nodes_at old requests replies new) × AreUninterrupted alone.given

-- ---- replies that say nothing of the tenant's own calls

abbrev pub is_memory_refusal : Fault → Bool
is_memory_refusal OutOfMemory = true
is_memory_refusal fault = false

-- the reply is a refusal with one of these faults
abbrev pub tells : (Fault → Bool) → Message → Bool
tells lost (Refused fault) = lost fault
tells lost reply = false

-- no reply is one of these refusals
abbrev pub TellNone : (Fault → Bool) → List Message → Type 0
TellNone lost replies = AllByRecursion (λ reply. tells lost reply ≡ false) replies

-- ---- at the nodes of a cluster

-- a call for the tenant of a slot, and its reply
pub record SlotCall : Type 0 where
  pub slot : ℕ
  pub node : NodeId
  pub moment : ℕ
  pub call : NodeCall
  pub reply : NodeReply

-- the call may be of any slot
abbrev pub OfAny : ℕ → SlotCall → Type 0
OfAny slot c = Unit {0}

-- the call is of another slot
abbrev pub OfOthers : ℕ → SlotCall → Type 0
OfOthers slot c = slot ≢ c.slot

-- calls at the nodes of a cluster leave its sizes
abbrev pub CallsCluster : Cluster → NodeId → ℕ → ℕ → NodeCall → NodeReply → Cluster → Type 0
CallsCluster = KeepsShape (λ cluster. cluster.shape) IsCall

-- these calls were made, one after another, each of a slot that it may be of
abbrev pub CallsOf : (SlotCall → Type 0) → Cluster → List SlotCall → Cluster → Type 0
CallsOf May old [] new = new ≡ old
CallsOf May old (c ∷ calls) new = (mid : Cluster) × May c × CallsCluster old c.node c.slot c.moment c.call c.reply mid × CallsOf May mid calls new

-- a call, before which calls of slots of this kind may have been made
abbrev pub CallsAmid : (ℕ → SlotCall → Type 0) → Cluster → NodeId → ℕ → ℕ → NodeCall → NodeReply → Cluster → Type 0
CallsAmid May old id slot moment call reply new = (between : List SlotCall) × (mid : Cluster) × CallsOf (May slot) old between mid × CallsCluster mid id slot moment call reply new

-- the tenant of the slot is there, and the cluster has its number of shards
pub record IsTenantAt (config : TenantConfig) (slot : ℕ) (cluster : Cluster) : Type 0 where
  pub tenant : HasTenant config slot cluster
  pub shards : config.shards ≡ cluster.shape.shards

-- requests of the tenant, to which the nodes of a cluster led to these replies; none of them says that memory was refused
pub record IsServedAt {M : Type 0} (Calls : Cluster → NodeId → ℕ → ℕ → NodeCall → NodeReply → Cluster → Type 0) (Gives : M → ℕ → M → Type 0) (config : TenantConfig) (slot : ℕ)
    (old : Backend Session Cluster M) (requests replies : List Message) (new : Backend Session Cluster M) : Type 0 where
  pub there : IsTenantAt config slot old.nodes
  pub served : Serves (Answers Calls Gives config slot) old requests replies new
  pub spared : TellNone is_memory_refusal replies
