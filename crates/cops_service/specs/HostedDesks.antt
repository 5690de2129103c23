-- A cluster of nodes at which tenants come and go, behind gates, as a thread sees it.
use Rattle.std.specs.Prelude.{◌≡◌, ℕ, zero, suc, ◌<◌, ◌≤◌, IsTrue, List, length, map, replicate, Result, Ok, Err}
use Rattle.std.specs.declared.alloc.AllocError.{AllocError}
use Rattle.cops_types.specs.declared.configs.Tenant.{Tenant}
use Rattle.cops_types.specs.declared.faults.Fault.TheVariants.{OutOfMemory, GateSpent, Torn}
use Rattle.cops_types.specs.declared.request_errors.RequestError.{RequestError}
use Rattle.cops_types.specs.declared.request_errors.RequestError.TheVariants as request_error
use Rattle.cops_types.specs.Version.{last_clock}
use Rattle.cops_gate.specs.Seats.{Known}
use Rattle.cops_model.specs.declared.calls.NodeCall.{NodeCall}
use Rattle.cops_model.specs.declared.calls.NodeId.{NodeId}
use Rattle.cops_model.specs.declared.calls.NodeReply.{NodeReply}
use Rattle.cops_model.specs.declared.calls.NodeReply.TheVariants as node_reply
use Rattle.cops_node.specs.declared.hosted.SlotCall.{SlotCall}
use Rattle.cops_node.specs.declared.hosted.SlotCall.TheVariants.{Own, Admit, Close}
use Rattle.cops_node.specs.declared.hosted.SlotReply.{SlotReply}
use Rattle.cops_node.specs.declared.hosted.SlotReply.TheVariants as told
use Rattle.cops_node.specs.Hosting.{Hosted, IsSlotTurn}
use Rattle.cops_node.specs.Lacking.{MayLackAtSlot}
use Rattle.cops_node.specs.Parts.{MOST_SLOTS, Shared}
use Rattle.cops_model.specs.Place.{fits, node_number}
use Rattle.cops_node.specs.declared.Shape.{Shape}
use Rattle.cops_node.specs.Shape.{place_in}
use Rattle.cops_service.specs.Desks.{AreNodes, shape_in}
use Rattle.cops_service.specs.Gates.{Gates, IsToldAtGate, openings}

abbrev pub HostedSeat : Type 0
HostedSeat = Known Hosted SlotCall SlotReply

abbrev pub hosted_node : Hosted → Shared
hosted_node hosted = hosted.node

-- the cluster of the nodes without the numbers of lives
abbrev pub nodes_in : Gates Hosted → Gates Shared
nodes_in cluster =
    record { shards = cluster.shards; gate = record { table = cluster.gate.table; opening = map hosted_node cluster.gate.opening; ticket = cluster.gate.ticket } }

-- the gates opened with the nodes of a cluster, in number order
abbrev pub AreHosted : Gates Hosted → Type 0
AreHosted cluster = AreNodes (nodes_in cluster)

-- the sizes, as the first node has them
abbrev pub hosted_shape : Gates Hosted → Shape
hosted_shape cluster = shape_in (nodes_in cluster)

-- the tenants are in their slots' lives 0
abbrev pub IsInFirstLives : Hosted → Type 0
IsInFirstLives hosted = hosted.lives ≡ replicate MOST_SLOTS 0

-- the call may come to the node: every node may be asked to admit a tenant with a first clock that a clock has, and to close
abbrev pub FitsThere : Shape → NodeId → SlotCall → Type 0
FitsThere shape id (Own life call) = IsTrue (fits (place_in shape id) call)
FitsThere shape id (Admit life tenant) = tenant.first_clock ≤ last_clock
FitsThere shape id Close = Unit {0}

-- the outcome of a call of a slot: the reply, or that memory ran out
abbrev pub told_at_slot : Result SlotReply AllocError → SlotReply
told_at_slot (Ok reply) = reply
told_at_slot (Err error) = told.Refused OutOfMemory

-- a call of a slot at a node: the seat gets the reply, as its history says
abbrev pub IsSlotCall : Gates Hosted → HostedSeat → NodeId → ℕ → ℕ → SlotCall → SlotReply → HostedSeat → Type 0
IsSlotCall cluster old id slot moment call reply new = IsToldAtGate IsSlotTurn MayLackAtSlot (told.Refused OutOfMemory) (told.Refused GateSpent) slot moment call reply (openings cluster) (node_number cluster.shards id) old new

-- the replies to a session or a carrier
abbrev pub reply_to_own : SlotReply → NodeReply
reply_to_own (told.Own reply) = reply
reply_to_own (told.Refused fault) = node_reply.Refused fault
reply_to_own told.Admitted = node_reply.Refused Torn
reply_to_own told.Closed = node_reply.Refused Torn

-- a call of a session or a carrier at a node, in a life of a slot
abbrev pub IsLifeCall : Gates Hosted → HostedSeat → NodeId → ℕ → ℕ → ℕ → NodeCall → NodeReply → HostedSeat → Type 0
IsLifeCall cluster old id slot life moment call reply new =
    (answer : SlotReply) × (reply ≡ reply_to_own answer) × IsSlotCall cluster old id slot moment (Own life call) answer new

-- ---- the host's calls

-- a call of the host at the node of this number, and its reply
abbrev pub IsHostCall : Gates Hosted → ℕ → SlotCall → ℕ → SlotReply → HostedSeat → HostedSeat → Type 0
IsHostCall cluster slot call number reply old new = IsToldAtGate IsSlotTurn MayLackAtSlot (told.Refused OutOfMemory) (told.Refused GateSpent) slot 0 call reply (openings cluster) number old new

-- the host makes a call at each of this many first nodes, in order, and gets such a reply from each
abbrev pub CallsFirst : Gates Hosted → ℕ → SlotCall → (SlotReply → Type 0) → ℕ → HostedSeat → HostedSeat → Type 0
CallsFirst cluster slot call Is zero old new = new ≡ old
CallsFirst cluster slot call Is (suc n) old new =
    (between : HostedSeat) × (reply : SlotReply) × CallsFirst cluster slot call Is n old between × IsHostCall cluster slot call n reply between new × Is reply

-- the tenant is admitted at every node
abbrev pub IsAdmittedAtAll : Gates Hosted → ℕ → ℕ → Tenant → HostedSeat → HostedSeat → Type 0
IsAdmittedAtAll cluster slot life tenant = CallsFirst cluster slot (Admit life tenant) (λ reply. reply ≡ told.Admitted) (length (openings cluster))

-- the slot is closed at each of this many first nodes
abbrev pub IsClosedAtFirst : Gates Hosted → ℕ → ℕ → HostedSeat → HostedSeat → Type 0
IsClosedAtFirst cluster slot n = CallsFirst cluster slot Close (λ reply. Unit {0}) n

-- the slot is closed at every node
abbrev pub IsClosedAtAll : Gates Hosted → ℕ → HostedSeat → HostedSeat → Type 0
IsClosedAtAll cluster slot = IsClosedAtFirst cluster slot (length (openings cluster))

-- why the answer to an admission isn't that the tenant is admitted
abbrev pub IsRefusal : Result SlotReply AllocError → RequestError → Type 0
IsRefusal (Ok told.Admitted) error = ⊥
IsRefusal (Ok (told.Refused fault)) error = error ≡ request_error.Refused fault
IsRefusal (Ok (told.Own reply)) error = error ≡ request_error.Refused Torn
IsRefusal (Ok told.Closed) error = error ≡ request_error.Refused Torn
IsRefusal (Err lack) error = error ≡ request_error.OutOfMemory

-- A node refuses the tenant for this reason. The slot is closed again at those where the tenant was admitted before
pub record IsTakenBack (cluster : Gates Hosted) (slot life : ℕ) (tenant : Tenant) (error : RequestError) (old new : HostedSeat) : Type 0 where
  pub refuser : ℕ
  pub is_there : refuser < length (openings cluster)
  pub tried : HostedSeat
  pub refused : HostedSeat
  pub answer : Result SlotReply AllocError
  pub admitted : CallsFirst cluster slot (Admit life tenant) (λ reply. reply ≡ told.Admitted) refuser old tried
  pub refuses : IsHostCall cluster slot (Admit life tenant) refuser (told_at_slot answer) tried refused
  pub reason : IsRefusal answer error
  pub closed : IsClosedAtFirst cluster slot refuser refused new
