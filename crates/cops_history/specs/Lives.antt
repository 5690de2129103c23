-- One log of the calls at all nodes of a cluster whose tenants come and go, and what it says of one life of a tenant.
use Rattle.std.specs.Prelude.{◌≡◌, ◌≢◌, ◌⊎◌, ℕ, ◌<◌, ◌≤◌, ◌*◌, ◌==◌, nat_eq, filter, map, replicate, slice_get, List, [], ◌∷◌, ◌++◌, Option, Some, None, if◌then◌else◌}
use Rattle.std.specs.Option.{option_map}
use Rattle.std.specs.List.{AllByRecursion, filter_map, flat_map}
use Rattle.cops_types.specs.declared.configs.Config.{Config}
use Rattle.cops_types.specs.declared.configs.Tenant.{Tenant}
use Rattle.cops_types.specs.declared.faults.Fault.TheVariants.{OutOfMemory, Torn}
use Rattle.cops_types.specs.TenantConfig.{TenantConfig, tenant_config}
use Rattle.cops_model.specs.declared.calls.NodeCall.{NodeCall}
use Rattle.cops_model.specs.declared.calls.NodeReply.{NodeReply}
use Rattle.cops_model.specs.declared.calls.NodeReply.TheVariants as node_reply
use Rattle.cops_model.specs.Place.{place_of}
use Rattle.cops_model.specs.SoloNode.{SoloNode}
use Rattle.cops_node.specs.Clusters.{id_of, new_shared}
use Rattle.cops_node.specs.declared.hosted.SlotCall.{SlotCall}
use Rattle.cops_node.specs.declared.hosted.SlotCall.TheVariants.{Own, Admit, Close}
use Rattle.cops_node.specs.declared.hosted.SlotReply.{SlotReply}
use Rattle.cops_node.specs.declared.hosted.SlotReply.TheVariants as told
use Rattle.cops_node.specs.Hosting.{Held, Hosted, IsSlotTurn, unknown_tenant}
use Rattle.cops_node.specs.Lacking.{MayLackAtSlot}
use Rattle.cops_node.specs.Parts.{MOST_SLOTS}
use Rattle.cops_history.specs.Turns.{Turn}
use Rattle.cops_history.specs.Commands.{turn_made_by}
use Rattle.cops_history.specs.History.{Behaves, HasPrefixesOfActs, Logged, Told, all_done, seat_in, turns_by}

-- a call of a slot with its reply: a call of a tenant in one of its lives, or the host's admission or close
pub record SlotEntry : Type 0 where
  pub slot : ℕ
  pub moment : ℕ
  pub call : SlotCall
  pub reply : SlotReply

-- a turn of a seat at the node of this number; a no-op turn has no entry
pub record SlotTurn : Type 0 where
  pub seat : ℕ
  pub node : ℕ
  pub entry : Option SlotEntry

abbrev pub slot_entry : ℕ → ℕ → SlotCall → SlotReply → SlotEntry
slot_entry slot moment call reply = record { slot = slot; moment = moment; call = call; reply = reply }

-- ---- the log

-- what was called at the node of this number
abbrev pub slot_entries_at : ℕ → List SlotTurn → List (Option SlotEntry)
slot_entries_at number log = map (λ (t : SlotTurn). t.entry) (filter (λ (t : SlotTurn). t.node == number) log)

-- the call is a turn of the node; or memory was refused, if it may be, and nothing changed
abbrev pub IsSlotCallAt : Hosted → SlotEntry → Hosted → Type 0
IsSlotCallAt old e new =
    IsSlotTurn old e.slot e.moment e.call e.reply new
    ⊎ ((e.reply ≡ told.Refused OutOfMemory) × (new ≡ old) × MayLackAtSlot old e.slot e.call)

-- these calls lead from the first state of the node to the second
abbrev pub LeadsOnSlots : Hosted → List (Option SlotEntry) → Hosted → Type 0
LeadsOnSlots old [] new = new ≡ old
LeadsOnSlots old (None ∷ entries) new = LeadsOnSlots old entries new
LeadsOnSlots old (Some e ∷ entries) new = (between : Hosted) × IsSlotCallAt old e between × LeadsOnSlots between entries new

-- a new node of the configuration. Its tenants are in their slots' lives 0
abbrev pub new_hosted : Config → ℕ → Hosted
new_hosted config number = record { node = new_shared config number; lives = replicate MOST_SLOTS 0 }

-- each turn is at a node of the cluster, and the calls at each node lead on from its new state
pub record IsHostedLog (config : Config) (log : List SlotTurn) : Type 0 where
  pub there : AllByRecursion (λ (t : SlotTurn). t.node < config.data_centres * config.shards) log
  pub legal : (number : ℕ) → number < config.data_centres * config.shards → (left : Hosted) × LeadsOnSlots (new_hosted config number) (slot_entries_at number log) left

-- ---- the calls of a life

abbrev pub call_in_life : ℕ → SlotCall → Option NodeCall
call_in_life life (Own other call) = if nat_eq other life then Some call else None
call_in_life life (Admit other tenant) = None
call_in_life life Close = None

-- the reply to a session, a carrier or a collector. A node never tells one that a tenant was admitted or closed
abbrev pub reply_in_life : SlotReply → NodeReply
reply_in_life (told.Own reply) = reply
reply_in_life (told.Refused fault) = node_reply.Refused fault
reply_in_life told.Admitted = node_reply.Refused Torn
reply_in_life told.Closed = node_reply.Refused Torn

-- a call at the node of this number, if it is one of this life of the slot, as a turn of its tenant
abbrev pub turn_in_life : ℕ → ℕ → ℕ → ℕ → Option SlotEntry → Option Turn
turn_in_life shards slot life number None = None
turn_in_life shards slot life number (Some e) =
    if nat_eq e.slot slot
    then option_map (λ call. record { node = id_of shards number; moment = e.moment; call = call; reply = reply_in_life e.reply }) (call_in_life life e.call)
    else None

abbrev pub logged_in_life : ℕ → ℕ → ℕ → SlotTurn → Option Logged
logged_in_life shards slot life t = option_map (λ own. record { seat = t.seat; turn = own }) (turn_in_life shards slot life t.node t.entry)

-- the log of a life: its calls, in order
abbrev pub life_log : ℕ → ℕ → ℕ → List SlotTurn → List Logged
life_log shards slot life log = filter_map (logged_in_life shards slot life) log

-- ---- its time

-- it is a call of this life of the slot
abbrev pub IsCallInLife : ℕ → ℕ → Option SlotEntry → Type 0
IsCallInLife slot life None = ⊥
IsCallInLife slot life (Some e) = (e.slot ≡ slot) × (call : NodeCall) × (e.call ≡ Own life call)

-- a call of this life got `UnknownTenant`
abbrev pub IsToldUnknown : ℕ → ℕ → Option SlotEntry → Type 0
IsToldUnknown slot life None = ⊥
IsToldUnknown slot life (Some e) = IsCallInLife slot life (Some e) × (e.reply ≡ unknown_tenant)

-- if it is such a call, it got `UnknownTenant`
abbrev pub IsUnknown : ℕ → ℕ → Option SlotEntry → Type 0
IsUnknown slot life None = Unit {0}
IsUnknown slot life (Some e) = IsCallInLife slot life (Some e) → e.reply ≡ unknown_tenant

-- the host asks the node to give the slot to some tenant in a life of this number
abbrev pub AsksForLife : ℕ → ℕ → Option SlotEntry → Type 0
AsksForLife slot life None = ⊥
AsksForLife slot life (Some e) = (e.slot ≡ slot) × (tenant : Tenant) × (e.call ≡ Admit life tenant)

abbrev pub NeverToldUnknown : ℕ → ℕ → List (Option SlotEntry) → Type 0
NeverToldUnknown slot life entries = AllByRecursion (λ (e : Option SlotEntry). IsToldUnknown slot life e → ⊥) entries

abbrev pub NeverAsksFor : ℕ → ℕ → List (Option SlotEntry) → Type 0
NeverAsksFor slot life entries = AllByRecursion (λ (e : Option SlotEntry). AsksForLife slot life e → ⊥) entries

-- the host asks for this life once, for this tenant
pub record AsksOnce (tenant : Tenant) (slot life : ℕ) (entries : List (Option SlotEntry)) : Type 0 where
  pub earlier : List (Option SlotEntry)
  pub later : List (Option SlotEntry)
  pub moment : ℕ
  pub reply : SlotReply
  pub are : entries ≡ earlier ++ Some (slot_entry slot moment (Admit life tenant) reply) ∷ later
  pub first : NeverAsksFor slot life earlier
  pub last : NeverAsksFor slot life later

-- At a node with these calls no other tenant has a life of this number in the slot: it is life 0 of a tenant of the configuration, or a later one, for
-- which the host asks at most once.
abbrev pub IsLifeOf : Config → Tenant → ℕ → ℕ → List (Option SlotEntry) → Type 0
IsLifeOf config tenant slot life entries =
    ((life ≡ 0) × (slice_get config.tenants slot ≡ Some tenant) × NeverAsksFor slot life entries)
    ⊎ ((life ≢ 0) × (NeverAsksFor slot life entries ⊎ AsksOnce tenant slot life entries))

-- Turns of a log, from its beginning, in which no call of the life got `UnknownTenant`. No other tenant has the life.
pub record IsTimeOf (config : Config) (tenant : Tenant) (slot life : ℕ) (prefix log : List SlotTurn) : Type 0 where
  pub later : List SlotTurn
  pub are : log ≡ prefix ++ later
  pub known : AllByRecursion (λ (t : SlotTurn). IsToldUnknown slot life t.entry → ⊥) prefix
  pub own : (number : ℕ) → number < config.data_centres * config.shards → IsLifeOf config tenant slot life (slot_entries_at number prefix)

-- ---- its actors

-- The calls that each seat made in the life are those of its conversations, carriers and collections there, one after another.
pub record AreServedInLife (config : TenantConfig) (log : List Logged) (seats : ℕ) (did : ℕ → List (List Told)) : Type 0 where
  pub behave : (seat : ℕ) → AllByRecursion (Behaves config None) (did seat)
  pub make : (seat : ℕ) → flat_map (flat_map (λ t. turn_made_by t.command)) (did seat) ≡ turns_by seat log
  pub few : (seat : ℕ) → seats ≤ seat → did seat ≡ []

-- a prefix of each seat's commands in the life makes up its turns there, and these are acts of a cluster that the tenant has to itself
abbrev pub LivesCausally : Config → Tenant → ℕ → ℕ → List SlotTurn → (ℕ → List (List Told)) → Type 0
LivesCausally config tenant slot life prefix did = HasPrefixesOfActs (tenant_config config tenant) (life_log config.shards slot life prefix) seat_in (all_done did)

-- the tenant's part of a node, in this life
abbrev pub held_there : Config → Tenant → ℕ → ℕ → SoloNode → Held
held_there config tenant life number solo = record { life = life; place = place_of (tenant_config config tenant) (id_of config.shards number); solo = solo }
