-- One log of the calls at all nodes of a cluster, and what it says of one node and of one tenant.
use Rattle.std.specs.Prelude.{◌≡◌, ◌⊎◌, ℕ, ◌<◌, ◌≤◌, ◌*◌, ◌==◌, nat_eq, filter, List, [], ◌∷◌, Option, Some, None, if◌then◌else◌}
use Rattle.std.specs.List.{AllByRecursion, flat_map}
use Rattle.cops_types.specs.declared.configs.Config.{Config}
use Rattle.cops_types.specs.declared.configs.Tenant.{Tenant}
use Rattle.cops_types.specs.declared.faults.Fault.TheVariants.{OutOfMemory}
use Rattle.cops_types.specs.TenantConfig.{tenant_config}
use Rattle.cops_model.specs.declared.calls.NodeCall.{NodeCall}
use Rattle.cops_model.specs.declared.calls.NodeReply.{NodeReply}
use Rattle.cops_model.specs.declared.calls.NodeReply.TheVariants.{Refused}
use Rattle.cops_model.specs.Place.{Place, place_of}
use Rattle.cops_model.specs.SoloNode.{SoloNode}
use Rattle.cops_node.specs.Clusters.{id_of, new_shared}
use Rattle.cops_node.specs.Lacking.{MayLack}
use Rattle.cops_node.specs.Parts.{Shared, IsMachineTurn, place_at, solo_of}
use Rattle.cops_history.specs.Turns.{Turn}
use Rattle.cops_history.specs.History.{Logged, Told, Behaves, turns_by}
use Rattle.cops_served.specs.Conversations.{turns_of_told}

-- a call for a slot, with its reply
pub record CallEntry : Type 0 where
  pub slot : ℕ
  pub moment : ℕ
  pub call : NodeCall
  pub reply : NodeReply

-- a turn of a seat at the node of this number; a no-op turn has no entry
pub record WholeTurn : Type 0 where
  pub seat : ℕ
  pub node : ℕ
  pub entry : Option CallEntry

abbrev pub whole_turn : ℕ → ℕ → Option CallEntry → WholeTurn
whole_turn seat node entry = record { seat = seat; node = node; entry = entry }

-- the turns of one seat, in order
abbrev pub seat_turns : ℕ → List WholeTurn → List WholeTurn
seat_turns seat log = filter (λ w. w.seat == seat) log

-- ---- one node

-- what was called at the node of this number
abbrev pub entries_at : ℕ → List WholeTurn → List (Option CallEntry)
entries_at number [] = []
entries_at number (w ∷ log) = if w.node == number then w.entry ∷ entries_at number log else entries_at number log

-- the call is a turn of the node; or memory was refused, where that is possible, and nothing changed
abbrev pub IsCallAt : Shared → CallEntry → Shared → Type 0
IsCallAt old e new =
    IsMachineTurn old e.slot e.moment e.call e.reply new
    ⊎ ((e.reply ≡ Refused OutOfMemory) × (new ≡ old) × MayLack old e.slot e.call)

-- these calls lead from the first state of the node to the second
abbrev pub LeadsOn : Shared → List (Option CallEntry) → Shared → Type 0
LeadsOn old [] new = new ≡ old
LeadsOn old (None ∷ entries) new = LeadsOn old entries new
LeadsOn old (Some e ∷ entries) new = (between : Shared) × IsCallAt old e between × LeadsOn between entries new

-- each turn is at a node of the cluster, and the calls at each node lead on from its new state
pub record IsWholeLog (config : Config) (log : List WholeTurn) : Type 0 where
  pub there : AllByRecursion (λ (w : WholeTurn). w.node < config.data_centres * config.shards) log
  pub legal : (number : ℕ) → number < config.data_centres * config.shards → (left : Shared) × LeadsOn (new_shared config number) (entries_at number log) left

-- ---- one tenant

-- a call at the node of this number, as a turn of its tenant
abbrev pub tenant_turn : Config → ℕ → CallEntry → Turn
tenant_turn config number e = record { node = id_of config.shards number; moment = e.moment; call = e.call; reply = e.reply }

abbrev pub joins_own : Config → ℕ → ℕ → ℕ → Option CallEntry → List Logged → List Logged
joins_own config slot seat number None rest = rest
joins_own config slot seat number (Some e) rest = if nat_eq e.slot slot then record { seat = seat; turn = tenant_turn config number e } ∷ rest else rest

-- the log of the tenant of a slot
abbrev pub own_log : Config → ℕ → List WholeTurn → List Logged
own_log config slot [] = []
own_log config slot (w ∷ log) = joins_own config slot w.seat w.node w.entry (own_log config slot log)

-- the turns that a seat made for the tenant of a slot
abbrev pub own_turns : Config → ℕ → ℕ → List WholeTurn → List Turn
own_turns config slot seat log = turns_by seat (own_log config slot log)

-- the turns that each seat made for the tenant are those of its conversations, carriers and collections there, one after another
pub record AreServedForTenant (config : Config) (tenant : Tenant) (slot : ℕ) (log : List WholeTurn) (seats : ℕ) (did : ℕ → List (List Told)) : Type 0 where
  pub behave : (seat : ℕ) → AllByRecursion (Behaves (tenant_config config tenant) None) (did seat)
  pub make : (seat : ℕ) → flat_map turns_of_told (did seat) ≡ own_turns config slot seat log
  pub few : (seat : ℕ) → seats ≤ seat → did seat ≡ []

-- the slot of the node has this place, and represents this solo node
pub record Represents (slot : ℕ) (place : Place) (solo : SoloNode) (node : Shared) : Type 0 where
  pub place_is : place_at slot node ≡ Some place
  pub solo_is : solo ≡ solo_of slot place node

-- the place of a tenant at the node of this number
abbrev pub place_there : Config → Tenant → ℕ → Place
place_there config tenant number = place_of (tenant_config config tenant) (id_of config.shards number)
