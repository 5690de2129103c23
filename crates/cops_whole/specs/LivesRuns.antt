-- A service whose tenants came and went: one history of all turns at its nodes, and what each seat did.
use Rattle.std.specs.Prelude.{◌≡◌, ◌⊎◌, ℕ, ◌*◌, ◌<◌, ◌≤◌, ◌&&◌, ◌==◌, Bool, true, false, nat_eq, filter, map, List, [], ◌∷◌, Option, Some, None, if◌then◌else◌}
use Rattle.std.specs.List.{AllByRecursion, filter_map, flat_map}
use Rattle.cops_types.specs.declared.configs.Config.{Config}
use Rattle.cops_types.specs.declared.faults.Fault.TheVariants.{OutOfMemory}
use Rattle.cops_gate.specs.declared.history.Turn.{Turn}
use Rattle.cops_gate.specs.History.{IsLegal, Leads, LeavesLacking, entry, turns_at, turns_of}
use Rattle.cops_gate.specs.Seats.{Extends, HasAllOf}
use Rattle.cops_model.specs.declared.calls.NodeCall.{NodeCall}
use Rattle.cops_model.specs.declared.calls.NodeId.{NodeId}
use Rattle.cops_model.specs.declared.calls.NodeReply.{NodeReply}
use Rattle.cops_model.specs.Place.{node_number}
use Rattle.cops_node.specs.Clusters.{new_nodes}
use Rattle.cops_node.specs.declared.hosted.SlotCall.{SlotCall}
use Rattle.cops_node.specs.declared.hosted.SlotCall.TheVariants.{Own, Admit, Close}
use Rattle.cops_node.specs.declared.hosted.SlotReply.{SlotReply}
use Rattle.cops_node.specs.declared.hosted.SlotReply.TheVariants as told
use Rattle.cops_node.specs.Hosting.{Hosted, IsSlotTurn}
use Rattle.cops_node.specs.Lacking.{MayLackAtSlot}
use Rattle.cops_service.specs.Gates.{HasSeenMore}
use Rattle.cops_service.specs.Hosted.{HostedEntry, HostedLog}
use Rattle.cops_service.specs.HostedDesks.{HostedSeat, IsInFirstLives, hosted_node}
use Rattle.cops_history.specs.History.{Told, turns_by}
use Rattle.cops_history.specs.Lives.{IsHostedLog, LeadsOnSlots, SlotEntry, SlotTurn, life_log, new_hosted, reply_in_life, slot_entries_at, slot_entry}
use Rattle.cops_served.specs.Conversations.{MakesTurns, turns_of_told}

-- ---- calls of a seat

-- a call of a slot at the node of this number, with its reply
pub record SlotCallThere : Type 0 where
  pub node : ℕ
  pub entry : SlotEntry

-- the seat got a ticket for the call: the node made a turn, a no-op turn if memory ran out
abbrev pub IsSlotTurnAt : List Hosted → HostedSeat → SlotCallThere → HostedSeat → Type 0
IsSlotTurnAt states old c new =
    (new.number ≡ old.number)
    × (Extends IsSlotTurn states c.node old (Some (entry c.entry.slot c.entry.moment c.entry.call c.entry.reply)) new
    ⊎ (c.entry.reply ≡ told.Refused OutOfMemory) × Extends IsSlotTurn states c.node old None new × LeavesLacking IsSlotTurn MayLackAtSlot states old.number c.node c.entry.slot c.entry.call new.history)

-- a call of a session, a carrier or a collection in a life of the slot, at a shard that exists
abbrev pub IsTurnInLife : ℕ → List Hosted → ℕ → HostedSeat → NodeId → ℕ → ℕ → NodeCall → NodeReply → HostedSeat → Type 0
IsTurnInLife shards states life old id slot moment call reply new =
    (id.shard < shards) × (answer : SlotReply) × (reply ≡ reply_in_life answer)
    × IsSlotTurnAt states old (record { node = node_number shards id; entry = slot_entry slot moment (Own life call) answer }) new

-- the host admits a tenant or closes a slot
abbrev pub is_of_host : SlotCall → Bool
is_of_host (Own life call) = false
is_of_host (Admit life tenant) = true
is_of_host Close = true

-- ---- what a seat did

-- an actor of a life of a slot, with all its commands
pub record LifeActor : Type 0 where
  pub slot : ℕ
  pub life : ℕ
  pub did : List Told

-- the commands of an actor, or a call of the host
pub data Deed : Type 0 where
  Acts : LifeActor → Deed
  Hosts : SlotCallThere → Deed

abbrev pub DoesOne : ℕ → List Hosted → HostedSeat → Deed → HostedSeat → Type 0
DoesOne shards states old (Acts actor) new = MakesTurns (IsTurnInLife shards states actor.life) actor.slot old (turns_of_told actor.did) new
DoesOne shards states old (Hosts c) new = (is_of_host c.entry.call ≡ true) × IsSlotTurnAt states old c new

-- one after another; the seat may see more before each, and in the end
abbrev pub DoesAll : ℕ → List Hosted → HostedSeat → List Deed → HostedSeat → Type 0
DoesAll shards states old [] new = HasSeenMore old new
DoesAll shards states old (deed ∷ deeds) new =
    (seen : HostedSeat) × HasSeenMore old seen × (mid : HostedSeat) × DoesOne shards states seen deed mid × DoesAll shards states mid deeds new

abbrev pub joins_life : ℕ → ℕ → Deed → List (List Told) → List (List Told)
joins_life slot life (Acts actor) rest = if nat_eq actor.slot slot && nat_eq actor.life life then actor.did ∷ rest else rest
joins_life slot life (Hosts c) rest = rest

-- the commands of the actors of one life
abbrev pub commands_in_life : ℕ → ℕ → List Deed → List (List Told)
commands_in_life slot life [] = []
commands_in_life slot life (deed ∷ deeds) = joins_life slot life deed (commands_in_life slot life deeds)

-- the host's calls
abbrev pub calls_of_host : List Deed → List SlotCallThere
calls_of_host [] = []
calls_of_host (Acts actor ∷ deeds) = calls_of_host deeds
calls_of_host (Hosts c ∷ deeds) = c ∷ calls_of_host deeds

-- The seat of this number had made no turn. Then it did this at the nodes, and each of its calls got a ticket. The history has all that the seat has
-- seen as a prefix, and no other turn of it.
pub record SeatDidDeeds (config : Config) (states : List Hosted) (history : HostedLog) (seat : ℕ) (deeds : List Deed) : Type 0 where
  pub first : HostedSeat
  pub last : HostedSeat
  pub number_is : first.number ≡ seat
  pub no_turn : turns_of first.number first.history ≡ []
  pub did : DoesAll config.shards states first deeds last
  pub all_of : HasAllOf history last

-- The gate opened with the new nodes of the configuration, whose tenants are in their slots' lives 0. The history is legal at each node. Each turn of
-- it is of one of so many seats, and each seat did these deeds.
pub record IsLivesRun (config : Config) (states : List Hosted) (history : HostedLog) (seats : ℕ) (deeds : ℕ → List Deed) : Type 0 where
  pub opened : map hosted_node states ≡ (new_nodes config).nodes
  pub lives : AllByRecursion IsInFirstLives states
  pub legal : (number : ℕ) → number < config.data_centres * config.shards → IsLegal IsSlotTurn (new_hosted config number) (turns_at number history)
  pub seated : AllByRecursion (λ (t : Turn SlotCall SlotReply). t.seat < seats) history
  pub did : (seat : ℕ) → seat < seats → SeatDidDeeds config states history seat (deeds seat)
  pub few : (seat : ℕ) → seats ≤ seat → deeds seat ≡ []

-- ---- its log

-- an entry of the gate's history, in a log
abbrev pub logged_call : Option HostedEntry → Option SlotEntry
logged_call None = None
logged_call (Some e) = Some (slot_entry e.slot e.moment e.call e.reply)

abbrev pub slot_turn_of : Turn SlotCall SlotReply → SlotTurn
slot_turn_of t = record { seat = t.seat; node = t.node; entry = logged_call t.entry }

abbrev pub says_out_of_memory : SlotReply → Bool
says_out_of_memory (told.Refused OutOfMemory) = true
says_out_of_memory others = false

-- no entry if memory was refused
abbrev pub unless_out_of_memory : Option SlotEntry → Option SlotEntry
unless_out_of_memory None = None
unless_out_of_memory (Some e) = if says_out_of_memory e.reply then None else Some e

-- the log as gates keep it: a call that was refused memory is a no-op turn
abbrev pub kept_slot_log : List SlotTurn → List SlotTurn
kept_slot_log log = map (λ (t : SlotTurn). record { seat = t.seat; node = t.node; entry = unless_out_of_memory t.entry }) log

-- a call of the host, at the node of this number
abbrev pub host_call : ℕ → Option SlotEntry → Option SlotCallThere
host_call node None = None
host_call node (Some e) = if is_of_host e.call then Some (record { node = node; entry = e }) else None

-- the host's calls by a seat, in order
abbrev pub host_calls_by : ℕ → List SlotTurn → List SlotCallThere
host_calls_by seat log = filter_map (λ (t : SlotTurn). host_call t.node t.entry) (filter (λ (t : SlotTurn). t.seat == seat) log)

-- A log of all calls, which the gate keeps as this history. For each life, the turns of each seat are those of the commands of its actors there. The
-- host's calls by a seat are those that it made. A node that the history leaves is one that the log leaves.
pub record IsLogOfLives (config : Config) (history : HostedLog) (deeds : ℕ → List Deed) (log : List SlotTurn) : Type 0 where
  pub kept : kept_slot_log log ≡ map slot_turn_of history
  pub hosted : IsHostedLog config log
  pub make : (slot life seat : ℕ) → flat_map turns_of_told (commands_in_life slot life (deeds seat)) ≡ turns_by seat (life_log config.shards slot life log)
  pub asked : (seat : ℕ) → host_calls_by seat log ≡ calls_of_host (deeds seat)
  pub leads : (number : ℕ) (left : Hosted) → number < config.data_centres * config.shards → Leads IsSlotTurn (new_hosted config number) (turns_at number history) left →
      LeadsOnSlots (new_hosted config number) (slot_entries_at number log) left
