-- A cluster that seats serve, for all tenants: the actors of each seat, and the turns that they made in one log.
use Rattle.std.specs.Prelude.{◌≡◌, ℕ, ◌<◌, ◌≤◌, Bool, false, nat_eq, filter, map, List, [], ◌∷◌, ◌++◌, Some, None, slice_get}
use Rattle.std.specs.List.{AllByRecursion, flat_map}
use Rattle.cops_types.specs.declared.configs.Config.{Config}
use Rattle.cops_types.specs.declared.configs.Tenant.{Tenant}
use Rattle.cops_types.specs.TenantConfig.{tenant_config}
use Rattle.cops_model.specs.declared.calls.NodeCall.{NodeCall}
use Rattle.cops_model.specs.declared.calls.NodeId.{NodeId}
use Rattle.cops_model.specs.declared.calls.NodeReply.{NodeReply}
use Rattle.cops_model.specs.Place.{node_number}
use Rattle.cops_history.specs.Turns.{Turn}
use Rattle.cops_history.specs.History.{Told, Behaves}
use Rattle.cops_served.specs.Conversations.{AreRecorded, MakesTurns, turns_of_told}
use Rattle.cops_whole.specs.Whole.{WholeTurn, IsWholeLog, seat_turns}

-- an actor of the tenant of a slot, with all its commands
pub record SlotActor : Type 0 where
  pub slot : ℕ
  pub did : List Told

-- the slot has a tenant, and the commands behave under its configuration
abbrev pub BehavesInSlot : Config → SlotActor → Type 0
BehavesInSlot config actor = (tenant : Tenant) × (slice_get config.tenants actor.slot ≡ Some tenant) × Behaves (tenant_config config tenant) None actor.did

-- the turn of a slot's actor, by this seat
abbrev pub turn_by : Config → ℕ → ℕ → Turn → WholeTurn
turn_by config seat slot t =
    record { seat = seat; node = node_number config.shards t.node; entry = Some (record { slot = slot; moment = t.moment; call = t.call; reply = t.reply }) }

-- the turns that an actor of this seat made
abbrev pub turns_by_actor : Config → ℕ → SlotActor → List WholeTurn
turns_by_actor config seat actor = map (turn_by config seat actor.slot) (turns_of_told actor.did)

-- each call of the actor is at a shard that exists
abbrev pub IsAtShards : Config → SlotActor → Type 0
IsAtShards config actor = AllByRecursion (λ (t : Turn). t.node.shard < config.shards) (turns_of_told actor.did)

-- One log of the cluster, in which the turns of each seat are those of its actors, one after another. Each actor behaves.
pub record IsServedCluster (config : Config) (log : List WholeTurn) (seats : ℕ) (actors : ℕ → List SlotActor) : Type 0 where
  pub whole : IsWholeLog config log
  pub behave : (seat : ℕ) → AllByRecursion (BehavesInSlot config) (actors seat)
  pub shards : (seat : ℕ) → AllByRecursion (IsAtShards config) (actors seat)
  pub make : (seat : ℕ) → flat_map (turns_by_actor config seat) (actors seat) ≡ seat_turns seat log
  pub few : (seat : ℕ) → seats ≤ seat → actors seat ≡ []

-- the commands of one tenant's actors
abbrev pub own_commands : ℕ → List SlotActor → List (List Told)
own_commands slot actors = map (λ a. a.did) (filter (λ (a : SlotActor). nat_eq a.slot slot) actors)

-- ---- what a seat makes

-- these actors made their calls, one after another
abbrev pub MakesAll : {N : Type 0} → (N → NodeId → ℕ → ℕ → NodeCall → NodeReply → N → Type 0) → N → List SlotActor → N → Type 0
MakesAll Calls old [] new = new ≡ old
MakesAll {N = N} Calls old (actor ∷ actors) new = (mid : N) × MakesTurns Calls actor.slot old (turns_of_told actor.did) mid × MakesAll Calls mid actors new

-- Each call adds its turn, by this seat, to what `seen` gives, unless its reply is one of `lost`. `Holds` stays.
abbrev pub AddsTurns : {N : Type 0} → (NodeReply → Bool) → (N → NodeId → ℕ → ℕ → NodeCall → NodeReply → N → Type 0) → Config → ℕ → (N → Type 0) → (N → List WholeTurn) → Type 0
AddsTurns {N = N} lost Calls config seat Holds seen =
    (old new : N) (id : NodeId) (slot moment : ℕ) (call : NodeCall) (reply : NodeReply) → Holds old → Calls old id slot moment call reply new
    → Holds new × (lost reply ≡ false → seen new ≡ seen old ++ turn_by config seat slot (record { node = id; moment = moment; call = call; reply = reply }) ∷ [])

-- no reply to these actors is one of `lost`
abbrev pub AllRecorded : (NodeReply → Bool) → List SlotActor → Type 0
AllRecorded lost actors = AllByRecursion (λ (a : SlotActor). AreRecorded lost (turns_of_told a.did)) actors
