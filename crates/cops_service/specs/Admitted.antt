-- How a history of all nodes shows whose life it is.
use Rattle.std.specs.Prelude.{◌≡◌, ◌⊎◌, ℕ, ◌<◌, ◌++◌, ◌∷◌, [], length, slice_get, Some}
use Rattle.cops_types.specs.declared.configs.Config.{Config}
use Rattle.cops_types.specs.declared.configs.Tenant.{Tenant}
use Rattle.cops_gate.specs.declared.history.Turn.{Turn}
use Rattle.cops_gate.specs.History.{entry, turn}
use Rattle.cops_gate.specs.Seats.{no_gate}
use Rattle.cops_node.specs.declared.hosted.SlotCall.{SlotCall}
use Rattle.cops_node.specs.declared.hosted.SlotCall.TheVariants.{Admit}
use Rattle.cops_node.specs.declared.hosted.SlotReply.{SlotReply}
use Rattle.cops_node.specs.declared.hosted.SlotReply.TheVariants.{Admitted}
use Rattle.cops_node.specs.Hosting.{Hosted}
use Rattle.cops_service.specs.Gates.{Gates, openings}
use Rattle.cops_service.specs.Hosted.{HostedLog}
use Rattle.cops_service.specs.declared.roster.Life.{Life}

-- a turn of the host's seat at this node, which gave the slot to the tenant in this life
abbrev pub admission_turn : ℕ → ℕ → Life → Tenant → Turn SlotCall SlotReply
admission_turn host node life tenant = turn host node (Some (entry life.slot 0 (Admit life.number tenant) Admitted))

-- the history has such a turn at this node
abbrev pub IsAdmittedThere : ℕ → Life → Tenant → HostedLog → Type 0
IsAdmittedThere node life tenant history =
    (host : ℕ) × (before : HostedLog) × (after : HostedLog) × (history ≡ before ++ admission_turn host node life tenant ∷ after)

-- there are nodes, and each of this many admitted the tenant in this life
pub record IsAdmittedEverywhere (nodes : ℕ) (life : Life) (tenant : Tenant) (history : HostedLog) : Type 0 where
  pub some : 0 < nodes
  pub each : (node : ℕ) → node < nodes → IsAdmittedThere node life tenant history

-- the life is the tenant's: it is the first life of the slot that the configuration gives to the tenant, or all nodes admitted the tenant in it
abbrev pub HasItsLife : Config → Gates Hosted → Life → Tenant → HostedLog → Type 0
HasItsLife config cluster life tenant history =
    ((life.number ≡ 0) × (slice_get config.tenants life.slot ≡ Some tenant))
    ⊎ IsAdmittedEverywhere (length (openings cluster)) life tenant history

-- the history shows that. (The bars are for a fact that a lock keeps: it has one proof at most)
abbrev pub ShowsLife : Config → Gates Hosted → Life → Tenant → HostedLog → Type 0
ShowsLife config cluster life tenant history = ∥ HasItsLife config cluster life tenant history ∥₁

-- no configuration, and no cluster
abbrev pub empty_config : Config
empty_config = record { data_centres = 0; shards = 0; trans_time = 0; restarts = 0; tenants = [] }

abbrev pub no_gates : Gates Hosted
no_gates = record { shards = 0; gate = no_gate }
