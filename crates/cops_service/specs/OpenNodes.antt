-- Nodes that have the tenants of a roster.
use Rattle.std.specs.Prelude.{◌≡◌, ℕ, ◌^◌, ◌<◌, List, length, Option, Some, None}
use Rattle.std.specs.List.{AllByRecursion}
use Rattle.cops_types.specs.declared.configs.Config.{Config}
use Rattle.cops_types.specs.declared.configs.Tenant.{Tenant}
use Rattle.cops_types.specs.OpenSlots.{open_at}
use Rattle.cops_gate.specs.History.{turns_at}
use Rattle.cops_node.specs.Hosting.{Hosted, life_at}
use Rattle.cops_node.specs.Parts.{Shared, terms_at, terms_of}
use Rattle.cops_service.specs.HostedLeft.{AreLeftByLives}
use Rattle.cops_service.specs.Rosters.{Roster, life_in}

-- each of these nodes has each open tenant in its slot, with its first clock and quota
abbrev pub HaveOpenTenants : List (Option Tenant) → List Shared → Type 0
HaveOpenTenants tenants nodes =
    (slot : ℕ) (tenant : Tenant) → open_at slot tenants ≡ Some tenant → AllByRecursion (λ node. terms_at slot node ≡ Some (terms_of tenant)) nodes

-- each of them has no other tenant
abbrev pub HaveNoOthers : List (Option Tenant) → List Shared → Type 0
HaveNoOthers tenants nodes = (slot : ℕ) → open_at slot tenants ≡ None → AllByRecursion (λ node. terms_at slot node ≡ None) nodes

-- each of them has each open tenant in the life that the roster has of it
abbrev pub HaveLives : Roster → List Hosted → Type 0
HaveLives roster nodes =
    (slot : ℕ) (tenant : Tenant) → open_at slot roster.tenants ≡ Some tenant → AllByRecursion (λ node. life_at slot node ≡ (life_in roster slot).number) nodes

-- One history leaves these nodes. They have each of the open tenants; and no other, if fewer than 2^62 turns were made at each
pub record AreLeftWithTenants (config : Config) (tenants : List (Option Tenant)) (nodes : List Shared) : Type 0 where
  pub left : AreLeftByLives config nodes
  pub have : HaveOpenTenants tenants nodes
  pub no_others : ((node : ℕ) → length (turns_at node left.log) < 2 ^ 62) → HaveNoOthers tenants nodes
