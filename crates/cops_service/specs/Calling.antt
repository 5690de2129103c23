-- Calls that a thread makes at nodes for work items.
use Rattle.std.specs.Prelude.{◌≡◌, ℕ, zero, suc, ◌⊎◌, List, [], ◌∷◌}
use Rattle.cops_types.specs.declared.configs.Config.{Config}
use Rattle.cops_model.specs.declared.calls.NodeCall.{NodeCall}
use Rattle.cops_model.specs.declared.calls.NodeCall.TheVariants.{Collect}
use Rattle.cops_model.specs.declared.calls.NodeId.{NodeId}
use Rattle.cops_model.specs.declared.calls.NodeReply.{NodeReply}
use Rattle.cops_service.specs.Noted.{IsThere}
use Rattle.cops_service.specs.declared.notes.TenantNode.{TenantNode}

module _ {N : Type 0} (answers : N → NodeId → ℕ → ℕ → NodeCall → NodeReply → N → Type 0) where
  -- a call at a node, for the tenant of this slot
  abbrev pub IsCallFor : ℕ → N → N → Type 0
  IsCallFor slot old new = (id : NodeId) × (moment : ℕ) × (call : NodeCall) × (reply : NodeReply) × answers old id slot moment call reply new

  -- this many calls, one after another, all for the tenant of this slot
  abbrev pub AreCallsFor : ℕ → ℕ → N → N → Type 0
  AreCallsFor slot zero old new = new ≡ old
  AreCallsFor slot (suc count) old new = (between : N) × AreCallsFor slot count old between × IsCallFor slot between new

  -- no call is made, or some, all for the tenant of this slot
  abbrev pub CallsOnlyFor : ℕ → N → N → Type 0
  CallsOnlyFor slot old new = (count : ℕ) × AreCallsFor slot count old new

  -- the tenant's part of this node is collected
  abbrev pub Collects : TenantNode → N → N → Type 0
  Collects place old new = (moment : ℕ) × (reply : NodeReply) × answers old place.id place.slot moment Collect reply new

  -- the same if the tenant and the node exist, and otherwise no call is made
  abbrev pub CollectsIfThere : Config → TenantNode → N → N → Type 0
  CollectsIfThere config place old new = (IsThere config place × Collects place old new) ⊎ ((IsThere config place → ⊥) × (new ≡ old))

  -- this many places that exist are collected, one after another
  abbrev pub CollectAll : Config → ℕ → N → N → Type 0
  CollectAll config zero old new = new ≡ old
  CollectAll config (suc count) old new = (between : N) × (place : TenantNode) × CollectAll config count old between × IsThere config place × Collects place between new

-- it is done for each of these, in order
abbrev pub DoneForEach : {N X : Type 0} → (X → N → N → Type 0) → List X → N → N → Type 0
DoneForEach Does [] old new = new ≡ old
DoneForEach {N = N} Does (x ∷ xs) old new = (between : N) × Does x old between × DoneForEach Does xs between new
