-- The admission and the closing of a tenant at every node of a cluster.
use Rattle.std.specs.Prelude.{◌≡◌, ◌≢◌, ℕ, zero, suc, List, [], ◌∷◌, None, Some}
use Rattle.cops_types.specs.declared.quotas.Quota.{Quota}
use Rattle.cops_node.specs.Parts.{IsSlotKept, Shared, place_at, place_for, trail_of}

-- the slot has no tenant, and nothing of one; all other slots stay the same
pub record IsClosed (slot : ℕ) (old new : Shared) : Type 0 where
  pub vacant : place_at slot new ≡ None
  pub empty : trail_of slot new.audit ≡ []
  pub others : (other : ℕ) → other ≢ slot → IsSlotKept other old new
  pub home : new.home ≡ old.home

-- the slot belongs to a new tenant with this first clock and quota; all other slots stay the same
pub record IsAdmitted (slot first_clock : ℕ) (quota : Quota) (old new : Shared) : Type 0 where
  pub place : place_at slot new ≡ Some (place_for old.home first_clock quota)
  pub empty : trail_of slot new.audit ≡ []
  pub others : (other : ℕ) → other ≢ slot → IsSlotKept other old new
  pub home : new.home ≡ old.home

-- this holds of each node of one list and the node at the same index of the other
abbrev pub AtEach : (Shared → Shared → Type 0) → List Shared → List Shared → Type 0
AtEach Is [] [] = Unit {0}
AtEach Is (a ∷ old) (b ∷ new) = Is a b × AtEach Is old new
AtEach Is [] (b ∷ new) = ⊥
AtEach Is (a ∷ old) [] = ⊥

-- it holds of this many first nodes, and the others stay the same
abbrev pub AtFirst : (Shared → Shared → Type 0) → ℕ → List Shared → List Shared → Type 0
AtFirst Is n [] [] = Unit {0}
AtFirst Is n [] (b ∷ new) = ⊥
AtFirst Is n (a ∷ old) [] = ⊥
AtFirst Is zero (a ∷ old) (b ∷ new) = (b ≡ a) × AtFirst Is zero old new
AtFirst Is (suc n) (a ∷ old) (b ∷ new) = Is a b × AtFirst Is n old new
