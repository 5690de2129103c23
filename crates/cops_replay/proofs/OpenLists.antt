-- The tenants who are open, by their places, and the slots of these places.
use Rattle.cops_replay.proofs.Names.{◌≡◌, ℕ, zero, suc, ◌+◌, List, [], ◌∷◌, ◌++◌, length, map-id, refl, sym, ap, ◌∙◌, arith, slice_get, slice_index_or, Option, Some, None, range_with_len, slice_get_within, nat_tests, Config, Tenant, open_at, tenant_config, HasTenant, IsCluster, shape_of, Shared, AreNodesOf, audit_of, audit_text, his_nodes, AreNodesAt, audit_at, nodes_at, open_slots, open_tenants, slots_from, with_tenants, AreFormed, get_or-range_with_len, length-range_with_len, map-range_with_len_more}
use Rattle.cops_replay.proofs.AuditTexts.{audit_text-same}

-- ---- the slot of a place

-- the tenant of a place is open at a slot
record IsOpenFrom (n : ℕ) (tenants : List (Option Tenant)) (place : ℕ) (tenant : Tenant) : Type 0 where
  behind : ℕ
  slot_is : slice_index_or (slots_from n tenants) place 0 ≡ n + behind
  there : open_at behind tenants ≡ Some tenant

from_place : (n : ℕ) (tenants : List (Option Tenant)) (place : ℕ) (tenant : Tenant) → slice_get (open_tenants tenants) place ≡ Some tenant → IsOpenFrom n tenants place tenant
from_place n [] place tenant e = absurd cc
from_place n (None ∷ tenants) place tenant e =
    let rest = from_place (n + 1) tenants place tenant e in
    record { behind = suc rest.behind; slot_is = (let is = rest.slot_is in omega (arith, is)); there = rest.there }
from_place n (Some t ∷ tenants) zero tenant e = record { behind = 0; slot_is = omega arith; there = e }
from_place n (Some t ∷ tenants) (suc place) tenant e =
    let rest = from_place (n + 1) tenants place tenant e in
    record { behind = suc rest.behind; slot_is = (let is = rest.slot_is in omega (arith, is)); there = rest.there }

pub open_there : (tenants : List (Option Tenant)) (place : ℕ) (tenant : Tenant) → slice_get (open_tenants tenants) place ≡ Some tenant → open_at (slice_index_or (open_slots tenants) place 0) tenants ≡ Some tenant
open_there tenants place tenant e =
    let from = from_place 0 tenants place tenant e in
    let behind : 0 + from.behind ≡ from.behind = omega arith in
    ap (λ slot. open_at slot tenants) (from.slot_is ∙ behind) ∙ from.there

as_many_from : (n : ℕ) (tenants : List (Option Tenant)) → length (slots_from n tenants) ≡ length (open_tenants tenants)
as_many_from n [] = refl
as_many_from n (None ∷ tenants) = as_many_from (n + 1) tenants
as_many_from n (Some t ∷ tenants) = ap suc (as_many_from (n + 1) tenants)

-- each place has a slot
pub as_many : (tenants : List (Option Tenant)) → length (open_slots tenants) ≡ length (open_tenants tenants)
as_many tenants = as_many_from 0 tenants

-- ---- their nodes

-- if each open tenant has its slot in the nodes, each place has it
pub nodes_of_open : (config : Config) (tenants : List (Option Tenant)) (nodes : List Shared) → IsCluster (shape_of config) nodes →
    ((slot : ℕ) (tenant : Tenant) → open_at slot tenants ≡ Some tenant → HasTenant (tenant_config config tenant) slot (record { shape = shape_of config; nodes = nodes })) →
    AreNodesAt config (open_tenants tenants) (open_slots tenants) nodes
nodes_of_open config tenants nodes by_number each = grind (arith, nat_tests, as_many, open_there)

-- ---- of a configuration's own tenants, each in the slot of its place

-- the first slots, and one more
pub one_more_first : (n : ℕ) → range_with_len 0 (n + 1) ≡ range_with_len 0 n ++ n ∷ []
one_more_first n =
    sym (map-id (range_with_len 0 (n + 1))) ∙ map-range_with_len_more (λ x. x) 0 n n (let same : 0 + n ≡ n = omega arith in same) ∙ ap (λ l. l ++ n ∷ []) (map-id (range_with_len 0 n))

-- these are the configuration's tenants, and their slots
pub record AreFirst (config : Config) (tenants : List Tenant) (slots : List ℕ) : Type 0 where
  pub tenants_are : tenants ≡ config.tenants
  pub slots_are : slots ≡ range_with_len 0 (length tenants)

module _ (config : Config) (nodes : List Shared) (tenants : List Tenant) (slots : List ℕ) (first : AreFirst config tenants slots) where
  own_slot : (place : ℕ) (tenant : Tenant) → slice_get tenants place ≡ Some tenant → slice_index_or slots place 0 ≡ place
  own_slot place tenant e = grind (arith, nat_tests, get_or-range_with_len, slice_get_within)

  at_own : (place : ℕ) (tenant : Tenant) → slice_get config.tenants place ≡ Some tenant → slice_get tenants place ≡ Some tenant
  at_own place tenant e = ap (λ (ts : List Tenant). slice_get ts place) first.tenants_are ∙ e

  pub nodes_of_first : AreNodesOf config nodes → AreNodesAt config tenants slots nodes
  nodes_of_first are = grind (arith, nat_tests, length-range_with_len, own_slot)

  pub text_of_first : audit_at config tenants slots nodes ≡ audit_of config nodes
  text_of_first =
      audit_text-same (with_tenants config tenants) (nodes_at config slots nodes) (his_nodes config nodes) (λ place tenant e. ap (his_nodes config nodes (tenant_config config tenant)) (own_slot place tenant e))
      ∙ ap (λ (ts : List Tenant). audit_text (with_tenants config ts) (his_nodes config nodes)) first.tenants_are

  pub formed_of_first : AreFormed (with_tenants config tenants) (nodes_at config slots nodes) → AreFormed config (his_nodes config nodes)
  formed_of_first formed place tenant e = grind (arith, nat_tests, at_own, own_slot)
