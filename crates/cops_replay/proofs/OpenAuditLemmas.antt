-- The audit of the open tenants is that of their list and of their slots.
use Rattle.cops_replay.proofs.Names.{◌≡◌, ℕ, List, refl, sym, subst, arith, slice_index_or, Option, AllByRecursion, nat_tests, Config, Tenant, Whole, head_of, tenant_config, shape_of, IsCluster, AuditFits, Shared, AreNodesAt, AreNodesOfOpen, audit_at, nodes_at, open_audit_of, open_slots, open_tenants, with_tenants, audit_text, AllReplaySame, AreFormed, HaveLines, SaysSame, HasItsTenants, open_config, open_nodes, KeptWorld, open_config_of, open_nodes_of}
use Rattle.cops_replay.proofs.AuditReplays.{cluster_replays_same}
use Rattle.cops_replay.proofs.OpenLists.{nodes_of_open}
use Rattle.cops_replay.proofs.WrittenAudits.{says_same}

-- these are the open tenants, and their slots
pub record AreOpenOf (tenants : List (Option Tenant)) (found : List Tenant) (slots : List ℕ) : Type 0 where
  pub found_are : found ≡ open_tenants tenants
  pub slots_are : slots ≡ open_slots tenants

module _ (config : Config) (tenants : List (Option Tenant)) (nodes : List Shared) (found : List Tenant) (slots : List ℕ) (of : AreOpenOf tenants found slots) where
  -- what holds of the open tenants holds of these
  of_these : (P : List Tenant → List ℕ → Type 0) → P (open_tenants tenants) (open_slots tenants) → P found slots
  of_these P h = grind (arith, nat_tests)

  pub nodes_of_found : AreNodesOfOpen config tenants nodes → AreNodesAt config found slots nodes
  nodes_of_found are = of_these (λ ts ns. AreNodesAt config ts ns nodes) (nodes_of_open config tenants nodes are.by_number are.each_tenant)

  pub text_of_found : audit_at config found slots nodes ≡ open_audit_of config tenants nodes
  text_of_found = of_these (λ ts ns. audit_at config ts ns nodes ≡ open_audit_of config tenants nodes) refl

  pub formed_of_found : AreFormed (with_tenants config found) (nodes_at config slots nodes) → AreFormed (open_config_of config tenants) (open_nodes_of config tenants nodes)
  formed_of_found formed =
      of_these (λ ts ns. AreFormed (with_tenants config ts) (nodes_at config ns nodes) → AreFormed (open_config_of config tenants) (open_nodes_of config tenants nodes)) (λ h. h) formed

pub open_replays : (config : Config) (tenants : List (Option Tenant)) (nodes : List Shared) → AreNodesOfOpen config tenants nodes → AllByRecursion AuditFits nodes → AllReplaySame (open_config_of config tenants) (open_nodes_of config tenants nodes)
open_replays config tenants nodes are fitting =
    λ place tenant e. cluster_replays_same (shape_of config) nodes are.by_number fitting (tenant_config config tenant) (slice_index_or (open_slots tenants) place 0) (record { data_centres = refl; shards = refl })

pub open_says : (config : Config) (tenants : List (Option Tenant)) (nodes : List Shared) → AllReplaySame (open_config_of config tenants) (open_nodes_of config tenants nodes) →
    (lines rest : List (List ℕ)) → head_of lines ≡ Whole (open_config_of config tenants) rest → HaveLines (open_config_of config tenants) (open_nodes_of config tenants nodes) →
    SaysSame (open_config_of config tenants) (open_nodes_of config tenants nodes) (open_audit_of config tenants nodes)
open_says config tenants nodes same lines rest head all =
    λ place tenant e. says_same lines rest (open_config_of config tenants) (open_nodes_of config tenants nodes) place tenant head all e (same place tenant e)

-- ---- of a world

-- these are the world's configuration, its open tenants by slot, and its nodes
pub record AreOfWorld (world : KeptWorld) (config : Config) (tenants : List (Option Tenant)) (nodes : List Shared) : Type 0 where
  pub config_is : config ≡ world.setup.head
  pub tenants_are : tenants ≡ world.setup.tenants
  pub nodes_are : nodes ≡ world.nodes.nodes

module _ (world : KeptWorld) (config : Config) (tenants : List (Option Tenant)) (nodes : List Shared) (of : AreOfWorld world config tenants nodes) where
  -- what holds of the world's holds of these
  of_its : (P : Config → List (Option Tenant) → List Shared → Type 0) → P world.setup.head world.setup.tenants world.nodes.nodes → P config tenants nodes
  of_its P h =
      subst (λ (c : Config). P c tenants nodes) (sym of.config_is)
      (subst (λ (ts : List (Option Tenant)). P world.setup.head ts nodes) (sym of.tenants_are)
      (subst (λ (all : List Shared). P world.setup.head world.setup.tenants all) (sym of.nodes_are) h))

  pub nodes_of_world : IsCluster (shape_of world.setup.head) world.nodes.nodes → HasItsTenants world → AreNodesOfOpen config tenants nodes
  nodes_of_world by_number has = of_its AreNodesOfOpen (record { by_number = by_number; each_tenant = has })

  pub text_of_world : open_audit_of config tenants nodes ≡ audit_text (open_config world) (open_nodes world)
  text_of_world = of_its (λ c ts all. open_audit_of c ts all ≡ audit_text (open_config world) (open_nodes world)) refl

  pub formed_of_world : AreFormed (open_config_of config tenants) (open_nodes_of config tenants nodes) → AreFormed (open_config world) (open_nodes world)
  formed_of_world formed = of_its (λ c ts all. AreFormed (open_config_of c ts) (open_nodes_of c ts all) → AreFormed (open_config world) (open_nodes world)) (λ h. h) formed
