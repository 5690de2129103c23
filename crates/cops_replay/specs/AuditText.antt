-- The records of a tenant's audits, and the text of an audit: the line of its layout, the head, and then each tenant's records. The tenants may be those of some slots.
use Rattle.std.specs.Prelude.{◌≡◌, ℕ, ◌+◌, List, [], ◌∷◌, ◌++◌, map, length, IsTrue, codes, flat_map, slice_get, Some, filter_map, slice_index_or, Option, None}
use Rattle.std.specs.List.{AllByRecursion}
use Rattle.uuid.specs.Text.{hyphenated_text, lower}
use Rattle.cops_types.specs.TenantConfig.{TenantConfig, tenant_config}
use Rattle.cops_types.specs.declared.configs.Config.{Config}
use Rattle.cops_types.specs.declared.configs.Tenant.{Tenant}
use Rattle.cops_types.specs.HeadLines.{begin_line, cluster_line, tenant_line}
use Rattle.cops_types.specs.Words.{newline}
use Rattle.cops_types.specs.OpenSlots.{open_at}
use Rattle.cops_model.specs.declared.calls.AuditEntry.{AuditEntry}
use Rattle.cops_model.specs.declared.calls.NodeId.{NodeId}
use Rattle.cops_model.specs.Place.{Place, place_of, fits}
use Rattle.cops_model.specs.SoloNode.{SoloNode}
use Rattle.cops_node.specs.Clusters.{id_of, HasTenant, IsCluster, nodes_of, shape_of}
use Rattle.cops_node.specs.Run.{IsLeftByAudit}
use Rattle.cops_node.specs.declared.Shape.{Shape}
use Rattle.cops_node.specs.Parts.{Shared, terms_at, terms_of}
use Rattle.cops_script.specs.ScriptWorlds.{cluster_left, life_left, setup_left}
use Rattle.cops_replay.specs.declared.Record.{Record}
use Rattle.cops_replay.specs.declared.Replayed.TheVariants.{Same}
use Rattle.cops_replay.specs.Replaying.{Finds}
use Rattle.cops_replay.specs.RecordText.{record_line}

-- the record of a call in the audit of a node
abbrev pub record_of : NodeId → AuditEntry → Record
record_of id entry = record { node = id; moment = entry.moment; call = entry.call; reply = entry.reply }

-- the records by node, from this number on, and then by place in the audit
abbrev pub records_from : ℕ → ℕ → List SoloNode → List Record
records_from shards number [] = []
records_from shards number (node ∷ nodes) = map (record_of (id_of shards number)) node.trail ++ records_from shards (number + 1) nodes

abbrev pub records_of : TenantConfig → List SoloNode → List Record
records_of config nodes = records_from config.shards 0 nodes

-- a solo node is what the calls of its audit leave, and they fit it
pub record IsOfAudit (place : Place) (node : SoloNode) : Type 0 where
  pub left : IsLeftByAudit place node
  pub fitting : AllByRecursion (λ (entry : AuditEntry). IsTrue (fits place entry.call)) node.trail

-- the same of each node from this number on
abbrev pub AreOfAudits : TenantConfig → ℕ → List SoloNode → Type 0
AreOfAudits config number [] = Unit {0}
AreOfAudits config number (node ∷ nodes) = IsOfAudit (place_of config (id_of config.shards number)) node × AreOfAudits config (number + 1) nodes

-- a replay of the records of these nodes finds each reply the same
abbrev pub ReplaysSame : TenantConfig → List SoloNode → Type 0
ReplaysSame config nodes = Finds config (records_of config nodes) (Same (length (records_of config nodes)))

-- the configuration has the cluster's sizes
pub record HasShape (config : TenantConfig) (shape : Shape) : Type 0 where
  pub data_centres : config.data_centres ≡ shape.data_centres
  pub shards : config.shards ≡ shape.shards

-- with the newline that ends it
abbrev pub ended : List ℕ → List ℕ
ended line = line ++ newline ∷ []

-- ---- the head, in its one form: the tokens in lower case, with hyphens

-- the first line of a file of today's layout; a file of layout 1 has no line for its layout
abbrev pub layout_line : List ℕ
layout_line = codes "layout 2"

abbrev pub tenant_text : Tenant → List ℕ
tenant_text tenant = ended (tenant_line (hyphenated_text lower tenant.token) tenant)

-- as in a script
abbrev pub config_text : Config → List ℕ
config_text config = ended (cluster_line config) ++ flat_map tenant_text config.tenants ++ ended begin_line

abbrev pub head_text : Config → List ℕ
head_text config = ended layout_line ++ config_text config

-- ---- the records: by tenant, then by node, then by place in the audit

abbrev pub records_text : List ℕ → List Record → List ℕ
records_text name records = flat_map (λ told. ended (record_line name told)) records

-- of the tenants from this slot on, each with its nodes
abbrev pub tenants_text : Config → (TenantConfig → ℕ → List SoloNode) → ℕ → List Tenant → List ℕ
tenants_text config nodes slot [] = []
tenants_text config nodes slot (tenant ∷ tenants) =
    records_text tenant.name (records_of (tenant_config config tenant) (nodes (tenant_config config tenant) slot)) ++ tenants_text config nodes (slot + 1) tenants

-- the audit, if this function gives each tenant's nodes
abbrev pub audit_text : Config → (TenantConfig → ℕ → List SoloNode) → List ℕ
audit_text config nodes = head_text config ++ tenants_text config nodes 0 config.tenants

-- ---- of nodes that tenants share

-- a tenant's nodes among them
abbrev pub his_nodes : Config → List Shared → TenantConfig → ℕ → List SoloNode
his_nodes config nodes tenant slot = nodes_of tenant slot (record { shape = shape_of config; nodes = nodes })

abbrev pub audit_of : Config → List Shared → List ℕ
audit_of config nodes = audit_text config (his_nodes config nodes)

-- these are the configuration's nodes, by number, and each of their slots is that of its tenant
pub record AreNodesOf (config : Config) (nodes : List Shared) : Type 0 where
  pub by_number : IsCluster (shape_of config) nodes
  pub each_tenant : (slot : ℕ) (tenant : Tenant) → slice_get config.tenants slot ≡ Some tenant → HasTenant (tenant_config config tenant) slot (record { shape = shape_of config; nodes = nodes })

-- ---- open tenants

-- by slot
abbrev pub open_tenants : List (Option Tenant) → List Tenant
open_tenants tenants = filter_map (λ tenant. tenant) tenants

-- the slots that have a tenant, if the list begins with the slot of this number
abbrev pub slots_from : ℕ → List (Option Tenant) → List ℕ
slots_from n [] = []
slots_from n (None ∷ tenants) = slots_from (n + 1) tenants
slots_from n (Some tenant ∷ tenants) = n ∷ slots_from (n + 1) tenants

-- rising
abbrev pub open_slots : List (Option Tenant) → List ℕ
open_slots tenants = slots_from 0 tenants

-- ---- the audit of some tenants, each in the slot of its place

-- the sizes and limits are the configuration's
abbrev pub with_tenants : Config → List Tenant → Config
with_tenants config tenants = record config { tenants = tenants }

-- nodes by place in the list of slots, from nodes by slot
abbrev pub at_slots : List ℕ → (TenantConfig → ℕ → List SoloNode) → TenantConfig → ℕ → List SoloNode
at_slots slots nodes tenant place = nodes tenant (slice_index_or slots place 0)

-- a tenant's nodes among those that tenants share
abbrev pub nodes_at : Config → List ℕ → List Shared → TenantConfig → ℕ → List SoloNode
nodes_at config slots nodes = at_slots slots (his_nodes config nodes)

abbrev pub audit_at : Config → List Tenant → List ℕ → List Shared → List ℕ
audit_at config tenants slots nodes = audit_text (with_tenants config tenants) (nodes_at config slots nodes)

-- these are the configuration's nodes, by number, and in them the slot of each place is that of the tenant of that place
pub record AreNodesAt (config : Config) (tenants : List Tenant) (slots : List ℕ) (nodes : List Shared) : Type 0 where
  pub by_number : IsCluster (shape_of config) nodes
  pub each_slot : length slots ≡ length tenants
  pub each_tenant : (place : ℕ) (tenant : Tenant) → slice_get tenants place ≡ Some tenant →
      HasTenant (tenant_config config tenant) (slice_index_or slots place 0) (record { shape = shape_of config; nodes = nodes })

-- ---- of nodes that tenants share, for the open tenants, each in its slot

abbrev pub open_config_of : Config → List (Option Tenant) → Config
open_config_of config tenants = with_tenants config (open_tenants tenants)

-- by place among them
abbrev pub open_nodes_of : Config → List (Option Tenant) → List Shared → TenantConfig → ℕ → List SoloNode
open_nodes_of config tenants nodes = nodes_at config (open_slots tenants) nodes

abbrev pub open_audit_of : Config → List (Option Tenant) → List Shared → List ℕ
open_audit_of config tenants nodes = audit_text (open_config_of config tenants) (open_nodes_of config tenants nodes)

-- each of these nodes has each open tenant in its slot, with its first clock and quota
abbrev pub HaveTenants : List (Option Tenant) → List Shared → Type 0
HaveTenants tenants nodes =
    (slot : ℕ) (tenant : Tenant) → open_at slot tenants ≡ Some tenant → AllByRecursion (λ node. terms_at slot node ≡ Some (terms_of tenant)) nodes

-- these are the configuration's nodes, by number, and in them the slot of each open tenant is that tenant's
pub record AreNodesOfOpen (config : Config) (tenants : List (Option Tenant)) (nodes : List Shared) : Type 0 where
  pub by_number : IsCluster (shape_of config) nodes
  pub each_tenant : (slot : ℕ) (tenant : Tenant) → open_at slot tenants ≡ Some tenant → HasTenant (tenant_config config tenant) slot (record { shape = shape_of config; nodes = nodes })

-- ---- of a script: the open tenants after its lines, each with the nodes after its life's lines

abbrev pub left_config : Config → List (List ℕ) → Config
left_config config lines = with_tenants config (open_tenants (setup_left config lines).tenants)

-- by place among them
abbrev pub left_nodes : Config → List (List ℕ) → TenantConfig → ℕ → List SoloNode
left_nodes config lines = at_slots (open_slots (setup_left config lines).tenants) (λ tenant slot. (cluster_left config lines (life_left config lines slot)).nodes)
