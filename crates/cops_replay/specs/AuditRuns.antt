-- The audit of a script, and the result of a replay of a written audit, for each of its tenants.
use Rattle.std.specs.Prelude.{◌≡◌, ℕ, ⊤, List, Option, Some, slice_get, length, IsTrue}
use Rattle.std.specs.Io.KnownBytes.{Appends}
use Rattle.std.specs.List.{AllByRecursion}
use Rattle.cops_types.specs.declared.configs.Config.{Config}
use Rattle.cops_types.specs.declared.configs.Tenant.{Tenant}
use Rattle.cops_types.specs.Head.{HeadReading, Whole, BadAt, head_of}
use Rattle.cops_types.specs.Lines.{lines_of}
use Rattle.cops_types.specs.OpenSlots.{open_at}
use Rattle.cops_types.specs.Sink.{AppendsFront}
use Rattle.cops_types.specs.TenantConfig.{TenantConfig, tenant_config}
use Rattle.cops_model.specs.SoloNode.{SoloNode}
use Rattle.cops_node.specs.Clusters.{HasTenant}
use Rattle.cops_script.specs.declared.line_runs.fault.RunFault.{RunFault}
use Rattle.cops_script.specs.declared.line_runs.fault.RunFault.TheVariants.{OutOfMemory, WriteFault}
use Rattle.cops_script.specs.declared.scripts.BadConfig.{BadConfig as BadHead}
use Rattle.cops_script.specs.Script.{Output, Written, BadConfig}
use Rattle.cops_script.specs.ScriptRuns.{text_in}
use Rattle.cops_world.specs.Worlds.{KeptWorld}
use Rattle.cops_replay.specs.declared.Record.{Record}
use Rattle.cops_replay.specs.declared.Replayed.TheVariants.{Same}
use Rattle.cops_replay.specs.AuditText.{ReplaysSame, audit_text, left_config, left_nodes, open_config_of, open_nodes_of, records_of}
use Rattle.cops_replay.specs.RecordText.{is_record}
use Rattle.cops_replay.specs.ReplayText.{HasLine, IsReplayOf, replayed_text}

-- the audit of the nodes after each open tenant's lines, as if it had a cluster to itself
abbrev pub audit_after : HeadReading → Output
audit_after (Whole config lines) = Written (audit_text (left_config config lines) (left_nodes config lines))
audit_after (BadAt number) = BadConfig number

abbrev pub audit_out : List ℕ → Output
audit_out bytes = audit_after (head_of (lines_of bytes))

-- the bytes are a script, and its audit is written
pub record WritesAudit (bytes : List ℕ) (old_contents new_contents : Option (List ℕ)) : Type 0 where
  pub text : List ℕ
  pub is_audit : audit_out bytes ≡ Written text
  pub written : Appends old_contents new_contents text

-- a prefix of it is written
abbrev pub WritesAuditFront : List ℕ → Option (List ℕ) → Option (List ℕ) → Type 0
WritesAuditFront bytes old_contents new_contents = AppendsFront old_contents new_contents (text_in (audit_out bytes))

-- a replay of the records of any tenant in the audit of a script finds them all the same
abbrev pub ReplaysSameFor : HeadReading → Type 0
ReplaysSameFor (Whole config lines) =
    (place : ℕ) (tenant : Tenant) → slice_get (left_config config lines).tenants place ≡ Some tenant → ReplaysSame (tenant_config config tenant) (left_nodes config lines (tenant_config config tenant) place)
ReplaysSameFor (BadAt number) = ⊤

-- the configuration of a world with the open tenants, and their nodes by place among them
abbrev pub open_config : KeptWorld → Config
open_config world = open_config_of world.setup.head world.setup.tenants

abbrev pub open_nodes : KeptWorld → TenantConfig → ℕ → List SoloNode
open_nodes world = open_nodes_of world.setup.head world.setup.tenants world.nodes.nodes

-- each slot of the world's nodes is that of its tenant
abbrev pub HasItsTenants : KeptWorld → Type 0
HasItsTenants world = (slot : ℕ) (tenant : Tenant) → open_at slot world.setup.tenants ≡ Some tenant → HasTenant (tenant_config world.setup.head tenant) slot world.nodes

-- memory ran out, or the writer failed
abbrev pub IsOfWriting : RunFault BadHead → Type 0
IsOfWriting OutOfMemory = ⊤
IsOfWriting WriteFault = ⊤
IsOfWriting other = ⊥

-- ---- if this function gives each tenant's nodes

abbrev pub his_records : Config → (TenantConfig → ℕ → List SoloNode) → ℕ → Tenant → List Record
his_records config nodes slot tenant = records_of (tenant_config config tenant) (nodes (tenant_config config tenant) slot)

-- the numbers, keys, values and lists of each record are valid in a line
abbrev pub AreFormed : Config → (TenantConfig → ℕ → List SoloNode) → Type 0
AreFormed config nodes =
    (slot : ℕ) (tenant : Tenant) → slice_get config.tenants slot ≡ Some tenant → AllByRecursion (λ (told : Record). IsTrue (is_record told)) (his_records config nodes slot tenant)

-- a replay of each tenant's records finds them all the same
abbrev pub AllReplaySame : Config → (TenantConfig → ℕ → List SoloNode) → Type 0
AllReplaySame config nodes =
    (slot : ℕ) (tenant : Tenant) → slice_get config.tenants slot ≡ Some tenant → ReplaysSame (tenant_config config tenant) (nodes (tenant_config config tenant) slot)

-- each record has a form, and its line is not too long
abbrev pub HaveLines : Config → (TenantConfig → ℕ → List SoloNode) → Type 0
HaveLines config nodes =
    (slot : ℕ) (tenant : Tenant) → slice_get config.tenants slot ≡ Some tenant → AllByRecursion (HasLine tenant.name) (his_records config nodes slot tenant)

-- a replay of the text for any tenant writes `same` and the number of its records
abbrev pub SaysSame : Config → (TenantConfig → ℕ → List SoloNode) → List ℕ → Type 0
SaysSame config nodes text =
    (slot : ℕ) (tenant : Tenant) → slice_get config.tenants slot ≡ Some tenant → IsReplayOf tenant.name text (replayed_text (Same (length (his_records config nodes slot tenant))))

-- ---- of a script, after which each open tenant has the nodes that its life would have alone

abbrev pub AreFormedFor : HeadReading → Type 0
AreFormedFor (Whole config lines) = AreFormed (left_config config lines) (left_nodes config lines)
AreFormedFor (BadAt number) = ⊤

abbrev pub SaysSameFor : HeadReading → List ℕ → Type 0
SaysSameFor (Whole config lines) text = SaysSame (left_config config lines) (left_nodes config lines) text
SaysSameFor (BadAt number) text = ⊤
