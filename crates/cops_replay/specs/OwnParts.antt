-- A tenant's own part of an audit, an audit that has no other tenant, and its part of the audit of a script.
use Rattle.std.specs.Prelude.{◌≡◌, ℕ, ◌⊎◌, List, [], ◌∷◌, ◌++◌, flat_map, Option, None, ⊤, length, map, Some}
use Rattle.std.specs.Io.KnownBytes.{Appends, Keeps}
use Rattle.uuid.specs.Text.{hyphenated_text, lower}
use Rattle.cops_types.specs.declared.configs.Config.{Config}
use Rattle.cops_types.specs.declared.configs.Tenant.{Tenant}
use Rattle.cops_types.specs.Head.{BadAt, Whole, HeadReading, head_of}
use Rattle.cops_types.specs.HeadLines.{begin_line, cluster_line, tenant_line}
use Rattle.cops_types.specs.Lines.{lines_of}
use Rattle.cops_types.specs.Sink.{AppendsFront}
use Rattle.cops_types.specs.Slots.{slot_of_name}
use Rattle.cops_types.specs.OpenSlots.{open_at, open_slot_of_name}
use Rattle.cops_types.specs.TenantConfig.{tenant_config}
use Rattle.cops_script.specs.declared.line_runs.fault.RunFault.{RunFault}
use Rattle.cops_script.specs.declared.line_runs.fault.RunFault.TheVariants.{Refused, OutOfMemory, ReadFault, WriteFault}
use Rattle.cops_script.specs.declared.scripts.BadConfig.{BadConfig as BadHead}
use Rattle.cops_script.specs.ScriptWorlds.{cluster_left, life_left, setup_left}
use Rattle.cops_world.specs.Worlds.{KeptWorld}
use Rattle.cops_replay.specs.declared.layouts.Layout.{Layout}
use Rattle.cops_replay.specs.declared.layouts.Layout.TheVariants.{Today, Early}
use Rattle.cops_replay.specs.declared.refusals.PartRefusal.{PartRefusal}
use Rattle.cops_replay.specs.declared.refusals.PartRefusal.TheVariants.{BadConfig, UnknownTenant}
use Rattle.cops_replay.specs.declared.Record.{Record}
use Rattle.cops_replay.specs.declared.Replayed.TheVariants.{Same}
use Rattle.cops_replay.specs.AuditText.{ended, layout_line, records_of, audit_at, nodes_at, with_tenants}
use Rattle.cops_replay.specs.ReplayText.{IsAuditFor, head_by, layout_of, seen_lines, IsReplayOf, replayed_text}
use Rattle.cops_replay.specs.RecordText.{record_line}
use Rattle.cops_replay.specs.AuditRuns.{AreFormed}

-- ---- the lines of a part

-- the line that names the layout; files of layout 1 have none
abbrev pub layout_lines : Layout → List (List ℕ)
layout_lines Today = layout_line ∷ []
layout_lines Early = []

-- a head whose only tenant is this one, in its one form
abbrev pub lone_head_lines : Config → Tenant → List (List ℕ)
lone_head_lines config tenant = cluster_line config ∷ tenant_line (hyphenated_text lower tenant.token) tenant ∷ begin_line ∷ []

-- the text of a part with these lines of records, each ended by a newline
abbrev pub part_text : Layout → Config → Tenant → List (List ℕ) → List ℕ
part_text layout config tenant own = flat_map ended (layout_lines layout ++ lone_head_lines config tenant) ++ flat_map ended own

-- ---- the part of a file

-- the part of an audit for a tenant of its head has the layout, the sizes, the tenant's line, and the lines that begin with the name, in their order
pub record IsPartBy (layout : Layout) (name : List ℕ) (lines : List (List ℕ)) (part : List ℕ) : Type 0 where
  pub audit : IsAuditFor layout name lines
  pub text_is : part ≡ part_text layout audit.config audit.tenant (seen_lines name audit.records)

abbrev pub IsPartOf : List ℕ → List ℕ → List ℕ → Type 0
IsPartOf name bytes part = IsPartBy (layout_of (lines_of bytes)) name (lines_of bytes) part

-- this is written
abbrev pub WritesPart : List ℕ → List ℕ → Option (List ℕ) → Option (List ℕ) → Type 0
WritesPart name bytes old_contents new_contents = (part : List ℕ) × IsPartOf name bytes part × Appends old_contents new_contents part

-- nothing is written, or a prefix of the part
abbrev pub WritesPartFront : List ℕ → List ℕ → Option (List ℕ) → Option (List ℕ) → Type 0
WritesPartFront name bytes old_contents new_contents =
    Keeps old_contents new_contents ⊎ ((part : List ℕ) × IsPartOf name bytes part × AppendsFront old_contents new_contents part)

-- there is none: the first bad line of the head is this one, or the head is complete and has no tenant of the name
abbrev pub RefusesPartBy : Layout → List ℕ → List (List ℕ) → PartRefusal → Type 0
RefusesPartBy layout name lines (BadConfig bad) = head_by layout lines ≡ BadAt bad.line
RefusesPartBy layout name lines UnknownTenant = (config : Config) × (records : List (List ℕ)) × (head_by layout lines ≡ Whole config records) × (slot_of_name config.tenants name ≡ None)

abbrev pub RefusesPartOf : List ℕ → List ℕ → PartRefusal → Type 0
RefusesPartOf name bytes refusal = RefusesPartBy (layout_of (lines_of bytes)) name (lines_of bytes) refusal

-- ---- of a script

-- the records of the tenant who is open in this slot after these lines, as if it had a cluster to itself
abbrev pub own_records : Config → List (List ℕ) → ℕ → Tenant → List Record
own_records config lines slot tenant = records_of (tenant_config config tenant) (cluster_left config lines (life_left config lines slot)).nodes

-- the layout, the sizes, the tenant's line of the head, and the lines of these records
abbrev pub own_audit_text : Config → Tenant → List Record → List ℕ
own_audit_text config tenant records = part_text Today config tenant (map (record_line tenant.name) records)

-- a tenant of this name is open in this slot after these lines
pub record IsOpenIn (config : Config) (lines : List (List ℕ)) (name : List ℕ) (slot : ℕ) (tenant : Tenant) : Type 0 where
  pub there : open_slot_of_name (setup_left config lines).tenants name ≡ Some slot
  pub tenant_is : open_at slot (setup_left config lines).tenants ≡ Some tenant

-- and this is its part of the audit
pub record IsOwnAudit (config : Config) (lines : List (List ℕ)) (name part : List ℕ) : Type 0 where
  pub slot : ℕ
  pub tenant : Tenant
  pub opened : IsOpenIn config lines name slot tenant
  pub text_is : part ≡ own_audit_text config tenant (own_records config lines slot tenant)

abbrev pub IsOwnAuditAfter : HeadReading → List ℕ → List ℕ → Type 0
IsOwnAuditAfter (Whole config lines) name part = IsOwnAudit config lines name part
IsOwnAuditAfter (BadAt number) name part = ⊥

abbrev pub IsOwnAuditOf : List ℕ → List ℕ → List ℕ → Type 0
IsOwnAuditOf name bytes part = IsOwnAuditAfter (head_of (lines_of bytes)) name part

-- this is written
abbrev pub WritesOwnAudit : List ℕ → List ℕ → Option (List ℕ) → Option (List ℕ) → Type 0
WritesOwnAudit name bytes old_contents new_contents = (part : List ℕ) × IsOwnAuditOf name bytes part × Appends old_contents new_contents part

-- nothing is written, or a prefix of it
abbrev pub WritesOwnAuditFront : List ℕ → List ℕ → Option (List ℕ) → Option (List ℕ) → Type 0
WritesOwnAuditFront name bytes old_contents new_contents =
    Keeps old_contents new_contents ⊎ ((part : List ℕ) × IsOwnAuditOf name bytes part × AppendsFront old_contents new_contents part)

-- there is none: the first bad line of the head is this one, or no tenant of the name is open after all lines
abbrev pub RefusesOwnAuditAfter : HeadReading → List ℕ → PartRefusal → Type 0
RefusesOwnAuditAfter (BadAt number) name (BadConfig bad) = bad.line ≡ number
RefusesOwnAuditAfter (BadAt number) name UnknownTenant = ⊥
RefusesOwnAuditAfter (Whole config lines) name (BadConfig bad) = ⊥
RefusesOwnAuditAfter (Whole config lines) name UnknownTenant = open_slot_of_name (setup_left config lines).tenants name ≡ None

abbrev pub RefusesOwnAuditOf : List ℕ → List ℕ → PartRefusal → Type 0
RefusesOwnAuditOf name bytes refusal = RefusesOwnAuditAfter (head_of (lines_of bytes)) name refusal

-- a replay of the part for its tenant writes `same` and the number of its records
abbrev pub SaysSameOwn : HeadReading → List ℕ → List ℕ → Type 0
SaysSameOwn (Whole config lines) name part =
    (slot : ℕ) (tenant : Tenant) → IsOpenIn config lines name slot tenant → IsReplayOf name part (replayed_text (Same (length (own_records config lines slot tenant))))
SaysSameOwn (BadAt number) name part = ⊤

-- ---- of a world

-- the audit of its nodes with the tenant of one slot alone
abbrev pub slot_audit : KeptWorld → ℕ → Tenant → List ℕ
slot_audit world slot tenant = audit_at world.setup.head (tenant ∷ []) (slot ∷ []) world.nodes.nodes

-- each record in it has the form of a line
abbrev pub IsSlotFormed : KeptWorld → ℕ → Tenant → Type 0
IsSlotFormed world slot tenant = AreFormed (with_tenants world.setup.head (tenant ∷ [])) (nodes_at world.setup.head (slot ∷ []) world.nodes.nodes)

-- a tenant of this name is open in this slot
pub record IsOpenAt (world : KeptWorld) (name : List ℕ) (slot : ℕ) (tenant : Tenant) : Type 0 where
  pub there : open_slot_of_name world.setup.tenants name ≡ Some slot
  pub tenant_is : open_at slot world.setup.tenants ≡ Some tenant

-- its audit is written
pub record WritesSlot (world : KeptWorld) (name : List ℕ) (old_contents new_contents : Option (List ℕ)) : Type 0 where
  pub slot : ℕ
  pub tenant : Tenant
  pub opened : IsOpenAt world name slot tenant
  pub formed : IsSlotFormed world slot tenant
  pub written : Appends old_contents new_contents (slot_audit world slot tenant)

-- nothing is written, or a prefix of it
abbrev pub WritesSlotFront : KeptWorld → List ℕ → Option (List ℕ) → Option (List ℕ) → Type 0
WritesSlotFront world name old_contents new_contents =
    Keeps old_contents new_contents
    ⊎ ((slot : ℕ) × (tenant : Tenant) × IsOpenAt world name slot tenant × AppendsFront old_contents new_contents (slot_audit world slot tenant))

-- no tenant of the name is open
abbrev pub LacksTenant : KeptWorld → List ℕ → PartRefusal → Type 0
LacksTenant world name refusal = (refusal ≡ UnknownTenant) × (open_slot_of_name world.setup.tenants name ≡ None)

-- the fault of a script whose head is refused
abbrev pub as_part_fault : RunFault BadHead → RunFault PartRefusal
as_part_fault (Refused bad) = Refused (BadConfig bad)
as_part_fault OutOfMemory = OutOfMemory
as_part_fault ReadFault = ReadFault
as_part_fault WriteFault = WriteFault
