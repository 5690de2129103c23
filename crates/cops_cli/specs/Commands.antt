-- The possible ends of each command of `cops`, between a reader and a writer.
use Rattle.std.specs.Prelude.{◌≡◌, ◌⊎◌, ◌^◌, ⊤, ℕ, List, Option, Some, None, Result, Ok, Err, IfSome, Bool, true, false}
use Rattle.std.specs.Io.KnownBytes.{Appends, IsAtEnd, Keeps}
use Rattle.cops_types.specs.declared.configs.Config.{Config}
use Rattle.cops_types.specs.declared.configs.Tenant.{Tenant}
use Rattle.cops_types.specs.declared.sinks.Sink.{Sink}
use Rattle.cops_types.specs.declared.sources.Source.{Source}
use Rattle.cops_types.specs.Counts.{HasRisen, HasRisenBy}
use Rattle.cops_types.specs.Head.{BadAt, Whole, head_of}
use Rattle.cops_types.specs.Lines.{lines_of}
use Rattle.cops_types.specs.Sink.{AppendsFront, sink_failures, sink_writer}
use Rattle.cops_types.specs.Source.{source_failures, source_reader, source_reads}
use Rattle.cops_node.specs.Clusters.{new_nodes}
use Rattle.cops_node.specs.Parts.{Shared}
use Rattle.cops_script.specs.ScriptRuns.{WritesFront, WritesScript}
use Rattle.cops_script.specs.SoloRuns.{IsRefusedFor, WritesSolo, WritesSoloFront}
use Rattle.cops_script.specs.declared.solo_machine.SoloRefusal.TheVariants as solo
use Rattle.cops_service.specs.HostedLeft.{AreLeftByLives}
use Rattle.cops_service.specs.Left.{AreLeft}
use Rattle.cops_replay.specs.AuditRuns.{WritesAudit, WritesAuditFront, AllReplaySame, HaveLines, SaysSame}
use Rattle.cops_replay.specs.AuditText.{audit_of, his_nodes, HaveTenants, open_audit_of, open_config_of, open_nodes_of}
use Rattle.cops_replay.specs.MigratedText.{migration_of}
use Rattle.cops_replay.specs.OwnParts.{RefusesOwnAuditOf, WritesOwnAudit, WritesOwnAuditFront, RefusesPartOf, WritesPart, WritesPartFront}
use Rattle.cops_replay.specs.ReplayText.{IsReplayOf, RefusesReplayOf, ReplaysFront}
use Rattle.cops_replay.specs.declared.migrations.MigrationRefusal.TheVariants as migration
use Rattle.cops_replay.specs.declared.refusals.PartRefusal.TheVariants as part
use Rattle.cops_replay.specs.declared.refusals.ReplayRefusal.TheVariants as replay
use Rattle.cops_cli.specs.CommandLine.{IsAskedBy, IsRefusedAs}
use Rattle.cops_cli.specs.declared.command_line.Service.{Service}
use Rattle.cops_cli.specs.declared.command_line.Task.{Task}
use Rattle.cops_cli.specs.declared.command_line.Task.TheVariants.{Run, Solo, Audit, Replay, Extract, Migrate, Serve}
use Rattle.cops_cli.specs.declared.faults.CliFault.{CliFault}
use Rattle.cops_cli.specs.declared.faults.CliFault.TheVariants.{BadHead, BadLine, UnknownTenant, ClockTooGreat, OutOfMemory, ReadFault, WriteFault}

-- ---- any command

-- the bytes before a reader and behind a writer, if they are known, and the counts of the calls that were made and that failed
pub record Streams : Type 0 where
  pub remaining : Option (List ℕ)
  pub reads : ℕ
  pub read_failures : ℕ
  pub contents : Option (List ℕ)
  pub write_failures : ℕ

abbrev pub streams : {R W : Type 0} → (R → Option (List ℕ)) → (W → Option (List ℕ)) → Source R → Sink W → Streams
streams remaining contents source sink = record {
  remaining = remaining (source_reader source);
  reads = source_reads source;
  read_failures = source_failures source;
  contents = contents (sink_writer sink);
  write_failures = sink_failures sink;
}

-- a command, by the streams before it and after it
pub record CommandRules : Type 1 where
  -- if it succeeds
  pub does : Streams → Streams → Type 0
  -- before it fails
  pub begins : Streams → Streams → Type 0
  -- the faults of its own, and when each comes
  pub refuses : Streams → Streams → CliFault → Type 0

-- the faults that any command may end with: memory ran out; the reader failed, or the bound on its calls was met; the writer failed
abbrev pub IsOfDevices : Streams → Streams → CliFault → Type 0
IsOfDevices old new OutOfMemory = ⊤
IsOfDevices old new ReadFault = HasRisen old.read_failures new.read_failures ⊎ HasRisenBy old.reads new.reads (2 ^ 32)
IsOfDevices old new WriteFault = HasRisen old.write_failures new.write_failures
IsOfDevices old new other = ⊥

-- it may end with this fault, and with no other
pub record MayFail (command : CommandRules) (old new : Streams) (ended : CliFault) : Type 0 where
  pub why : IsOfDevices old new ended ⊎ command.refuses old new ended
  pub begun : command.begins old new

-- this is a possible end
abbrev pub MayEnd : {T : Type 0} → CommandRules → Streams → Streams → Result T CliFault → Type 0
MayEnd command old new (Ok done) = command.does old new
MayEnd command old new (Err ended) = MayFail command old new ended

-- ---- what is read and written

-- all is read, and the output that belongs to it is written
abbrev pub ReadsAll : (List ℕ → Option (List ℕ) → Option (List ℕ) → Type 0) → Streams → Streams → Type 0
ReadsAll Writes old new = IsAtEnd new.remaining × IfSome old.remaining (λ bytes. Writes bytes old.contents new.contents)

-- a prefix of that is written
abbrev pub WritesSomeOf : (List ℕ → Option (List ℕ) → Option (List ℕ) → Type 0) → Streams → Streams → Type 0
WritesSomeOf Front old new = IfSome old.remaining (λ bytes. Front bytes old.contents new.contents)

-- the input is of this kind, and nothing is written
abbrev pub RefusesAll : (List ℕ → Type 0) → Streams → Streams → Type 0
RefusesAll Is old new = IfSome old.remaining Is × Keeps old.contents new.contents

-- ---- each command

-- the first bad line of the head is this one
abbrev pub HasBadHead : ℕ → List ℕ → Type 0
HasBadHead line bytes = head_of (lines_of bytes) ≡ BadAt line

abbrev pub refuses_script : Streams → Streams → CliFault → Type 0
refuses_script old new (BadHead line) = RefusesAll (HasBadHead line) old new
refuses_script old new other = ⊥

-- the replies to a script
abbrev pub answering : CommandRules
answering = record { does = ReadsAll WritesScript; begins = WritesSomeOf WritesFront; refuses = refuses_script }

abbrev pub refuses_name : List ℕ → Streams → Streams → CliFault → Type 0
refuses_name name old new (BadHead line) = RefusesAll (HasBadHead line) old new
refuses_name name old new UnknownTenant = RefusesAll (λ bytes. IsRefusedFor name bytes solo.UnknownTenant) old new
refuses_name name old new other = ⊥

-- the replies to the tenants of this name, alone
abbrev pub answering_alone : List ℕ → CommandRules
answering_alone name = record { does = ReadsAll (WritesSolo name); begins = WritesSomeOf (WritesSoloFront name); refuses = refuses_name name }

-- the audit of a script
abbrev pub auditing : CommandRules
auditing = record { does = ReadsAll WritesAudit; begins = WritesSomeOf WritesAuditFront; refuses = refuses_script }

abbrev pub refuses_own : List ℕ → Streams → Streams → CliFault → Type 0
refuses_own name old new (BadHead line) = RefusesAll (λ bytes. RefusesOwnAuditOf name bytes (part.BadConfig (record { line = line }))) old new
refuses_own name old new UnknownTenant = RefusesAll (λ bytes. RefusesOwnAuditOf name bytes part.UnknownTenant) old new
refuses_own name old new other = ⊥

-- the part of a script's audit that is the tenant's own
abbrev pub auditing_alone : List ℕ → CommandRules
auditing_alone name = record { does = ReadsAll (WritesOwnAudit name); begins = WritesSomeOf (WritesOwnAuditFront name); refuses = refuses_own name }

abbrev pub refuses_records : List ℕ → Streams → Streams → CliFault → Type 0
refuses_records name old new (BadHead line) = RefusesAll (λ bytes. RefusesReplayOf name bytes (replay.BadConfig (record { line = line }))) old new
refuses_records name old new UnknownTenant = RefusesAll (λ bytes. RefusesReplayOf name bytes replay.UnknownTenant) old new
refuses_records name old new ClockTooGreat = RefusesAll (λ bytes. RefusesReplayOf name bytes replay.ClockTooGreat) old new
refuses_records name old new other = ⊥

-- this is the result of a replay of the records of the tenant of this name
abbrev pub WritesReplay : List ℕ → List ℕ → Option (List ℕ) → Option (List ℕ) → Type 0
WritesReplay name bytes old_contents new_contents = (text : List ℕ) × IsReplayOf name bytes text × Appends old_contents new_contents text

-- the replay of a tenant's records in an audit
abbrev pub replaying : List ℕ → CommandRules
replaying name = record { does = ReadsAll (WritesReplay name); begins = WritesSomeOf (ReplaysFront name); refuses = refuses_records name }

abbrev pub refuses_part : List ℕ → Streams → Streams → CliFault → Type 0
refuses_part name old new (BadHead line) = RefusesAll (λ bytes. RefusesPartOf name bytes (part.BadConfig (record { line = line }))) old new
refuses_part name old new UnknownTenant = RefusesAll (λ bytes. RefusesPartOf name bytes part.UnknownTenant) old new
refuses_part name old new other = ⊥

-- the part of an audit that is the tenant's own
abbrev pub extracting : List ℕ → CommandRules
extracting name = record { does = ReadsAll (WritesPart name); begins = WritesSomeOf (WritesPartFront name); refuses = refuses_part name }

-- the audit in layout 2
pub record WritesMigrated (bytes : List ℕ) (old_contents new_contents : Option (List ℕ)) : Type 0 where
  pub count : ℕ
  pub whole : (migration_of bytes).outcome ≡ Ok count
  pub written : Appends old_contents new_contents (migration_of bytes).text

-- a prefix of it, up to the first bad line
abbrev pub WritesMigratedFront : List ℕ → Option (List ℕ) → Option (List ℕ) → Type 0
WritesMigratedFront bytes old_contents new_contents = AppendsFront old_contents new_contents (migration_of bytes).text

-- the first bad line is this one; what is before it may be written
abbrev pub refuses_line : Streams → Streams → CliFault → Type 0
refuses_line old new (BadHead line) = IfSome old.remaining (λ bytes. (migration_of bytes).outcome ≡ Err (migration.BadConfig (record { line = line })))
refuses_line old new (BadLine why line) = IfSome old.remaining (λ bytes. (migration_of bytes).outcome ≡ Err (migration.BadLine (record { line = line; fault = why })))
refuses_line old new other = ⊥

-- the migration of an audit
abbrev pub migrating : CommandRules
migrating = record { does = ReadsAll WritesMigrated; begins = WritesSomeOf WritesMigratedFront; refuses = refuses_line }

-- the input begins with a head of this configuration, and these are nodes that a service of it leaves; a replay of each tenant's records in their
-- audit finds them all the same, and one of its text says so if no record's line is too long
pub record AreServedForHead (old_remaining : Option (List ℕ)) (config : Config) (nodes : List Shared) : Type 0 where
  pub head : IfSome old_remaining (λ bytes. (lines : List (List ℕ)) × (head_of (lines_of bytes) ≡ Whole config lines))
  pub left : AreLeft (new_nodes config).nodes nodes
  pub replays : AllReplaySame config (his_nodes config nodes)
  pub says_same : IfSome old_remaining (λ bytes. HaveLines config (his_nodes config nodes) → SaysSame config (his_nodes config nodes) (audit_of config nodes))

-- the audit of the nodes that are left is written
abbrev pub WritesServed : Streams → Streams → Type 0
WritesServed old new = (config : Config) × (nodes : List Shared) × AreServedForHead old.remaining config nodes × Appends old.contents new.contents (audit_of config nodes)

-- nothing is written, or a prefix of that
abbrev pub WritesServedFront : Streams → Streams → Type 0
WritesServedFront old new = Keeps old.contents new.contents
    ⊎ ((config : Config) × (nodes : List Shared) × AreServedForHead old.remaining config nodes × AppendsFront old.contents new.contents (audit_of config nodes))

-- the input begins with a head
abbrev pub HasHead : List ℕ → Type 0
HasHead bytes = (config : Config) × (lines : List (List ℕ)) × (head_of (lines_of bytes) ≡ Whole config lines)

-- a bad head; behind a head, the listener failed, before the service or at its end, or a thread could not be started
abbrev pub refuses_service : Streams → Streams → CliFault → Type 0
refuses_service old new (BadHead line) = RefusesAll (HasBadHead line) old new
refuses_service old new ReadFault = RefusesAll HasHead old new ⊎ WritesServed old new
refuses_service old new other = ⊥

-- a service for clients, and its audit
abbrev pub serving : CommandRules
serving = record { does = WritesServed; begins = WritesServedFront; refuses = refuses_service }

-- the input begins with a head of this configuration, and these are nodes that a service of it leaves whose tenants came and went; they have each of the
-- open tenants at its slot; a replay of each one's records in their audit finds them all the same, and one of its text says so if the configuration with
-- the open tenants is that of a head and no record's line is too long
pub record AreServedByLives (old_remaining : Option (List ℕ)) (config : Config) (tenants : List (Option Tenant)) (nodes : List Shared) : Type 0 where
  pub head : IfSome old_remaining (λ bytes. (lines : List (List ℕ)) × (head_of (lines_of bytes) ≡ Whole config lines))
  pub left : AreLeftByLives config nodes
  pub have : HaveTenants tenants nodes
  pub replays : AllReplaySame (open_config_of config tenants) (open_nodes_of config tenants nodes)
  pub says_same : (lines rest : List (List ℕ)) → head_of lines ≡ Whole (open_config_of config tenants) rest → HaveLines (open_config_of config tenants) (open_nodes_of config tenants nodes)
      → SaysSame (open_config_of config tenants) (open_nodes_of config tenants nodes) (open_audit_of config tenants nodes)

-- the audit of the open tenants of the nodes that are left is written
abbrev pub WritesServedLives : Streams → Streams → Type 0
WritesServedLives old new =
    (config : Config) × (tenants : List (Option Tenant)) × (nodes : List Shared) × AreServedByLives old.remaining config tenants nodes × Appends old.contents new.contents (open_audit_of config tenants nodes)

-- nothing is written, or a prefix of that
abbrev pub WritesServedLivesFront : Streams → Streams → Type 0
WritesServedLivesFront old new = Keeps old.contents new.contents
    ⊎ ((config : Config) × (tenants : List (Option Tenant)) × (nodes : List Shared) × AreServedByLives old.remaining config tenants nodes × AppendsFront old.contents new.contents (open_audit_of config tenants nodes))

-- the same as of a service with fixed tenants
abbrev pub refuses_service_of_lives : Streams → Streams → CliFault → Type 0
refuses_service_of_lives old new (BadHead line) = RefusesAll (HasBadHead line) old new
refuses_service_of_lives old new ReadFault = RefusesAll HasHead old new ⊎ WritesServedLives old new
refuses_service_of_lives old new other = ⊥

-- a service for clients whose tenants come and go, and its audit
abbrev pub serving_lives : CommandRules
serving_lives = record { does = WritesServedLives; begins = WritesServedLivesFront; refuses = refuses_service_of_lives }

-- with fixed tenants, or with tenants that come and go
abbrev pub serving_if_fixed : Bool → CommandRules
serving_if_fixed true = serving
serving_if_fixed false = serving_lives

abbrev pub serving_as : Service → CommandRules
serving_as service = serving_if_fixed service.has_fixed_tenants

-- ---- the program

abbrev pub command_of : Task → CommandRules
command_of Run = answering
command_of (Solo name) = answering_alone name.now
command_of (Audit None) = auditing
command_of (Audit (Some name)) = auditing_alone name.now
command_of (Replay name) = replaying name.now
command_of (Extract name) = extracting name.now
command_of Migrate = migrating
command_of (Serve service) = serving_as service

-- clap refuses the words, or there is no memory for them; nothing is read or written
pub record RefusesTask (words : List (List ℕ)) (old new : Streams) (ended : CliFault) : Type 0 where
  pub why : (ended ≡ OutOfMemory) ⊎ IsRefusedAs words ended
  pub same : new ≡ old

-- the words ask for this task, and this is a possible end of its command
pub record EndsTask {T : Type 0} (words : List (List ℕ)) (old new : Streams) (result : Result T CliFault) : Type 0 where
  pub task : Task
  pub asked : IsAskedBy words task
  pub ends : MayEnd (command_of task) old new result
