-- The output of a migration from layout 1, its result, and the effect of each line.
use Rattle.std.specs.Prelude.{ℕ, ◌+◌, nat_le, if◌then◌else◌, List, [], ◌∷◌, ◌++◌, length, Option, Some, None, Result, Ok, Err, ◌≡◌, false, IsFalse, IsTrue, flat_map}
use Rattle.std.specs.List.{AllByRecursion}
use Rattle.cops_types.specs.declared.faults.Fault.{Fault}
use Rattle.cops_types.specs.declared.faults.Fault.TheVariants.{Syntax, ClockTooGreat}
use Rattle.cops_types.specs.Head.{Front, AtStart, Within, Begun, is_begun, Whole, head_of}
use Rattle.cops_types.specs.Lines.{lines_of}
use Rattle.cops_types.specs.OldHead.{has_clocks_to, old_front_after, old_front_with, old_head_of}
use Rattle.cops_types.specs.Counts.{counted}
use Rattle.cops_types.specs.declared.configs.Config.{Config}
use Rattle.cops_script.specs.LineRules.{LineRules}
use Rattle.cops_replay.specs.declared.migrations.MigrationRefusal.{MigrationRefusal}
use Rattle.cops_replay.specs.declared.migrations.MigrationRefusal.TheVariants.{BadConfig, BadLine}
use Rattle.cops_replay.specs.declared.migrations.OldAudit.{OldAudit}
use Rattle.cops_replay.specs.declared.migrations.OldPart.{OldPart}
use Rattle.cops_replay.specs.declared.migrations.OldPart.TheVariants.{Head, Records}
use Rattle.cops_replay.specs.AuditText.{ended, head_text}
use Rattle.cops_replay.specs.VersionLayouts.{last_early_clock, old_refusal_of, old_record_in}
use Rattle.cops_replay.specs.ReplayText.{longest_record, told_number, IsEarlyLine}
use Rattle.cops_replay.specs.RecordLines.{record_in}

-- ---- one line

abbrev pub bad_config_at : ℕ → MigrationRefusal
bad_config_at number = BadConfig (record { line = told_number number })

abbrev pub bad_line_at : ℕ → Fault → MigrationRefusal
bad_line_at number fault = BadLine (record { line = told_number number; fault = fault })

-- the line of this number in a head that has come this far: it may not follow here in layout 1, or its clock has no next one in layout 2, or the
-- head goes on
abbrev pub migrated_front : ℕ → Front → List ℕ → Result Front MigrationRefusal
migrated_front number front line = elim (old_front_after front line) [
  | None ↦ Err (bad_config_at number)
  | Some next ↦ if has_clocks_to last_early_clock (Some next) then Ok next else Err (bad_line_at number ClockTooGreat)
]

-- why a line after the head cannot be migrated, if it cannot
abbrev pub record_fault : List ℕ → Option Fault
record_fault line = if nat_le (length line) longest_record then old_refusal_of line else Some Syntax

-- ---- a whole text

-- the output up to the first bad line, and the number of records or what is bad
pub record Migration : Type 0 where
  pub text : List ℕ
  pub outcome : Result ℕ MigrationRefusal

-- nothing more is written
abbrev pub ends_by : Result ℕ MigrationRefusal → Migration
ends_by outcome = record { text = []; outcome = outcome }

-- this is written first
abbrev pub with_text : List ℕ → Migration → Migration
with_text text rest = record { text = text ++ rest.text; outcome = rest.outcome }

-- the lines after the head, from this number on, with this many records before them
abbrev pub migrated_records : List (List ℕ) → ℕ → ℕ → Migration
migrated_records [] number count = ends_by (Ok (told_number count))
migrated_records (line ∷ lines) number count = elim (record_fault line) [ Some fault ↦ ends_by (Err (bad_line_at number fault)) | None ↦ with_text (ended line) (migrated_records lines (number + 1) (count + 1)) ]

-- the lines from this number on, with the head at this state
abbrev pub migrated_from : List (List ℕ) → ℕ → Front → Migration
migrated_from lines number (Begun config) = with_text (head_text config) (migrated_records lines number 0)
migrated_from [] number AtStart = ends_by (Err (bad_config_at number))
migrated_from [] number (Within config) = ends_by (Err (bad_config_at number))
migrated_from (line ∷ lines) number AtStart = elim (migrated_front number AtStart line) [ Err refusal ↦ ends_by (Err refusal) | Ok next ↦ migrated_from lines (number + 1) next ]
migrated_from (line ∷ lines) number (Within config) = elim (migrated_front number (Within config) line) [ Err refusal ↦ ends_by (Err refusal) | Ok next ↦ migrated_from lines (number + 1) next ]

abbrev pub migration_of : List ℕ → Migration
migration_of bytes = migrated_from (lines_of bytes) 1 AtStart

-- ---- the machine, line by line

-- ---- the head

-- with this line the head goes on
pub record OldHeadGoesOn (old : Option Front) (line : List ℕ) (new : Option Front) : Type 0 where
  pub next : Front
  pub found : old_front_with old line ≡ Some next
  pub still : is_begun next ≡ false
  pub clocks : IsTrue (has_clocks_to last_early_clock (Some next))
  pub kept : new ≡ Some next

-- this line ends the head
abbrev pub OldHeadEnds : Option Front → List ℕ → Config → Type 0
OldHeadEnds old line config = old_front_with old line ≡ Some (Begun config)

-- the line of this number may not follow in the head, or its clock is too great
abbrev pub OldHeadIsRefused : Option Front → List ℕ → ℕ → MigrationRefusal → Type 0
OldHeadIsRefused old line number (BadConfig bad) = (old_front_with old line ≡ None) × (bad.line ≡ number)
OldHeadIsRefused old line number (BadLine bad) =
    (next : Front) × (old_front_with old line ≡ Some next) × IsFalse (has_clocks_to last_early_clock (Some next)) × (bad.line ≡ number) × (bad.fault ≡ ClockTooGreat)

-- ---- the records

-- the line of this number may not follow after the head
abbrev pub RecordRefuses : List ℕ → ℕ → MigrationRefusal → Type 0
RecordRefuses line number (BadConfig bad) = ⊥
RecordRefuses line number (BadLine bad) = (record_fault line ≡ Some bad.fault) × (bad.line ≡ number)

-- ---- all lines

abbrev pub part_answers : OldPart → List ℕ → List ℕ → OldPart → Type 0
part_answers (Head old) line text (Head new) = OldHeadGoesOn old line new × (text ≡ [])
part_answers (Head old) line text (Records count) = (config : Config) × OldHeadEnds old line config × (text ≡ head_text config) × (count ≡ 0)
part_answers (Records count) line text new = (record_fault line ≡ None) × (text ≡ ended line) × (new ≡ Records (counted count))

abbrev pub migration_answers : OldAudit → List ℕ → List ℕ → OldAudit → Type 0
migration_answers old line text new = (new.lines ≡ counted old.lines) × part_answers old.part line text new.part

abbrev pub part_refuses : OldPart → List ℕ → ℕ → MigrationRefusal → Type 0
part_refuses (Head old) line number refusal = OldHeadIsRefused old line number refusal
part_refuses (Records count) line number refusal = RecordRefuses line number refusal

abbrev pub migration_refuses : OldAudit → List ℕ → MigrationRefusal → Type 0
migration_refuses old line refusal = part_refuses old.part line (counted old.lines) refusal

-- ---- the end

abbrev pub records_in : OldPart → ℕ
records_in (Head reader) = 0
records_in (Records count) = count

abbrev pub part_ends : OldPart → Type 0
part_ends (Head reader) = ⊥
part_ends (Records count) = Unit {0}

abbrev pub part_refuses_end : OldPart → ℕ → MigrationRefusal → Type 0
part_refuses_end (Head reader) number (BadConfig bad) = bad.line ≡ number
part_refuses_end (Head reader) number (BadLine bad) = ⊥
part_refuses_end (Records count) number refusal = ⊥

abbrev pub migration_end_refuses : OldAudit → MigrationRefusal → Type 0
migration_end_refuses old refusal = part_refuses_end old.part (counted old.lines) refusal

abbrev pub migration_rules : LineRules OldAudit MigrationRefusal
migration_rules = record { answers = migration_answers; refuses = migration_refuses; ends = λ old text new. part_ends old.part × (text ≡ []) × (new ≡ old); refuses_end = migration_end_refuses }

-- ---- audits that are migrated whole

-- the bytes are an audit of layout 1 with this head and these record lines, all of which exist in layout 2 too
pub record IsAuditInBoth (bytes : List ℕ) (config : Config) (lines : List (List ℕ)) : Type 0 where
  pub head : old_head_of (lines_of bytes) ≡ Whole config lines
  pub clocks : IsTrue (has_clocks_to last_early_clock (Some (Begun config)))
  pub records : AllByRecursion IsEarlyLine lines

-- all of it is written: the head, and the unchanged record lines
abbrev pub whole_migration : Config → List (List ℕ) → Migration
whole_migration config lines = record { text = head_text config ++ flat_map ended lines; outcome = Ok (told_number (length lines)) }

-- a reading in today's layout finds the same head and the same records
pub record ReadsAlike (bytes : List ℕ) (config : Config) (lines : List (List ℕ)) : Type 0 where
  pub head : head_of (lines_of bytes) ≡ Whole config lines
  pub records : AllByRecursion (λ line. record_in line ≡ old_record_in line) lines
