-- The output of a replay of a file's records, and the part of the file on which it depends.
use Rattle.std.specs.Prelude.{◌≡◌, ℕ, ◌+◌, ◌-◌, ◌^◌, ◌⊎◌, Bool, false, ◌&&◌, ◌||◌, min, nat_le, nat_lt, if◌then◌else◌, List, [], ◌∷◌, ◌++◌, filter, length, codes, decimal, slice_get, IsFalse, IsTrue, Option, Some, None, map}
use Rattle.std.specs.List.{list_any}
use Rattle.std.specs.Option.{is_none, option_map}
use Rattle.std.specs.Str.{bytes_eq}
use Rattle.std.specs.Io.KnownBytes.{Keeps}
use Rattle.cops_types.specs.declared.configs.Config.{Config}
use Rattle.cops_types.specs.declared.configs.Tenant.{Tenant}
use Rattle.cops_types.specs.declared.faults.Fault.{Fault}
use Rattle.cops_types.specs.Head.{HeadReading, Whole, BadAt, AtStart, reading_from}
use Rattle.cops_types.specs.Lines.{lines_of, cut_line}
use Rattle.cops_types.specs.OldHead.{old_head_of}
use Rattle.cops_types.specs.Refusal.{refused_if}
use Rattle.cops_types.specs.Sink.{AppendsFront}
use Rattle.cops_types.specs.Slots.{slot_of_name}
use Rattle.cops_types.specs.TenantConfig.{TenantConfig, tenant_config}
use Rattle.cops_types.specs.Words.{first_word, newline}
use Rattle.cops_types.specs.declared.faults.Fault.TheVariants as fault
use Rattle.cops_model.specs.SoloNode.{SoloNode}
use Rattle.cops_replay.specs.declared.layouts.Layout.{Layout}
use Rattle.cops_replay.specs.declared.layouts.Layout.TheVariants.{Today, Early}
use Rattle.cops_replay.specs.declared.Record.{Record}
use Rattle.cops_replay.specs.declared.Replayed.{Replayed}
use Rattle.cops_replay.specs.declared.Replayed.TheVariants.{Same, FirstDifference}
use Rattle.cops_replay.specs.declared.refusals.ReplayRefusal.{ReplayRefusal}
use Rattle.cops_replay.specs.declared.refusals.ReplayRefusal.TheVariants.{BadConfig, UnknownTenant, ClockTooGreat}
use Rattle.cops_replay.specs.AuditText.{layout_line}
use Rattle.cops_replay.specs.VersionLayouts.{is_old_record, last_early_clock, old_record_in, versions_in, AgreesIn, nodes_after_in}
use Rattle.cops_replay.specs.RecordLines.{record_by}
use Rattle.cops_replay.specs.RecordText.{is_record, record_line}
use Rattle.cops_replay.specs.Replaying.{fresh_nodes}

-- no line of a record is longer, in bytes
abbrev pub longest_record : ℕ
longest_record = 200000

-- the record of a line that is one, with its versions read in this layout
abbrev pub told_of : Layout → List ℕ → Option Record
told_of layout line = if nat_le (length line) longest_record then option_map (λ (read : List ℕ × Record). read.1) (record_by (versions_in layout) line) else None

-- in today's layout
abbrev pub told_in : List ℕ → Option Record
told_in line = told_of Today line

-- ---- clocks of layout 1 that today's layout lacks, or that have no next one in it

-- in the record of the line
abbrev pub has_great_clock : List ℕ → Bool
has_great_clock line = nat_le (length line) longest_record && is_none (old_record_in line) && is_old_record line

abbrev pub is_great_in : Layout → List ℕ → Bool
is_great_in Today line = false
is_great_in Early line = has_great_clock line

abbrev pub great_clock_of : Layout → List ℕ → Option Fault
great_clock_of layout line = refused_if (is_great_in layout line) fault.ClockTooGreat

-- layout 1 has a record with this line that today's layout has too
abbrev pub IsEarlyLine : List ℕ → Type 0
IsEarlyLine line = (told : Record) × (told_of Early line ≡ Some told)

-- in the tenant's line of the head
abbrev pub starts_great_in : Layout → Tenant → Bool
starts_great_in Today tenant = false
starts_great_in Early tenant = nat_lt last_early_clock tenant.first_clock

-- the lines that begin with a name
abbrev pub alone_lines : List ℕ → List (List ℕ) → List (List ℕ)
alone_lines name lines = filter (λ line. bytes_eq (first_word line) name) lines

-- in either, if these are the lines of the tenant's records
abbrev pub is_too_great_in : Layout → Tenant → List (List ℕ) → Bool
is_too_great_in layout tenant lines = starts_great_in layout tenant || list_any (is_great_in layout) lines

-- ---- what is found

-- the record has a line that is not too long
pub record HasLine (tenant : List ℕ) (told : Record) : Type 0 where
  pub formed : IsTrue (is_record told)
  pub short : IsTrue (nat_le (length (record_line tenant told)) longest_record)

-- the result of a replay with these nodes after this many lines, which are read in the first layout and computed by the rules of the second: the
-- first place whose line is no record or one that does not agree, or the number of lines
abbrev pub FindsBy : Layout → Layout → TenantConfig → ℕ → List SoloNode → List (List ℕ) → Replayed → Type 0
FindsBy layout rules config passed nodes [] found = found ≡ Same passed
FindsBy layout rules config passed nodes (line ∷ lines) found =
    ((told : Record) × (told_of layout line ≡ Some told) × AgreesIn rules config told nodes × FindsBy layout rules config (passed + 1) (nodes_after_in rules config told nodes) lines found)
    ⊎ (((told : Record) → told_of layout line ≡ Some told → AgreesIn rules config told nodes → ⊥) × (found ≡ FirstDifference (passed + 1)))

-- in today's layout
abbrev pub FindsIn : TenantConfig → ℕ → List SoloNode → List (List ℕ) → Replayed → Type 0
FindsIn config passed nodes lines found = FindsBy Today Today config passed nodes lines found

-- a number past the last of 64 bits is written as that one
abbrev pub told_number : ℕ → ℕ
told_number n = min n (2 ^ 64 - 1)

abbrev pub replayed_text : Replayed → List ℕ
replayed_text (Same count) = codes "same " ++ decimal (told_number count) ++ newline ∷ []
replayed_text (FirstDifference place) = codes "differs " ++ decimal (told_number place) ++ newline ∷ []

-- ---- whole files

-- the layout that the first line names: without such a line it is layout 1, of which only clocks are read that today's layout has too
abbrev pub layout_of : List (List ℕ) → Layout
layout_of [] = Early
layout_of (line ∷ lines) = if bytes_eq line layout_line then Today else Early

-- the head of a file in this layout
abbrev pub head_by : Layout → List (List ℕ) → HeadReading
head_by Today [] = BadAt 1
head_by Today (line ∷ lines) = reading_from lines 2 AtStart
head_by Early lines = old_head_of lines

-- the lines are an audit in this layout whose head has a tenant of this name
pub record IsAuditFor (layout : Layout) (name : List ℕ) (lines : List (List ℕ)) : Type 0 where
  pub config : Config
  pub records : List (List ℕ)
  pub slot : ℕ
  pub tenant : Tenant
  pub head : head_by layout lines ≡ Whole config records
  pub there : slot_of_name config.tenants name ≡ Some slot
  pub tenant_is : slice_get config.tenants slot ≡ Some tenant

-- none of the tenant's clocks is too great, and the text is the result of a replay of its lines by the layout's own rules
pub record IsReplayBy (layout : Layout) (name : List ℕ) (lines : List (List ℕ)) (text : List ℕ) : Type 0 where
  pub audit : IsAuditFor layout name lines
  pub fits : IsFalse (is_too_great_in layout audit.tenant (alone_lines name audit.records))
  pub found : Replayed
  pub finds : FindsBy layout layout (tenant_config audit.config audit.tenant) 0 (fresh_nodes (tenant_config audit.config audit.tenant)) (alone_lines name audit.records) found
  pub text_is : text ≡ replayed_text found

-- one of the tenant's clocks is too great
pub record IsTooGreatBy (layout : Layout) (name : List ℕ) (lines : List (List ℕ)) : Type 0 where
  pub audit : IsAuditFor layout name lines
  pub great : IsTrue (is_too_great_in layout audit.tenant (alone_lines name audit.records))

-- the first bad line of the head is this one; or the head is complete and has no tenant of the name, or a clock of the tenant is too great
abbrev pub IsRefusedBy : Layout → List ℕ → List (List ℕ) → ReplayRefusal → Type 0
IsRefusedBy layout name lines (BadConfig bad) = head_by layout lines ≡ BadAt bad.line
IsRefusedBy layout name lines UnknownTenant = (config : Config) × (records : List (List ℕ)) × (head_by layout lines ≡ Whole config records) × (slot_of_name config.tenants name ≡ None)
IsRefusedBy layout name lines ClockTooGreat = IsTooGreatBy layout name lines

-- the same of a file, in the layout that its first line names
abbrev pub IsReplayOf : List ℕ → List ℕ → List ℕ → Type 0
IsReplayOf name bytes text = IsReplayBy (layout_of (lines_of bytes)) name (lines_of bytes) text

abbrev pub RefusesReplayOf : List ℕ → List ℕ → ReplayRefusal → Type 0
RefusesReplayOf name bytes refusal = IsRefusedBy (layout_of (lines_of bytes)) name (lines_of bytes) refusal

-- nothing is written, or a prefix of the result of a replay
abbrev pub ReplaysFront : List ℕ → List ℕ → Option (List ℕ) → Option (List ℕ) → Type 0
ReplaysFront name bytes old_contents new_contents =
    Keeps old_contents new_contents ⊎ ((text : List ℕ) × IsReplayOf name bytes text × AppendsFront old_contents new_contents text)

-- the lines that begin with the name; of a line that is too long for a record the first 200,001 bytes
abbrev pub seen_lines : List ℕ → List (List ℕ) → List (List ℕ)
seen_lines name lines = map (cut_line longest_record) (alone_lines name lines)

-- the bytes are an audit in this layout, in whose head the tenant of this name has this configuration, and these are the lines that begin with
-- its name; the configuration has no name and no token
pub record HasPart (name bytes : List ℕ) (layout : Layout) (config : TenantConfig) (own : List (List ℕ)) : Type 0 where
  pub layout_is : layout_of (lines_of bytes) ≡ layout
  pub audit : IsAuditFor layout name (lines_of bytes)
  pub config_is : tenant_config audit.config audit.tenant ≡ config
  pub own_is : seen_lines name audit.records ≡ own
