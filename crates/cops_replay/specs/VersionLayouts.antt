-- The two layouts of versions: the versions that each has, the record lines of layout 1, and the turn of a node by the rules of a layout.
use Rattle.std.specs.Prelude.{ℕ, ◌+◌, ◌-◌, ◌*◌, ◌^◌, Bool, ◌&&◌, nat_lt, nat_le, if◌then◌else◌, List, Option, max, length, slice_index_or, slice_set, Some, None}
use Rattle.std.specs.Option.{is_none, is_some, option_and_then}
use Rattle.cops_types.specs.declared.faults.Fault.{Fault}
use Rattle.cops_types.specs.declared.faults.Fault.TheVariants.{Syntax, ClockTooGreat, AuditFull}
use Rattle.cops_types.specs.Layout.{version_of_number, NODES}
use Rattle.cops_types.specs.OldHead.{last_old_clock}
use Rattle.cops_types.specs.Refusal.{refused_if}
use Rattle.cops_types.specs.Version.{Timestamp, last_clock}
use Rattle.cops_types.specs.Words.{parts_at}
use Rattle.cops_types.specs.Pairs.{greatest_clock}
use Rattle.cops_types.specs.Records.{clock}
use Rattle.cops_types.specs.TenantConfig.{TenantConfig}
use Rattle.cops_model.specs.declared.calls.NodeCall.{NodeCall}
use Rattle.cops_model.specs.declared.calls.NodeCall.TheVariants.{Put}
use Rattle.cops_model.specs.declared.calls.NodeReply.TheVariants.{Refused}
use Rattle.cops_model.specs.Place.{Place, node_number, own_number, place_of}
use Rattle.cops_model.specs.SoloNode.{SoloNode, new_node}
use Rattle.cops_model.specs.Step.{CallEffect, audited, effect, put_with_version, unchanged}
use Rattle.cops_replay.specs.declared.layouts.Layout.{Layout}
use Rattle.cops_replay.specs.declared.layouts.Layout.TheVariants.{Today, Early}
use Rattle.cops_replay.specs.declared.layouts.VersionSet.{VersionSet}
use Rattle.cops_replay.specs.declared.layouts.VersionSet.TheVariants.{Layout2, Both, Layout1}
use Rattle.cops_replay.specs.declared.Record.{Record}
use Rattle.cops_replay.specs.RecordLines.{record_by, kept_if, numbers_of, version_in}
use Rattle.cops_replay.specs.Replaying.{AgreesWith, turn_of}

abbrev pub old_nodes : ℕ
old_nodes = 256

-- the last clock of layout 2 that has a next one
abbrev pub last_early_clock : ℕ
last_early_clock = 2 ^ 48 - 2

-- a version of layout 1 that layout 2 has too, with a next one
abbrev pub is_early : Timestamp → Bool
is_early version = nat_le version.clock last_early_clock && nat_lt version.node old_nodes

abbrev pub early_version_of : List ℕ → Option Timestamp
early_version_of word = option_and_then (λ (version : Timestamp). kept_if (is_early version) version) (version_in word)

-- any version of layout 1, as today's version of the same number; the order is the same
abbrev pub old_version_of : List ℕ → Option Timestamp
old_version_of word =
    option_and_then (λ both. kept_if (nat_le both.0 last_old_clock && nat_lt both.1 old_nodes) (version_of_number (both.0 * old_nodes + both.1))) (numbers_of (parts_at 46 word))

abbrev pub versions_by : VersionSet → List ℕ → Option Timestamp
versions_by Layout2 word = version_in word
versions_by Both word = early_version_of word
versions_by Layout1 word = old_version_of word

-- those that are read in a file of this layout
abbrev pub versions_in : Layout → List ℕ → Option Timestamp
versions_in Today word = version_in word
versions_in Early word = early_version_of word

-- layout 1 has a record with this line
abbrev pub is_old_record : List ℕ → Bool
is_old_record line = is_some (record_by (versions_by Layout1) line)

-- the tenant's name and the record, if layout 1 has one with this line and no clock is too great for layout 2
abbrev pub old_record_in : List ℕ → Option (List ℕ × Record)
old_record_in line = record_by (versions_in Early) line

-- a line without such a record has none in layout 1, or one with a clock that is too great
abbrev pub old_fault_of : List ℕ → Fault
old_fault_of line = if is_old_record line then ClockTooGreat else Syntax

abbrev pub old_refusal_of : List ℕ → Option Fault
old_refusal_of line = refused_if (is_none (old_record_in line)) (old_fault_of line)

-- the greatest clock, and the number of node numbers
pub record VersionLayout : Type 0 where
  pub last : ℕ
  pub nodes : ℕ

-- 56 bits of clock and 8 of node
abbrev pub layout_1 : VersionLayout
layout_1 = record { last = last_old_clock; nodes = old_nodes }

-- 48 bits of clock and 16 of node
abbrev pub layout_2 : VersionLayout
layout_2 = record { last = last_clock; nodes = NODES }

module _ (layout : VersionLayout) where
  -- the version that a word writes, if the layout has it
  abbrev pub version_under : List ℕ → Option Timestamp
  version_under word =
      option_and_then (λ both. let version : Timestamp = record { clock = both.0; node = both.1 } in kept_if (nat_le version.clock layout.last && nat_lt version.node layout.nodes) version) (numbers_of (parts_at 46 word))

  -- the version that a node issues after two clocks: one above the greater, unless that exceeds the last clock
  abbrev pub next_under : ℕ → ℕ → ℕ → Option Timestamp
  next_under clock deps_clock node = if nat_lt (max clock deps_clock) layout.last then Some (record { clock = max clock deps_clock + 1; node = node }) else None

  -- what a call does: a put issues the layout's next version, and no other call issues one
  abbrev pub effect_under : Place → NodeCall → SoloNode → CallEffect
  effect_under place (Put key value deps near) solo = put_with_version place solo key value deps near (next_under (clock place.first_clock solo.recs) (greatest_clock deps) (own_number place))
  effect_under place call solo = effect place call solo

  abbrev pub node_step_under : Place → ℕ → NodeCall → SoloNode → CallEffect
  node_step_under place moment call solo =
      if nat_lt (length solo.trail) place.quota.audit
      then audited moment call (effect_under place call (record solo { moment = max solo.moment moment }))
      else unchanged (Refused AuditFull) solo

-- ---- records of a file

-- the turn of the record's node, by the rules of the file's layout
abbrev pub turn_in : Layout → TenantConfig → Record → List SoloNode → CallEffect
turn_in Today config told nodes = turn_of config told nodes
turn_in Early config told nodes = node_step_under layout_1 (place_of config told.node) told.moment told.call (slice_index_or nodes (node_number config.shards told.node) (new_node config.data_centres))

-- the record's node exists, its call fits that node, and the reply is the one computed by these rules
abbrev pub AgreesIn : Layout → TenantConfig → Record → List SoloNode → Type 0
AgreesIn layout config told nodes = AgreesWith config told (turn_in layout config told nodes)

-- the nodes after the call
abbrev pub nodes_after_in : Layout → TenantConfig → Record → List SoloNode → List SoloNode
nodes_after_in layout config told nodes = slice_set nodes (node_number config.shards told.node) (turn_in layout config told nodes).after
