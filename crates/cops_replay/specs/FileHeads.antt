-- Heads of audits of either layout.
use Rattle.std.specs.Prelude.{◌≡◌, ℕ, ◌&&◌, nat_eq, Bool, false, List, slice_get, Option, Some, IsFalse, IsTrue}
use Rattle.std.specs.Option.{option_and_then}
use Rattle.std.specs.Str.{bytes_eq}
use Rattle.cops_types.specs.declared.configs.Config.{Config}
use Rattle.cops_types.specs.declared.configs.Tenant.{Tenant}
use Rattle.cops_types.specs.Counts.{counted}
use Rattle.cops_types.specs.Head.{Front, Within, front_after}
use Rattle.cops_types.specs.OldHead.{old_front_after}
use Rattle.cops_model.specs.MainTheorem.{with_tenant_alone}
use Rattle.cops_node.specs.Parts.{are_clocks}
use Rattle.cops_replay.specs.declared.file_heads.FileHead.{FileHead}
use Rattle.cops_replay.specs.declared.file_heads.FileHead.TheVariants as head
use Rattle.cops_replay.specs.declared.layouts.Layout.{Layout}
use Rattle.cops_replay.specs.declared.layouts.Layout.TheVariants.{Today, Early}
use Rattle.cops_replay.specs.AuditText.{layout_line}
use Rattle.cops_replay.specs.ReplayText.{starts_great_in}

-- how far a head in this layout has come with one more line
abbrev pub front_by : Layout → Front → List ℕ → Option Front
front_by Today front line = front_after front line
front_by Early front line = old_front_after front line

abbrev pub front_with_by : Layout → Option Front → List ℕ → Option Front
front_with_by layout front line = option_and_then (λ front. front_by layout front line) front

-- ---- a head so far

abbrev pub layout_in : FileHead → Layout
layout_in (head.Early old) = Early
layout_in (head.Today new) = Today

abbrev pub front_in : FileHead → Option Front
front_in (head.Early old) = old.reader
front_in (head.Today new) = new.reader

abbrev pub count_in : FileHead → ℕ
count_in (head.Early old) = old.lines
count_in (head.Today new) = new.lines

-- it is in this layout, and has come this far after this many lines
abbrev pub IsFileHeadAt : Layout → Front → ℕ → FileHead → Type 0
IsFileHeadAt layout front count head = (layout_in head ≡ layout) × (front_in head ≡ Some front) × (count_in head ≡ count)

-- this line continues it
abbrev pub ContinuesBy : FileHead → List ℕ → FileHead → Type 0
ContinuesBy old line new =
    (config : Config) × (front_with_by (layout_in old) (front_in old) line ≡ Some (Within config)) × IsFileHeadAt (layout_in old) (Within config) (counted (count_in old)) new

-- after so many lines of a file the line would be the first, and tell today's layout
abbrev pub tells_layout : Layout → ℕ → List ℕ → Bool
tells_layout Today count line = false
tells_layout Early count line = nat_eq count 0 && bytes_eq line layout_line

-- each tenant whose first clock is not too great has one that a node may start from
abbrev pub HaveClocks : Layout → Config → Type 0
HaveClocks layout config = (slot : ℕ) (tenant : Tenant) → slice_get config.tenants slot ≡ Some tenant → IsFalse (starts_great_in layout tenant) → IsTrue (are_clocks (with_tenant_alone config tenant))
