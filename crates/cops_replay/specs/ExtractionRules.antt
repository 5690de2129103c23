-- The effect of each line of an audit when one tenant's part is extracted.
use Rattle.std.specs.Prelude.{◌≡◌, ℕ, if◌then◌else◌, List, [], ◌++◌, flat_map, slice_get, Some, None, ⊤}
use Rattle.std.specs.Str.{bytes_eq}
use Rattle.cops_types.specs.declared.configs.Config.{Config}
use Rattle.cops_types.specs.declared.configs.Tenant.{Tenant}
use Rattle.cops_types.specs.Slots.{slot_of_name}
use Rattle.cops_types.specs.Words.{first_word}
use Rattle.cops_script.specs.LineRules.{LineRules}
use Rattle.cops_replay.specs.declared.extractions.PartOf.{PartOf}
use Rattle.cops_replay.specs.declared.layouts.Layout.{Layout}
use Rattle.cops_replay.specs.declared.refusals.PartRefusal.{PartRefusal}
use Rattle.cops_replay.specs.declared.refusals.PartRefusal.TheVariants.{BadConfig, UnknownTenant}
use Rattle.cops_replay.specs.AuditFiles.{AuditRules}
use Rattle.cops_replay.specs.AuditText.{ended}
use Rattle.cops_replay.specs.OwnParts.{layout_lines, lone_head_lines}

-- the head has a tenant of this name, and this is the head of the part
abbrev pub IsLoneHead : Layout → List ℕ → Config → List ℕ → Type 0
IsLoneHead layout name config text =
    (slot : ℕ) × (tenant : Tenant) × (slot_of_name config.tenants name ≡ Some slot) × (slice_get config.tenants slot ≡ Some tenant)
    × (text ≡ flat_map ended (layout_lines layout ++ lone_head_lines config tenant))

-- a line of the tenant, with its newline
abbrev pub own_text : List ℕ → List ℕ → List ℕ
own_text name line = if bytes_eq (first_word line) name then ended line else []

-- the lines after the head
abbrev pub part_lines : List ℕ → LineRules ⊤ PartRefusal
part_lines name = record {
  answers = λ old line text new. text ≡ own_text name line;
  refuses = λ old line refusal. ⊥;
  ends = λ old text new. text ≡ [];
  refuses_end = λ old refusal. ⊥;
}

abbrev pub part_rules : AuditRules PartOf ⊤ PartRefusal
part_rules = record {
  starts = λ body layout config text state. IsLoneHead layout body.name config text;
  refuses_start = λ body layout config refusal. (refusal ≡ UnknownTenant) × (slot_of_name config.tenants body.name ≡ None);
  lines = λ body. part_lines body.name;
  bad_head = BadConfig;
}
