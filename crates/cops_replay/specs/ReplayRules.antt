-- The effect of each line of an audit when one tenant's records are replayed.
use Rattle.std.specs.Prelude.{◌≡◌, ℕ, Bool, true, false, List, [], slice_get, Some, None, IsFalse, IsTrue}
use Rattle.std.specs.Str.{bytes_eq}
use Rattle.cops_types.specs.declared.configs.Config.{Config}
use Rattle.cops_types.specs.declared.configs.Tenant.{Tenant}
use Rattle.cops_types.specs.Slots.{slot_of_name}
use Rattle.cops_types.specs.TenantConfig.{tenant_config}
use Rattle.cops_types.specs.Words.{first_word}
use Rattle.cops_script.specs.LineRules.{LineRules}
use Rattle.cops_replay.specs.declared.layouts.Layout.{Layout}
use Rattle.cops_replay.specs.declared.refusals.ReplayRefusal.{ReplayRefusal}
use Rattle.cops_replay.specs.declared.refusals.ReplayRefusal.TheVariants.{BadConfig, UnknownTenant, ClockTooGreat}
use Rattle.cops_replay.specs.declared.replay_runs.ReplaysOf.{ReplaysOf}
use Rattle.cops_replay.specs.AuditFiles.{AuditRules}
use Rattle.cops_replay.specs.Replayings.{IsBeforeRecords, IsReplayedLine, Standing, found_of}
use Rattle.cops_replay.specs.ReplayText.{is_great_in, replayed_text, starts_great_in}

-- the head has a tenant of this name, whose first clock is not too great, and its nodes are new
abbrev pub StartsFor : Layout → List ℕ → Config → Standing → Type 0
StartsFor layout name config replay =
    (slot : ℕ) × (tenant : Tenant) × (slot_of_name config.tenants name ≡ Some slot) × (slice_get config.tenants slot ≡ Some tenant)
    × IsFalse (starts_great_in layout tenant) × (replay.layout ≡ layout) × IsBeforeRecords (tenant_config config tenant) replay

-- the head has no tenant of the name, or one whose first clock is too great
abbrev pub IsNotBegun : Layout → List ℕ → Config → ReplayRefusal → Type 0
IsNotBegun layout name config (BadConfig bad) = ⊥
IsNotBegun layout name config UnknownTenant = slot_of_name config.tenants name ≡ None
IsNotBegun layout name config ClockTooGreat =
    (slot : ℕ) × (tenant : Tenant) × (slot_of_name config.tenants name ≡ Some slot) × (slice_get config.tenants slot ≡ Some tenant) × IsTrue (starts_great_in layout tenant)

-- a line of the tenant is replayed, and any other skipped
abbrev pub ReplaysOwn : Bool → Standing → List ℕ → Standing → Type 0
ReplaysOwn true old line new = IsFalse (is_great_in old.layout line) × IsReplayedLine line old new
ReplaysOwn false old line new = new ≡ old

-- a clock in a line of the tenant is too great
abbrev pub RefusesOwn : List ℕ → Standing → List ℕ → ReplayRefusal → Type 0
RefusesOwn name replay line refusal = IsTrue (bytes_eq (first_word line) name) × IsTrue (is_great_in replay.layout line) × (refusal ≡ ClockTooGreat)

-- the lines after the head
abbrev pub replay_lines : List ℕ → LineRules Standing ReplayRefusal
replay_lines name = record {
  answers = λ old line text new. (text ≡ []) × ReplaysOwn (bytes_eq (first_word line) name) old line new;
  refuses = RefusesOwn name;
  ends = λ old text new. (text ≡ replayed_text (found_of old)) × (new ≡ old);
  refuses_end = λ old refusal. ⊥;
}

abbrev pub replay_rules : AuditRules ReplaysOf Standing ReplayRefusal
replay_rules = record {
  starts = λ body layout config text state. (text ≡ []) × StartsFor layout body.name config state;
  refuses_start = λ body layout config refusal. IsNotBegun layout body.name config refusal;
  lines = λ body. replay_lines body.name;
  bad_head = BadConfig;
}
