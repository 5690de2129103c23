-- The answer to each line behind the head of a script, if only the lines of one name's tenants are answered.
use Rattle.std.specs.Prelude.{◌≡◌, ℕ, Bool, true, false, ◌||◌, List, [], slice_set, Option, Some, None, IsFalse, IsTrue}
use Rattle.std.specs.Option.{option_map_or}
use Rattle.std.specs.Str.{bytes_eq}
use Rattle.cops_types.specs.declared.configs.Config.{Config}
use Rattle.cops_types.specs.declared.configs.Tenant.{Tenant}
use Rattle.cops_types.specs.declared.faults.Fault.{Fault}
use Rattle.cops_script.specs.LineRules.{LineRules}
use Rattle.cops_types.specs.OpenSlots.{admission_refusal, begun_with, open_at, open_slot_of_name}
use Rattle.cops_types.specs.TenantTexts.{AreApart}
use Rattle.cops_types.specs.Words.{first_word}
use Rattle.cops_model.specs.Cluster.{SoloCluster}
use Rattle.cops_script.specs.Lives.{admitted_by}
use Rattle.cops_model.specs.MainTheorem.{with_tenant_alone}
use Rattle.cops_script.specs.Said.{Said, is_host_line, said_in}
use Rattle.cops_model.specs.Setups.{Setup, new_setup, next_slot}
use Rattle.cops_script.specs.declared.solo_machine.LinesOf.{LinesOf}
use Rattle.cops_script.specs.declared.solo_machine.SoloRefusal.{SoloRefusal}
use Rattle.cops_script.specs.declared.solo_machine.SoloRefusal.TheVariants.{BadConfig, UnknownTenant}
use Rattle.cops_script.specs.declared.solo_scripts.SoloRun.{SoloRun}
use Rattle.cops_script.specs.Acting.{IsNew}
use Rattle.cops_script.specs.BodyRules.{BodyRules}
use Rattle.cops_script.specs.Answers.{Answer, ToHost, ToTenant, slot_line}
use Rattle.cops_script.specs.Doing.{IsDone}
use Rattle.cops_script.specs.ScriptRuns.{heard}

-- ---- lines and tenants of a name

-- the host writes the line, or a tenant of the name does
abbrev pub is_own : List ℕ → List ℕ → Bool
is_own name line = is_host_line line || bytes_eq (first_word line) name

abbrev pub has_this_name : List ℕ → Tenant → Bool
has_this_name name tenant = bytes_eq tenant.name name

-- it admits a tenant of the name
abbrev pub admits_name : List ℕ → Said → Bool
admits_name name said = option_map_or (has_this_name name) (admitted_by said) false

-- nothing is written for the host
abbrev pub solo_line : List (Option Tenant) → Answer → List ℕ
solo_line tenants (ToHost reply) = []
solo_line tenants (ToTenant slot reply) = slot_line tenants (ToTenant slot reply)

-- the tenant has the least free slot; or it may not be admitted, and nothing changed
abbrev pub IsGiven : List (Option Tenant) → Tenant → Bool → List (Option Tenant) → Type 0
IsGiven old tenant true new = (admission_refusal old (next_slot old) tenant ≡ None) × (new ≡ slice_set old (next_slot old) (Some tenant))
IsGiven old tenant false new = (fault : Fault) × (admission_refusal old (next_slot old) tenant ≡ Some fault) × (new ≡ old)

-- ---- states

abbrev pub solo_setup : {W : Type 0} → SoloRun W → Setup
solo_setup run = record { head = run.head; tenants = run.tenants }

module _ {W : Type 0} (setup : W → Setup) (StandsFor : W → ℕ → SoloCluster → Type 0) where
  -- the tenant of the name, if it is open in the slot, has this cluster in its world
  abbrev pub SoloStands : List ℕ → SoloRun W → ℕ → SoloCluster → Type 0
  SoloStands name run slot cluster = open_slot_of_name run.tenants name ≡ Some slot → (world : W) × (run.world ≡ Some world) × StandsFor world 0 cluster

  -- the tenant of the name is in the slot, and has the world to itself; or there is neither
  abbrev pub IsWorldOf : List ℕ → Config → List (Option Tenant) → Option W → Option ℕ → Type 0
  IsWorldOf name head tenants held None = held ≡ None
  IsWorldOf name head tenants held (Some slot) =
      (tenant : Tenant) × (world : W) × (open_at slot tenants ≡ Some tenant) × (bytes_eq tenant.name name ≡ true) × (held ≡ Some world) × (setup world ≡ new_setup (with_tenant_alone head tenant))

  pub record IsKept (name : List ℕ) (run : SoloRun W) : Type 0 where
    pub apart : AreApart (λ tenant. tenant.name) run.tenants
    pub world_is : IsWorldOf name run.head run.tenants run.world (open_slot_of_name run.tenants name)

  -- at the end of the head: if it has the name, a new world of that tenant alone
  abbrev pub BeginsWith : Config → SoloRun W → Option ℕ → Type 0
  BeginsWith config run None = (run.world ≡ None) × (run.was_open ≡ false)
  BeginsWith config run (Some slot) =
      (tenant : Tenant) × (world : W) × (open_at slot (begun_with config.tenants) ≡ Some tenant) × (run.world ≡ Some world) × IsNew setup StandsFor (with_tenant_alone config tenant) world × (run.was_open ≡ true)

  abbrev pub StartsAlone : List ℕ → Config → SoloRun W → Type 0
  StartsAlone name config run = (solo_setup run ≡ new_setup config) × BeginsWith config run (open_slot_of_name (begun_with config.tenants) name)

  -- ---- lines

  -- the request is done, with ample memory if it is the host's
  pub record IsTaken (name : List ℕ) (old : SoloRun W) (said : Said) (text : List ℕ) (new : SoloRun W) : Type 0 where
    pub answer : Answer
    pub done : IsDone solo_setup (SoloStands name) old said answer new
    pub heard_whole : heard said answer ≡ said
    pub text_is : text ≡ solo_line old.tenants answer
    pub kept : IsKept name new
    pub was : new.was_open ≡ (old.was_open || admits_name name said)

  -- nothing is written before a tenant of the name is open
  abbrev pub IsSilent : SoloRun W → List ℕ → SoloRun W → Type 0
  IsSilent old text new = IsFalse new.was_open → IsFalse old.was_open × (text ≡ [])

  abbrev pub Takes : List ℕ → SoloRun W → Said → List ℕ → SoloRun W → Type 0
  Takes name old said text new = IsSilent old text new × (IsKept name old → IsTaken name old said text new)

  -- a line of the host or of the name is handled, and any other is skipped
  abbrev pub AnswersOwn : Bool → List ℕ → SoloRun W → List ℕ → List ℕ → SoloRun W → Type 0
  AnswersOwn true name old line text new = Takes name old (said_in old.tenants line) text new
  AnswersOwn false name old line text new = (text ≡ []) × (new ≡ old)

  -- ---- behind the head

  -- no line is refused; the end has an empty answer, and is refused if no tenant of the name was ever open
  abbrev pub solo_lines : List ℕ → LineRules (SoloRun W) SoloRefusal
  solo_lines name = record {
    answers = λ old line text new. AnswersOwn (is_own name line) name old line text new;
    refuses = λ old line refusal. ⊥;
    ends = λ old text new. (text ≡ []) × (new ≡ old) × IsTrue old.was_open;
    refuses_end = λ old refusal. (refusal ≡ UnknownTenant) × IsFalse old.was_open;
  }

  abbrev pub solo_rules : BodyRules LinesOf (SoloRun W) SoloRefusal
  solo_rules = record {
    starts = λ body config run. StartsAlone body.name config run;
    refuses_start = λ body config refusal. ⊥;
    lines = λ body. solo_lines body.name;
    bad_head = BadConfig;
  }
