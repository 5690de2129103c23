-- The effect of each line behind the head of a script whose replies are not written.
use Rattle.std.specs.Prelude.{◌≡◌, ℕ, Bool, true, false, []}
use Rattle.cops_model.specs.Cluster.{SoloCluster}
use Rattle.cops_model.specs.Setups.{Setup}
use Rattle.cops_script.specs.Acting.{IsNew}
use Rattle.cops_script.specs.Answers.{Answer, is_lack}
use Rattle.cops_script.specs.BodyRules.{BodyRules}
use Rattle.cops_script.specs.Doing.{IsDone}
use Rattle.cops_script.specs.LineRules.{LineRules}
use Rattle.cops_script.specs.Said.{Said, said_in}
use Rattle.cops_script.specs.declared.scripts.BadConfig.{BadConfig}
use Rattle.cops_script.specs.declared.silent_machine.SilentLines.{SilentLines}

module _ {W : Type 0} (setup : W → Setup) (StandsFor : W → ℕ → SoloCluster → Type 0) where
  -- it is done, and the answer says that memory ran out, or doesn't
  abbrev pub IsDoneSo : Bool → W → Said → W → Type 0
  IsDoneSo lacks old said new = (answer : Answer) × IsDone setup StandsFor old said answer new × (is_lack answer ≡ lacks)

  -- it is done, and memory was there
  abbrev pub IsDoneWhole : W → Said → W → Type 0
  IsDoneWhole = IsDoneSo false

  -- memory ran out, and nothing more is done than the answer that says so allows
  abbrev pub HasLacked : W → Said → W → Type 0
  HasLacked = IsDoneSo true

  -- nothing is written, and no line is refused
  abbrev pub silent_lines : LineRules W BadConfig
  silent_lines = record {
    answers = λ old line text new. (text ≡ []) × IsDoneWhole old (said_in (setup old).tenants line) new;
    refuses = λ old line bad. ⊥;
    ends = λ old text new. (text ≡ []) × (new ≡ old);
    refuses_end = λ old bad. ⊥;
  }

  abbrev pub silent_rules : BodyRules SilentLines W BadConfig
  silent_rules = record {
    starts = λ body config world. IsNew setup StandsFor config world;
    refuses_start = λ body config bad. ⊥;
    lines = λ body. silent_lines;
    bad_head = λ bad. bad;
  }
