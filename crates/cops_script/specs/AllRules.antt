-- The answers to the lines behind the head of a script, with all tenants in one world.
use Rattle.std.specs.Prelude.{◌≡◌, ℕ, List, []}
use Rattle.cops_model.specs.Cluster.{SoloCluster}
use Rattle.cops_model.specs.Setups.{Setup}
use Rattle.cops_script.specs.Acting.{IsNew}
use Rattle.cops_script.specs.Answers.{Answer, slot_line}
use Rattle.cops_script.specs.BodyRules.{BodyRules}
use Rattle.cops_script.specs.Doing.{IsDone}
use Rattle.cops_script.specs.LineRules.{LineRules}
use Rattle.cops_script.specs.Said.{Said, said_in}
use Rattle.cops_script.specs.declared.script_machine.AllLines.{AllLines}
use Rattle.cops_script.specs.declared.scripts.BadConfig.{BadConfig}

module _ {W : Type 0} (setup : W → Setup) (StandsFor : W → ℕ → SoloCluster → Type 0) where
  -- the line's request is done, and this is the answer
  abbrev pub IsAnswered : W → Said → List ℕ → W → Type 0
  IsAnswered old said text new = (answer : Answer) × IsDone setup StandsFor old said answer new × (text ≡ slot_line (setup old).tenants answer)

  -- no line is refused, and the end has an empty answer
  abbrev pub all_lines : LineRules W BadConfig
  all_lines = record {
    answers = λ old line text new. IsAnswered old (said_in (setup old).tenants line) text new;
    refuses = λ old line bad. ⊥;
    ends = λ old text new. (text ≡ []) × (new ≡ old);
    refuses_end = λ old bad. ⊥;
  }

  abbrev pub all_rules : BodyRules AllLines W BadConfig
  all_rules = record {
    starts = λ body config world. IsNew setup StandsFor config world;
    refuses_start = λ body config bad. ⊥;
    lines = λ body. all_lines;
    bad_head = λ bad. bad;
  }
