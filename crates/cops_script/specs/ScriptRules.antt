-- The answer to each line of a script, and the state after it, for any body behind the head.
use Rattle.std.specs.Prelude.{◌≡◌, ℕ, ◌⊎◌, List, Some}
use Rattle.cops_types.specs.declared.configs.Config.{Config}
use Rattle.cops_types.specs.Counts.{counted}
use Rattle.cops_types.specs.Head.{Begun}
use Rattle.cops_types.specs.HeadReader.{front_with}
use Rattle.cops_script.specs.BodyRules.{BodyRules}
use Rattle.cops_script.specs.HeadRules.{HeadAnswers, HeadRefuses}
use Rattle.cops_script.specs.LineRules.{LineRules}
use Rattle.cops_script.specs.declared.head_machine.ScriptMachine.{ScriptMachine}
use Rattle.cops_script.specs.declared.scripts.BadConfig.{BadConfig}
use Rattle.cops_script.specs.declared.scripts.HeadSoFar.{HeadSoFar}
use Rattle.cops_script.specs.declared.scripts.Script.{Script}
use Rattle.cops_script.specs.declared.scripts.Script.TheVariants.{Head, Running}

module _ {B R F : Type 0} (rules : BodyRules B R F) where
  -- ---- with this body

  module _ (body : B) where
    abbrev pub line_answers : Script R → List ℕ → List ℕ → Script R → Type 0
    line_answers (Head head) line text new = HeadAnswers (rules.starts body) head line text new
    line_answers (Running old) line text new = (after : R) × (rules.lines body).answers old line text after × (new ≡ Running after)

    -- the line may not follow in the head, or it ends a head that the body refuses
    abbrev pub head_refuses : HeadSoFar → List ℕ → F → Type 0
    head_refuses head line refusal =
        ((bad : BadConfig) × HeadRefuses head line bad × (refusal ≡ rules.bad_head bad))
        ⊎ ((config : Config) × (front_with head.reader line ≡ Some (Begun config)) × rules.refuses_start body config refusal)

    abbrev pub line_refuses : Script R → List ℕ → F → Type 0
    line_refuses (Head head) line refusal = head_refuses head line refusal
    line_refuses (Running old) line refusal = (rules.lines body).refuses old line refusal

    abbrev pub end_answers : Script R → List ℕ → Script R → Type 0
    end_answers (Head head) text new = ⊥
    end_answers (Running old) text new = (after : R) × (rules.lines body).ends old text after × (new ≡ Running after)

    -- a head that has not ended is bad at the line after its last
    abbrev pub end_refuses : Script R → F → Type 0
    end_refuses (Head head) refusal = (bad : BadConfig) × (bad.line ≡ counted head.lines) × (refusal ≡ rules.bad_head bad)
    end_refuses (Running old) refusal = (rules.lines body).refuses_end old refusal

    abbrev pub rules_in : LineRules (Script R) F
    rules_in = record { answers = line_answers; refuses = line_refuses; ends = end_answers; refuses_end = end_refuses }

  -- ---- with the body that it has

  abbrev pub script_rules : LineRules (ScriptMachine B R) F
  script_rules = record {
    answers = λ old line text new. (new.body ≡ old.body) × line_answers old.body old.script line text new.script;
    refuses = λ old line refusal. line_refuses old.body old.script line refusal;
    ends = λ old text new. end_answers old.body old.script text new.script;
    refuses_end = λ old refusal. end_refuses old.body old.script refusal;
  }
