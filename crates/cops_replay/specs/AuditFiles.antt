-- The answer to each line of an audit, and the state after it, for any body behind the head.
use Rattle.std.specs.Prelude.{ℕ, List, ◌≡◌, ◌⊎◌, Bool, true, false, [], Some, None}
use Rattle.cops_types.specs.declared.configs.Config.{Config}
use Rattle.cops_types.specs.Counts.{counted}
use Rattle.cops_types.specs.Head.{Front, AtStart, Within, Begun}
use Rattle.cops_script.specs.LineRules.{LineRules}
use Rattle.cops_script.specs.declared.scripts.BadConfig.{BadConfig}
use Rattle.cops_script.specs.LineAnswers.{Answers}
use Rattle.cops_replay.specs.declared.layouts.Layout.{Layout}
use Rattle.cops_replay.specs.declared.audit_machine.AuditFile.{AuditFile}
use Rattle.cops_replay.specs.declared.audit_machine.AuditFile.TheVariants.{Head, Records}
use Rattle.cops_replay.specs.declared.audit_machine.AuditMachine.{AuditMachine}
use Rattle.cops_replay.specs.declared.file_heads.FileHead.{FileHead}
use Rattle.cops_replay.specs.declared.layouts.Layout.TheVariants.{Today}
use Rattle.cops_replay.specs.FileHeads.{ContinuesBy, IsFileHeadAt, count_in, front_in, front_with_by, layout_in, tells_layout}

-- the rules of bodies of type B, with states of type R and refusals of type F
pub record AuditRules (B R F : Type 0) : Type 1 where
  -- a head of this layout and configuration is answered with this text, and starts this state
  pub starts : B → Layout → Config → List ℕ → R → Type 0
  -- or is refused with this value
  pub refuses_start : B → Layout → Config → F → Type 0
  -- the lines behind a head
  pub lines : B → LineRules R F
  -- the refusal of a bad head
  pub bad_head : BadConfig → F

-- the head is in this layout, and has come this far after this many lines
abbrev pub IsAtHead : {R : Type 0} → Layout → Front → ℕ → AuditFile R → Type 0
IsAtHead layout front count (Head head) = IsFileHeadAt layout front count head
IsAtHead layout front count (Records state) = ⊥

-- this line leads a head so far to the other, and nothing is appended
abbrev pub GoesOnAfter : FileHead → List ℕ → FileHead → List ℕ → List ℕ → Type 0
GoesOnAfter old line new before after = ContinuesBy old line new × (after ≡ before)

module _ {B R F : Type 0} (rules : AuditRules B R F) where
  -- ---- with this body

  module _ (body : B) where
    -- this line ends the head, and the body starts
    abbrev pub BeginsAfter : FileHead → List ℕ → R → List ℕ → List ℕ → Type 0
    BeginsAfter head line state before after =
        (config : Config) × (front_with_by (layout_in head) (front_in head) line ≡ Some (Begun config)) × Answers (rules.starts body (layout_in head) config) state before after

    -- with this line the head goes on, or the records begin
    abbrev pub GoesOn : Layout → ℕ → Front → List ℕ → AuditFile R → Type 0
    GoesOn layout count AtStart text new = ⊥
    GoesOn layout count (Within config) text new = (text ≡ []) × IsAtHead layout (Within config) (counted count) new
    GoesOn layout count (Begun config) text new = (state : R) × rules.starts body layout config text state × (new ≡ Records state)

    -- the line may follow in the head; it may be the first and name today's layout
    abbrev pub head_answers : Bool → FileHead → List ℕ → List ℕ → AuditFile R → Type 0
    head_answers true head line text new = (text ≡ []) × IsAtHead Today AtStart 1 new
    head_answers false head line text new = (next : Front) × (front_with_by (layout_in head) (front_in head) line ≡ Some next) × GoesOn (layout_in head) (count_in head) next text new

    -- the line may not follow in the head, or it ends a head that the body refuses
    abbrev pub head_refuses : FileHead → List ℕ → F → Type 0
    head_refuses head line refusal =
        ((bad : BadConfig) × (front_with_by (layout_in head) (front_in head) line ≡ None) × (bad.line ≡ counted (count_in head)) × (refusal ≡ rules.bad_head bad))
        ⊎ ((config : Config) × (front_with_by (layout_in head) (front_in head) line ≡ Some (Begun config)) × rules.refuses_start body (layout_in head) config refusal)

    abbrev pub line_answers : AuditFile R → List ℕ → List ℕ → AuditFile R → Type 0
    line_answers (Head head) line text new = head_answers (tells_layout (layout_in head) (count_in head) line) head line text new
    line_answers (Records old) line text new = (after : R) × (rules.lines body).answers old line text after × (new ≡ Records after)

    abbrev pub line_refuses : AuditFile R → List ℕ → F → Type 0
    line_refuses (Head head) line refusal = (tells_layout (layout_in head) (count_in head) line ≡ false) × head_refuses head line refusal
    line_refuses (Records old) line refusal = (rules.lines body).refuses old line refusal

    abbrev pub end_answers : AuditFile R → List ℕ → AuditFile R → Type 0
    end_answers (Head head) text new = ⊥
    end_answers (Records old) text new = (after : R) × (rules.lines body).ends old text after × (new ≡ Records after)

    -- a head that has not ended is bad at the line after its last
    abbrev pub end_refuses : AuditFile R → F → Type 0
    end_refuses (Head head) refusal = (bad : BadConfig) × (bad.line ≡ counted (count_in head)) × (refusal ≡ rules.bad_head bad)
    end_refuses (Records old) refusal = (rules.lines body).refuses_end old refusal

    abbrev pub rules_in : LineRules (AuditFile R) F
    rules_in = record { answers = line_answers; refuses = line_refuses; ends = end_answers; refuses_end = end_refuses }

  -- ---- with the body that it has

  abbrev pub audit_rules : LineRules (AuditMachine B R) F
  audit_rules = record {
    answers = λ old line text new. (new.body ≡ old.body) × line_answers old.body old.file line text new.file;
    refuses = λ old line refusal. line_refuses old.body old.file line refusal;
    ends = λ old text new. (new.body ≡ old.body) × end_answers old.body old.file text new.file;
    refuses_end = λ old refusal. end_refuses old.body old.file refusal;
  }
