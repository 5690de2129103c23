-- What a script whose replies are not written leaves.
use Rattle.std.proofs.Common.{◌≡◌, ℕ, Bool, true, false, ◌||◌, List, [], ◌∷◌, ◌++◌, map, refl, sym, subst, ap, ◌∙◌, append-nil}
use Rattle.std.specs.Prelude.{Option, IfSome}
use Rattle.std.specs.List.{list_any}
use Rattle.cops_script.specs.declared.head_machine.ScriptMachine.{ScriptMachine}
use Rattle.cops_script.specs.declared.line_runs.fault.RunFault.{RunFault}
use Rattle.cops_script.specs.declared.line_runs.fault.RunFault.TheVariants as fault
use Rattle.cops_script.specs.declared.scripts.BadConfig.{BadConfig}
use Rattle.cops_script.specs.declared.scripts.Script.{Script}
use Rattle.cops_script.specs.declared.scripts.Script.TheVariants.{Running}
use Rattle.cops_script.specs.declared.silent_machine.SilentLines.{SilentLines}
use Rattle.cops_types.specs.Head.{AtStart, Whole, BadAt, head_of}
use Rattle.cops_script.specs.LineRules.{Run}
use Rattle.cops_script.specs.LineRuns.{AnswersAll, IfRunRefused, StopsEarly}
use Rattle.cops_types.specs.Lines.{lines_of, cut_line, longest_line}
use Rattle.cops_model.specs.Cluster.{SoloCluster}
use Rattle.cops_script.specs.Lives.{Lives, first_lives, lives_after}
use Rattle.cops_script.specs.Said.{said_in}
use Rattle.cops_model.specs.Setups.{Setup}
use Rattle.cops_script.specs.Answers.{Answer, is_lack, slot_line}
use Rattle.cops_script.specs.Doing.{IsDone}
use Rattle.cops_script.specs.HeadRules.{IsHeadAt}
use Rattle.cops_script.specs.OpenNames.{AreOpenNamed}
use Rattle.cops_script.specs.ScriptRules.{script_rules}
use Rattle.cops_script.specs.ScriptRuns.{AreSpared, heard}
use Rattle.cops_script.specs.ScriptWorlds.{IsLeftBy, IsLeftByRead, IsRunning}
use Rattle.cops_script.specs.SilentRules.{IsDoneWhole, silent_lines, silent_rules}
use Rattle.cops_script.proofs.BodyRuns.{Ended, RefusedBy, BadHead, NotBegun, AtLine, AtEnd, all_answered, never_written as never_written_in, refused}
use Rattle.cops_script.proofs.CutLemmas.{said_in-cut}
use Rattle.cops_script.proofs.KnownLemmas.{by_known}
use Rattle.cops_script.proofs.LifeAnswers.{left_standing}
use Rattle.cops_script.proofs.LifeLines.{done_setup, heard_named, lack_of_life}
use Rattle.cops_script.proofs.LifeRuns.{answer_of}
use Rattle.cops_script.proofs.SaidLines.{named_after, said_in-named}
use Rattle.cops_script.proofs.ScriptLemmas.{RunsOn, given_at, named_at, one_more, runs_nothing}

module _ {W : Type 0} (setup : W → Setup) (StandsFor : W → ℕ → SoloCluster → Type 0) where
  -- lines were done, and memory was not refused; this would have been written
  record AreDone (old : W) (lives : Lives) (lines : List (List ℕ)) (new : W) : Type 0 where
    text : List ℕ
    run : RunsOn setup StandsFor old lives lines text new
    spared : AreSpared run.told

  both_spared : (a b : Bool) → a ≡ false → b ≡ false → (a || b) ≡ false
  both_spared true b e f = e
  both_spared false b e f = f

  done_more : (line : List ℕ) (lines : List (List ℕ)) (old after new : W) (lives : Lives) (answer : Answer) → IsDone setup StandsFor old (said_in (setup old).tenants line) answer after → is_lack answer ≡ false →
      AreDone after (lives_after lives (heard (said_in (setup old).tenants line) (answer_of lives answer))) lines new → AreDone old lives (line ∷ lines) new
  done_more line lines old after new lives answer done fine p =
      let first = slot_line (setup old).tenants answer in
      record {
        text = first ++ p.text;
        run = one_more setup StandsFor line lines first p.text (first ++ p.text) old after new lives answer done refl refl p.run;
        spared = both_spared (is_lack (answer_of lives answer)) (list_any is_lack p.run.told) (lack_of_life lives answer ∙ fine) p.spared;
      }

  -- each of these lines is done
  running : (lines : List (List ℕ)) (old : W) (lives : Lives) (text : List ℕ) (new : W) → AreOpenNamed (setup old).tenants → Run (silent_lines setup StandsFor) old (map (cut_line longest_line) lines) text new → AreDone old lives lines new
  running [] old lives text new named h = subst (λ w. AreDone old lives [] w) (sym h.1) (record { text = []; run = runs_nothing setup StandsFor old lives; spared = refl })
  running (line ∷ lines) old lives text new named (first, after, later, (silent, did), run, whole) =
      let said = said_in (setup old).tenants line in
      let done = subst (λ s. IsDoneWhole setup StandsFor old s after) (said_in-cut (setup old).tenants line named) did in
      let answer = done.0 in
      let one = heard said (answer_of lives answer) in
      let moved = done_setup setup StandsFor old after lives said answer done.1 in
      let named' = subst (λ (s : Setup). AreOpenNamed s.tenants) (sym moved) (named_after (setup old).tenants one named (heard_named (setup old).tenants said (answer_of lives answer) (said_in-named (setup old).tenants line))) in
      done_more line lines old after new lives answer done.1 done.2 (running lines after (lives_after lives one) later new named' run)

  -- ---- the whole script

  module _ (old_contents new_contents old_remaining new_remaining : Option (List ℕ)) (begins : ScriptMachine SilentLines W) (begun : IsHeadAt AtStart 0 begins.script) where
    abbrev Reads : ScriptMachine SilentLines W → Type 0
    Reads new = AnswersAll (script_rules (silent_rules setup StandsFor)) longest_line old_remaining new_remaining begins new old_contents new_contents

    abbrev StopsAt : RunFault BadConfig → Type 0
    StopsAt why = StopsEarly (script_rules (silent_rules setup StandsFor)) longest_line old_remaining new_remaining begins old_contents new_contents why

    ended : (new : ScriptMachine SilentLines W) → (p : Reads new) → Ended (silent_rules setup StandsFor) begins.body p.input p.text p.last new.script
    ended new p = all_answered (silent_rules setup StandsFor) begins.body old_contents new_contents old_remaining new_remaining begins refl begun new p

    pub is_running : (new : ScriptMachine SilentLines W) → Reads new → IsRunning new.script
    is_running new p = subst IsRunning (sym (ended new p).is) tt

    left_at : (bytes text last : List ℕ) (new : Script W) (world : W) → new ≡ Running world → Ended (silent_rules setup StandsFor) begins.body bytes text last new → IsLeftBy setup StandsFor bytes world
    left_at bytes text last new world is e =
        let b = e.behind in
        let done = running b.lines b.first (first_lives b.config) text e.mid (named_at setup StandsFor b.config b.first b.starts b.good) b.run in
        let same : Running e.after ≡ Running world = sym e.is ∙ is in
        let one : e.mid ≡ world = sym e.ended.1 ∙ (let here : e.after ≡ world = cc in here) in
        let p = done.run in
        let left = left_standing setup StandsFor b.config b.first b.lines p.told e.mid b.starts (given_at setup StandsFor b.config b.first b.lines done.text e.mid b.starts p) p.each done.spared in
        subst (IsLeftBy setup StandsFor bytes) one
        (record { config = b.config; lines = b.lines; head = b.head ∙ ap (Whole b.config) (append-nil b.lines); setup_is = left.0; clusters = left.1 })

    pub left_by_read : (new : ScriptMachine SilentLines W) (world : W) → new.script ≡ Running world → Reads new → IsLeftByRead setup StandsFor old_remaining new_remaining world
    left_by_read new world is p = record { bytes = p.input; read = p.read; left = left_at p.input p.text p.last new.script world is (ended new p) }

    pub left_by : (new : ScriptMachine SilentLines W) (world : W) → new.script ≡ Running world → Reads new → IfSome old_remaining (λ bytes. IsLeftBy setup StandsFor bytes world)
    left_by new world is p =
        by_known (λ bytes. IsLeftBy setup StandsFor bytes world) old_remaining new_remaining p.input p.read p.at_end (left_at p.input p.text p.last new.script world is (ended new p))

    -- ---- ends before the end

    bad_by : (bytes : List ℕ) (bad : BadConfig) → RefusedBy (silent_rules setup StandsFor) begins.body bytes bad → head_of (lines_of bytes) ≡ BadAt bad.line
    bad_by bytes bad (BadHead other is head) = head ∙ ap (λ (b : BadConfig). BadAt b.line) (sym is)
    bad_by bytes bad (NotBegun config lines head refused) = absurd refused
    bad_by bytes bad (AtLine state line refused) = absurd refused
    bad_by bytes bad (AtEnd text state behind refused) = absurd refused

    pub bad_head : (why : RunFault BadConfig) → StopsAt why → IfRunRefused why (λ bad. IfSome old_remaining (λ bytes. head_of (lines_of bytes) ≡ BadAt bad.line))
    bad_head why p =
        refused (silent_rules setup StandsFor) begins.body old_contents new_contents old_remaining new_remaining begins refl begun (λ bytes bad. head_of (lines_of bytes) ≡ BadAt bad.line) bad_by old_remaining why p

    -- nothing is written
    pub never_written : (why : RunFault BadConfig) → why ≡ fault.WriteFault → StopsAt why → ⊥
    never_written why is p =
        never_written_in (silent_rules setup StandsFor) begins.body old_contents new_contents old_remaining new_remaining begins refl begun (λ body old text new h. h.0) (λ body old line text new h. h.0) why is p
