-- What is written for a script comes of the rules of all its lines.
use Rattle.std.proofs.Common.{◌≡◌, ℕ, suc, ◌<◌, List, [], ◌∷◌, ◌++◌, length, map, inl, inr, refl, sym, subst, ap, ◌∙◌, append-nil}
use Rattle.std.specs.Prelude.{Option, Some, None, IfSome, flat_map}
use Rattle.std.specs.Io.KnownBytes.{Appends, Keeps}
use Rattle.cops_types.specs.declared.configs.Config.{Config}
use Rattle.cops_script.specs.declared.head_machine.ScriptMachine.{ScriptMachine}
use Rattle.cops_script.specs.declared.line_runs.fault.RunFault.{RunFault}
use Rattle.cops_script.specs.declared.script_machine.AllLines.{AllLines}
use Rattle.cops_script.specs.declared.scripts.BadConfig.{BadConfig}
use Rattle.cops_types.specs.Head.{AtStart, Begun, BadAt, Says, head_of}
use Rattle.cops_script.specs.LineRules.{Run}
use Rattle.cops_script.specs.LineRuns.{AnswersAll, IfRunRefused, StopsEarly}
use Rattle.cops_types.specs.Lines.{lines_of, cut_line, longest_line}
use Rattle.cops_types.specs.OpenSlots.{begun_with}
use Rattle.cops_types.proofs.FrontLemmas.{head_of-says}
use Rattle.cops_types.proofs.HeadLengths.{AreGood}
use Rattle.cops_script.proofs.KnownLemmas.{by_known}
use Rattle.cops_model.specs.Cluster.{SoloCluster}
use Rattle.cops_script.specs.Lives.{Lives, first_lives, lives_after}
use Rattle.cops_script.specs.Said.{said_in, tenants_after}
use Rattle.cops_model.specs.Setups.{Setup}
use Rattle.cops_script.specs.Acting.{IsNew}
use Rattle.cops_script.specs.AllRules.{all_lines, all_rules}
use Rattle.cops_script.specs.Answers.{Answer, answer_line, slot_line}
use Rattle.cops_script.specs.Doing.{IsDone}
use Rattle.cops_script.specs.HeadRules.{IsHeadAt}
use Rattle.cops_script.specs.OpenNames.{AreOpenNamed}
use Rattle.cops_script.specs.ScriptRules.{script_rules}
use Rattle.cops_script.specs.ScriptRuns.{AnswersScript, AreAnswered, WritesFront, WritesScript, config_told, heard, lives_told, said_from, said_told}
use Rattle.cops_script.proofs.BodyRuns.{Behind, RefusedBy, BadHead, NotBegun, AtLine, AtEnd, all_answered, front_answered, refused, unwritten as unwritten_in}
use Rattle.cops_script.proofs.CutLemmas.{said_in-cut}
use Rattle.cops_script.proofs.HeadRuns.{named_of}
use Rattle.cops_script.proofs.LifeAnswers.{are_answered, for_all}
use Rattle.cops_script.proofs.LifeLines.{done_setup, heard_named, heard_placed, line_of_life}
use Rattle.cops_script.proofs.LifeRuns.{AreFor, AreGiven, answer_of, for_next, given_nothing, given_one}
use Rattle.cops_script.proofs.Meanings.{are_meant}
use Rattle.cops_script.proofs.Numbered.{ArePlaced}
use Rattle.cops_script.proofs.ScriptHeadLemmas.{head_whole}
use Rattle.cops_script.proofs.SaidLines.{named_after, named_begun, said_in-named, said_in-placed}
use Rattle.cops_script.proofs.WholeHeads.{shards_of}

-- ---- the answers after the head

module _ {W : Type 0} (setup : W → Setup) (StandsFor : W → ℕ → SoloCluster → Type 0) where
  -- what was answered to lines, by lives, and what was written
  pub record RunsOn (old : W) (lives : Lives) (lines : List (List ℕ)) (text : List ℕ) (new : W) : Type 0 where
    pub told : List Answer
    pub each : length told ≡ length lines
    pub given : AreGiven setup StandsFor old lives (said_from (setup old).tenants lines told) told new
    pub placed : ArePlaced (setup old).tenants (said_from (setup old).tenants lines told)
    pub whole : (config : Config) → AreFor config (setup old) lives (said_from (setup old).tenants lines told) → text ≡ flat_map (answer_line config.tenants) told

  abbrev pub one_more : (line : List ℕ) (lines : List (List ℕ)) (first later text : List ℕ) (old after new : W) (lives : Lives) (answer : Answer) → IsDone setup StandsFor old (said_in (setup old).tenants line) answer after →
      first ≡ slot_line (setup old).tenants answer → text ≡ first ++ later → RunsOn after (lives_after lives (heard (said_in (setup old).tenants line) (answer_of lives answer))) lines later new → RunsOn old lives (line ∷ lines) text new
  one_more line lines first later text old after new lives answer done is whole p =
      let said = said_in (setup old).tenants line in
      let one = heard said (answer_of lives answer) in
      let moved = done_setup setup StandsFor old after lives said answer done in
      let more = said_from (tenants_after (setup old).tenants one) lines p.told in
      let placed = heard_placed (setup old).tenants said (answer_of lives answer) (said_in-placed (setup old).tenants line) in
      let given = subst (λ (s : Setup). AreGiven setup StandsFor after (lives_after lives one) (said_from s.tenants lines p.told) p.told new) moved p.given in
      record {
        told = answer_of lives answer ∷ p.told;
        each = ap suc p.each;
        given = given_one setup StandsFor old after new lives more p.told said answer done given;
        placed = (placed, subst (λ (s : Setup). ArePlaced s.tenants (said_from s.tenants lines p.told)) moved p.placed);
        whole = λ config for.
            let here = is ∙ line_of_life setup StandsFor old after lives said answer config done (said_in-placed (setup old).tenants line) for.numbered in
            let next = for_next config (setup old) (setup after) lives one more moved for in
            let rest = p.whole config (subst (λ (s : Setup). AreFor config (setup after) (lives_after lives one) (said_from s.tenants lines p.told)) (sym moved) next) in
            whole ∙ (λ i. here i ++ rest i);
      }

  abbrev pub runs_nothing : (old : W) (lives : Lives) → RunsOn old lives [] [] old
  runs_nothing old lives = record { told = []; each = refl; given = given_nothing setup StandsFor old lives; placed = tt; whole = λ config for. refl }

  -- each of these lines is answered
  running : (lines : List (List ℕ)) (old : W) (lives : Lives) (text : List ℕ) (new : W) → AreOpenNamed (setup old).tenants → Run (all_lines setup StandsFor) old (map (cut_line longest_line) lines) text new → RunsOn old lives lines text new
  running [] old lives text new named h = subst (λ w. RunsOn old lives [] text w) (sym h.1) (subst (λ t. RunsOn old lives [] t old) (sym h.0) (runs_nothing old lives))
  running (line ∷ lines) old lives text new named (first, after, later, (answer, done, is), run, whole) =
      let said = said_in (setup old).tenants line in
      let done' = subst (λ s. IsDone setup StandsFor old s answer after) (said_in-cut (setup old).tenants line named) done in
      let one = heard said (answer_of lives answer) in
      let moved = done_setup setup StandsFor old after lives said answer done' in
      let named' = subst (λ (s : Setup). AreOpenNamed s.tenants) (sym moved) (named_after (setup old).tenants one named (heard_named (setup old).tenants said (answer_of lives answer) (said_in-named (setup old).tenants line))) in
      one_more line lines first later text old after new lives answer done' is whole (running lines after (lives_after lives one) later new named' run)

  -- the tenants of a new world have names
  pub named_at : (config : Config) (world : W) → IsNew setup StandsFor config world → AreGood (Begun config) → AreOpenNamed (setup world).tenants
  named_at config world fresh good = subst (λ (s : Setup). AreOpenNamed s.tenants) (sym fresh.setup_is) (named_begun config.tenants (named_of config good))

  -- ---- the whole script

  -- what was said in a new world was said by lines after a head
  module _ (config : Config) (world : W) (rest : List (List ℕ)) (text : List ℕ) (new : W) (fresh : IsNew setup StandsFor config world) (p : RunsOn world (first_lives config) rest text new) where
    pub given_at : AreGiven setup StandsFor world (first_lives config) (said_told config rest p.told) p.told new
    given_at = subst (λ (s : Setup). AreGiven setup StandsFor world (first_lives config) (said_from s.tenants rest p.told) p.told new) fresh.setup_is p.given

    pub placed_at : ArePlaced (begun_with config.tenants) (said_told config rest p.told)
    placed_at = subst (λ (s : Setup). ArePlaced s.tenants (said_from s.tenants rest p.told)) fresh.setup_is p.placed

    back : (whole : Config) → AreFor whole (setup world) (first_lives config) (said_told config rest p.told) → AreFor whole (setup world) (first_lives config) (said_from (setup world).tenants rest p.told)
    back whole for = subst (λ (s : Setup). AreFor whole (setup world) (first_lives config) (said_from s.tenants rest p.told)) (sym fresh.setup_is) for

  pub given_answered : (config : Config) (world : W) (rest : List (List ℕ)) (text : List ℕ) (new : W) → 0 < config.shards → IsNew setup StandsFor config world → (p : RunsOn world (first_lives config) rest text new) →
      AreAnswered (config_told config rest p.told) (lives_told config rest p.told) p.told
  given_answered config world rest text new some fresh p = are_answered setup StandsFor config world rest p.told new some fresh (given_at config world rest text new fresh p) (placed_at config world rest text new fresh p)

  pub given_text : (config : Config) (world : W) (rest : List (List ℕ)) (text : List ℕ) (new : W) → IsNew setup StandsFor config world → (p : RunsOn world (first_lives config) rest text new) →
      text ≡ flat_map (answer_line (config_told config rest p.told).tenants) p.told
  given_text config world rest text new fresh p =
      p.whole (config_told config rest p.told)
      (back config world rest text new fresh p (config_told config rest p.told) (for_all setup StandsFor config world rest p.told fresh (placed_at config world rest text new fresh p)))

  -- ---- what is written

  abbrev pub Past : AllLines → List ℕ → List (List ℕ) → List ℕ → W → Type 0
  Past body bytes others text new = Behind (all_rules setup StandsFor) body bytes others text new

  ran : (body : AllLines) (bytes : List ℕ) (others : List (List ℕ)) (text : List ℕ) (new : W) → (b : Past body bytes others text new) → RunsOn b.first (first_lives b.config) b.lines text new
  ran body bytes others text new b = running b.lines b.first (first_lives b.config) text new (named_at b.config b.first b.starts b.good) b.run

  module _ (old_contents new_contents : Option (List ℕ)) (body : AllLines) (bytes text : List ℕ) (new : W) where
    -- the answers to the lines that were read
    answers_script : (others : List (List ℕ)) → Past body bytes others text new → AnswersScript bytes others text
    answers_script others b =
        let p = ran body bytes others text new b in
        let head = subst (Says (lines_of bytes)) b.head (head_of-says (lines_of bytes)) in
        record {
          head = head.0;
          lines = b.lines;
          whole = head.2;
          config = b.config;
          begins = head_whole head.0 b.config head.1;
          said = said_told b.config b.lines p.told;
          meant = are_meant (begun_with b.config.tenants) b.lines p.told (named_begun b.config.tenants (named_of b.config b.good)) p.each;
          told = p.told;
          answered = given_answered b.config b.first b.lines text new (shards_of (lines_of bytes) b.config (b.lines ++ others) b.head) b.starts p;
          has_answers = given_text b.config b.first b.lines text new b.starts p;
        }

    whole_written : Past body bytes [] text new → Appends old_contents new_contents text → WritesScript bytes old_contents new_contents
    whole_written b written = (text, answers_script [] b, written)

  module _ (old_contents new_contents new_remaining : Option (List ℕ)) (begins : ScriptMachine AllLines W) (begun : IsHeadAt AtStart 0 begins.script) where
    abbrev StopsAt : Option (List ℕ) → RunFault BadConfig → Type 0
    StopsAt known why = StopsEarly (script_rules (all_rules setup StandsFor)) longest_line known new_remaining begins old_contents new_contents why

    pub all_written : (new : ScriptMachine AllLines W) (known : Option (List ℕ)) → AnswersAll (script_rules (all_rules setup StandsFor)) longest_line known new_remaining begins new old_contents new_contents →
        IfSome known (λ bytes. WritesScript bytes old_contents new_contents)
    all_written new known p =
        let e = all_answered (all_rules setup StandsFor) begins.body old_contents new_contents known new_remaining begins refl begun new p in
        by_known (λ bytes. WritesScript bytes old_contents new_contents) known new_remaining p.input p.read p.at_end
        (whole_written old_contents new_contents begins.body p.input p.text e.mid e.behind (subst (Appends old_contents new_contents) (ap (λ l. p.text ++ l) e.ended.0 ∙ append-nil p.text) p.written))

    pub front_written : (known : Option (List ℕ)) (why : RunFault BadConfig) → StopsAt known why → IfSome known (λ bytes. WritesFront bytes old_contents new_contents)
    front_written None why p = tt
    front_written (Some bytes) why p =
        elim (front_answered (all_rules setup StandsFor) begins.body old_contents new_contents (Some bytes) new_remaining begins refl begun (λ body old text new h. h.0) (Some bytes) why p) [
          | inl nothing ↦ inl nothing
          | inr (others, text, new, behind, (rest, written)) ↦ inr (
            others,
            written.written,
            rest,
            subst (AnswersScript bytes others) written.whole (answers_script old_contents new_contents begins.body bytes text new others behind),
            written.appended,
          )
        ]

    -- ---- a bad head

    bad_by : (bytes : List ℕ) (bad : BadConfig) → RefusedBy (all_rules setup StandsFor) begins.body bytes bad → head_of (lines_of bytes) ≡ BadAt bad.line
    bad_by bytes bad (BadHead other is head) = head ∙ ap (λ (b : BadConfig). BadAt b.line) (sym is)
    bad_by bytes bad (NotBegun config lines head refused) = absurd refused
    bad_by bytes bad (AtLine state line refused) = absurd refused
    bad_by bytes bad (AtEnd text state behind refused) = absurd refused

    pub bad_head : (known : Option (List ℕ)) (why : RunFault BadConfig) → StopsAt known why → IfRunRefused why (λ bad. IfSome known (λ bytes. head_of (lines_of bytes) ≡ BadAt bad.line))
    bad_head known why p = refused (all_rules setup StandsFor) begins.body old_contents new_contents known new_remaining begins refl begun (λ bytes bad. head_of (lines_of bytes) ≡ BadAt bad.line) bad_by known why p

    pub unwritten : (known : Option (List ℕ)) (why : RunFault BadConfig) → StopsAt known why → IfRunRefused why (λ bad. Keeps old_contents new_contents)
    unwritten known why p =
        unwritten_in (all_rules setup StandsFor) begins.body old_contents new_contents known new_remaining begins refl begun (λ world. ⊥) (λ old line text new h here. absurd here) (λ state line bad h. h) (λ state bad h. h) known why p
