-- What the machine of a script comes to over a whole text, whatever runs behind its head.
use Rattle.std.proofs.Common.{◌≡◌, ℕ, ◌+◌, List, [], ◌∷◌, ◌++◌, map, false, ◌⊎◌, inl, inr, refl, sym, subst, ap, ◌∙◌, append_assoc, append-nil}
use Rattle.std.specs.Prelude.{Option, Some, None, IfSome}
use Rattle.std.specs.Io.KnownBytes.{Keeps}
use Rattle.cops_types.specs.declared.configs.Config.{Config}
use Rattle.cops_types.specs.Counts.{counted}
use Rattle.cops_types.specs.Head.{Front, AtStart, Within, Begun, is_begun, front_after, Whole, BadAt, head_of, reading_from}
use Rattle.cops_types.specs.HeadReader.{front_with}
use Rattle.cops_types.specs.Lines.{lines_of, cut_line, cut_lines, longest_line}
use Rattle.cops_types.specs.Sink.{AppendsFront}
use Rattle.cops_types.proofs.FrontLemmas.{front_after-is}
use Rattle.cops_types.proofs.HeadLengths.{AreGood, follows-good}
use Rattle.cops_script.specs.BodyRules.{BodyRules}
use Rattle.cops_script.specs.HeadRules.{GoesOn, IsHeadAt}
use Rattle.cops_script.specs.LineRules.{Run}
use Rattle.cops_script.specs.LineRuns.{AnswersAll, IfRunRefused, StopsEarly}
use Rattle.cops_script.specs.ScriptRules.{end_answers, end_refuses, line_answers, line_refuses, rules_in, script_rules}
use Rattle.cops_script.specs.declared.head_machine.ScriptMachine.{ScriptMachine}
use Rattle.cops_script.specs.declared.line_runs.fault.RunFault.{RunFault}
use Rattle.cops_script.specs.declared.line_runs.fault.RunFault.TheVariants as fault
use Rattle.cops_script.specs.declared.scripts.BadConfig.{BadConfig}
use Rattle.cops_script.specs.declared.scripts.Script.{Script}
use Rattle.cops_script.specs.declared.scripts.Script.TheVariants.{Head, Running}
use Rattle.cops_script.proofs.ApartTenants.{AreApart}
use Rattle.cops_script.proofs.HeadRuns.{IsCounted, apart_of_begun, bad_end, bad_first, counted-small, counted_next, cut_in_head, read_once, real_lines, start, wide}
use Rattle.cops_script.proofs.KnownLemmas.{AppendsFront-nil, Run-quiet, known_lines, known_whole, no_write_fault}

module _ {B R F : Type 0} (rules : BodyRules B R F) (body : B) where
  -- the machine keeps its body
  in_body : (lines : List (List ℕ)) (m : ScriptMachine B R) (text : List ℕ) (state : ScriptMachine B R) → m.body ≡ body → Run (script_rules rules) m lines text state → (state.body ≡ body) × Run (rules_in rules body) m.script lines text state.script
  in_body [] m text state same h = (ap (λ (s : ScriptMachine B R). s.body) h.1 ∙ same, (h.0, ap (λ (s : ScriptMachine B R). s.script) h.1))
  in_body (line ∷ lines) m text state same (first, mid, later, (kept, answered), run, whole) =
      let rest = in_body lines mid later state (kept ∙ same) run in
      (rest.0, (first, mid.script, later, subst (λ b. line_answers rules b m.script line first mid.script) same answered, rest.1, whole))

  -- past its head a script runs as its body does
  past_head : (lines : List (List ℕ)) (old : R) (text : List ℕ) (state : Script R) → Run (rules_in rules body) (Running old) lines text state → (new : R) × (state ≡ Running new) × Run (rules.lines body) old lines text new
  past_head [] old text state h = (old, h.1, (h.0, refl))
  past_head (line ∷ lines) old text state (first, mid, later, (after, answered, is), run, whole) =
      let rest = past_head lines after later state (subst (λ m. Run (rules_in rules body) m lines later state) is run) in
      (rest.0, rest.1, (first, after, later, answered, rest.2, whole))

  -- ---- the lines of a head

  -- a run that begins in the head ends in it, or past it
  data HeadRun (front : Front) (count : ℕ) (lines : List (List ℕ)) (text : List ℕ) (state : Script R) : Type 0 where
    InHead : (next : Front) (later : ℕ) → IsCounted next later → is_begun next ≡ false → IsHeadAt next later state → text ≡ []
        → ((others : List (List ℕ)) → reading_from (lines ++ others) (count + 1) front ≡ reading_from others (later + 1) next) → HeadRun front count lines text state
    PastHead : (config : Config) (rest : List (List ℕ)) (first new : R) → AreGood (Begun config) → AreApart config.tenants → rules.starts body config first → state ≡ Running new
        → Run (rules.lines body) first (map (cut_line longest_line) rest) text new
        → ((others : List (List ℕ)) → reading_from (lines ++ others) (count + 1) front ≡ Whole config (rest ++ others)) → HeadRun front count lines text state

  -- one line of the head, and what the run does from there
  head_line : (line : List ℕ) (lines : List (List ℕ)) (front : Front) (count : ℕ) (text : List ℕ) (state : Script R) (first later : List ℕ) (mid : Script R) (next : Front) →
      IsCounted front count → is_begun front ≡ false → front_after front line ≡ Some next → first ≡ [] → GoesOn (rules.starts body) count next mid →
      Run (rules_in rules body) mid (map (cut_line longest_line) lines) later state → text ≡ first ++ later →
      ((on : Front) (n : ℕ) (m : Script R) → IsCounted on n → is_begun on ≡ false → IsHeadAt on n m → Run (rules_in rules body) m (map (cut_line longest_line) lines) text state → HeadRun on n lines text state) →
      HeadRun front count (line ∷ lines) text state
  head_line line lines front count text state first later mid AtStart c still e silent goes run whole on_from = absurd goes
  head_line line lines front count text state first later mid (Within config) c still e silent goes run whole on_from =
      let n = counted_next front count line config c e in
      let text_is : later ≡ text = sym (whole ∙ ap (λ t. t ++ later) silent) in
      one_more (on_from (Within config) (counted count) mid n refl goes (subst (λ t. Run (rules_in rules body) mid (map (cut_line longest_line) lines) t state) text_is run))
    where
      number : counted count + 1 ≡ count + 1 + 1
      number = ap (λ k. k + 1) (counted-small front count c)

      read_here : (others : List (List ℕ)) → reading_from (line ∷ lines ++ others) (count + 1) front ≡ reading_from (lines ++ others) (counted count + 1) (Within config)
      read_here others = read_once front (count + 1) line (lines ++ others) (Within config) still e ∙ ap (λ k. reading_from (lines ++ others) k (Within config)) (sym number)

      one_more : HeadRun (Within config) (counted count) lines text state → HeadRun front count (line ∷ lines) text state
      one_more (InHead next after n still is silent reads) = InHead next after n still is silent (λ others. read_here others ∙ reads others)
      one_more (PastHead found rest one new good apart starts is run reads) = PastHead found rest one new good apart starts is run (λ others. read_here others ∙ reads others)
  head_line line lines front count text state first later mid (Begun config) c still e silent (one, starts, is) run whole on_from =
      let text_is : later ≡ text = sym (whole ∙ ap (λ t. t ++ later) silent) in
      let follows = front_after-is front line (Begun config) e in
      let past = past_head (map (cut_line longest_line) lines) one text state (subst (λ t. Run (rules_in rules body) (Running one) (map (cut_line longest_line) lines) t state) text_is (subst (λ m. Run (rules_in rules body) m (map (cut_line longest_line) lines) later state) is run)) in
      PastHead config lines one past.0 (follows-good front line (Begun config) c.good follows) (apart_of_begun front line config c.apart follows) starts past.1 past.2
      (λ others. read_once front (count + 1) line (lines ++ others) (Begun config) still e)

  heads : (lines : List (List ℕ)) (front : Front) (count : ℕ) (s : Script R) (text : List ℕ) (state : Script R) → IsCounted front count → is_begun front ≡ false → IsHeadAt front count s →
      Run (rules_in rules body) s (map (cut_line longest_line) lines) text state → HeadRun front count lines text state
  heads [] front count s text state c still here h = InHead front count c still (subst (IsHeadAt front count) (sym h.1) here) h.0 (λ others. refl)
  heads (line ∷ lines) front count (Running run) text state c still here h = absurd here
  heads (line ∷ lines) front count (Head head) text state c still here (first, mid, later, (next, found, silent, goes), run, whole) =
      let found_here : front_after front line ≡ Some next = sym (cut_in_head longest_line wide front line) ∙ sym (ap (λ r. front_with r (cut_line longest_line line)) here.0) ∙ found in
      head_line line lines front count text state first later mid next c still found_here silent (subst (λ n. GoesOn (rules.starts body) n next mid) here.1 goes) run whole (λ n k m. heads lines n k m text state)

  -- ---- the whole text

  -- the first lines of the bytes are a head and these lines, with which the body came so far
  pub record Behind (bytes : List ℕ) (others : List (List ℕ)) (text : List ℕ) (new : R) : Type 0 where
    pub config : Config
    pub lines : List (List ℕ)
    pub head : head_of (lines_of bytes) ≡ Whole config (lines ++ others)
    pub good : AreGood (Begun config)
    pub apart : AreApart config.tenants
    pub first : R
    pub starts : rules.starts body config first
    pub run : Run (rules.lines body) first (map (cut_line longest_line) lines) text new

  -- the bytes are a script, and then the end is answered
  pub record Ended (bytes text last : List ℕ) (new : Script R) : Type 0 where
    pub mid : R
    pub behind : Behind bytes [] text mid
    pub after : R
    pub ended : (rules.lines body).ends mid last after
    pub is : new ≡ Running after

  -- the script is refused in its head or at the end of it, or by what runs behind it
  pub data RefusedBy (bytes : List ℕ) (refusal : F) : Type 0 where
    BadHead : (bad : BadConfig) → refusal ≡ rules.bad_head bad → head_of (lines_of bytes) ≡ BadAt bad.line → RefusedBy bytes refusal
    NotBegun : (config : Config) (lines : List (List ℕ)) → head_of (lines_of bytes) ≡ Whole config lines → rules.refuses_start body config refusal → RefusedBy bytes refusal
    AtLine : (state : R) (line : List ℕ) → (rules.lines body).refuses state line refusal → RefusedBy bytes refusal
    AtEnd : (text : List ℕ) (state : R) → Behind bytes [] text state → (rules.lines body).refuses_end state refusal → RefusedBy bytes refusal

  not_ended : (front : Front) (count : ℕ) (state new : Script R) (last : List ℕ) → IsHeadAt front count state → end_answers rules body state last new → ⊥
  not_ended front count (Head head) new last here ends = ends
  not_ended front count (Running run) new last here ends = here

  ended : (bytes text last : List ℕ) (machine new : Script R) → HeadRun AtStart 0 (lines_of bytes) text machine → end_answers rules body machine last new → Ended bytes text last new
  ended bytes text last machine new (InHead next later n still here silent reads) ends = absurd (not_ended next later machine new last here ends)
  ended bytes text last machine new (PastHead config rest first mid good apart starts at run reads) ends =
      let over = subst (λ s. end_answers rules body s last new) at ends in
      record {
        mid = mid;
        behind = record {
          config = config;
          lines = rest;
          head = ap head_of (sym (append-nil (lines_of bytes))) ∙ reads [];
          good = good;
          apart = apart;
          first = first;
          starts = starts;
          run = run;
        };
        after = over.0;
        ended = over.1;
        is = over.2;
      }

  module _ (old_contents new_contents old_remaining new_remaining : Option (List ℕ)) (begins : ScriptMachine B R) (is_body : begins.body ≡ body) (begun : IsHeadAt AtStart 0 begins.script) where
    from_head : (lines : List (List ℕ)) (text : List ℕ) (state : ScriptMachine B R) → Run (script_rules rules) begins (map (cut_line longest_line) lines) text state → (state.body ≡ body) × HeadRun AtStart 0 lines text state.script
    from_head lines text state run =
        let kept = in_body (map (cut_line longest_line) lines) begins text state is_body run in
        (kept.0, heads lines AtStart 0 begins.script text state.script start refl begun kept.1)

    pub all_answered : (new : ScriptMachine B R) → (p : AnswersAll (script_rules rules) longest_line old_remaining new_remaining begins new old_contents new_contents) → Ended p.input p.text p.last new.script
    all_answered new p =
        let ran = from_head (lines_of p.input) p.text p.machine p.run in
        ended p.input p.text p.last p.machine.script new.script ran.1 (subst (λ b. end_answers rules b p.machine.script p.last new.script) ran.0 p.ended)

    -- ---- ends before the end

    -- what stands if a run stopped: its real lines, and those that follow
    record Stopped (bytes : List ℕ) (others : List (List ℕ)) (text : List ℕ) (machine : ScriptMachine B R) : Type 0 where
      front : List (List ℕ)
      rest : List (List ℕ)
      whole : lines_of bytes ≡ front ++ rest
      others_are : others ≡ map (cut_line longest_line) rest
      kept : machine.body ≡ body
      ran : HeadRun AtStart 0 front text machine.script

    stopped : (bytes : List ℕ) (lines others : List (List ℕ)) (text : List ℕ) (machine : ScriptMachine B R) → cut_lines longest_line bytes ≡ lines ++ others → Run (script_rules rules) begins lines text machine → Stopped bytes others text machine
    stopped bytes lines others text machine e run =
        let real = real_lines longest_line (lines_of bytes) lines others e in
        let ran = from_head real.0 text machine (subst (λ ls. Run (script_rules rules) begins ls text machine) real.3 run) in
        record { front = real.0; rest = real.1; whole = real.2; others_are = real.4; kept = ran.0; ran = ran.1 }

    -- a run behind the head, as it stands in the bytes
    behind_in : (bytes : List ℕ) (front others : List (List ℕ)) (text : List ℕ) (config : Config) (lines : List (List ℕ)) (first new : R) → lines_of bytes ≡ front ++ others → AreGood (Begun config) → AreApart config.tenants →
        rules.starts body config first → Run (rules.lines body) first (map (cut_line longest_line) lines) text new → ((more : List (List ℕ)) → reading_from (front ++ more) 1 AtStart ≡ Whole config (lines ++ more)) → Behind bytes others text new
    behind_in bytes front others text config lines first new whole good apart starts run reads = record {
      config = config;
      lines = lines;
      head = ap head_of whole ∙ reads others;
      good = good;
      apart = apart;
      first = first;
      starts = starts;
      run = run;
    }

    -- nothing is written in the head
    abbrev pub IsFront : List ℕ → Type 0
    IsFront bytes = Keeps old_contents new_contents ⊎ ((others : List (List ℕ)) × (text : List ℕ) × (new : R) × Behind bytes others text new × AppendsFront old_contents new_contents text)

    front_of : (bytes : List ℕ) (others : List (List ℕ)) (text : List ℕ) (machine : ScriptMachine B R) → Stopped bytes others text machine → AppendsFront old_contents new_contents text → IsFront bytes
    front_of bytes others text machine s written = by_run s.ran
      where
        by_run : HeadRun AtStart 0 s.front text machine.script → IsFront bytes
        by_run (InHead next later n still here silent reads) = inl (AppendsFront-nil old_contents new_contents (subst (AppendsFront old_contents new_contents) silent written))
        by_run (PastHead config lines first new good apart starts at run reads) = inr (s.rest, text, new, behind_in bytes s.front s.rest text config lines first new s.whole good apart starts run reads, written)

    module _ (silent_end : (b : B) (old : R) (text : List ℕ) (new : R) → (rules.lines b).ends old text new → text ≡ []) where
      end_silent : (b : B) (state : Script R) (last : List ℕ) (new : Script R) → end_answers rules b state last new → last ≡ []
      end_silent b (Head head) last new h = absurd h
      end_silent b (Running run) last new h = silent_end b run last h.0 h.1

      pub front_answered : (known : Option (List ℕ)) (why : RunFault F) → StopsEarly (script_rules rules) longest_line known new_remaining begins old_contents new_contents why → IfSome known IsFront
      front_answered None why p = tt
      front_answered (Some bytes) why p =
          let found = known_lines longest_line bytes p.input new_remaining p.lines p.read p.first in
          let last : p.last ≡ [] = elim p.ended [ inl e ↦ e | inr (whole, new, ends) ↦ end_silent p.machine.body p.machine.script p.last new.script ends ] in
          front_of bytes found.0 p.text p.machine (stopped bytes p.lines found.0 p.text p.machine found.1 p.run)
          (subst (AppendsFront old_contents new_contents) (ap (λ l. p.text ++ l) last ∙ append-nil p.text) p.written)

      -- if no line is answered with anything, the writer is never seen to fail
      module _ (silent_line : (b : B) (old : R) (line text : List ℕ) (new : R) → (rules.lines b).answers old line text new → text ≡ []) where
        line_silent : (b : B) (old : Script R) (line text : List ℕ) (new : Script R) → line_answers rules b old line text new → text ≡ []
        line_silent b (Head head) line text new h = h.2
        line_silent b (Running run) line text new h = silent_line b run line text h.0 h.1

        pub never_written : (why : RunFault F) → why ≡ fault.WriteFault → StopsEarly (script_rules rules) longest_line old_remaining new_remaining begins old_contents new_contents why → ⊥
        never_written why is p =
            no_write_fault (script_rules rules) (λ old line text new h. line_silent old.body old.script line text new.script h.1) longest_line old_remaining new_remaining begins old_contents new_contents
            (λ machine text new h. end_silent machine.body machine.script text new.script h)
            (subst (StopsEarly (script_rules rules) longest_line old_remaining new_remaining begins old_contents new_contents) is p)

    -- ---- a refusal

    -- of a line in the head
    refused_in_head : (bytes : List ℕ) (front : List (List ℕ)) (real : List ℕ) (rest : List (List ℕ)) (next : Front) (later : ℕ) (state : Script R) (line : List ℕ) (refusal : F) → IsHeadAt next later state → counted later ≡ later + 1 → is_begun next ≡ false →
        lines_of bytes ≡ front ++ real ∷ rest → line ≡ cut_line longest_line real → ((others : List (List ℕ)) → reading_from (front ++ others) 1 AtStart ≡ reading_from others (later + 1) next) → line_refuses rules body state line refusal → RefusedBy bytes refusal
    refused_in_head bytes front real rest next later (Running run) line refusal here n still whole cut reads refused = absurd here
    refused_in_head bytes front real rest next later (Head head) line refusal here n still whole cut reads refused = elim refused [
      | inl (bad, (none, number), is) ↦
          BadHead bad is (ap head_of whole ∙ reads (real ∷ rest) ∙ bad_first next (later + 1) real rest still (seen ∙ none) ∙ ap BadAt (sym (number ∙ ap counted here.1 ∙ n)))
      | inr (config, ends, refuses) ↦ NotBegun config rest (ap head_of whole ∙ reads (real ∷ rest) ∙ read_once next (later + 1) real rest (Begun config) still (seen ∙ ends)) refuses
    ]
      where
        -- the whole line is seen as its first bytes are
        seen : front_after next real ≡ front_with head.reader line
        seen = sym (cut_in_head longest_line wide next real) ∙ ap (front_after next) (sym cut) ∙ sym (ap (λ r. front_with r line) here.0)

    -- of the end of the input there
    refused_at_end : (bytes : List ℕ) (front : List (List ℕ)) (next : Front) (later : ℕ) (state : Script R) (refusal : F) → IsHeadAt next later state → counted later ≡ later + 1 → is_begun next ≡ false → lines_of bytes ≡ front ++ [] →
        ((others : List (List ℕ)) → reading_from (front ++ others) 1 AtStart ≡ reading_from others (later + 1) next) → end_refuses rules body state refusal → RefusedBy bytes refusal
    refused_at_end bytes front next later (Running run) refusal here n still whole reads refused = absurd here
    refused_at_end bytes front next later (Head head) refusal here n still whole reads (bad, number, is) =
        BadHead bad is (ap head_of whole ∙ reads [] ∙ bad_end next (later + 1) still ∙ ap BadAt (sym (number ∙ ap counted here.1 ∙ n)))

    refusal_is : (bytes : List ℕ) (refusal : F) → StopsEarly (script_rules rules) longest_line (Some bytes) new_remaining begins old_contents new_contents (fault.Refused refusal) → RefusedBy bytes refusal
    refusal_is bytes refusal p = elim p.refused.1 [
      | inl (line, first, refused) ↦
          let found = known_lines longest_line bytes p.input new_remaining (p.lines ++ line ∷ []) p.read first in
          at_line line refused found.0 (stopped bytes p.lines (line ∷ found.0) p.text p.machine (found.1 ∙ append_assoc p.lines (line ∷ []) found.0) p.run)
      | inr (whole, refused) ↦
          let found = known_whole longest_line bytes p.input new_remaining p.lines p.read whole in
          at_end refused (stopped bytes p.lines [] p.text p.machine (found ∙ sym (append-nil p.lines)) p.run)
    ]
      where
        at_line : (line : List ℕ) → line_refuses rules p.machine.body p.machine.script line refusal → (others : List (List ℕ)) → Stopped bytes (line ∷ others) p.text p.machine → RefusedBy bytes refusal
        at_line line refused others s = by_run s.ran s.rest s.whole s.others_are
          where
            refused_here : line_refuses rules body p.machine.script line refusal
            refused_here = subst (λ b. line_refuses rules b p.machine.script line refusal) s.kept refused

            by_run : HeadRun AtStart 0 s.front p.text p.machine.script → (rest : List (List ℕ)) → lines_of bytes ≡ s.front ++ rest → line ∷ others ≡ map (cut_line longest_line) rest → RefusedBy bytes refusal
            by_run (PastHead config lines one new good apart starts at run reads) rest whole alike = AtLine new line (subst (λ m. line_refuses rules body m line refusal) at refused_here)
            by_run (InHead next later n still here silent reads) [] whole alike = cc
            by_run (InHead next later n still here silent reads) (real ∷ rest) whole alike =
                let cut : line ≡ cut_line longest_line real = cc in
                refused_in_head bytes s.front real rest next later p.machine.script line refusal here (counted-small next later n) still whole cut reads refused_here

        at_end : end_refuses rules p.machine.body p.machine.script refusal → Stopped bytes [] p.text p.machine → RefusedBy bytes refusal
        at_end refused s = by_run s.ran s.rest s.whole s.others_are
          where
            refused_here : end_refuses rules body p.machine.script refusal
            refused_here = subst (λ b. end_refuses rules b p.machine.script refusal) s.kept refused

            by_run : HeadRun AtStart 0 s.front p.text p.machine.script → (rest : List (List ℕ)) → lines_of bytes ≡ s.front ++ rest → [] ≡ map (cut_line longest_line) rest → RefusedBy bytes refusal
            by_run run (real ∷ rest) whole alike = cc
            by_run (PastHead config lines one new good apart starts at run reads) [] whole alike =
                AtEnd p.text new (behind_in bytes s.front [] p.text config lines one new whole good apart starts run reads) (subst (λ m. end_refuses rules body m refusal) at refused_here)
            by_run (InHead next later n still here silent reads) [] whole alike = refused_at_end bytes s.front next later p.machine.script refusal here (counted-small next later n) still whole reads refused_here

    pub refused : (P : List ℕ → F → Type 0) → ((bytes : List ℕ) (refusal : F) → RefusedBy bytes refusal → P bytes refusal) → (known : Option (List ℕ)) (why : RunFault F) →
        StopsEarly (script_rules rules) longest_line known new_remaining begins old_contents new_contents why → IfRunRefused why (λ refusal. IfSome known (λ bytes. P bytes refusal))
    refused P means None (fault.Refused refusal) p = tt
    refused P means (Some bytes) (fault.Refused refusal) p = means bytes refusal (refusal_is bytes refusal p)
    refused P means known fault.OutOfMemory p = tt
    refused P means known fault.ReadFault p = tt
    refused P means known fault.WriteFault p = tt

    -- what is refused has answered nothing, whatever its reader gave, if the body is so quiet in the states in which it refuses
    module _ (Quiet : R → Type 0) (before : (old : R) (line text : List ℕ) (new : R) → (rules.lines body).answers old line text new → Quiet new → Quiet old × (text ≡ []))
        (at_line : (state : R) (line : List ℕ) (refusal : F) → (rules.lines body).refuses state line refusal → Quiet state) (at_end : (state : R) (refusal : F) → (rules.lines body).refuses_end state refusal → Quiet state) where
      abbrev IsQuiet : Script R → Type 0
      IsQuiet (Head head) = Unit {0}
      IsQuiet (Running state) = Quiet state

      quiet_before : (old : Script R) (line text : List ℕ) (new : Script R) → line_answers rules body old line text new → IsQuiet new → IsQuiet old × (text ≡ [])
      quiet_before (Head head) line text new h here = (tt, h.2)
      quiet_before (Running state) line text new (after, answered, is) here = before state line text after answered (subst IsQuiet is here)

      quiet_at_line : (state : Script R) (line : List ℕ) (refusal : F) → line_refuses rules body state line refusal → IsQuiet state
      quiet_at_line (Head head) line refusal h = tt
      quiet_at_line (Running state) line refusal h = at_line state line refusal h

      quiet_at_end : (state : Script R) (refusal : F) → end_refuses rules body state refusal → IsQuiet state
      quiet_at_end (Head head) refusal h = tt
      quiet_at_end (Running state) refusal h = at_end state refusal h

      pub unwritten : (known : Option (List ℕ)) (why : RunFault F) → StopsEarly (script_rules rules) longest_line known new_remaining begins old_contents new_contents why → IfRunRefused why (λ refusal. Keeps old_contents new_contents)
      unwritten known (fault.Refused refusal) p =
          let kept = in_body p.lines begins p.text p.machine is_body p.run in
          let here : IsQuiet p.machine.script = elim p.refused.1 [
            | inl (line, first, refused) ↦ quiet_at_line p.machine.script line refusal (subst (λ b. line_refuses rules b p.machine.script line refusal) kept.0 refused)
            | inr (whole, refused) ↦ quiet_at_end p.machine.script refusal (subst (λ b. end_refuses rules b p.machine.script refusal) kept.0 refused)
          ] in
          let silent = Run-quiet (rules_in rules body) IsQuiet quiet_before begins.script p.lines p.text p.machine.script kept.1 here in
          AppendsFront-nil old_contents new_contents (subst (AppendsFront old_contents new_contents) (ap (λ l. l ++ p.last) silent.1 ∙ p.refused.0) p.written)
      unwritten known fault.OutOfMemory p = tt
      unwritten known fault.ReadFault p = tt
      unwritten known fault.WriteFault p = tt
