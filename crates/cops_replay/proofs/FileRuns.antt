-- What the machine of an audit comes to over a whole file, whatever runs behind its head.
use Rattle.cops_replay.proofs.Names.{◌≡◌, ℕ, ◌+◌, ◌<◌, Bool, true, false, List, [], ◌∷◌, ◌++◌, map, inl, inr, refl, sym, subst, ap, ◌∙◌, append_assoc, append-nil, arith, Option, Some, None, bytes_eq, Keeps, nat_tests, Config, counted, Front, AtStart, Within, Begun, is_begun, Whole, BadAt, lines_of, cut_line, cut_lines, AppendsFront, AreNamed, Run, AnswersAll, IfRunRefused, StopsEarly, RunFault, real_lines, AppendsFront-nil, input_is, known_lines, known_whole, AuditMachine, Layout, Today, Early, AuditRules, IsAtHead, audit_rules, head_answers, line_answers, layout_line, count_in, front_by, layout_in, tells_layout, head_by, layout_of, longest_record, Run-quiet, AuditFile, Head, Records, FileHead, GoesOn, end_answers, end_refuses, head_refuses, line_refuses, rules_in, IsFileHeadAt, front_in, front_with_by}
use Rattle.cops_script.specs.declared.scripts.BadConfig.{BadConfig}
use Rattle.cops_script.specs.declared.line_runs.fault.RunFault.TheVariants as fault
use Rattle.cops_replay.proofs.AuditHeads.{IsCounted, bad_end, bad_first, by_test, counted-small, counted_next, cut_in_head, cut_layout, grows_by, layout_first, named_begun, read_once, read_whole, reading_by, start, tells_not}

pub kept : (contents : Option (List ℕ)) → Keeps contents contents
kept None = tt
kept (Some bytes) = refl

module _ {B R F : Type 0} (rules : AuditRules B R F) (body : B) where
  -- the machine keeps its body
  in_body : (lines : List (List ℕ)) (m : AuditMachine B R) (text : List ℕ) (state : AuditMachine B R) → m.body ≡ body → Run (audit_rules rules) m lines text state → (state.body ≡ body) × Run (rules_in rules body) m.file lines text state.file
  in_body [] m text state same h = (ap (λ (s : AuditMachine B R). s.body) h.1 ∙ same, (h.0, ap (λ (s : AuditMachine B R). s.file) h.1))
  in_body (line ∷ lines) m text state same (first, mid, later, (kept, answered), run, whole) =
      let rest = in_body lines mid later state (kept ∙ same) run in
      (rest.0, (first, mid.file, later, subst (λ b. line_answers rules b m.file line first mid.file) same answered, rest.1, whole))

  -- the first lines of the bytes are a head and these records, with which the body came so far; the others follow
  pub record Behind (bytes : List ℕ) (others : List (List ℕ)) (text : List ℕ) (new : R) : Type 0 where
    pub layout : Layout
    pub config : Config
    pub records : List (List ℕ)
    pub head_text : List ℕ
    pub more : List ℕ
    pub first : R
    pub layout_is : layout_of (lines_of bytes) ≡ layout
    pub head : head_by layout (lines_of bytes) ≡ Whole config (records ++ others)
    pub named : AreNamed config.tenants
    pub starts : rules.starts body layout config head_text first
    pub text_is : text ≡ head_text ++ more
    pub run : Run (rules.lines body) first (map (cut_line longest_record) records) more new

  -- what a run over the first lines of a file comes to
  data FileRun (front : List (List ℕ)) (text : List ℕ) (state : AuditFile R) : Type 0 where
    BeforeLines : front ≡ [] → IsAtHead Early AtStart 0 state → text ≡ [] → FileRun front text state
    InHead : (layout : Layout) (next : Front) (count : ℕ) → IsCounted layout next count → is_begun next ≡ false → IsAtHead layout next count state → text ≡ [] → 0 < count
        → ((others : List (List ℕ)) → layout_of (front ++ others) ≡ layout)
        → ((others : List (List ℕ)) → head_by layout (front ++ others) ≡ reading_by layout others (count + 1) next) → FileRun front text state
    PastHead : (new : R) → state ≡ Records new → ((bytes : List ℕ) (others : List (List ℕ)) → lines_of bytes ≡ front ++ others → Behind bytes others text new) → FileRun front text state

  -- ---- one line more

  answered_in : (head : FileHead) (layout : Layout) (next : Front) (count : ℕ) (line text : List ℕ) (new : AuditFile R) → IsFileHeadAt layout next count head → tells_layout layout count line ≡ false → line_answers rules body (Head head) line text new →
      (after : Front) × (front_by layout next line ≡ Some after) × GoesOn rules body layout count after text new
  answered_in head layout next count line text new after h8 h9 = grind (arith, nat_tests)

  module _ (layout : Layout) (front : List (List ℕ)) (next : Front) (count : ℕ) (line : List ℕ) (c : IsCounted layout next count) (still : is_begun next ≡ false)
      (told : (others : List (List ℕ)) → layout_of (front ++ line ∷ others) ≡ layout) (reads : (others : List (List ℕ)) → head_by layout (front ++ others) ≡ reading_by layout others (count + 1) next) where
    told_on : (others : List (List ℕ)) → layout_of ((front ++ line ∷ []) ++ others) ≡ layout
    told_on others = ap layout_of (append_assoc front (line ∷ []) others) ∙ told others

    read_on : (after : Front) (others : List (List ℕ)) → front_by layout next line ≡ Some after → head_by layout ((front ++ line ∷ []) ++ others) ≡ reading_by layout others (count + 1 + 1) after
    read_on after others e = ap (head_by layout) (append_assoc front (line ∷ []) others) ∙ reads (line ∷ others) ∙ read_once layout next (count + 1) line others after still e

    head_step : (after : Front) (text : List ℕ) (new : AuditFile R) → front_by layout next line ≡ Some after → GoesOn rules body layout count after text new → FileRun (front ++ line ∷ []) text new
    head_step AtStart text new e goes = absurd goes
    head_step (Within config) text new e goes =
        let n = counted_next layout next count config c (grows_by layout next line (Within config) e) in
        let one = counted-small layout next count c in
        let some : 0 < counted count = omega (arith, one) in
        InHead layout (Within config) (counted count) n refl goes.1 goes.0 some told_on
        (λ others. read_on (Within config) others e ∙ ap (λ k. reading_by layout others (k + 1) (Within config)) (sym one))
    head_step (Begun config) text new e (state, starts, is) = PastHead state is (λ bytes others whole. record {
      layout = layout;
      config = config;
      records = [];
      head_text = text;
      more = [];
      first = state;
      layout_is = ap layout_of whole ∙ told_on others;
      head = ap (head_by layout) whole ∙ read_on (Begun config) others e ∙ read_whole layout others (count + 1 + 1) config;
      named = named_begun layout next count config c (grows_by layout next line (Begun config) e);
      starts = starts;
      text_is = sym (append-nil text);
      run = (refl, refl);
    })

  step_in_head : (layout : Layout) (front : List (List ℕ)) (next : Front) (count : ℕ) (line first : List ℕ) (old new : AuditFile R) → IsCounted layout next count → is_begun next ≡ false → IsAtHead layout next count old →
      tells_layout layout count (cut_line longest_record line) ≡ false → ((others : List (List ℕ)) → layout_of (front ++ line ∷ others) ≡ layout) →
      ((others : List (List ℕ)) → head_by layout (front ++ others) ≡ reading_by layout others (count + 1) next) → line_answers rules body old (cut_line longest_record line) first new → FileRun (front ++ line ∷ []) first new
  step_in_head layout front next count line first (Records state) new c still here apart told reads answered = absurd here
  step_in_head layout front next count line first (Head head) new c still here apart told reads answered =
      let step = answered_in head layout next count (cut_line longest_record line) first new here apart answered in
      head_step layout front next count line c still told reads step.0 first new (sym (cut_in_head layout next line) ∙ step.1) step.2

  first_step : (line first : List ℕ) (old new : AuditFile R) → IsAtHead Early AtStart 0 old → line_answers rules body old (cut_line longest_record line) first new → FileRun (line ∷ []) first new
  first_step line first (Records state) new here answered = absurd here
  first_step line first (Head head) new here answered = by_test (bytes_eq line layout_line) todays olds
    where
      todays : bytes_eq line layout_line ≡ true → FileRun (line ∷ []) first new
      todays is =
          let told : tells_layout (layout_in head) (count_in head) (cut_line longest_record line) ≡ true = (λ i. tells_layout (here.0 i) (here.2 i) (cut_line longest_record line)) ∙ cut_layout line ∙ is in
          let step = subst (λ (b : Bool). head_answers rules body b head (cut_line longest_record line) first new) told answered in
          InHead Today AtStart 1 (start Today) refl step.1 step.0 (omega arith) (λ others. layout_first line others true is) (λ others. refl)

      olds : bytes_eq line layout_line ≡ false → FileRun (line ∷ []) first new
      olds isnt = step_in_head Early [] AtStart 0 line first (Head head) new (start Early) refl here (cut_layout line ∙ isnt) (λ others. layout_first line others false isnt) (λ others. refl) answered

  run_more : (lines : List (List ℕ)) (line text first : List ℕ) (old mid new : R) → Run (rules.lines body) old (map (cut_line longest_record) lines) text mid → (rules.lines body).answers mid (cut_line longest_record line) first new →
      Run (rules.lines body) old (map (cut_line longest_record) (lines ++ line ∷ [])) (text ++ first) new
  run_more [] line text first old mid new run answered =
      (first, new, [], subst (λ m. (rules.lines body).answers m (cut_line longest_record line) first new) run.1 answered, (refl, refl), ap (λ t. t ++ first) run.0 ∙ sym (append-nil first))
  run_more (l ∷ lines) line text first old mid new (one, m, later, answer, run, whole) answered =
      (one, m, later ++ first, answer, run_more lines line later first m mid new run answered, ap (λ t. t ++ first) whole ∙ append_assoc one later first)

  step : (front : List (List ℕ)) (line text first : List ℕ) (old new : AuditFile R) → FileRun front text old → line_answers rules body old (cut_line longest_record line) first new → FileRun (front ++ line ∷ []) (text ++ first) new
  step front line text first old new (BeforeLines none here silent) answered =
      subst (λ f. FileRun (f ++ line ∷ []) (text ++ first) new) (sym none) (subst (λ t. FileRun (line ∷ []) (t ++ first) new) (sym silent) (first_step line first old new here answered))
  step front line text first old new (InHead layout next count c still here silent some told reads) answered =
      subst (λ t. FileRun (front ++ line ∷ []) (t ++ first) new) (sym silent)
      (step_in_head layout front next count line first old new c still here (tells_not layout count (cut_line longest_record line) some) (λ others. told (line ∷ others)) reads answered)
  step front line text first old new (PastHead mid is so_far) answered =
      let here = subst (λ s. line_answers rules body s (cut_line longest_record line) first new) is answered in
      PastHead here.0 here.2 (λ bytes others whole. one_more bytes others here.0 here.1 (so_far bytes (line ∷ others) (whole ∙ append_assoc front (line ∷ []) others)))
    where
      one_more : (bytes : List ℕ) (others : List (List ℕ)) (later : R) → (rules.lines body).answers mid (cut_line longest_record line) first later → Behind bytes (line ∷ others) text mid → Behind bytes others (text ++ first) later
      one_more bytes others later answer b = record {
        layout = b.layout;
        config = b.config;
        records = b.records ++ line ∷ [];
        head_text = b.head_text;
        more = b.more ++ first;
        first = b.first;
        layout_is = b.layout_is;
        head = b.head ∙ ap (Whole b.config) (sym (append_assoc b.records (line ∷ []) others));
        named = b.named;
        starts = b.starts;
        text_is = ap (λ t. t ++ first) b.text_is ∙ append_assoc b.head_text b.more first;
        run = run_more b.records line b.more first b.first mid later b.run answer;
      }

  runs : (lines front : List (List ℕ)) (text : List ℕ) (old : AuditFile R) (more : List ℕ) (new : AuditFile R) → FileRun front text old → Run (rules_in rules body) old (map (cut_line longest_record) lines) more new → FileRun (front ++ lines) (text ++ more) new
  runs [] front text old more new ran h =
      subst (λ s. FileRun (front ++ []) (text ++ more) s) (sym h.1) (subst (λ f. FileRun f (text ++ more) old) (sym (append-nil front)) (subst (λ t. FileRun front t old) (sym (ap (λ m. text ++ m) h.0 ∙ append-nil text)) ran))
  runs (line ∷ lines) front text old more new ran (first, mid, later, answered, run, whole) =
      let rest = runs lines (front ++ line ∷ []) (text ++ first) mid later new (step front line text first old mid ran answered) run in
      subst (λ f. FileRun f (text ++ more) new) (append_assoc front (line ∷ []) lines)
      (subst (λ t. FileRun ((front ++ line ∷ []) ++ lines) t new) (append_assoc text first later ∙ ap (λ t. text ++ t) (sym whole)) rest)

  -- ---- of the bytes of a file

  -- all lines were answered, and then the end
  pub record Ended (bytes text last : List ℕ) : Type 0 where
    pub state : R
    pub behind : Behind bytes [] text state
    pub after : R
    pub ended : (rules.lines body).ends state last after

  -- the audit is refused in its head or at the end of it, or by what runs behind it
  pub data RefusedBy (bytes : List ℕ) (refusal : F) : Type 0 where
    BadHead : (layout : Layout) (bad : BadConfig) → layout_of (lines_of bytes) ≡ layout → refusal ≡ rules.bad_head bad → head_by layout (lines_of bytes) ≡ BadAt bad.line → RefusedBy bytes refusal
    NotBegun : (layout : Layout) (config : Config) (records : List (List ℕ)) → layout_of (lines_of bytes) ≡ layout → head_by layout (lines_of bytes) ≡ Whole config records → rules.refuses_start body layout config refusal → RefusedBy bytes refusal
    AtLine : (text : List ℕ) (state : R) (line : List ℕ) (others : List (List ℕ)) → Behind bytes (line ∷ others) text state → (rules.lines body).refuses state (cut_line longest_record line) refusal → RefusedBy bytes refusal
    AtEnd : (text : List ℕ) (state : R) → Behind bytes [] text state → (rules.lines body).refuses_end state refusal → RefusedBy bytes refusal

  not_ended : (layout : Layout) (next : Front) (count : ℕ) (state new : AuditFile R) (last : List ℕ) → IsAtHead layout next count state → end_answers rules body state last new → ⊥
  not_ended layout next count (Head head) new last here ends = ends
  not_ended layout next count (Records state) new last here ends = here

  ended_in : (bytes : List ℕ) (lines : List (List ℕ)) (text last : List ℕ) (machine new : AuditFile R) → lines_of bytes ≡ lines → FileRun lines text machine → end_answers rules body machine last new → Ended bytes text last
  ended_in bytes lines text last machine new same (BeforeLines none here silent) ends = absurd (not_ended Early AtStart 0 machine new last here ends)
  ended_in bytes lines text last machine new same (InHead layout next count c still here silent some told reads) ends = absurd (not_ended layout next count machine new last here ends)
  ended_in bytes lines text last machine new same (PastHead mid is so_far) ends =
      let over = subst (λ s. end_answers rules body s last new) is ends in
      record { state = mid; behind = so_far bytes [] (same ∙ sym (append-nil lines)); after = over.0; ended = over.1 }

  -- ---- a refusal

  module _ (layout : Layout) (front : List (List ℕ)) (next : Front) (count : ℕ) (c : IsCounted layout next count) (still : is_begun next ≡ false)
      (reads : (others : List (List ℕ)) → head_by layout (front ++ others) ≡ reading_by layout others (count + 1) next) (bytes : List ℕ) (refusal : F) where
    refused_head : (head : FileHead) (real line : List ℕ) (rest : List (List ℕ)) → IsFileHeadAt layout next count head → line ≡ cut_line longest_record real → lines_of bytes ≡ front ++ real ∷ rest → layout_of (lines_of bytes) ≡ layout → head_refuses rules body head line refusal → RefusedBy bytes refusal
    refused_head head real line rest (l, f, k) cut whole told refused = elim refused [
      | inl (bad, none, number, is) ↦
          let stuck : front_by layout next real ≡ None = seen ∙ none in
          BadHead layout bad told is (ap (head_by layout) whole ∙ reads (real ∷ rest) ∙ bad_first layout next (count + 1) real rest still stuck ∙ ap BadAt (sym (number ∙ ap counted k ∙ counted-small layout next count c)))
      | inr (config, found, refuses) ↦
          let last : front_by layout next real ≡ Some (Begun config) = seen ∙ found in
          NotBegun layout config rest told (ap (head_by layout) whole ∙ reads (real ∷ rest) ∙ read_once layout next (count + 1) real rest (Begun config) still last ∙ read_whole layout rest (count + 1 + 1) config)
          (subst (λ (x : Layout). rules.refuses_start body x config refusal) l refuses)
    ]
      where
        seen : front_by layout next real ≡ front_with_by (layout_in head) (front_in head) line
        seen = sym (cut_in_head layout next real) ∙ ap (front_by layout next) (sym cut) ∙ sym (λ i. front_with_by (l i) (f i) line)

    refused_after : (head : FileHead) → IsFileHeadAt layout next count head → lines_of bytes ≡ front ++ [] → layout_of (lines_of bytes) ≡ layout → end_refuses rules body (Head head) refusal → RefusedBy bytes refusal
    refused_after head (l, f, k) whole told (bad, number, is) =
        BadHead layout bad told is (ap (head_by layout) whole ∙ reads [] ∙ bad_end layout next (count + 1) still ∙ ap BadAt (sym (number ∙ ap counted k ∙ counted-small layout next count c)))

  at_line : (bytes : List ℕ) (front rest : List (List ℕ)) (real line text : List ℕ) (state : AuditFile R) (refusal : F) → lines_of bytes ≡ front ++ real ∷ rest → line ≡ cut_line longest_record real → FileRun front text state → line_refuses rules body state line refusal → RefusedBy bytes refusal
  at_line bytes front rest real line text (Head head) refusal whole cut (BeforeLines none here silent) refused =
      let apart : bytes_eq real layout_line ≡ false = sym (cut_layout real) ∙ ap (λ l. bytes_eq l layout_line) (sym cut) ∙ sym (λ i. tells_layout (here.0 i) (here.2 i) line) ∙ refused.0 in
      let whole_is = whole ∙ ap (λ f. f ++ real ∷ rest) none in
      refused_head Early [] AtStart 0 (start Early) refl (λ others. refl) bytes refusal head real line rest here cut whole_is (ap layout_of whole_is ∙ layout_first real rest false apart) refused.1
  at_line bytes front rest real line text (Records state) refusal whole cut (BeforeLines none here silent) refused = absurd here
  at_line bytes front rest real line text (Head head) refusal whole cut (InHead layout next count c still here silent some told reads) refused =
      refused_head layout front next count c still reads bytes refusal head real line rest here cut whole (ap layout_of whole ∙ told (real ∷ rest)) refused.1
  at_line bytes front rest real line text (Records state) refusal whole cut (InHead layout next count c still here silent some told reads) refused = absurd here
  at_line bytes front rest real line text state refusal whole cut (PastHead new is so_far) refused =
      AtLine text new real rest (so_far bytes (real ∷ rest) whole) (subst (λ l. (rules.lines body).refuses new l refusal) cut (subst (λ s. line_refuses rules body s line refusal) is refused))

  at_end : (bytes : List ℕ) (front : List (List ℕ)) (text : List ℕ) (state : AuditFile R) (refusal : F) → lines_of bytes ≡ front ++ [] → FileRun front text state → end_refuses rules body state refusal → RefusedBy bytes refusal
  at_end bytes front text (Head head) refusal whole (BeforeLines none here silent) refused =
      let whole_is = whole ∙ ap (λ f. f ++ []) none in
      refused_after Early [] AtStart 0 (start Early) refl (λ others. refl) bytes refusal head here whole_is (ap layout_of whole_is) refused
  at_end bytes front text (Records state) refusal whole (BeforeLines none here silent) refused = absurd here
  at_end bytes front text (Head head) refusal whole (InHead layout next count c still here silent some told reads) refused =
      refused_after layout front next count c still reads bytes refusal head here whole (ap layout_of whole ∙ told []) refused
  at_end bytes front text (Records state) refusal whole (InHead layout next count c still here silent some told reads) refused = absurd here
  at_end bytes front text state refusal whole (PastHead new is so_far) refused = AtEnd text new (so_far bytes [] whole) (subst (λ s. end_refuses rules body s refusal) is refused)

  -- ---- a run over a reader

  module _ (old_contents new_contents new_remaining : Option (List ℕ)) (begins : AuditMachine B R) (is_body : begins.body ≡ body) (begun : IsAtHead Early AtStart 0 begins.file) where
    from_head : (lines : List (List ℕ)) (text : List ℕ) (state : AuditMachine B R) → Run (audit_rules rules) begins (map (cut_line longest_record) lines) text state → (state.body ≡ body) × FileRun lines text state.file
    from_head lines text state run =
        let ran = in_body (map (cut_line longest_record) lines) begins text state is_body run in
        (ran.0, runs lines [] [] begins.file text state.file (BeforeLines refl begun refl) ran.1)

    pub all_answered : (bytes : List ℕ) (new : AuditMachine B R) (p : AnswersAll (audit_rules rules) longest_record (Some bytes) new_remaining begins new old_contents new_contents) → Ended bytes p.text p.last
    all_answered bytes new p =
        let same : lines_of bytes ≡ lines_of p.input = ap lines_of (input_is bytes p.input new_remaining p.read p.at_end) in
        let ran = from_head (lines_of p.input) p.text p.machine p.run in
        ended_in bytes (lines_of p.input) p.text p.last p.machine.file new.file same ran.1 (subst (λ b. end_answers rules b p.machine.file p.last new.file) ran.0 p.ended.1)

    -- what stands if a run stopped: its real lines, and those that follow
    record Stopped (bytes : List ℕ) (others : List (List ℕ)) (text : List ℕ) (machine : AuditMachine B R) : Type 0 where
      front : List (List ℕ)
      rest : List (List ℕ)
      whole : lines_of bytes ≡ front ++ rest
      others_are : others ≡ map (cut_line longest_record) rest
      same : machine.body ≡ body
      ran : FileRun front text machine.file

    stopped : (bytes : List ℕ) (lines others : List (List ℕ)) (text : List ℕ) (machine : AuditMachine B R) → cut_lines longest_record bytes ≡ lines ++ others → Run (audit_rules rules) begins lines text machine → Stopped bytes others text machine
    stopped bytes lines others text machine e run =
        let real = real_lines longest_record (lines_of bytes) lines others e in
        let ran = from_head real.0 text machine (subst (λ ls. Run (audit_rules rules) begins ls text machine) real.3 run) in
        record { front = real.0; rest = real.1; whole = real.2; others_are = real.4; same = ran.0; ran = ran.1 }

    no_rest : (rest : List (List ℕ)) → [] ≡ map (cut_line longest_record) rest → rest ≡ []
    no_rest [] e = refl
    no_rest (line ∷ rest) e = cc

    -- a prefix of the answers was written
    pub data IsFront (bytes : List ℕ) : Type 0 where
      Nothing : Keeps old_contents new_contents → IsFront bytes
      OfLines : (others : List (List ℕ)) (text : List ℕ) (state : R) → Behind bytes others text state → AppendsFront old_contents new_contents text → IsFront bytes
      OfAll : (text last : List ℕ) → Ended bytes text last → AppendsFront old_contents new_contents (text ++ last) → IsFront bytes

    front_of : (bytes : List ℕ) (front rest : List (List ℕ)) (text : List ℕ) (state : AuditFile R) → lines_of bytes ≡ front ++ rest → FileRun front text state → AppendsFront old_contents new_contents text → IsFront bytes
    front_of bytes front rest text state whole (BeforeLines none here silent) written = Nothing (AppendsFront-nil old_contents new_contents (subst (AppendsFront old_contents new_contents) silent written))
    front_of bytes front rest text state whole (InHead layout next count c still here silent some told reads) written = Nothing (AppendsFront-nil old_contents new_contents (subst (AppendsFront old_contents new_contents) silent written))
    front_of bytes front rest text state whole (PastHead new is so_far) written = OfLines rest text new (so_far bytes rest whole) written

    pub front_answered : (bytes : List ℕ) (why : RunFault F) → StopsEarly (audit_rules rules) longest_record (Some bytes) new_remaining begins old_contents new_contents why → IsFront bytes
    front_answered bytes why p = elim p.ended [
      | inl e ↦
          let found = known_lines longest_record bytes p.input new_remaining p.lines p.read p.first in
          let s = stopped bytes p.lines found.0 p.text p.machine found.1 p.run in
          front_of bytes s.front s.rest p.text p.machine.file s.whole s.ran (subst (AppendsFront old_contents new_contents) (ap (λ l. p.text ++ l) e ∙ append-nil p.text) p.written)
      | inr (whole, new, ends) ↦
          let found = known_whole longest_record bytes p.input new_remaining p.lines p.read whole in
          let s = stopped bytes p.lines [] p.text p.machine (found ∙ sym (append-nil p.lines)) p.run in
          let all : lines_of bytes ≡ s.front = s.whole ∙ ap (λ l. s.front ++ l) (no_rest s.rest s.others_are) ∙ append-nil s.front in
          OfAll p.text p.last (ended_in bytes s.front p.text p.last p.machine.file new.file all s.ran (subst (λ b. end_answers rules b p.machine.file p.last new.file) s.same ends.1)) p.written
    ]

    pub refused_in : (bytes : List ℕ) (refusal : F) → StopsEarly (audit_rules rules) longest_record (Some bytes) new_remaining begins old_contents new_contents (fault.Refused refusal) → RefusedBy bytes refusal
    refused_in bytes refusal p = elim p.refused.1 [
      | inl (line, first, refused) ↦
          let found = known_lines longest_record bytes p.input new_remaining (p.lines ++ line ∷ []) p.read first in
          let s = stopped bytes p.lines (line ∷ found.0) p.text p.machine (found.1 ∙ append_assoc p.lines (line ∷ []) found.0) p.run in
          by_rest line found.0 s.front s.rest s.whole s.others_are s.ran (subst (λ b. line_refuses rules b p.machine.file line refusal) s.same refused)
      | inr (whole, refused) ↦
          let found = known_whole longest_record bytes p.input new_remaining p.lines p.read whole in
          let s = stopped bytes p.lines [] p.text p.machine (found ∙ sym (append-nil p.lines)) p.run in
          at_end bytes s.front p.text p.machine.file refusal (s.whole ∙ ap (λ l. s.front ++ l) (no_rest s.rest s.others_are)) s.ran (subst (λ b. end_refuses rules b p.machine.file refusal) s.same refused)
    ]
      where
        by_rest : (line : List ℕ) (others front rest : List (List ℕ)) → lines_of bytes ≡ front ++ rest → line ∷ others ≡ map (cut_line longest_record) rest → FileRun front p.text p.machine.file → line_refuses rules body p.machine.file line refusal → RefusedBy bytes refusal
        by_rest line others front [] whole alike ran refused = absurd (let clash : ⊥ = cc in clash)
        by_rest line others front (real ∷ rest) whole alike ran refused =
            let cut : line ≡ cut_line longest_record real = cc in
            at_line bytes front rest real line p.text p.machine.file refusal whole cut ran refused

-- ---- nothing is written if it is refused

module _ {B R F : Type 0} (rules : AuditRules B R F) (IsQuiet : R → Type 0)
    (quiet_start : (b : B) (layout : Layout) (config : Config) (text : List ℕ) (state : R) → rules.starts b layout config text state → IsQuiet state → text ≡ [])
    (quiet_line : (b : B) (old : R) (line text : List ℕ) (new : R) → (rules.lines b).answers old line text new → IsQuiet new → IsQuiet old × (text ≡ []))
    (quiet_refusal : (b : B) (state : R) (line : List ℕ) (refusal : F) → (rules.lines b).refuses state line refusal → IsQuiet state)
    (quiet_end : (b : B) (state : R) (refusal : F) → (rules.lines b).refuses_end state refusal → IsQuiet state) where
  abbrev IsQuietFile : AuditFile R → Type 0
  IsQuietFile (Head head) = Unit {0}
  IsQuietFile (Records state) = IsQuiet state

  goes_quiet : (b : B) (layout : Layout) (count : ℕ) (next : Front) (text : List ℕ) (new : AuditFile R) → GoesOn rules b layout count next text new → IsQuietFile new → text ≡ []
  goes_quiet b layout count next text new h6 h7 = grind (arith, nat_tests)

  head_quiet : (t : Bool) (b : B) (head : FileHead) (line text : List ℕ) (new : AuditFile R) → head_answers rules b t head line text new → IsQuietFile new → text ≡ []
  head_quiet true b head line text new h quiet = h.0
  head_quiet false b head line text new h quiet = goes_quiet b (layout_in head) (count_in head) h.0 text new h.2 quiet

  file_quiet : (b : B) (old : AuditFile R) (line text : List ℕ) (new : AuditFile R) → line_answers rules b old line text new → IsQuietFile new → IsQuietFile old × (text ≡ [])
  file_quiet b (Head head) line text new h quiet = (tt, head_quiet (tells_layout (layout_in head) (count_in head) line) b head line text new h quiet)
  file_quiet b (Records old) line text new (after, answered, is) quiet = quiet_line b old line text after answered (subst IsQuietFile is quiet)

  refused_quiet : (b : B) (state : AuditFile R) (line : List ℕ) (refusal : F) → line_refuses rules b state line refusal → IsQuietFile state
  refused_quiet b (Head head) line refusal h = tt
  refused_quiet b (Records state) line refusal h = quiet_refusal b state line refusal h

  ended_quiet : (b : B) (state : AuditFile R) (refusal : F) → end_refuses rules b state refusal → IsQuietFile state
  ended_quiet b (Head head) refusal h = tt
  ended_quiet b (Records state) refusal h = quiet_end b state refusal h

  pub nothing_written : (old_contents new_contents new_remaining : Option (List ℕ)) (begins : AuditMachine B R) (known : Option (List ℕ)) (why : RunFault F) →
      StopsEarly (audit_rules rules) longest_record known new_remaining begins old_contents new_contents why → IfRunRefused why (λ refusal. Keeps old_contents new_contents)
  nothing_written old_contents new_contents new_remaining begins known (fault.Refused refusal) p =
      let quiet : IsQuietFile p.machine.file = elim p.refused.1 [
        | inl (line, first, refused) ↦ refused_quiet p.machine.body p.machine.file line refusal refused
        | inr (whole, refused) ↦ ended_quiet p.machine.body p.machine.file refusal refused
      ] in
      let silent = (Run-quiet (audit_rules rules) (λ (s : AuditMachine B R). IsQuietFile s.file) (λ s line answer after answered still. file_quiet s.body s.file line answer after.file answered.1 still) begins p.lines p.text p.machine p.run quiet).1 in
      AppendsFront-nil old_contents new_contents (subst (AppendsFront old_contents new_contents) (λ i. silent i ++ p.refused.0 i) p.written)
  nothing_written old_contents new_contents new_remaining begins known why p = tt
