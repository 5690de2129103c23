-- Runs go on by lines, by writes, and by pieces.
use Rattle.std.proofs.Common.{◌≡◌, ◌≢◌, ℕ, ◌+◌, List, [], ◌∷◌, ◌++◌, Option, Result, Ok, Err, OnOk, true, false, arith, refl, sym, subst, ap, ◌∙◌, append_assoc, append-nil}
use Rattle.std.proofs.KnownBytes.{Appends-nil, Appends-trans}
use Rattle.std.proofs.lemmas.List.Elements.{All-append, All-take}
use Rattle.std.proofs.lemmas.List.{length-take}
use Rattle.std.specs.Result.{is_err, IsOk}
use Rattle.cops_types.specs.Sink.{AppendsAllBut, AppendsFront}
use Rattle.cops_types.specs.Lines.{cut_line, cut_lines, IsUnbroken}
use Rattle.cops_script.specs.LineAnswers.{Answers, IfRefused}
use Rattle.cops_script.specs.LineRules.{LineRules, Run}
use Rattle.cops_script.specs.RunFaults.{fault_of}
use Rattle.cops_script.specs.LineRuns.{Stage, stage, SplitsOff, HasFirst, Advances, Answered, Stops, IfRunRefused, IfWriteFault, IsLineFront}
use Rattle.cops_script.specs.declared.line_runs.machine.Stop.{Stop}
use Rattle.cops_script.specs.declared.line_runs.machine.Stop.TheVariants as stop
use Rattle.cops_script.specs.declared.line_runs.fault.RunFault.{RunFault}
use Rattle.cops_script.specs.declared.line_runs.fault.RunFault.TheVariants as fault
use Rattle.cops_script.proofs.LineLemmas.{cut_lines-line, cut_lines-taken}

-- ---- which lines are left

SplitsOff-start : (limit : ℕ) (bytes : List ℕ) → SplitsOff limit bytes [] bytes
SplitsOff-start limit bytes later = refl

pub HasFirst-from_SplitsOff : (limit : ℕ) (old : List ℕ) (lines : List (List ℕ)) (new : List ℕ) → SplitsOff limit old lines new → HasFirst limit old lines
HasFirst-from_SplitsOff limit old lines new h later = (cut_lines limit (new ++ later), h later)

unbroken_append : (front line : List ℕ) → IsUnbroken front → IsUnbroken line → IsUnbroken (front ++ line)
unbroken_append front line p q = All-append (λ byte. byte ≢ 10) front line p q

-- the line that is over, and what stands after it
line_first : (limit : ℕ) (front line rest after later : List ℕ) → IsUnbroken front → IsUnbroken line → rest ≡ line ++ 10 ∷ after
    → cut_lines limit ((front ++ rest) ++ later) ≡ cut_line limit (front ++ line) ∷ cut_lines limit (after ++ later)
line_first limit front line rest after later p q e =
    let whole : (front ++ rest) ++ later ≡ (front ++ line) ++ 10 ∷ (after ++ later) =
    ap (λ l. (front ++ l) ++ later) e ∙ ap (λ l. l ++ later) (sym (append_assoc front line (10 ∷ after))) ∙ append_assoc (front ++ line) (10 ∷ after) later in
    ap (cut_lines limit) whole ∙ cut_lines-line limit (front ++ line) (after ++ later) (unbroken_append front line p q)

SplitsOff-line : (limit : ℕ) (old : List ℕ) (lines : List (List ℕ)) (front line rest after : List ℕ) → SplitsOff limit old lines (front ++ rest)
    → IsUnbroken front → IsUnbroken line → rest ≡ line ++ 10 ∷ after → SplitsOff limit old (lines ++ cut_line limit (front ++ line) ∷ []) after
SplitsOff-line limit old lines front line rest after h p q e later =
    h later ∙ ap (λ l. lines ++ l) (line_first limit front line rest after later p q e)
    ∙ sym (append_assoc lines (cut_line limit (front ++ line) ∷ []) (cut_lines limit (after ++ later)))

SplitsOff-cut : (limit : ℕ) (old : List ℕ) (lines : List (List ℕ)) (bytes : List ℕ) → SplitsOff limit old lines bytes → IsUnbroken bytes → SplitsOff limit old lines (cut_line limit bytes)
SplitsOff-cut limit old lines bytes h p later = h later ∙ ap (λ l. lines ++ l) (sym (cut_lines-taken limit bytes later p))

-- what is read now stands after what was left
pub SplitsOff-more : (limit : ℕ) (old : List ℕ) (lines : List (List ℕ)) (front more : List ℕ) → SplitsOff limit old lines front → SplitsOff limit (old ++ more) lines (front ++ more)
SplitsOff-more limit old lines front more h later =
    ap (cut_lines limit) (append_assoc old more later) ∙ h (more ++ later) ∙ ap (λ l. lines ++ cut_lines limit l) (sym (append_assoc front more later))

SplitsOff-trans : (limit : ℕ) (a : List ℕ) (lines : List (List ℕ)) (b : List ℕ) (more : List (List ℕ)) (c : List ℕ) → SplitsOff limit a lines b → SplitsOff limit b more c → SplitsOff limit a (lines ++ more) c
SplitsOff-trans limit a lines b more c p q later = p later ∙ ap (λ l. lines ++ l) (q later) ∙ sym (append_assoc lines more (cut_lines limit (c ++ later)))

pub HasFirst-after : (limit : ℕ) (a : List ℕ) (lines : List (List ℕ)) (b : List ℕ) (more : List (List ℕ)) → SplitsOff limit a lines b → HasFirst limit b more → HasFirst limit a (lines ++ more)
HasFirst-after limit a lines b more p q later =
    let found = q later in (found.0, p later ∙ ap (λ l. lines ++ l) found.1 ∙ sym (append_assoc lines more found.0))

-- ---- the front of a line

pub no_front : (limit : ℕ) (bytes : List ℕ) → bytes ≡ [] → IsLineFront limit bytes
no_front limit bytes e = subst (IsLineFront limit) (sym e) (record { unbroken = λ k d h. absurd (let none : ⊥ = omega arith in none); short = omega arith })

pub front_cut : (limit : ℕ) (front rest new : List ℕ) → IsUnbroken front → IsUnbroken rest → new ≡ cut_line limit (front ++ rest) → IsLineFront limit new
front_cut limit front rest new p q e = subst (IsLineFront limit) (sym e) (record {
  unbroken = All-take (λ byte. byte ≢ 10) (limit + 1) (front ++ rest) (unbroken_append front rest p q);
  short = omega (arith, length-take (limit + 1) (front ++ rest));
})

-- ---- what there was to write

pub append-nil_right : (a b : List ℕ) → a ++ b ≡ [] → b ≡ []
append-nil_right [] b e = e
append-nil_right (x ∷ a) b e = absurd (let clash : ⊥ = cc in clash)

pub IfWriteFault-weaker : {F : Type 0} (cause : RunFault F) (P Q : Type 0) → (P → Q) → IfWriteFault cause P → IfWriteFault cause Q
IfWriteFault-weaker fault.WriteFault P Q h p = h p
IfWriteFault-weaker (fault.Refused refusal) P Q h p = tt
IfWriteFault-weaker fault.OutOfMemory P Q h p = tt
IfWriteFault-weaker fault.ReadFault P Q h p = tt

-- ---- what a call leaves if it didn't fail

pub on_ok_at : {T E : Type 0} (P : Type 0) (r : Result T E) → is_err r ≡ false → OnOk r P → P
on_ok_at P (Ok x) e h = h
on_ok_at P (Err x) e h = absurd (let clash : ⊥ = cc in clash)

pub not_failed : {T E : Type 0} (r : Result T E) → is_err r ≡ true → IsOk r → ⊥
not_failed (Ok x) e h = let clash : ⊥ = cc in clash
not_failed (Err x) e h = let clash : ⊥ = cc in clash

-- ---- how far the answers are

module _ {M F : Type 0} (rules : LineRules M F) where
  pub Run-append : (old : M) (lines : List (List ℕ)) (text : List ℕ) (mid : M) (more : List (List ℕ)) (later : List ℕ) (new : M)
      → Run rules old lines text mid → Run rules mid more later new → Run rules old (lines ++ more) (text ++ later) new
  Run-append old [] text mid more later new p q =
      subst (λ t. Run rules old more (t ++ later) new) (sym p.0) (subst (λ m. Run rules m more later new) p.1 q)
  Run-append old (line ∷ lines) text mid more later new (first, between, others, answered, run, whole) q =
      (first, between, others ++ later, answered, Run-append between lines others mid more later new run q, ap (λ t. t ++ later) whole ∙ append_assoc first others later)

  Advances-start : (old : Stage M) → Advances rules old [] old
  Advances-start old = record { text = []; written = []; run = (refl, refl); whole = append-nil old.waiting; appended = Appends-nil old.contents }

  abbrev pub Advances-trans : (a : Stage M) (lines : List (List ℕ)) (b : Stage M) (more : List (List ℕ)) (c : Stage M) → Advances rules a lines b → Advances rules b more c → Advances rules a (lines ++ more) c
  Advances-trans a lines b more c p q = record {
    text = p.text ++ q.text;
    written = p.written ++ q.written;
    run = Run-append a.machine lines p.text b.machine more q.text c.machine p.run q.run;
    whole = sym (append_assoc a.waiting p.text q.text) ∙ ap (λ l. l ++ q.text) p.whole ∙ append_assoc p.written b.waiting q.text
        ∙ ap (λ l. p.written ++ l) q.whole ∙ sym (append_assoc p.written q.written c.waiting);
    appended = Appends-trans a.contents b.contents c.contents p.written q.written p.appended q.appended;
  }

  Advances-line : (old new : M) (line waiting output : List ℕ) (contents : Option (List ℕ)) → Answers (rules.answers old line) new waiting output
      → Advances rules (stage old waiting contents) (line ∷ []) (stage new output contents)
  Advances-line old new line waiting output contents p = record {
    text = p.text;
    written = [];
    run = (p.text, new, [], p.answered, (refl, refl), sym (append-nil p.text));
    whole = sym p.appended;
    appended = Appends-nil contents;
  }

  -- a prefix of what waits is written
  abbrev pub Advances-written : (start : Stage M) (lines : List (List ℕ)) (machine : M) (waiting rest : List ℕ) (old new : Option (List ℕ))
      → Advances rules start lines (stage machine waiting old) → AppendsAllBut old new waiting rest → Advances rules start lines (stage machine rest new)
  Advances-written start lines machine waiting rest old new p q = record {
    text = p.text;
    written = p.written ++ q.written;
    run = p.run;
    whole = p.whole ∙ ap (λ l. p.written ++ l) q.whole ∙ sym (append_assoc p.written q.written rest);
    appended = Appends-trans start.contents old new p.written q.written p.appended q.appended;
  }

  -- ---- both

  module _ (limit : ℕ) where
    pub Answered-start : (bytes : List ℕ) (old : Stage M) → Answered rules limit bytes old bytes old
    Answered-start bytes old = record { lines = []; split = SplitsOff-start limit bytes; advanced = Advances-start old }

    pub Answered-line : (bytes : List ℕ) (start : Stage M) (front line rest after new_front : List ℕ) (old new : M) (waiting output : List ℕ) (contents : Option (List ℕ))
        → Answered rules limit bytes start (front ++ rest) (stage old waiting contents)
        → IsUnbroken front → IsUnbroken line × (rest ≡ line ++ 10 ∷ after) → new_front ≡ []
        → Answers (rules.answers old (cut_line limit (front ++ line))) new waiting output
        → Answered rules limit bytes start (new_front ++ after) (stage new output contents)
    Answered-line bytes start front line rest after new_front old new waiting output contents p unbroken found empty answer = record {
      lines = p.lines ++ cut_line limit (front ++ line) ∷ [];
      split = subst (λ l. SplitsOff limit bytes (p.lines ++ cut_line limit (front ++ line) ∷ []) (l ++ after)) (sym empty)
          (SplitsOff-line limit bytes p.lines front line rest after p.split unbroken found.0 found.1);
      advanced = Advances-trans start p.lines (stage old waiting contents) (cut_line limit (front ++ line) ∷ []) (stage new output contents)
          p.advanced (Advances-line old new (cut_line limit (front ++ line)) waiting output contents answer);
    }

    pub Answered-written : (bytes : List ℕ) (start : Stage M) (left : List ℕ) (machine : M) (waiting rest : List ℕ) (old new : Option (List ℕ))
        → Answered rules limit bytes start left (stage machine waiting old) → AppendsAllBut old new waiting rest
        → Answered rules limit bytes start left (stage machine rest new)
    Answered-written bytes start left machine waiting rest old new p written = record {
      lines = p.lines;
      split = p.split;
      advanced = Advances-written start p.lines machine waiting rest old new p.advanced written;
    }

    pub Answered-cut : (bytes : List ℕ) (start now : Stage M) (front rest new_front : List ℕ) → Answered rules limit bytes start (front ++ rest) now
        → IsUnbroken front → IsUnbroken rest → new_front ≡ cut_line limit (front ++ rest) → Answered rules limit bytes start new_front now
    Answered-cut bytes start now front rest new_front p unbroken last e = record {
      lines = p.lines;
      split = subst (SplitsOff limit bytes p.lines) (sym e) (SplitsOff-cut limit bytes p.lines (front ++ rest) p.split (unbroken_append front rest unbroken last));
      advanced = p.advanced;
    }

    -- a run that can go no further, and neither by a refusal nor by the writer
    pub Stops-here : (bytes : List ℕ) (start : Stage M) (left : List ℕ) (machine : M) (waiting : List ℕ) (contents : Option (List ℕ)) (fault : RunFault F)
        → Answered rules limit bytes start left (stage machine waiting contents)
        → ((P : F → Type 0) → IfRunRefused fault P) → IfWriteFault fault (waiting ≢ []) → Stops rules limit bytes start contents fault
    Stops-here bytes start left machine waiting contents fault p h w = record {
      lines = p.lines;
      machine = machine;
      waiting = waiting;
      advanced = p.advanced;
      first = HasFirst-from_SplitsOff limit bytes p.lines left p.split;
      refused = h _;
      to_write = IfWriteFault-weaker fault _ _ (λ some none. some (append-nil_right p.advanced.written waiting (sym p.advanced.whole ∙ none))) w;
    }

    pub Stops-at_line : (bytes : List ℕ) (start : Stage M) (front line rest after : List ℕ) (machine : M) (waiting : List ℕ) (contents : Option (List ℕ)) (cause : Stop F)
        → Answered rules limit bytes start (front ++ rest) (stage machine waiting contents)
        → IsUnbroken front → IsUnbroken line × (rest ≡ line ++ 10 ∷ after)
        → IfRefused cause (rules.refuses machine (cut_line limit (front ++ line)))
        → Stops rules limit bytes start contents (fault_of cause)
    Stops-at_line bytes start front line rest after machine waiting contents stop.OutOfMemory p unbroken found h =
        Stops-here bytes start (front ++ rest) machine waiting contents fault.OutOfMemory p (λ P. tt) tt
    Stops-at_line bytes start front line rest after machine waiting contents (stop.Refused refusal) p unbroken found h = record {
      lines = p.lines;
      machine = machine;
      waiting = waiting;
      advanced = p.advanced;
      first = HasFirst-from_SplitsOff limit bytes p.lines (front ++ rest) p.split;
      refused = (
        cut_line limit (front ++ line),
        HasFirst-from_SplitsOff limit bytes (p.lines ++ cut_line limit (front ++ line) ∷ []) after
            (SplitsOff-line limit bytes p.lines front line rest after p.split unbroken found.0 found.1),
        h,
      );
      to_write = tt;
    }

    -- a run whose answers aren't all written, since the writer failed
    pub Stops-written : (bytes : List ℕ) (start : Stage M) (left : List ℕ) (machine : M) (waiting : List ℕ) (old new : Option (List ℕ))
        → Answered rules limit bytes start left (stage machine waiting old) → AppendsFront old new waiting → waiting ≢ []
        → Stops rules limit bytes start new fault.WriteFault
    Stops-written bytes start left machine waiting old new p written some = record {
      lines = p.lines;
      machine = machine;
      waiting = written.0;
      advanced = Advances-written start p.lines machine waiting written.0 old new p.advanced written.1;
      first = HasFirst-from_SplitsOff limit bytes p.lines left p.split;
      refused = tt;
      to_write = λ none. some (append-nil_right p.advanced.written waiting (sym p.advanced.whole ∙ none));
    }

    -- what is read now stands after what was left
    pub Answered-trans : (bytes : List ℕ) (start : Stage M) (left : List ℕ) (mid : Stage M) (more new_left : List ℕ) (new : Stage M)
        → Answered rules limit bytes start left mid → Answered rules limit (left ++ more) mid new_left new → Answered rules limit (bytes ++ more) start new_left new
    Answered-trans bytes start left mid more new_left new p q = record {
      lines = p.lines ++ q.lines;
      split = SplitsOff-trans limit (bytes ++ more) p.lines (left ++ more) q.lines new_left (SplitsOff-more limit bytes p.lines left more p.split) q.split;
      advanced = Advances-trans start p.lines mid q.lines new p.advanced q.advanced;
    }
