-- How a run ends.
use Rattle.std.proofs.Common.{◌≡◌, ◌≢◌, ℕ, ◌+◌, ◌≤◌, List, [], ◌∷◌, ◌++◌, inl, inr, Option, refl, sym, subst, ap, ◌∙◌, append_assoc, append-nil, arith}
use Rattle.std.specs.Io.KnownBytes.{Appends, Consumes, IsAtEnd, Keeps}
use Rattle.std.proofs.KnownBytes.{Appends-trans, Consumes-nil, Consumes-trans, Consumes-kept}
use Rattle.std.proofs.lemmas.List.{take_all}
use Rattle.cops_script.specs.declared.line_runs.fault.RunFault.{RunFault}
use Rattle.cops_script.specs.declared.line_runs.fault.RunFault.TheVariants.{Refused, OutOfMemory, ReadFault, WriteFault}
use Rattle.cops_script.proofs.LineLemmas.{cut_lines-last, cut_lines-nil}
use Rattle.cops_script.proofs.LineRunLemmas.{Run-append, Advances-trans, Advances-written, IfWriteFault-weaker, append-nil_right, Answered-start, Answered-trans, Answered-written, HasFirst-after, HasFirst-from_SplitsOff, SplitsOff-more}
use Rattle.cops_types.specs.Counts.{counted, HasRisenBy}
use Rattle.cops_types.specs.Sink.{AppendsAllBut, AppendsFront}
use Rattle.cops_types.proofs.Writing.{AppendsAllBut-start}
use Rattle.cops_types.specs.Lines.{cut_lines}
use Rattle.cops_script.specs.LineAnswers.{Answers, IfRefused}
use Rattle.cops_script.specs.LineRules.{LineRules, Run}
use Rattle.cops_script.specs.RunFaults.{fault_of}
use Rattle.cops_script.specs.LineRuns.{stage, SplitsOff, HasFirst, IsWhole, IsLineFront, IfRunRefused, Answered, Stops, StopsAtEnd, StopsEarly, Finishes, AnswersAll, last_line}
use Rattle.cops_script.specs.declared.line_runs.machine.Stop.{Stop}
use Rattle.cops_script.specs.declared.line_runs.machine.Stop.TheVariants as stop

module _ {M F : Type 0} (rules : LineRules M F) where
  -- nothing is written
  unwritten : (contents : Option (List ℕ)) (bytes : List ℕ) → AppendsFront contents contents bytes
  unwritten contents bytes = (bytes, AppendsAllBut-start contents bytes)

  pub StopsAtEnd-line : (front : List ℕ) (machine : M) (waiting : List ℕ) (contents : Option (List ℕ)) (cause : Stop F)
      → (last_line front ≡ front ∷ []) × IfRefused cause (rules.refuses machine front)
      → StopsAtEnd rules front (stage machine waiting contents) contents (fault_of cause)
  StopsAtEnd-line front machine waiting contents stop.OutOfMemory h = record {
    lines = [];
    others = last_line front;
    split = refl;
    text = [];
    machine = machine;
    run = (refl, refl);
    last = [];
    ended = inl refl;
    written = unwritten contents _;
    refused = tt;
    to_write = tt;
  }
  StopsAtEnd-line front machine waiting contents (stop.Refused refusal) h = record {
    lines = [];
    others = last_line front;
    split = refl;
    text = [];
    machine = machine;
    run = (refl, refl);
    last = [];
    ended = inl refl;
    written = unwritten contents _;
    refused = (refl, inl (front, h.0, h.1));
    to_write = tt;
  }

  pub StopsAtEnd-end : (front : List ℕ) (old new : M) (waiting output : List ℕ) (contents : Option (List ℕ)) (cause : Stop F)
      → Answers (Run rules old (last_line front)) new waiting output → IfRefused cause (rules.refuses_end new)
      → StopsAtEnd rules front (stage old waiting contents) contents (fault_of cause)
  StopsAtEnd-end front old new waiting output contents stop.OutOfMemory p h = record {
    lines = last_line front;
    others = [];
    split = sym (append-nil (last_line front));
    text = p.text;
    machine = new;
    run = p.answered;
    last = [];
    ended = inl refl;
    written = unwritten contents _;
    refused = tt;
    to_write = tt;
  }
  StopsAtEnd-end front old new waiting output contents (stop.Refused refusal) p h = record {
    lines = last_line front;
    others = [];
    split = sym (append-nil (last_line front));
    text = p.text;
    machine = new;
    run = p.answered;
    last = [];
    ended = inl refl;
    written = unwritten contents _;
    refused = (refl, inr (refl, h));
    to_write = tt;
  }

-- ---- the whole run

IfRunRefused-weaker : {F : Type 0} (fault : RunFault F) (P Q : F → Type 0) → ((refusal : F) → P refusal → Q refusal) → IfRunRefused fault P → IfRunRefused fault Q
IfRunRefused-weaker (Refused refusal) P Q h p = h refusal p
IfRunRefused-weaker OutOfMemory P Q h p = tt
IfRunRefused-weaker ReadFault P Q h p = tt
IfRunRefused-weaker WriteFault P Q h p = tt

-- the line that lacks a newline is the only one that is left
cut_lines-front : (limit : ℕ) (front : List ℕ) → IsLineFront limit front → cut_lines limit front ≡ last_line front
cut_lines-front limit [] h = cut_lines-nil limit
cut_lines-front limit (byte ∷ bytes) h = cut_lines-last limit byte bytes h.unbroken ∙ ap (λ l. l ∷ []) (take_all (limit + 1) (byte ∷ bytes) h.short)

whole_lines : (limit : ℕ) (input : List ℕ) (lines : List (List ℕ)) (front : List ℕ) → SplitsOff limit input lines front → IsLineFront limit front → cut_lines limit input ≡ lines ++ last_line front
whole_lines limit input lines front split h =
    ap (cut_lines limit) (sym (append-nil input)) ∙ split [] ∙ ap (λ l. lines ++ cut_lines limit l) (append-nil front) ∙ ap (λ l. lines ++ l) (cut_lines-front limit front h)

-- what was read since the run began, and how far it is answered
pub record SoFar {M F : Type 0} (rules : LineRules M F) (limit : ℕ) (start_remaining remaining : Option (List ℕ)) (start : M) (start_contents : Option (List ℕ))
    (front : List ℕ) (machine : M) (waiting : List ℕ) (contents : Option (List ℕ)) : Type 0 where
  pub input : List ℕ
  pub read : Consumes start_remaining remaining input
  pub answered : Answered rules limit input (stage start [] start_contents) front (stage machine waiting contents)

module _ {M F : Type 0} (rules : LineRules M F) (limit : ℕ) (start_remaining : Option (List ℕ)) (start : M) (start_contents : Option (List ℕ)) where
  abbrev Now : Option (List ℕ) → List ℕ → M → List ℕ → Option (List ℕ) → Type 0
  Now remaining front machine waiting contents = SoFar rules limit start_remaining remaining start start_contents front machine waiting contents

  pub SoFar-start : (front waiting : List ℕ) → front ≡ [] → waiting ≡ [] → Now start_remaining front start waiting start_contents
  SoFar-start front waiting e d =
      subst (λ f. Now start_remaining f start waiting start_contents) (sym e)
      (subst (λ w. Now start_remaining [] start w start_contents) (sym d)
      (record { input = []; read = Consumes-nil start_remaining; answered = Answered-start rules limit [] (stage start [] start_contents) }))

  pub SoFar-piece : (remaining new_remaining : Option (List ℕ)) (front bytes new_front : List ℕ) (machine new : M) (waiting new_waiting : List ℕ) (contents new_contents : Option (List ℕ))
      → Now remaining front machine waiting contents → Consumes remaining new_remaining bytes
      → Answered rules limit (front ++ bytes) (stage machine waiting contents) new_front (stage new new_waiting new_contents)
      → Now new_remaining new_front new new_waiting new_contents
  SoFar-piece remaining new_remaining front bytes new_front machine new waiting new_waiting contents new_contents p read q = record {
    input = p.input ++ bytes;
    read = Consumes-trans start_remaining remaining new_remaining p.input bytes p.read read;
    answered = Answered-trans rules limit p.input (stage start [] start_contents) front (stage machine waiting contents) bytes new_front (stage new new_waiting new_contents) p.answered q;
  }

  pub SoFar-written : (remaining : Option (List ℕ)) (front : List ℕ) (machine : M) (waiting rest : List ℕ) (contents new_contents : Option (List ℕ))
      → Now remaining front machine waiting contents → AppendsAllBut contents new_contents waiting rest → Now remaining front machine rest new_contents
  SoFar-written remaining front machine waiting rest contents new_contents p written = record {
    input = p.input;
    read = p.read;
    answered = Answered-written rules limit p.input (stage start [] start_contents) front machine waiting rest contents new_contents p.answered written;
  }

  -- a read that failed
  pub SoFar-kept : (remaining new_remaining : Option (List ℕ)) (front : List ℕ) (machine : M) (waiting : List ℕ) (contents : Option (List ℕ))
      → Now remaining front machine waiting contents → Keeps remaining new_remaining → Now new_remaining front machine waiting contents
  SoFar-kept remaining new_remaining front machine waiting contents p read = record {
    input = p.input;
    read = Consumes-kept start_remaining remaining new_remaining p.input p.read read;
    answered = p.answered;
  }

  -- a run that goes no further than this, since the reader failed
  pub StopsEarly-read : (remaining : Option (List ℕ)) (front : List ℕ) (machine : M) (waiting : List ℕ) (contents : Option (List ℕ))
      → Now remaining front machine waiting contents → StopsEarly rules limit start_remaining remaining start start_contents contents ReadFault
  StopsEarly-read remaining front machine waiting contents p = let advanced = p.answered.advanced in record {
    input = p.input;
    read = p.read;
    lines = p.answered.lines;
    first = inl (HasFirst-from_SplitsOff limit p.input p.answered.lines front p.answered.split);
    text = advanced.text;
    machine = machine;
    run = advanced.run;
    last = [];
    ended = inl refl;
    written = (waiting, record { written = advanced.written; whole = append-nil advanced.text ∙ advanced.whole; appended = advanced.appended });
    refused = tt;
    to_write = tt;
  }

  -- the same, since the writer failed
  pub StopsEarly-written : (remaining : Option (List ℕ)) (front : List ℕ) (machine : M) (waiting : List ℕ) (contents new_contents : Option (List ℕ))
      → Now remaining front machine waiting contents → AppendsFront contents new_contents waiting → waiting ≢ []
      → StopsEarly rules limit start_remaining remaining start start_contents new_contents WriteFault
  StopsEarly-written remaining front machine waiting contents new_contents p written some =
      let advanced = Advances-written rules (stage start [] start_contents) p.answered.lines machine waiting written.0 contents new_contents p.answered.advanced written.1 in
      let before = p.answered.advanced in
      record {
        input = p.input;
        read = p.read;
        lines = p.answered.lines;
        first = inl (HasFirst-from_SplitsOff limit p.input p.answered.lines front p.answered.split);
        text = before.text;
        machine = machine;
        run = before.run;
        last = [];
        ended = inl refl;
        written = (written.0, record { written = advanced.written; whole = append-nil before.text ∙ advanced.whole; appended = advanced.appended });
        refused = tt;
        to_write = λ none. some (append-nil_right before.written waiting (sym before.whole ∙ sym (append-nil before.text) ∙ none));
      }

  -- a run that stops within a piece
  pub StopsEarly-piece : (remaining new_remaining : Option (List ℕ)) (front bytes : List ℕ) (machine : M) (waiting : List ℕ) (contents new_contents : Option (List ℕ)) (fault : RunFault F)
      → Now remaining front machine waiting contents → Consumes remaining new_remaining bytes
      → Stops rules limit (front ++ bytes) (stage machine waiting contents) new_contents fault
      → StopsEarly rules limit start_remaining new_remaining start start_contents new_contents fault
  StopsEarly-piece remaining new_remaining front bytes machine waiting contents new_contents fault p read q =
      let split : SplitsOff limit (p.input ++ bytes) p.answered.lines (front ++ bytes) = SplitsOff-more limit p.input p.answered.lines front bytes p.answered.split in
      let advanced = Advances-trans rules (stage start [] start_contents) p.answered.lines (stage machine waiting contents) q.lines (stage q.machine q.waiting new_contents) p.answered.advanced q.advanced in
      record {
        input = p.input ++ bytes;
        read = Consumes-trans start_remaining remaining new_remaining p.input bytes p.read read;
        lines = p.answered.lines ++ q.lines;
        first = inl (HasFirst-after limit (p.input ++ bytes) p.answered.lines (front ++ bytes) q.lines split q.first);
        text = advanced.text;
        machine = q.machine;
        run = advanced.run;
        last = [];
        ended = inl refl;
        written = (q.waiting, record { written = advanced.written; whole = append-nil advanced.text ∙ advanced.whole; appended = advanced.appended });
        refused = IfRunRefused-weaker fault _ _
            (λ refusal found. (
              refl,
              inl (
                found.0,
                inl (subst (HasFirst limit (p.input ++ bytes)) (sym (append_assoc p.answered.lines q.lines (found.0 ∷ [])))
                    (HasFirst-after limit (p.input ++ bytes) p.answered.lines (front ++ bytes) (q.lines ++ found.0 ∷ []) split found.1)),
                found.2,
              ),
            ))
            q.refused;
        to_write = IfWriteFault-weaker fault _ _
            (λ some none. some (append-nil_right p.answered.advanced.written (waiting ++ q.advanced.text)
            (sym (append_assoc p.answered.advanced.written waiting q.advanced.text) ∙ ap (λ l. l ++ q.advanced.text) (sym p.answered.advanced.whole)
            ∙ sym (append-nil advanced.text) ∙ none)))
            q.to_write;
      }

  -- at the end of the input
  joined : (a b w c d : List ℕ) → a ≡ b ++ w → (a ++ c) ++ d ≡ b ++ (w ++ (c ++ d))
  joined a b w c d e = append_assoc a c d ∙ ap (λ l. l ++ (c ++ d)) e ∙ append_assoc b w (c ++ d)

  pub AnswersAll-finish : (remaining new_remaining : Option (List ℕ)) (front : List ℕ) (machine new : M) (waiting : List ℕ) (contents new_contents : Option (List ℕ))
      → Now remaining front machine waiting contents → Consumes remaining new_remaining [] → IsAtEnd new_remaining → IsLineFront limit front
      → Finishes rules front (stage machine waiting contents) new new_contents
      → AnswersAll rules limit start_remaining new_remaining start new start_contents new_contents
  AnswersAll-finish remaining new_remaining front machine new waiting contents new_contents p read at_end h q = let advanced = p.answered.advanced in record {
    input = p.input;
    read = subst (Consumes start_remaining new_remaining) (append-nil p.input) (Consumes-trans start_remaining remaining new_remaining p.input [] p.read read);
    at_end = at_end;
    text = advanced.text ++ q.text;
    machine = q.machine;
    run = subst (λ l. Run rules start l (advanced.text ++ q.text) q.machine) (sym (whole_lines limit p.input p.answered.lines front p.answered.split h))
        (Run-append rules start p.answered.lines advanced.text machine (last_line front) q.text q.machine advanced.run q.run);
    last = q.last;
    ended = q.ended;
    written = subst (Appends start_contents new_contents) (sym (joined advanced.text advanced.written waiting q.text q.last advanced.whole))
        (Appends-trans start_contents contents new_contents advanced.written (waiting ++ (q.text ++ q.last)) advanced.appended q.written);
  }

  pub StopsEarly-finish : (remaining new_remaining : Option (List ℕ)) (front : List ℕ) (machine : M) (waiting : List ℕ) (contents new_contents : Option (List ℕ)) (fault : RunFault F)
      → Now remaining front machine waiting contents → Consumes remaining new_remaining [] → IsAtEnd new_remaining → IsLineFront limit front
      → StopsAtEnd rules front (stage machine waiting contents) new_contents fault
      → StopsEarly rules limit start_remaining new_remaining start start_contents new_contents fault
  StopsEarly-finish remaining new_remaining front machine waiting contents new_contents fault p read at_end h q =
      let advanced = p.answered.advanced in
      let lines = p.answered.lines in
      let whole : cut_lines limit p.input ≡ (lines ++ q.lines) ++ q.others =
      whole_lines limit p.input lines front p.answered.split h ∙ ap (λ l. lines ++ l) q.split ∙ sym (append_assoc lines q.lines q.others) in
      let all : q.others ≡ [] → IsWhole limit p.input new_remaining (lines ++ q.lines) =
      λ e. (at_end, whole ∙ ap (λ l. (lines ++ q.lines) ++ l) e ∙ append-nil (lines ++ q.lines)) in
      record {
        input = p.input;
        read = subst (Consumes start_remaining new_remaining) (append-nil p.input) (Consumes-trans start_remaining remaining new_remaining p.input [] p.read read);
        lines = lines ++ q.lines;
        first = inr (at_end, q.others, whole);
        text = advanced.text ++ q.text;
        machine = q.machine;
        run = Run-append rules start lines advanced.text machine q.lines q.text q.machine advanced.run q.run;
        last = q.last;
        ended = elim q.ended [ inl none ↦ inl none | inr (e, new, ended) ↦ inr (all e, new, ended) ];
        written = (
          q.written.0,
          record {
            written = advanced.written ++ q.written.1.written;
            whole = joined advanced.text advanced.written waiting q.text q.last advanced.whole ∙ ap (λ l. advanced.written ++ l) q.written.1.whole
                ∙ sym (append_assoc advanced.written q.written.1.written q.written.0);
            appended = Appends-trans start_contents contents new_contents advanced.written q.written.1.written advanced.appended q.written.1.appended;
          },
        );
        refused = IfRunRefused-weaker fault _ _
            (λ refusal found. (
              found.0,
              elim found.1 [
                | inl (line, e, refused) ↦ inl (line, inr (at_end, [], whole ∙ ap (λ l. (lines ++ q.lines) ++ l) e ∙ sym (append-nil ((lines ++ q.lines) ++ line ∷ []))), refused)
                | inr (e, refused) ↦ inr (all e, refused)
              ],
            ))
            q.refused;
        to_write = IfWriteFault-weaker fault _ _
            (λ some none. some (append-nil_right advanced.written (waiting ++ (q.text ++ q.last))
            (sym (joined advanced.text advanced.written waiting q.text q.last advanced.whole) ∙ none)))
            q.to_write;
      }

-- the counts of a reader and of a writer, none of whose calls failed
pub record OnlyReads (old_failures new_failures old_reads new_reads turns old_writes new_writes : ℕ) : Type 0 where
  pub reader : new_failures ≡ old_failures
  pub reads : HasRisenBy old_reads new_reads turns
  pub few : new_reads ≤ old_reads + turns
  pub writer : new_writes ≡ old_writes

-- one turn more, one read more at most
pub few-next : (old count turns new : ℕ) → count ≤ old + turns → new ≡ counted count → new ≤ old + (turns + 1)
few-next old count turns new few e = omega arith
