-- What a run says if the bytes of its reader are known.
use Rattle.std.proofs.Common.{◌≡◌, ℕ, List, [], ◌∷◌, ◌++◌, inl, inr, Option, None, Some, refl, sym, subst, ap, ◌∙◌, append_assoc, append-nil}
use Rattle.std.specs.Prelude.{IfSome}
use Rattle.std.specs.Io.KnownBytes.{Consumes, IsAtEnd, Keeps}
use Rattle.cops_types.specs.Sink.{AppendsFront}
use Rattle.cops_types.specs.Lines.{cut_lines}
use Rattle.cops_script.specs.LineRules.{LineRules, Run}
use Rattle.cops_script.specs.LineRuns.{IsWhole, StartsWithLines, StopsEarly}
use Rattle.cops_script.specs.declared.line_runs.fault.RunFault.TheVariants.{WriteFault}

-- all that was known was read
pub input_is : (known input : List ℕ) (new : Option (List ℕ)) → Consumes (Some known) new input → IsAtEnd new → known ≡ input
input_is known input None read at_end = absurd read
input_is known input (Some rest) read at_end = read ∙ ap (λ l. input ++ l) at_end ∙ append-nil input

-- the lines of what was known begin with these
pub known_lines : (limit : ℕ) (known input : List ℕ) (new : Option (List ℕ)) (lines : List (List ℕ)) → Consumes (Some known) new input → StartsWithLines limit input new lines
    → (others : List (List ℕ)) × (cut_lines limit known ≡ lines ++ others)
known_lines limit known input None lines read first = absurd read
known_lines limit known input (Some rest) lines read (inl first) = let found = first rest in (found.0, ap (cut_lines limit) read ∙ found.1)
known_lines limit known input (Some rest) lines read (inr (at_end, others, e)) = (others, ap (cut_lines limit) (input_is known input (Some rest) read at_end) ∙ e)

pub known_whole : (limit : ℕ) (known input : List ℕ) (new : Option (List ℕ)) (lines : List (List ℕ)) → Consumes (Some known) new input → IsWhole limit input new lines → cut_lines limit known ≡ lines
known_whole limit known input new lines read (at_end, e) = ap (cut_lines limit) (input_is known input new read at_end) ∙ e

-- a prefix of a text is a prefix of what goes on from it
pub AppendsFront-more : (old new : Option (List ℕ)) (text more : List ℕ) → AppendsFront old new text → AppendsFront old new (text ++ more)
AppendsFront-more old new text more (rest, p) = (
  rest ++ more,
  record {
    written = p.written;
    whole = ap (λ l. l ++ more) p.whole ∙ append_assoc p.written rest more;
    appended = p.appended;
  },
)

front_of_nil : (a b : List ℕ) → [] ≡ a ++ b → a ≡ []
front_of_nil [] b e = refl
front_of_nil (x ∷ a) b e = absurd (let clash : ⊥ = cc in clash)

-- a prefix of nothing is nothing
pub AppendsFront-nil : (old new : Option (List ℕ)) → AppendsFront old new [] → Keeps old new
AppendsFront-nil None new p = tt
AppendsFront-nil (Some x) None p = absurd p.1.appended
AppendsFront-nil (Some x) (Some y) (rest, p) = p.appended ∙ ap (λ l. x ++ l) (front_of_nil p.written rest p.whole) ∙ append-nil x

-- what holds of all that was read holds of what was known
pub by_known : (P : List ℕ → Type 0) (known new : Option (List ℕ)) (input : List ℕ) → Consumes known new input → IsAtEnd new → P input → IfSome known P
by_known P None new input read at_end holds = tt
by_known P (Some bytes) new input read at_end holds = subst P (sym (input_is bytes input new read at_end)) holds

-- a machine that is quiet at the end has been so from the start, and answered nothing
pub Run-quiet : {M F : Type 0} (rules : LineRules M F) (IsQuiet : M → Type 0) → ((old : M) (line text : List ℕ) (new : M) → rules.answers old line text new → IsQuiet new → IsQuiet old × (text ≡ []))
    → (old : M) (lines : List (List ℕ)) (text : List ℕ) (new : M) → Run rules old lines text new → IsQuiet new → IsQuiet old × (text ≡ [])
Run-quiet rules IsQuiet before old [] text new h here = (subst IsQuiet h.1 here, h.0)
Run-quiet rules IsQuiet before old (line ∷ lines) text new (first, mid, later, answered, run, whole) here =
    let rest = Run-quiet rules IsQuiet before mid lines later new run here in
    let one = before old line first mid answered rest.0 in
    (one.0, whole ∙ (λ i. one.1 i ++ rest.1 i))

-- ---- a machine that answers nothing never sees the writer fail

module _ {M F : Type 0} (rules : LineRules M F) (silent : (old : M) (line text : List ℕ) (new : M) → rules.answers old line text new → text ≡ []) where
  pub Run-silent : (old : M) (lines : List (List ℕ)) (text : List ℕ) (new : M) → Run rules old lines text new → text ≡ []
  Run-silent old [] text new h = h.0
  Run-silent old (line ∷ lines) text new (first, mid, later, answered, run, whole) =
      whole ∙ ap (λ t. t ++ later) (silent old line first mid answered) ∙ Run-silent mid lines later new run

  pub no_write_fault : (limit : ℕ) (old_remaining new_remaining : Option (List ℕ)) (old : M) (old_contents new_contents : Option (List ℕ))
      → ((machine : M) (text : List ℕ) (new : M) → rules.ends machine text new → text ≡ [])
      → StopsEarly rules limit old_remaining new_remaining old old_contents new_contents WriteFault → ⊥
  no_write_fault limit old_remaining new_remaining old old_contents new_contents silent_end p =
      let last : p.last ≡ [] = elim p.ended [ inl e ↦ e | inr (whole, new, ended) ↦ silent_end p.machine p.last new ended ] in
      p.to_write (ap (λ t. t ++ p.last) (Run-silent old p.lines p.text p.machine p.run) ∙ last)
