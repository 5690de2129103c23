-- Text that is put, piece by piece.
use Rattle.cops_replay.proofs.Names.{◌≡◌, ℕ, List, [], ◌++◌, Option, Result, Ok, Err, refl, sym, subst, ap, ◌∙◌, append_assoc, append-nil, arith, IfErr, Appends, nat_tests, AppendsFront, AppendsFront-more, page, Appends-nil, Appends-trans, RequestError, WriteFault, OutOfMemory, HasRisen, IfRefusal, OnRefusal, FailsBy, Page, PutsText}
use Rattle.cops_types.specs.declared.request_errors.RequestError.TheVariants.{Refused}

-- nothing is written
pub front_of_none : (contents : Option (List ℕ)) (text : List ℕ) → AppendsFront contents contents text
front_of_none contents text = (text, record { written = []; whole = refl; appended = Appends-nil contents })

-- memory was refused before anything was written
pub Puts-lack : (text waiting other : List ℕ) (contents : Option (List ℕ)) (failures : ℕ) → PutsText {T = Unit {0}} text (page waiting contents failures) (Err OutOfMemory) (page other contents failures)
Puts-lack text waiting other contents failures = (front_of_none contents (waiting ++ text), tt)

-- one text after another
pub Puts-then : (first text : List ℕ) (old mid : Page) (done : Unit {0}) (r : Result (Unit {0}) RequestError) (new : Page) → PutsText {T = Unit {0}} first old (Ok done) mid → PutsText {T = Unit {0}} text mid r new → PutsText {T = Unit {0}} (first ++ text) old r new
Puts-then first text old mid done (Ok d) new p q = (
  record {
    written = p.0.written ++ q.0.written;
    whole = sym (append_assoc old.waiting first text) ∙ ap (λ l. l ++ text) p.0.whole ∙ append_assoc p.0.written mid.waiting text
        ∙ ap (λ l. p.0.written ++ l) q.0.whole ∙ sym (append_assoc p.0.written q.0.written new.waiting);
    appended = Appends-trans old.contents mid.contents new.contents p.0.written q.0.written p.0.appended q.0.appended;
  },
  q.1 ∙ p.1,
)
Puts-then first text old mid done (Err error) new p q = (
  (
    q.0.0,
    record {
      written = p.0.written ++ q.0.1.written;
      whole = sym (append_assoc old.waiting first text) ∙ ap (λ l. l ++ text) p.0.whole ∙ append_assoc p.0.written mid.waiting text
          ∙ ap (λ l. p.0.written ++ l) q.0.1.whole ∙ sym (append_assoc p.0.written q.0.1.written q.0.0);
      appended = Appends-trans old.contents mid.contents new.contents p.0.written q.0.1.written p.0.appended q.0.1.appended;
    },
  ),
  subst (λ n. FailsBy error n new.failures) p.1 q.1,
)

-- a text that ended early is a prefix of what goes on from it
pub Puts-more : (text more : List ℕ) (old : Page) (error : RequestError) (new : Page) → PutsText {T = Unit {0}} text old (Err error) new → PutsText {T = Unit {0}} (text ++ more) old (Err error) new
Puts-more text more old error new p = (
  subst (AppendsFront old.contents new.contents) (append_assoc old.waiting text more) (AppendsFront-more old.contents new.contents (old.waiting ++ text) more p.0),
  p.1,
)

-- of the whole text this is left to put
pub record IsLeft (whole left : List ℕ) (old new : Page) : Type 0 where
  pub done : List ℕ
  pub whole_is : done ++ left ≡ whole
  pub put : PutsText {T = Unit {0}} done old (Ok tt) new

pub all_left : (whole : List ℕ) (old : Page) → IsLeft whole whole old old
all_left whole old = record { done = []; whole_is = refl; put = (record { written = []; whole = append-nil old.waiting; appended = Appends-nil old.contents }, refl) }

-- one more piece was put
pub less_left : {whole left : List ℕ} {old mid : Page} (piece more : List ℕ) (new : Page) → left ≡ piece ++ more → IsLeft whole left old mid → PutsText {T = Unit {0}} piece mid (Ok tt) new → IsLeft whole more old new
less_left {old = old} {mid = mid} piece more new e p q = record {
  done = p.done ++ piece;
  whole_is = append_assoc p.done piece more ∙ ap (λ l. p.done ++ l) (sym e) ∙ p.whole_is;
  put = Puts-then p.done piece old mid tt (Ok tt) new p.put q;
}

-- the next piece ended early
pub left_early : {whole left : List ℕ} {old mid : Page} (piece more : List ℕ) (error : RequestError) (new : Page) → left ≡ piece ++ more → IsLeft whole left old mid → PutsText {T = Unit {0}} piece mid (Err error) new →
    PutsText {T = Unit {0}} whole old (Err error) new
left_early {old = old} {mid = mid} piece more error new e p q =
    subst (λ l. PutsText {T = Unit {0}} l old (Err error) new) (append_assoc p.done piece more ∙ ap (λ l. p.done ++ l) (sym e) ∙ p.whole_is)
    (Puts-more (p.done ++ piece) more old error new (Puts-then p.done piece old mid tt (Err error) new p.put q))

pub none_left : {whole left : List ℕ} {old new : Page} → left ≡ [] → IsLeft whole left old new → PutsText {T = Unit {0}} whole old (Ok tt) new
none_left {old = old} {new = new} e p = subst (λ l. PutsText {T = Unit {0}} l old (Ok tt) new) (sym (append-nil p.done) ∙ ap (λ l. p.done ++ l) (sym e) ∙ p.whole_is) p.put

-- ---- text that was put after text that waited

pub front_of_put : (first text waiting : List ℕ) (old_contents : Option (List ℕ)) (failures : ℕ) (error : RequestError) (new : Page) → waiting ≡ first →
    PutsText {T = Unit {0}} text (page waiting old_contents failures) (Err error) new → AppendsFront old_contents new.contents (first ++ text)
front_of_put first text waiting old_contents failures error new e p = subst (λ l. AppendsFront old_contents new.contents (l ++ text)) e p.0

-- all of it is written at last, or a front
pub whole_put : (first text waiting : List ℕ) (old_contents new_contents : Option (List ℕ)) (failures : ℕ) (mid : Page) → waiting ≡ first →
    PutsText {T = Unit {0}} text (page waiting old_contents failures) (Ok tt) mid → Appends mid.contents new_contents mid.waiting → Appends old_contents new_contents (first ++ text)
whole_put first text waiting old_contents new_contents failures mid e p q =
    subst (Appends old_contents new_contents) (sym p.0.whole ∙ ap (λ l. l ++ text) e) (Appends-trans old_contents mid.contents new_contents p.0.written mid.waiting p.0.appended q)

pub front_put : (first text waiting : List ℕ) (old_contents new_contents : Option (List ℕ)) (failures : ℕ) (mid : Page) → waiting ≡ first →
    PutsText {T = Unit {0}} text (page waiting old_contents failures) (Ok tt) mid → AppendsFront mid.contents new_contents mid.waiting → AppendsFront old_contents new_contents (first ++ text)
front_put first text waiting old_contents new_contents failures mid h7 h8 h9 = grind (arith, nat_tests, append_assoc)

-- ---- why the writing failed

pub failed_by : (error : RequestError) (old new : ℕ) → FailsBy error old new → IfRefusal {A = Unit {0}} (Err error) (λ fault. fault ≡ WriteFault)
failed_by OutOfMemory old new h = tt
failed_by (Refused fault) old new h = h.0

pub risen_by : (error : RequestError) (old new : ℕ) → FailsBy error old new → OnRefusal {A = Unit {0}} (Err error) (HasRisen old new)
risen_by OutOfMemory old new h = tt
risen_by (Refused fault) old new h = h.1

pub failed_at_last : (r : Result (Unit {0}) RequestError) → IfErr r (λ error. error ≡ Refused WriteFault) → IfRefusal r (λ fault. fault ≡ WriteFault)
failed_at_last r h1 = grind (arith, nat_tests)
