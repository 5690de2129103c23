-- A line has one meaning, which `said_in` computes.
use Rattle.std.proofs.Common.{◌≡◌, ◌≢◌, ℕ, zero, suc, ◌+◌, ◌<◌, Bool, true, false, cond, not, ◌&&◌, true≢false, ◌⊎◌, inl, inr, List, [], ◌∷◌, length, take, refl, sym, subst, ap, ◌∙◌, arith}
use Rattle.std.specs.Prelude.{codes, is_none, nat_lt, position, slice_get, unwrap_or, Option, Some, None}
use Rattle.std.specs.List.{position_or_len}
use Rattle.std.specs.Option.{option_and_then, option_map}
use Rattle.std.specs.Str.{bytes_eq}
use Rattle.std.proofs.lemmas.Bool.{cases_lt}
use Rattle.std.proofs.lemmas.Bool.Decides.{nat_tests}
use Rattle.std.proofs.lemmas.List.Quantifiers.{position-Some}
use Rattle.cops_types.specs.declared.configs.Tenant.{Tenant}
use Rattle.cops_types.specs.declared.faults.Fault.TheVariants.{NameTaken, NoSlot, OutOfMemory, Syntax}
use Rattle.cops_types.specs.HeadLines.{most_tenants}
use Rattle.cops_types.specs.Key.{is_name}
use Rattle.cops_types.specs.OpenSlots.{admission_refusal, first_from, has_name, is_free, is_new, open_at, open_slot_of_name}
use Rattle.cops_types.specs.Search.{first_refusal}
use Rattle.cops_types.specs.Words.{first_word}
use Rattle.cops_types.proofs.OpenSlotLemmas.{none_named, none_passes}
use Rattle.cops_types.proofs.WordLemmas.{bytes_from_test, same_bytes}
use Rattle.cops_model.specs.declared.acts.Act.{Act}
use Rattle.cops_model.specs.declared.replies.Reply.{Reply}
use Rattle.cops_model.specs.declared.replies.Reply.TheVariants.{Refused}
use Rattle.cops_model.specs.Setups.{next_slot}
use Rattle.cops_script.specs.ActLines.{IsActLine, act_in}
use Rattle.cops_script.specs.Answers.{Answer, ToHost, ToTenant, is_lack, reply_to_host}
use Rattle.cops_script.specs.HostLines.{admitted_in, closed_in}
use Rattle.cops_script.specs.Lives.{Lives, lives_after, of_life, of_lives_from}
use Rattle.cops_script.specs.Meaning.{Action, Admission, AreMeant, BadAction, BadAdmission, BadClosing, Closing, IsAdmissionLine, IsClosingLine, KnownTenant, Means, NoMemory, NoRoom, NoneToClose, Stray}
use Rattle.cops_script.specs.OpenNames.{AreOpenNamed}
use Rattle.cops_script.specs.Said.{Admits, Closes, Refuses, Said, OfHost, Unformed, Acts, admission_of, admission_unless, begins_admission, begins_closing, closing_at, closing_of, said_by, said_found, said_in, tenants_after}
use Rattle.cops_script.specs.ScriptRuns.{AreAnswersTo, heard, said_from}
use Rattle.cops_script.proofs.ActLemmas.{act_in-finds, act_in-is}
use Rattle.cops_script.proofs.HostLineLemmas.{admission_first, admitted_in-finds, admitted_in-is, closed_in-finds, closed_in-is, closing_first}
use Rattle.cops_script.proofs.LifeLines.{heard_named}
use Rattle.cops_script.proofs.NamedSlots.{free_at}
use Rattle.cops_script.proofs.SaidLines.{AdmitsNamed, named_after, said_in-named}

none_some : {A : Type 0} {x : A} → None ≡ Some x → ⊥
none_some e = cc

-- ---- the least free slot

abbrev free_slot : List (Option Tenant) → Option ℕ
free_slot tenants = position is_none (take most_tenants tenants)

-- a slot that is found is the one that an admission asks for, and is free
free_is_next : (tenants : List (Option Tenant)) (slot : ℕ) → free_slot tenants ≡ Some slot → next_slot tenants ≡ slot
free_is_next tenants slot e = ap (λ o. unwrap_or o most_tenants) e

short_take : {A : Type 0} (n : ℕ) (xs : List A) (i : ℕ) → i < length (take n xs) → i < n
short_take zero xs i low = absurd (omega arith)
short_take (suc n) [] i low = absurd (omega arith)
short_take (suc n) (x ∷ xs) zero low = omega arith
short_take (suc n) (x ∷ xs) (suc i) low = let rest = short_take n xs i (omega arith) in omega arith

is_free_at : (tenants : List (Option Tenant)) (slot : ℕ) → free_slot tenants ≡ Some slot → is_free slot tenants ≡ true
is_free_at tenants slot e =
    let found = position-Some is_none (take most_tenants tenants) slot None e in
    let low = short_take most_tenants tenants slot found.0 in
    let below : nat_lt slot most_tenants ≡ true = grind (arith, nat_tests) in
    let there = free_at most_tenants tenants slot None found.0 found.1 in
    (λ i. below i && is_none (at there.0 i))
  where
    at : slice_get tenants slot ≡ Some None → open_at slot tenants ≡ None
    at e = ap (option_and_then (λ (t : Option Tenant). t)) e

-- ---- the slot of a name

module _ {X : Type 0} (p : X → Bool) (x : X) (xs : List X) where
  position-here : p x ≡ true → position p (x ∷ xs) ≡ Some 0
  position-here e =
      let t : nat_lt 0 (suc (length xs)) ≡ true = grind (arith, nat_tests) in
      let shown : position p (x ∷ xs) ≡ cond (nat_lt 0 (suc (length xs))) (Some 0) None = rw e refl in
      rw t at shown

  position-later : p x ≡ false → position p (x ∷ xs) ≡ option_map (λ i. 1 + i) (position p xs)
  position-later e =
      let n = position_or_len p xs in
      let shown : position p (x ∷ xs) ≡ cond (nat_lt (1 + n) (suc (length xs))) (Some (1 + n)) None = rw e refl in
      elim (cases_lt n (length xs)) [
        | inl under ↦
            let t : nat_lt (1 + n) (suc (length xs)) ≡ true = grind (arith, nat_tests) in
            let u : nat_lt n (length xs) ≡ true = grind (arith, nat_tests) in
            let rest : position p xs ≡ Some n = rw u refl in
            (rw t at shown) ∙ ap (option_map (λ i. 1 + i)) (sym rest)
        | inr over ↦
            let t : nat_lt (1 + n) (suc (length xs)) ≡ false = grind (arith, nat_tests) in
            let u : nat_lt n (length xs) ≡ false = grind (arith, nat_tests) in
            let rest : position p xs ≡ None = rw u refl in
            (rw t at shown) ∙ ap (option_map (λ i. 1 + i)) (sym rest)
      ]

one_later : (n : ℕ) (o : Option ℕ) → option_map (λ i. n + i) (option_map (λ i. 1 + i) o) ≡ option_map (λ i. n + 1 + i) o
one_later n None = refl
one_later n (Some i) = ap Some (omega arith)

first_is : (test : Option Tenant → Bool) (n : ℕ) (slots : List (Option Tenant)) → option_map (λ i. n + i) (position test slots) ≡ first_from test n slots
first_is test n [] = refl
first_is test n (slot ∷ slots) = by (test slot) refl (first_is test (n + 1) slots)
  where
    by : (t : Bool) → test slot ≡ t → option_map (λ i. n + 1 + i) (position test slots) ≡ first_from test (n + 1) slots → option_map (λ i. n + i) (position test (slot ∷ slots)) ≡ first_from test n (slot ∷ slots)
    by true e rest =
        let here : first_from test n (slot ∷ slots) ≡ Some n = rw e refl in
        let same : n + 0 ≡ n = omega arith in
        ap (option_map (λ i. n + i)) (position-here test slot slots e) ∙ ap Some same ∙ sym here
    by false e rest =
        let onward : first_from test n (slot ∷ slots) ≡ first_from test (n + 1) slots = rw e refl in
        ap (option_map (λ i. n + i)) (position-later test slot slots e) ∙ one_later n (position test slots) ∙ rest ∙ sym onward

slot_is : (tenants : List (Option Tenant)) (name : List ℕ) → position (has_name name) tenants ≡ open_slot_of_name tenants name
slot_is tenants name = sym (itself (position (has_name name) tenants)) ∙ first_is (has_name name) 0 tenants
  where
    itself : (o : Option ℕ) → option_map (λ i. 0 + i) o ≡ o
    itself None = refl
    itself (Some i) = let same : 0 + i ≡ i = omega arith in ap Some same

-- ---- the answer to a request

abbrev pub IsAnswerTo : Said → Answer → Type 0
IsAnswerTo (OfHost deed) answer = answer ≡ ToHost (reply_to_host deed)
IsAnswerTo (Unformed number) answer = answer ≡ ToTenant number (Refused Syntax)
IsAnswerTo (Acts event) answer = (reply : Reply) × (answer ≡ ToTenant event.slot reply)

-- the first request gets the first answer
pub first_answered : (said : Said) (more : List Said) (answer : Answer) (told : List Answer) → AreAnswersTo (said ∷ more) (answer ∷ told) → IsAnswerTo said answer × AreAnswersTo more told
first_answered (OfHost deed) more answer told each = each
first_answered (Unformed number) more answer told each = each
first_answered (Acts event) more answer told each = each

-- ---- from `said_in`

module _ (tenants : List (Option Tenant)) (line : List ℕ) where
  -- what refuses an admission
  refused_new : (tenant : Tenant) (slot : ℕ) → free_slot tenants ≡ Some slot → admission_refusal tenants (next_slot tenants) tenant ≡ first_refusal ((not (is_new tenants tenant), NameTaken) ∷ (false, NoSlot) ∷ [])
  refused_new tenant slot e =
      let free : is_free (next_slot tenants) tenants ≡ true = ap (λ n. is_free n tenants) (free_is_next tenants slot e) ∙ is_free_at tenants slot e in
      (λ i. first_refusal ((not (is_new tenants tenant), NameTaken) ∷ (not (free i), NoSlot) ∷ []))

  refused_full : (tenant : Tenant) → free_slot tenants ≡ None → admission_refusal tenants (next_slot tenants) tenant ≡ first_refusal ((not (is_new tenants tenant), NameTaken) ∷ (true, NoSlot) ∷ [])
  refused_full tenant e =
      let last : next_slot tenants ≡ most_tenants = ap (λ o. unwrap_or o most_tenants) e in
      (λ i. first_refusal ((not (is_new tenants tenant), NameTaken) ∷ (not (is_free (last i) tenants), NoSlot) ∷ []))

  means_admission : (tenant : Tenant) → IsAdmissionLine line tenant → Means tenants line (OfHost (admission_of tenants (Some tenant)))
  means_admission tenant is = by_slot (free_slot tenants) refl
    where
      by_slot : (free : Option ℕ) → free_slot tenants ≡ free → Means tenants line (OfHost (admission_unless tenants tenant (admission_refusal tenants (next_slot tenants) tenant)))
      by_slot (Some slot) e = subst (λ r. Means tenants line (OfHost (admission_unless tenants tenant r))) (sym (refused_new tenant slot e)) (by_new (is_new tenants tenant) refl)
        where
          by_new : (new : Bool) → is_new tenants tenant ≡ new → Means tenants line (OfHost (admission_unless tenants tenant (first_refusal ((not new, NameTaken) ∷ (false, NoSlot) ∷ []))))
          by_new true fresh = subst (λ n. Means tenants line (OfHost (Admits n tenant))) (sym (free_is_next tenants slot e)) (Admission tenant slot is fresh e)
          by_new false known = KnownTenant tenant is known
      by_slot None e = subst (λ r. Means tenants line (OfHost (admission_unless tenants tenant r))) (sym (refused_full tenant e)) (by_new (is_new tenants tenant) refl)
        where
          by_new : (new : Bool) → is_new tenants tenant ≡ new → Means tenants line (OfHost (admission_unless tenants tenant (first_refusal ((not new, NameTaken) ∷ (true, NoSlot) ∷ []))))
          by_new true fresh = NoRoom tenant is fresh e
          by_new false known = KnownTenant tenant is known

  admission_meant : (found : Option Tenant) → first_word line ≡ codes "+" → admitted_in line ≡ found → Means tenants line (OfHost (admission_of tenants found))
  admission_meant None first e = BadAdmission first (λ tenant is. none_some (sym e ∙ admitted_in-finds line tenant is))
  admission_meant (Some tenant) first e = means_admission tenant (admitted_in-is line tenant e)

  closing_meant : (found : Option (List ℕ)) → first_word line ≡ codes "-" → closed_in line ≡ found → Means tenants line (OfHost (closing_of tenants found))
  closing_meant None first e = BadClosing first (λ name is. none_some (sym e ∙ closed_in-finds line name is))
  closing_meant (Some name) first e = by_slot (open_slot_of_name tenants name) refl
    where
      by_slot : (slot : Option ℕ) → open_slot_of_name tenants name ≡ slot → Means tenants line (OfHost (closing_at name slot))
      by_slot None there = NoneToClose name (closed_in-is line name e) (slot_is tenants name ∙ there)
      by_slot (Some slot) there = Closing name slot (closed_in-is line name e) (slot_is tenants name ∙ there)

  -- who is open has a name
  first_named : AreOpenNamed tenants → (slot : ℕ) → open_slot_of_name tenants (first_word line) ≡ Some slot → is_name (first_word line) ≡ true
  first_named named slot there = by_test (is_name (first_word line)) refl
    where
      by_test : (t : Bool) → is_name (first_word line) ≡ t → t ≡ true
      by_test true e = refl
      by_test false e = absurd (none_some (sym (none_passes (has_name (first_word line)) 0 tenants (none_named tenants (first_word line) named e)) ∙ there))

  act_meant : AreOpenNamed tenants → (found : Option ℕ) → first_word line ≢ codes "+" → first_word line ≢ codes "-" → open_slot_of_name tenants (first_word line) ≡ found → Means tenants line (said_found line found)
  act_meant named None plus hyphen there = Stray plus hyphen (slot_is tenants (first_word line) ∙ there)
  act_meant named (Some slot) plus hyphen there = by_act (act_in (first_word line) line) refl
    where
      by_act : (found : Option Act) → act_in (first_word line) line ≡ found → Means tenants line (said_by slot found)
      by_act None e = BadAction slot (slot_is tenants (first_word line) ∙ there) (λ act is. none_some (sym e ∙ act_in-finds (first_word line) line act (first_named named slot there) is))
      by_act (Some act) e = Action slot act (slot_is tenants (first_word line) ∙ there) (act_in-is (first_word line) line act e)

  pub said_is_meant : AreOpenNamed tenants → Means tenants line (said_in tenants line)
  said_is_meant named = by (begins_admission line) refl (begins_closing line) refl
    where
      differs : (sign : List ℕ) → bytes_eq (first_word line) sign ≡ false → first_word line ≢ sign
      differs sign e same = true≢false (sym (same_bytes sign) ∙ ap (λ w. bytes_eq w sign) (sym same) ∙ e)

      by : (a : Bool) → begins_admission line ≡ a → (b : Bool) → begins_closing line ≡ b →
          Means tenants line (cond a (OfHost (admission_of tenants (admitted_in line))) (cond b (OfHost (closing_of tenants (closed_in line))) (said_found line (open_slot_of_name tenants (first_word line)))))
      by true is b e = admission_meant (admitted_in line) (bytes_from_test (first_word line) (codes "+") is) refl
      by false is true e = closing_meant (closed_in line) (bytes_from_test (first_word line) (codes "-") e) refl
      by false is false e = act_meant named (open_slot_of_name tenants (first_word line)) (differs (codes "+") is) (differs (codes "-") e) refl

  -- an admission may have run out of memory
  lacks_too : (said : Said) → Means tenants line said → (answer : Answer) → Means tenants line (heard said answer)
  lacks_too one (Admission tenant slot is fresh free) answer = by (is_lack answer)
    where
      by : (t : Bool) → Means tenants line (cond t (OfHost (Refuses OutOfMemory)) (OfHost (Admits slot tenant)))
      by true = NoMemory tenant slot is fresh free
      by false = Admission tenant slot is fresh free
  lacks_too one (NoMemory tenant slot is fresh free) answer = NoMemory tenant slot is fresh free
  lacks_too one (KnownTenant tenant is known) answer = KnownTenant tenant is known
  lacks_too one (NoRoom tenant is fresh full) answer = NoRoom tenant is fresh full
  lacks_too one (BadAdmission first none) answer = BadAdmission first none
  lacks_too one (Closing name slot is there) answer = Closing name slot is there
  lacks_too one (NoneToClose name is there) answer = NoneToClose name is there
  lacks_too one (BadClosing first none) answer = BadClosing first none
  lacks_too one (Action slot act there is) answer = Action slot act there is
  lacks_too one (BadAction slot there none) answer = BadAction slot there none
  lacks_too one (Stray plus hyphen there) answer = Stray plus hyphen there

  -- ---- back to `said_in`

  -- a line that is said to mean something means that, or is an admission that ran out of memory
  abbrev pub IsSaid : Said → Type 0
  IsSaid said = (said_in tenants line ≡ said) ⊎ ((said ≡ OfHost (Refuses OutOfMemory)) × (slot : ℕ) × (tenant : Tenant) × (said_in tenants line ≡ OfHost (Admits slot tenant)))

  by_admission : (tenant : Tenant) → IsAdmissionLine line tenant → said_in tenants line ≡ OfHost (admission_unless tenants tenant (admission_refusal tenants (next_slot tenants) tenant))
  by_admission tenant is =
      let begins : begins_admission line ≡ true = ap (λ w. bytes_eq w (codes "+")) (admission_first line tenant is) in
      (λ i. cond (begins i) (OfHost (admission_of tenants (admitted_in-finds line tenant is i))) (cond (begins_closing line) (OfHost (closing_of tenants (closed_in line))) (said_found line (open_slot_of_name tenants (first_word line)))))

  by_closing : first_word line ≡ codes "-" → said_in tenants line ≡ OfHost (closing_of tenants (closed_in line))
  by_closing first =
      let other : begins_admission line ≡ false = ap (λ w. bytes_eq w (codes "+")) first in
      let begins : begins_closing line ≡ true = ap (λ w. bytes_eq w (codes "-")) first in
      (λ i. cond (other i) (OfHost (admission_of tenants (admitted_in line))) (cond (begins i) (OfHost (closing_of tenants (closed_in line))) (said_found line (open_slot_of_name tenants (first_word line)))))

  not_sign : (sign : List ℕ) → first_word line ≢ sign → bytes_eq (first_word line) sign ≡ false
  not_sign sign apart = by (bytes_eq (first_word line) sign) refl
    where
      by : (t : Bool) → bytes_eq (first_word line) sign ≡ t → t ≡ false
      by true e = absurd (apart (bytes_from_test (first_word line) sign e))
      by false e = refl

  by_tenant : first_word line ≢ codes "+" → first_word line ≢ codes "-" → said_in tenants line ≡ said_found line (open_slot_of_name tenants (first_word line))
  by_tenant plus hyphen =
      (λ i. cond (not_sign (codes "+") plus i) (OfHost (admission_of tenants (admitted_in line))) (cond (not_sign (codes "-") hyphen i) (OfHost (closing_of tenants (closed_in line))) (said_found line (open_slot_of_name tenants (first_word line)))))

  no_name : (sign : List ℕ) → is_name sign ≡ false → is_name (first_word line) ≡ true → first_word line ≢ sign
  no_name sign none is same = true≢false (sym is ∙ ap is_name same ∙ none)

  by_open : AreOpenNamed tenants → (slot : ℕ) → open_slot_of_name tenants (first_word line) ≡ Some slot → said_in tenants line ≡ said_by slot (act_in (first_word line) line)
  by_open named slot there =
      let name = first_named named slot there in
      by_tenant (no_name (codes "+") refl name) (no_name (codes "-") refl name) ∙ ap (said_found line) there

  admission_said : (tenant : Tenant) (slot : ℕ) → IsAdmissionLine line tenant → is_new tenants tenant ≡ true → free_slot tenants ≡ Some slot → said_in tenants line ≡ OfHost (Admits slot tenant)
  admission_said tenant slot is fresh free =
      by_admission tenant is
      ∙ ap (λ r. OfHost (admission_unless tenants tenant r)) (refused_new tenant slot free)
      ∙ ap (λ n. OfHost (admission_unless tenants tenant (first_refusal ((not n, NameTaken) ∷ (false, NoSlot) ∷ [])))) fresh
      ∙ ap (λ n. OfHost (Admits n tenant)) (free_is_next tenants slot free)

  known_said : (tenant : Tenant) → IsAdmissionLine line tenant → is_new tenants tenant ≡ false → said_in tenants line ≡ OfHost (Refuses NameTaken)
  known_said tenant is known = by_admission tenant is ∙ by_slot (free_slot tenants) refl
    where
      by_slot : (free : Option ℕ) → free_slot tenants ≡ free → OfHost (admission_unless tenants tenant (admission_refusal tenants (next_slot tenants) tenant)) ≡ OfHost (Refuses NameTaken)
      by_slot (Some slot) e =
          ap (λ r. OfHost (admission_unless tenants tenant r)) (refused_new tenant slot e)
          ∙ ap (λ n. OfHost (admission_unless tenants tenant (first_refusal ((not n, NameTaken) ∷ (false, NoSlot) ∷ [])))) known
      by_slot None e =
          ap (λ r. OfHost (admission_unless tenants tenant r)) (refused_full tenant e)
          ∙ ap (λ n. OfHost (admission_unless tenants tenant (first_refusal ((not n, NameTaken) ∷ (true, NoSlot) ∷ [])))) known

  full_said : (tenant : Tenant) → IsAdmissionLine line tenant → is_new tenants tenant ≡ true → free_slot tenants ≡ None → said_in tenants line ≡ OfHost (Refuses NoSlot)
  full_said tenant is fresh full =
      by_admission tenant is
      ∙ ap (λ r. OfHost (admission_unless tenants tenant r)) (refused_full tenant full)
      ∙ ap (λ n. OfHost (admission_unless tenants tenant (first_refusal ((not n, NameTaken) ∷ (true, NoSlot) ∷ [])))) fresh

  bad_admission : first_word line ≡ codes "+" → ((tenant : Tenant) → IsAdmissionLine line tenant → ⊥) → said_in tenants line ≡ OfHost (Refuses Syntax)
  bad_admission first none =
      let begins : begins_admission line ≡ true = ap (λ w. bytes_eq w (codes "+")) first in
      (λ i. cond (begins i) (OfHost (admission_of tenants (admitted_in line))) (cond (begins_closing line) (OfHost (closing_of tenants (closed_in line))) (said_found line (open_slot_of_name tenants (first_word line)))))
      ∙ ap (λ f. OfHost (admission_of tenants f)) (nothing (admitted_in line) refl)
    where
      nothing : (found : Option Tenant) → admitted_in line ≡ found → found ≡ None
      nothing None e = refl
      nothing (Some tenant) e = absurd (none tenant (admitted_in-is line tenant e))

  bad_closing : first_word line ≡ codes "-" → ((name : List ℕ) → IsClosingLine line name → ⊥) → said_in tenants line ≡ OfHost (Refuses Syntax)
  bad_closing first none = by_closing first ∙ ap (λ f. OfHost (closing_of tenants f)) (nothing (closed_in line) refl)
    where
      nothing : (found : Option (List ℕ)) → closed_in line ≡ found → found ≡ None
      nothing None e = refl
      nothing (Some name) e = absurd (none name (closed_in-is line name e))

  closing_said : (name : List ℕ) (slot : Option ℕ) → IsClosingLine line name → open_slot_of_name tenants name ≡ slot → said_in tenants line ≡ OfHost (closing_at name slot)
  closing_said name slot is there = by_closing (closing_first line name is) ∙ ap (λ f. OfHost (closing_of tenants f)) (closed_in-finds line name is) ∙ ap (λ s. OfHost (closing_at name s)) there

  bad_action : AreOpenNamed tenants → (slot : ℕ) → open_slot_of_name tenants (first_word line) ≡ Some slot → ((act : Act) → IsActLine (first_word line) line act → ⊥) → said_in tenants line ≡ Unformed slot
  bad_action named slot there none = by_open named slot there ∙ ap (said_by slot) (nothing (act_in (first_word line) line) refl)
    where
      nothing : (found : Option Act) → act_in (first_word line) line ≡ found → found ≡ None
      nothing None e = refl
      nothing (Some act) e = absurd (none act (act_in-is (first_word line) line act e))

  pub meant_is_said : AreOpenNamed tenants → (said : Said) → Means tenants line said → IsSaid said
  meant_is_said named one (Admission tenant slot is fresh free) = inl (admission_said tenant slot is fresh free)
  meant_is_said named one (NoMemory tenant slot is fresh free) = inr (refl, slot, tenant, admission_said tenant slot is fresh free)
  meant_is_said named one (KnownTenant tenant is known) = inl (known_said tenant is known)
  meant_is_said named one (NoRoom tenant is fresh full) = inl (full_said tenant is fresh full)
  meant_is_said named one (BadAdmission first none) = inl (bad_admission first none)
  meant_is_said named one (Closing name slot is there) = inl (closing_said name (Some slot) is (sym (slot_is tenants name) ∙ there))
  meant_is_said named one (NoneToClose name is there) = inl (closing_said name None is (sym (slot_is tenants name) ∙ there))
  meant_is_said named one (BadClosing first none) = inl (bad_closing first none)
  meant_is_said named one (Action slot act at is) =
      let there = sym (slot_is tenants (first_word line)) ∙ at in
      inl (by_open named slot there ∙ ap (said_by slot) (act_in-finds (first_word line) line act (first_named named slot there) is))
  meant_is_said named one (BadAction slot there none) = inl (bad_action named slot (sym (slot_is tenants (first_word line)) ∙ there) none)
  meant_is_said named one (Stray plus hyphen there) = inl (by_tenant plus hyphen ∙ ap (said_found line) (sym (slot_is tenants (first_word line)) ∙ there))

  -- with its answer, a line was heard as it is meant
  heard_so : (lives : Lives) (said : Said) (answer : Answer) → IsAnswerTo (of_life lives said) answer → heard said answer ≡ said
  heard_so lives (OfHost (Admits slot tenant)) answer is = let spared : is_lack answer ≡ false = ap is_lack is in rw spared refl
  heard_so lives (OfHost (Closes slot name)) answer is = refl
  heard_so lives (OfHost (Refuses fault)) answer is = refl
  heard_so lives (Unformed slot) answer is = refl
  heard_so lives (Acts event) answer is = refl

  pub heard_is_meant : AreOpenNamed tenants → (lives : Lives) (said : Said) (answer : Answer) → Means tenants line said → IsAnswerTo (of_life lives said) answer → heard (said_in tenants line) answer ≡ said
  heard_is_meant named lives said answer means is = by (meant_is_said named said means)
    where
      by : IsSaid said → heard (said_in tenants line) answer ≡ said
      by (inl same) = ap (λ s. heard s answer) same ∙ heard_so lives said answer is
      by (inr (lacks, slot, tenant, same)) =
          let told : IsAnswerTo (of_life lives (OfHost (Refuses OutOfMemory))) answer = subst (λ s. IsAnswerTo (of_life lives s) answer) lacks is in
          let lack : is_lack answer ≡ true = ap is_lack told in
          ap (λ s. heard s answer) same ∙ rw lack (sym lacks)

-- ---- lines, one after another

pub are_meant : (tenants : List (Option Tenant)) (lines : List (List ℕ)) (told : List Answer) → AreOpenNamed tenants → length told ≡ length lines → AreMeant tenants lines (said_from tenants lines told)
are_meant tenants [] told named size = tt
are_meant tenants (line ∷ lines) [] named size = absurd (omega (arith, size))
are_meant tenants (line ∷ lines) (answer ∷ told) named size =
    let said = said_in tenants line in (
      lacks_too tenants line said (said_is_meant tenants line named) answer,
      are_meant (tenants_after tenants (heard said answer)) lines told (named_after tenants (heard said answer) named (heard_named tenants said answer (said_in-named tenants line))) (omega (arith, size)),
    )

pub meant_are_said : (tenants : List (Option Tenant)) (lines : List (List ℕ)) (lives : Lives) (said : List Said) (told : List Answer) → AreOpenNamed tenants → AreMeant tenants lines said → AreAnswersTo (of_lives_from lives said) told →
    (length told ≡ length lines) × (said_from tenants lines told ≡ said)
meant_are_said tenants [] lives [] [] named meant each = (refl, refl)
meant_are_said tenants [] lives [] (answer ∷ told) named meant each = absurd each
meant_are_said tenants [] lives (one ∷ said) told named meant each = absurd meant
meant_are_said tenants (line ∷ lines) lives [] told named meant each = absurd meant
meant_are_said tenants (line ∷ lines) lives (one ∷ said) [] named meant each = absurd each
meant_are_said tenants (line ∷ lines) lives (one ∷ said) (answer ∷ told) named meant each =
    let first = first_answered (of_life lives one) (of_lives_from (lives_after lives one) said) answer told each in
    let same = heard_is_meant tenants line named lives one answer meant.0 first.0 in
    let goes = subst (AdmitsNamed tenants) same (heard_named tenants (said_in tenants line) answer (said_in-named tenants line)) in
    let rest = meant_are_said (tenants_after tenants one) lines (lives_after lives one) said told (named_after tenants one named goes) meant.1 first.1 in
    (ap suc rest.0, ap (λ s. s ∷ said_from (tenants_after tenants s) lines told) same ∙ ap (λ more. one ∷ more) rest.1)
