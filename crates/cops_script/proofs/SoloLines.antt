-- Of what is written for a script, the lines of the tenants of one name are what is written for them alone.
use Rattle.std.proofs.Common.{◌≡◌, ℕ, Bool, true, false, cond, ◌==◌, true≢false, List, [], ◌∷◌, ◌++◌, refl, sym, subst, ap, ◌∙◌}
use Rattle.std.specs.Prelude.{filter, filter_map, flat_map, IsTrue, Option, Some, None}
use Rattle.std.specs.Str.{bytes_eq}
use Rattle.std.proofs.lemmas.Bool.Decides.{Decides-eqb}
use Rattle.cops_types.specs.declared.configs.Config.{Config}
use Rattle.cops_types.specs.declared.configs.Tenant.{Tenant}
use Rattle.cops_types.specs.declared.faults.Fault.TheVariants.{Syntax}
use Rattle.cops_types.specs.Head.{Whole, head_of}
use Rattle.cops_types.specs.Lines.{lines_of}
use Rattle.cops_types.specs.OpenSlots.{begun_with, open_slot_of_name}
use Rattle.cops_types.specs.Words.{first_word}
use Rattle.cops_types.proofs.OpenSlotLemmas.{left_fails, right_fails}
use Rattle.cops_types.proofs.WordLemmas.{bytes_from_test}
use Rattle.cops_model.specs.declared.acts.Act.{Act}
use Rattle.cops_model.specs.declared.replies.Reply.{Reply}
use Rattle.cops_model.specs.declared.replies.Reply.TheVariants.{Refused}
use Rattle.cops_script.specs.ActLines.{act_in}
use Rattle.cops_model.specs.Cluster.{SoloCluster, cluster_step}
use Rattle.cops_model.specs.Events.{config_at, with_cluster}
use Rattle.cops_script.specs.Lives.{Lives, admitted_by, first_lives, lives_after, of_lives, of_lives_from, with_all_lives}
use Rattle.cops_script.specs.Said.{Admits, Closes, Refuses, Said, OfHost, Unformed, Acts, begins_admission, begins_closing, is_host_line, said_found, said_by, said_in, tenants_after}
use Rattle.cops_script.specs.Answers.{Answer, ToTenant, answer_line, name_at}
use Rattle.cops_script.specs.Script.{NoTenant, Written, all_tenants, answers_to, is_called, own_lines, said_to, solo_after, solo_out, solo_text, text_for, was_open}
use Rattle.cops_script.specs.SoloRules.{is_own}
use Rattle.cops_script.proofs.AnswersTo.{answers_of-from, new_at}
use Rattle.cops_script.proofs.LifeAnswers.{all_there, said_to-placed}
use Rattle.cops_script.proofs.LifeLines.{name_there}
use Rattle.cops_script.proofs.MachineLemmas.{tenant_said}
use Rattle.cops_script.proofs.NamedSlots.{HasNamedAt, named_found}
use Rattle.cops_script.proofs.Numbered.{AreNumbered, AreOf, next_numbered, numbered_first, of_all_lives}
use Rattle.cops_script.proofs.SaidLines.{said_in-placed}
use Rattle.cops_script.proofs.Sequence.{answers_from}

by_test : {C : Type 0} (b : Bool) → (b ≡ true → C) → (b ≡ false → C) → C
by_test {C} true holds fails = holds refl
by_test {C} false holds fails = fails refl

-- ---- a line of another name

-- the host does nothing by it, or a tenant of another name says it
abbrev IsOfAnother : List (Option Tenant) → List ℕ → Said → Type 0
IsOfAnother tenants name (OfHost (Admits slot tenant)) = ⊥
IsOfAnother tenants name (OfHost (Closes slot closed)) = ⊥
IsOfAnother tenants name (OfHost (Refuses fault)) = Unit {0}
IsOfAnother tenants name (Unformed slot) = (word : List ℕ) × HasNamedAt tenants word slot × (bytes_eq word name ≡ false)
IsOfAnother tenants name (Acts event) = (word : List ℕ) × HasNamedAt tenants word event.slot × (bytes_eq word name ≡ false)

of_another : (tenants : List (Option Tenant)) (name line : List ℕ) → is_own name line ≡ false → IsOfAnother tenants name (said_in tenants line)
of_another tenants name line other =
    let host = left_fails (is_host_line line) (bytes_eq (first_word line) name) other in
    subst (IsOfAnother tenants name) (sym (tenant_said tenants line (left_fails (begins_admission line) (begins_closing line) host) (right_fails (begins_admission line) (begins_closing line) host)))
    (at (open_slot_of_name tenants (first_word line)) refl)
  where
    by_slot : (slot : ℕ) (act : Option Act) → HasNamedAt tenants (first_word line) slot → IsOfAnother tenants name (said_by slot act)
    by_slot slot None there = (first_word line, there, right_fails (is_host_line line) (bytes_eq (first_word line) name) other)
    by_slot slot (Some act) there = (first_word line, there, right_fails (is_host_line line) (bytes_eq (first_word line) name) other)

    at : (found : Option ℕ) → open_slot_of_name tenants (first_word line) ≡ found → IsOfAnother tenants name (said_found line found)
    at None e = tt
    at (Some slot) e = by_slot slot (act_in (first_word line) line) (named_found tenants (first_word line) slot e)

-- nobody comes or goes by it
another_after : (tenants : List (Option Tenant)) (name : List ℕ) (said : Said) → IsOfAnother tenants name said → tenants_after tenants said ≡ tenants
another_after tenants name (OfHost (Admits slot tenant)) of = absurd of
another_after tenants name (OfHost (Closes slot closed)) of = absurd of
another_after tenants name (OfHost (Refuses fault)) of = refl
another_after tenants name (Unformed slot) of = refl
another_after tenants name (Acts event) of = refl

another_admits : (tenants : List (Option Tenant)) (name : List ℕ) (said : Said) (more : List Said) → IsOfAnother tenants name said → filter_map admitted_by (said ∷ more) ≡ filter_map admitted_by more
another_admits tenants name (OfHost (Admits slot tenant)) more of = absurd of
another_admits tenants name (OfHost (Closes slot closed)) more of = absurd of
another_admits tenants name (OfHost (Refuses fault)) more of = refl
another_admits tenants name (Unformed slot) more of = refl
another_admits tenants name (Acts event) more of = refl

-- the same tenants are admitted
same_admitted : (name : List ℕ) (tenants : List (Option Tenant)) (lines : List (List ℕ)) → filter_map admitted_by (said_to tenants (own_lines name lines)) ≡ filter_map admitted_by (said_to tenants lines)
same_admitted name tenants [] = refl
same_admitted name tenants (line ∷ lines) = by (is_own name line) refl
    (λ next. same_admitted name next lines)
  where
    one : (said : Said) (more others : List Said) → filter_map admitted_by more ≡ filter_map admitted_by others → filter_map admitted_by (said ∷ more) ≡ filter_map admitted_by (said ∷ others)
    one (OfHost (Admits slot tenant)) more others e = ap (λ ts. tenant ∷ ts) e
    one (OfHost (Closes slot closed)) more others e = e
    one (OfHost (Refuses fault)) more others e = e
    one (Unformed slot) more others e = e
    one (Acts event) more others e = e

    by : (own : Bool) → is_own name line ≡ own → ((next : List (Option Tenant)) → filter_map admitted_by (said_to next (own_lines name lines)) ≡ filter_map admitted_by (said_to next lines)) →
        filter_map admitted_by (said_to tenants (cond own (line ∷ own_lines name lines) (own_lines name lines))) ≡ filter_map admitted_by (said_to tenants (line ∷ lines))
    by true e on = let said = said_in tenants line in one said (said_to (tenants_after tenants said) (own_lines name lines)) (said_to (tenants_after tenants said) lines) (on (tenants_after tenants said))
    by false e on =
        let said = said_in tenants line in
        let of = of_another tenants name line e in
        on tenants ∙ ap (λ ts. filter_map admitted_by (said_to ts lines)) (sym (another_after tenants name said of)) ∙ sym (another_admits tenants name said (said_to (tenants_after tenants said) lines) of)

-- ---- replies

module _ (whole : Config) (name : List ℕ) where
  -- of all answers, those to tenants of the name
  abbrev told : Lives → List Said → (ℕ → SoloCluster) → List Answer
  told lives said clusters = filter (is_called whole.tenants name) (answers_from (config_at whole) (of_lives_from lives said) clusters)

  -- lives of the name have the same clusters
  abbrev Agree : (ℕ → SoloCluster) → (ℕ → SoloCluster) → Type 0
  Agree clusters others = (number : ℕ) → bytes_eq (name_at whole.tenants number) name ≡ true → clusters number ≡ others number

  module _ (lives : Lives) where
    -- a life that is not of the name leaves them as they are
    agree_other : (life : ℕ) (after : SoloCluster) (one two : ℕ → SoloCluster) → bytes_eq (name_at whole.tenants life) name ≡ false → Agree one two → Agree one (with_cluster life after two)
    agree_other life after one two uncalled agree number called = by_test (life == number)
        (λ is. absurd (true≢false (sym called ∙ ap (λ n. bytes_eq (name_at whole.tenants n) name) (sym ((Decides-eqb life number).0 is)) ∙ uncalled)))
        (λ differs. agree number called ∙ sym (ap (λ b. cond b after (two number)) differs))

    agree_both : (life : ℕ) (here there : SoloCluster) (one two : ℕ → SoloCluster) → (bytes_eq (name_at whole.tenants life) name ≡ true → here ≡ there) → Agree one two → Agree (with_cluster life here one) (with_cluster life there two)
    agree_both life here there one two same agree number called = by_test (life == number)
        (λ is.
        let own = ap (λ n. bytes_eq (name_at whole.tenants n) name) ((Decides-eqb life number).0 is) ∙ called in
        ap (λ b. cond b here (one number)) is ∙ same own ∙ sym (ap (λ b. cond b there (two number)) is))
        (λ differs. ap (λ b. cond b here (one number)) differs ∙ agree number called ∙ sym (ap (λ b. cond b there (two number)) differs))

    -- what is said in both
    said_by_both : (more others : List Said) (said : Said) → ((one two : ℕ → SoloCluster) → Agree one two → told (lives_after lives said) more one ≡ told (lives_after lives said) others two) →
        (one two : ℕ → SoloCluster) → Agree one two → told lives (said ∷ more) one ≡ told lives (said ∷ others) two
    said_by_both more others (OfHost deed) on one two agree = on one two agree
    said_by_both more others (Unformed slot) on one two agree =
        let answer = ToTenant (lives.last_at slot) (Refused Syntax) in
        λ i. cond (is_called whole.tenants name answer) (answer ∷ on one two agree i) (on one two agree i)
    said_by_both more others (Acts event) on one two agree =
        let life = lives.last_at event.slot in
        let turn : SoloCluster → record { reply : Reply; after : SoloCluster } = λ cluster. cluster_step (config_at whole life) event.act cluster in
        let mine = with_cluster life (turn (one life)).after one in
        let theirs = with_cluster life (turn (two life)).after two in
        let rest = on mine theirs (agree_both life (turn (one life)).after (turn (two life)).after one two (λ called. ap (λ c. (turn c).after) (agree life called)) agree) in
        by_test (bytes_eq (name_at whole.tenants life) name)
        (λ called. λ i. cond (bytes_eq (name_at whole.tenants life) name) (ToTenant life (turn (agree life called i)).reply ∷ rest i) (rest i))
        (λ uncalled.
        ap (λ b. cond b (ToTenant life (turn (one life)).reply ∷ told lives more mine) (told lives more mine)) uncalled ∙ rest
        ∙ sym (ap (λ b. cond b (ToTenant life (turn (two life)).reply ∷ told lives others theirs) (told lives others theirs)) uncalled))

    -- what another says in one of them
    module _ (tenants : List (Option Tenant)) (numbered : AreNumbered whole tenants lives) where
      not_called : (word : List ℕ) (slot : ℕ) → HasNamedAt tenants word slot → bytes_eq word name ≡ false → bytes_eq (name_at whole.tenants (lives.last_at slot)) name ≡ false
      not_called word slot (tenant, there, named) differs =
          ap (λ n. bytes_eq n name) (name_there whole.tenants (lives.last_at slot) tenant (numbered.tenant_is slot tenant there) ∙ bytes_from_test tenant.name word named) ∙ differs

      said_apart : (own lines : List (List ℕ)) (said : Said) → IsOfAnother tenants name said →
          ((one two : ℕ → SoloCluster) → Agree one two → told (lives_after lives said) (said_to (tenants_after tenants said) own) one ≡ told (lives_after lives said) (said_to (tenants_after tenants said) lines) two) →
          (one two : ℕ → SoloCluster) → Agree one two → told lives (said_to tenants own) one ≡ told lives (said ∷ said_to (tenants_after tenants said) lines) two
      said_apart own lines (OfHost (Admits slot tenant)) of on one two agree = absurd of
      said_apart own lines (OfHost (Closes slot closed)) of on one two agree = absurd of
      said_apart own lines (OfHost (Refuses fault)) of on one two agree = on one two agree
      said_apart own lines (Unformed slot) (word, there, differs) on one two agree =
          let answer = ToTenant (lives.last_at slot) (Refused Syntax) in
          let others = told lives (said_to tenants lines) two in
          on one two agree ∙ sym (ap (λ b. cond b (answer ∷ others) others) (not_called word slot there differs))
      said_apart own lines (Acts event) (word, there, differs) on one two agree =
          let life = lives.last_at event.slot in
          let turn = cluster_step (config_at whole life) event.act (two life) in
          let uncalled = not_called word event.slot there differs in
          let theirs = with_cluster life turn.after two in
          let others = told lives (said_to tenants lines) theirs in
          on one theirs (agree_other life turn.after one two uncalled agree) ∙ sym (ap (λ b. cond b (ToTenant life turn.reply ∷ others) others) uncalled)

  -- they get the same replies
  same_told : (lines : List (List ℕ)) (tenants : List (Option Tenant)) (lives : Lives) → AreNumbered whole tenants lives → AreOf whole lives (said_to tenants lines) → (one two : ℕ → SoloCluster) → Agree one two →
      told lives (said_to tenants (own_lines name lines)) one ≡ told lives (said_to tenants lines) two
  same_told [] tenants lives numbered of one two agree = refl
  same_told (line ∷ lines) tenants lives numbered of one two agree =
      let said = said_in tenants line in
      by (is_own name line) refl (λ mine theirs same. same_told lines (tenants_after tenants said) (lives_after lives said) (next_numbered whole tenants lives said numbered (said_in-placed tenants line) of.0) of.1 mine theirs same)
    where
      by : (own : Bool) → is_own name line ≡ own →
          ((mine theirs : ℕ → SoloCluster) → Agree mine theirs →
          told (lives_after lives (said_in tenants line)) (said_to (tenants_after tenants (said_in tenants line)) (own_lines name lines)) mine ≡ told (lives_after lives (said_in tenants line)) (said_to (tenants_after tenants (said_in tenants line)) lines) theirs) →
          told lives (said_to tenants (cond own (line ∷ own_lines name lines) (own_lines name lines))) one ≡ told lives (said_to tenants (line ∷ lines)) two
      by true e on =
          let said = said_in tenants line in
          said_by_both lives (said_to (tenants_after tenants said) (own_lines name lines)) (said_to (tenants_after tenants said) lines) said on one two agree
      by false e on = said_apart lives tenants numbered (own_lines name lines) lines (said_in tenants line) (of_another tenants name line e) on one two agree

-- ---- the text

text_same : (config : Config) (name : List ℕ) (lines : List (List ℕ)) →
    text_for (all_tenants config (own_lines name lines)) name (answers_to config (own_lines name lines)) ≡ text_for (all_tenants config lines) name (answers_to config lines)
text_same config name lines =
    let begun = begun_with config.tenants in
    let own = said_to begun (own_lines name lines) in
    let all = said_to begun lines in
    let whole = with_all_lives config all in
    let alone = with_all_lives config own in
    let same : alone ≡ whole = ap (λ ts. record config { tenants = config.tenants ++ ts }) (same_admitted name begun lines) in
    ap (text_for alone.tenants name) (answers_of-from alone (of_lives config own) (all_there config own (said_to-placed begun (own_lines name lines))))
    ∙ ap (λ (w : Config). text_for w.tenants name (answers_from (config_at w) (of_lives config own) (new_at w))) same
    ∙ ap (flat_map (answer_line whole.tenants)) (same_told whole name lines begun (first_lives config) (numbered_first config all) (of_all_lives config all) (new_at whole) (new_at whole) (λ number called. refl))
    ∙ sym (ap (text_for whole.tenants name) (answers_of-from whole (of_lives config all) (all_there config all (said_to-placed begun lines))))

pub lines_alone : (bytes name : List ℕ) (config : Config) (lines : List (List ℕ)) → head_of (lines_of bytes) ≡ Whole config lines → IsTrue (was_open config name lines) →
    solo_out name bytes ≡ Written (text_for (all_tenants config lines) name (answers_to config lines))
lines_alone bytes name config lines head there =
    ap (solo_after name) head ∙ ap (λ b. cond b (Written (solo_text config name lines)) NoTenant) there ∙ ap Written (text_same config name lines)
