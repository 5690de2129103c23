-- What the rules of one name come to over a whole text.
use Rattle.std.proofs.Common.{◌≡◌, ℕ, zero, suc, ◌-◌, ◌<◌, Bool, true, false, cond, ◌||◌, true≢false, List, [], ◌∷◌, ◌++◌, length, map, inl, inr, refl, sym, subst, ap, ◌∙◌, append-nil, arith}
use Rattle.std.specs.Prelude.{filter, filter_map, flat_map, is_some, nat_le, replicate, slice_get, IsFalse, IsTrue, IfSome, OnErr, Option, Some, None, Result, Ok, Err}
use Rattle.std.specs.List.{list_any}
use Rattle.std.specs.Str.{bytes_eq}
use Rattle.std.specs.Io.KnownBytes.{Appends, Keeps}
use Rattle.std.proofs.lemmas.Bool.Decides.{nat_tests}
use Rattle.std.proofs.lemmas.List.Concat.{flat_map-append}
use Rattle.std.proofs.lemmas.List.Elements.{filter-append, filter_map-append}
use Rattle.std.proofs.lemmas.List.Folds.{list_any-append}
use Rattle.cops_types.specs.declared.configs.Config.{Config}
use Rattle.cops_types.specs.declared.configs.Tenant.{Tenant}
use Rattle.cops_types.specs.declared.faults.Fault.TheVariants.{Syntax, UnknownTenant as NobodyOfIt}
use Rattle.cops_script.specs.declared.line_runs.fault.RunFault.{RunFault}
use Rattle.cops_types.specs.Head.{AtStart, Begun, Whole, head_of}
use Rattle.cops_types.specs.HeadLines.{most_tenants}
use Rattle.cops_script.specs.LineRules.{Run}
use Rattle.cops_script.specs.LineRuns.{AnswersAll, IfRunRefused, StopsEarly}
use Rattle.cops_types.specs.Lines.{lines_of, cut_line, longest_line}
use Rattle.cops_types.specs.OpenSlots.{begun_with, has_name, open_at, open_slot_of_name}
use Rattle.cops_types.specs.Sink.{AppendsFront}
use Rattle.cops_types.specs.TenantTexts.{AreApart}
use Rattle.cops_types.specs.Words.{first_word}
use Rattle.cops_types.proofs.HeadLengths.{AreGood}
use Rattle.cops_script.proofs.KnownLemmas.{AppendsFront-more, Run-quiet, by_known}
use Rattle.cops_types.proofs.OpenSlotLemmas.{any_found, left_fails, right_fails}
use Rattle.cops_types.proofs.WordLemmas.{bytes_from_test}
use Rattle.cops_model.specs.declared.acts.Act.{Act}
use Rattle.cops_model.specs.declared.replies.Reply.{Reply}
use Rattle.cops_model.specs.declared.replies.Reply.TheVariants.{Refused}
use Rattle.cops_script.specs.ActLines.{act_in}
use Rattle.cops_model.specs.Cluster.{SoloCluster, new_cluster}
use Rattle.cops_model.specs.Events.{config_at}
use Rattle.cops_script.specs.Lives.{Lives, admitted_by, first_lives, lives_after, with_all_lives}
use Rattle.cops_model.specs.MainTheorem.{with_tenant_alone}
use Rattle.cops_script.specs.Said.{Admits, Closes, Refuses, HostDeed, Said, OfHost, Unformed, Acts, admission_of, begins_admission, begins_closing, closing_of, is_host_line, said_found, said_by, said_in, tenants_after, tenants_past}
use Rattle.cops_model.specs.Setups.{Setup, new_setup}
use Rattle.cops_script.specs.declared.head_machine.ScriptMachine.{ScriptMachine}
use Rattle.cops_script.specs.declared.solo_machine.LinesOf.{LinesOf}
use Rattle.cops_script.specs.declared.solo_machine.SoloRefusal.{SoloRefusal}
use Rattle.cops_script.specs.declared.solo_scripts.SoloRun.{SoloRun}
use Rattle.cops_script.specs.Acting.{HasStayed, IsNew, told_act}
use Rattle.cops_script.specs.Answers.{Answer, ToHost, ToTenant, answer_line}
use Rattle.cops_script.specs.Doing.{IsDone, IsHosted}
use Rattle.cops_script.specs.HeadRules.{IsHeadAt}
use Rattle.cops_script.specs.OpenNames.{AreOpenNamed}
use Rattle.cops_script.specs.Script.{NoTenant, Written, all_tenants, answers_to, is_called, own_lines, said_by_lines, said_to, solo_after, solo_out, solo_text, text_for, was_open}
use Rattle.cops_script.specs.ScriptRuns.{AreAnswered, AreSpared, config_told, heard, lives_told, said_from, said_told, text_in}
use Rattle.cops_script.specs.ScriptRules.{script_rules}
use Rattle.cops_script.specs.SoloRules.{AnswersOwn, BeginsWith, IsKept, IsTaken, IsWorldOf, SoloStands, StartsAlone, admits_name, has_this_name, is_own, solo_line, solo_lines, solo_rules, solo_setup}
use Rattle.cops_script.specs.SoloRuns.{IsRefusedFor, WritesSolo, WritesSoloFront, WritesSomeSolo}
use Rattle.cops_script.proofs.ApartTenants.{AreApart as AreFew}
use Rattle.cops_script.proofs.BegunSetups.{open_begun}
use Rattle.cops_script.proofs.CutLemmas.{long_is_nobody, said_in-cut, same_admission, same_closing, same_first}
use Rattle.cops_script.proofs.BodyRuns.{Behind, RefusedBy, BadHead, NotBegun, AtLine, AtEnd, all_answered, front_answered, refused, unwritten}
use Rattle.cops_script.proofs.HeadRuns.{named_of}
use Rattle.cops_script.proofs.LifeAnswers.{all_are_told, answers_go_on, are_answered, for_all, said_to-append}
use Rattle.cops_script.proofs.LifeLines.{done_setup, heard_named, heard_placed, name_there, slot_line_is}
use Rattle.cops_script.proofs.LifeRuns.{AreFor, AreGiven, answer_of, for_next, given_nothing, given_one, setup_after, setup_past, stand_stayed}
use Rattle.cops_script.proofs.MachineLemmas.{tenant_said}
use Rattle.cops_script.proofs.MainLemmas.{alone_config}
use Rattle.cops_script.proofs.NamedSlots.{HasNamedAt, begun_apart, named_found}
use Rattle.cops_script.proofs.Numbered.{AreNumbered, ArePlaced}
use Rattle.cops_script.proofs.SaidLines.{named_after, named_begun, said_in-named, said_in-placed}
use Rattle.cops_script.proofs.SoloMachine.{or_false, refused_taken}
use Rattle.cops_script.proofs.WholeHeads.{shards_of}

by_test : {C : Type 0} (b : Bool) → (b ≡ true → C) → (b ≡ false → C) → C
by_test {C} true holds fails = holds refl
by_test {C} false holds fails = fails refl

or_assoc : (a b c : Bool) → ((a || b) || c) ≡ (a || (b || c))
or_assoc true b c = refl
or_assoc false b c = refl

-- ---- lines of the name, and their first bytes

host_cut : (line : List ℕ) → is_host_line (cut_line longest_line line) ≡ is_host_line line
host_cut line = λ i. same_admission line i || same_closing line i

-- a long name is nobody's
long_said : (tenants : List (Option Tenant)) (name line : List ℕ) → AreOpenNamed tenants → is_host_line line ≡ false → 16 < length name → bytes_eq (first_word line) name ≡ true → said_in tenants line ≡ OfHost (Refuses NobodyOfIt)
long_said tenants name line named not_host long is =
    tenant_said tenants line (left_fails (begins_admission line) (begins_closing line) not_host) (right_fails (begins_admission line) (begins_closing line) not_host)
    ∙ ap (said_found line) (long_is_nobody tenants (first_word line) named (subst (λ w. 16 < length w) (sym (bytes_from_test (first_word line) name is)) long))

-- what a line of the name says is said by a tenant of the name, or by the host
abbrev IsOfNamed : List (Option Tenant) → List ℕ → Said → Type 0
IsOfNamed tenants name (OfHost deed) = Unit {0}
IsOfNamed tenants name (Unformed slot) = HasNamedAt tenants name slot
IsOfNamed tenants name (Acts event) = HasNamedAt tenants name event.slot

of_named : (tenants : List (Option Tenant)) (name line : List ℕ) → is_own name line ≡ true → IsOfNamed tenants name (said_in tenants line)
of_named tenants name line own =
    by (begins_admission line) refl (begins_closing line) refl (OfHost (admission_of tenants _)) (OfHost (closing_of tenants _)) tt tt
  where
    by_slot : (slot : ℕ) (act : Option Act) → HasNamedAt tenants name slot → IsOfNamed tenants name (said_by slot act)
    by_slot slot None there = there
    by_slot slot (Some act) there = there

    at : (found : Option ℕ) → open_slot_of_name tenants (first_word line) ≡ found → bytes_eq (first_word line) name ≡ true → IsOfNamed tenants name (said_found line found)
    at None e is = tt
    at (Some slot) e is = by_slot slot (act_in (first_word line) line) (subst (λ w. HasNamedAt tenants w slot) (bytes_from_test (first_word line) name is) (named_found tenants (first_word line) slot e))

    by : (a : Bool) → begins_admission line ≡ a → (b : Bool) → begins_closing line ≡ b → (x y : Said) → IsOfNamed tenants name x → IsOfNamed tenants name y →
        IsOfNamed tenants name (cond a x (cond b y (said_found line (open_slot_of_name tenants (first_word line)))))
    by true ea b eb x y p q = p
    by false ea true eb x y p q = q
    by false ea false eb x y p q =
        at (open_slot_of_name tenants (first_word line)) refl (sym (λ i. (ea i || eb i) || bytes_eq (first_word line) name) ∙ own)

-- ---- who is admitted

-- of all who are admitted, some have the name
abbrev some_admitted : List ℕ → List Said → Bool
some_admitted name said = list_any (has_this_name name) (filter_map admitted_by said)

admitted_first : (name : List ℕ) (one : Said) (said : List Said) → (admits_name name one || some_admitted name said) ≡ some_admitted name (one ∷ said)
admitted_first name (OfHost (Admits slot tenant)) said = refl
admitted_first name (OfHost (Closes slot closed)) said = refl
admitted_first name (OfHost (Refuses fault)) said = refl
admitted_first name (Unformed slot) said = refl
admitted_first name (Acts event) said = refl

was_open-is : (config : Config) (name : List ℕ) (lines : List (List ℕ)) →
    was_open config name lines ≡ (list_any (has_this_name name) config.tenants || some_admitted name (said_by_lines config (own_lines name lines)))
was_open-is config name lines = list_any-append (has_this_name name) config.tenants (filter_map admitted_by (said_by_lines config (own_lines name lines)))

-- if nobody of the name is open in all of the lines, nobody is in the first of them
was_open-front : (config : Config) (name : List ℕ) (lines others : List (List ℕ)) → was_open config name (lines ++ others) ≡ false → was_open config name lines ≡ false
was_open-front config name lines others none =
    let front = said_by_lines config (own_lines name lines) in
    let all = said_by_lines config (own_lines name (lines ++ others)) in
    let split = ap (said_by_lines config) (filter-append (is_own name) lines others) ∙ said_to-append (begun_with config.tenants) (own_lines name lines) (own_lines name others) in
    let rest = said_to (tenants_past (begun_with config.tenants) front) (own_lines name others) in
    let here = sym (was_open-is config name (lines ++ others)) ∙ none in
    let heads = left_fails (list_any (has_this_name name) config.tenants) (some_admitted name all) here in
    let later : some_admitted name (front ++ rest) ≡ false = ap (some_admitted name) (sym split) ∙ right_fails (list_any (has_this_name name) config.tenants) (some_admitted name all) here in
    let parts : (some_admitted name front || some_admitted name rest) ≡ false =
    sym (ap (list_any (has_this_name name)) (filter_map-append admitted_by front rest) ∙ list_any-append (has_this_name name) (filter_map admitted_by front) (filter_map admitted_by rest)) ∙ later in
    was_open-is config name lines ∙ (λ i. heads i || left_fails (some_admitted name front) (some_admitted name rest) parts i)

-- the tenant of a head whom the name finds, if there is one
begun_any : (name : List ℕ) (tenants : List Tenant) → list_any (has_name name) (begun_with tenants) ≡ list_any (has_this_name name) tenants
begun_any name tenants = by tenants (most_tenants - length tenants)
  where
    free_any : (free : ℕ) → list_any (has_name name) (replicate free None) ≡ false
    free_any zero = refl
    free_any (suc free) = free_any free

    by : (ts : List Tenant) (free : ℕ) → list_any (has_name name) (map Some ts ++ replicate free None) ≡ list_any (has_this_name name) ts
    by [] free = free_any free
    by (t ∷ ts) free = ap (λ b. bytes_eq t.name name || b) (by ts free)

-- ---- what was answered

heard_of_life : (said : Said) (lives : Lives) (answer : Answer) → heard said (answer_of lives answer) ≡ heard said answer
heard_of_life (OfHost (Admits slot tenant)) lives (ToHost reply) = refl
heard_of_life (OfHost (Admits slot tenant)) lives (ToTenant other reply) = refl
heard_of_life (OfHost (Closes slot name)) lives answer = refl
heard_of_life (OfHost (Refuses fault)) lives answer = refl
heard_of_life (Unformed slot) lives answer = refl
heard_of_life (Acts event) lives answer = refl

module _ {W : Type 0} (setup : W → Setup) (StandsFor : W → ℕ → SoloCluster → Type 0) (name : List ℕ) where
  abbrev Stands : SoloRun W → ℕ → SoloCluster → Type 0
  Stands = SoloStands setup StandsFor name

  -- ---- what was written

  module _ (old mid : SoloRun W) (lives : Lives) (config : Config) (numbered : AreNumbered config old.tenants lives) (told : List Answer) where
    abbrev IsFirst : Answer → Type 0
    IsFirst answer = solo_line old.tenants answer ++ text_for config.tenants name told ≡ text_for config.tenants name (answer_of lives answer ∷ told)

    to_named : (slot : ℕ) (reply : Reply) → HasNamedAt old.tenants name slot → IsFirst (ToTenant slot reply)
    to_named slot reply (tenant, there, named) =
        let number = lives.last_at slot in
        let one = ToTenant number reply in
        let more = filter (is_called config.tenants name) told in
        let called : is_called config.tenants name one ≡ true = ap (λ n. bytes_eq n name) (name_there config.tenants number tenant (numbered.tenant_is slot tenant there)) ∙ named in
        (λ i. slot_line_is config old.tenants lives slot reply numbered (tenant, there) i ++ text_for config.tenants name told)
        ∙ sym (ap (λ b. flat_map (answer_line config.tenants) (cond b (one ∷ more) more)) called)

    to_host : (deed : HostDeed) (answer : Answer) → IsHosted solo_setup Stands old deed answer mid → IsFirst answer
    to_host (Refuses fault) answer (is, stayed) = subst IsFirst (sym is) refl
    to_host (Closes slot closed) answer (is, done) = subst IsFirst (sym is) refl
    to_host (Admits slot tenant) answer (inl (is, admitted)) = subst IsFirst (sym is) refl
    to_host (Admits slot tenant) answer (inr (is, stayed)) = subst IsFirst (sym is) refl

    first_line : (said : Said) (answer : Answer) → IsOfNamed old.tenants name said → IsDone solo_setup Stands old said answer mid → IsFirst answer
    first_line (OfHost deed) answer of done = to_host deed answer done
    first_line (Unformed slot) answer of (is, stayed) = subst IsFirst (sym is) (to_named slot (Refused Syntax) of)
    first_line (Acts event) answer of (answered, is, acted) = subst IsFirst (sym is) (to_named event.slot (told_act answered) of)

  -- ---- lines after the head

  -- what was answered to lines of the host and of the name, by lives, and what was written
  record RunsAlone (old : SoloRun W) (lives : Lives) (lines : List (List ℕ)) (text : List ℕ) (new : SoloRun W) : Type 0 where
    told : List Answer
    each : length told ≡ length lines
    whole_said : said_from old.tenants lines told ≡ said_to old.tenants lines
    given : AreGiven solo_setup Stands old lives (said_from old.tenants lines told) told new
    placed : ArePlaced old.tenants (said_from old.tenants lines told)
    whole : (config : Config) → AreFor config (solo_setup old) lives (said_from old.tenants lines told) → text ≡ text_for config.tenants name told
    was : new.was_open ≡ (old.was_open || some_admitted name (said_to old.tenants lines))

  -- one of these lines
  one_taken : (line : List ℕ) (lines : List (List ℕ)) (first later text : List ℕ) (old after new : SoloRun W) (lives : Lives) → is_own name line ≡ true → (t : IsTaken setup StandsFor name old (said_in old.tenants line) first after) → text ≡ first ++ later →
      RunsAlone after (lives_after lives (heard (said_in old.tenants line) (answer_of lives t.answer))) lines later new → RunsAlone old lives (line ∷ lines) text new
  one_taken line lines first later text old after new lives own t whole p =
      let said = said_in old.tenants line in
      let answer = answer_of lives t.answer in
      let one = heard said answer in
      let is_whole : one ≡ said = heard_of_life said lives t.answer ∙ t.heard_whole in
      let moved = done_setup solo_setup Stands old after lives said t.answer t.done in
      let more = said_from (tenants_after old.tenants one) lines p.told in
      let placed = heard_placed old.tenants said answer (said_in-placed old.tenants line) in
      let given = subst (λ (s : Setup). AreGiven solo_setup Stands after (lives_after lives one) (said_from s.tenants lines p.told) p.told new) moved p.given in
      let moved_whole : solo_setup after ≡ setup_after (solo_setup old) said = moved ∙ ap (setup_after (solo_setup old)) is_whole in
      record {
        told = answer ∷ p.told;
        each = ap suc p.each;
        whole_said =
            ap (λ s. s ∷ said_from (tenants_after old.tenants s) lines p.told) is_whole
            ∙ ap (λ more. said ∷ more) (subst (λ (s : Setup). said_from s.tenants lines p.told ≡ said_to s.tenants lines) moved_whole p.whole_said);
        given = given_one solo_setup Stands old after new lives more p.told said t.answer t.done given;
        placed = (placed, subst (λ (s : Setup). ArePlaced s.tenants (said_from s.tenants lines p.told)) moved p.placed);
        whole = λ config for.
            let next = for_next config (solo_setup old) (solo_setup after) lives one more moved for in
            let rest = p.whole config (subst (λ (s : Setup). AreFor config (solo_setup after) (lives_after lives one) (said_from s.tenants lines p.told)) (sym moved) next) in
            whole ∙ (λ i. t.text_is i ++ rest i) ∙ first_line old after lives config for.numbered p.told said t.answer (of_named old.tenants name line own) t.done;
        was =
            p.was
            ∙ (λ i. t.was i || subst (λ (s : Setup). some_admitted name (said_to s.tenants lines) ≡ some_admitted name (said_to (tenants_after old.tenants said) lines)) (sym moved_whole) refl i)
            ∙ or_assoc old.was_open (admits_name name said) (some_admitted name (said_to (tenants_after old.tenants said) lines))
            ∙ ap (λ b. old.was_open || b) (admitted_first name said (said_to (tenants_after old.tenants said) lines));
      }

  -- a line that does nothing
  given_stayed : (old mid new : SoloRun W) (lives : Lives) (said : List Said) (told : List Answer) → HasStayed solo_setup Stands old mid → AreGiven solo_setup Stands mid lives said told new → AreGiven solo_setup Stands old lives said told new
  given_stayed old mid new lives said told stayed p =
      let before : (config : Config) → AreFor config (solo_setup old) lives said → AreFor config (solo_setup mid) lives said = λ config for. subst (λ s. AreFor config s lives said) (sym stayed.same) for in
      record {
        same = p.same ∙ ap (λ s. setup_past s said) stayed.same;
        each = p.each;
        answers = p.answers;
        acts = λ config clusters for standing number. p.acts config clusters (before config for) (stand_stayed solo_setup Stands config old mid lives clusters stayed standing) number;
        right = λ spared config clusters for standing. p.right spared config clusters (before config for) (stand_stayed solo_setup Stands config old mid lives clusters stayed standing);
        left = λ spared config clusters for standing. p.left spared config clusters (before config for) (stand_stayed solo_setup Stands config old mid lives clusters stayed standing);
      }

  record IsPassed (old : SoloRun W) (first : List ℕ) (after : SoloRun W) : Type 0 where
    silent : first ≡ []
    stayed : HasStayed solo_setup Stands old after
    kept : IsKept setup StandsFor name after
    was : after.was_open ≡ old.was_open

  one_passed : (lines : List (List ℕ)) (first later text : List ℕ) (old after new : SoloRun W) (lives : Lives) → IsPassed old first after → text ≡ first ++ later → RunsAlone after lives lines later new → RunsAlone old lives lines text new
  one_passed lines first later text old after new lives passed whole p =
      let same = passed.stayed.same in
      let text_is : text ≡ later = whole ∙ ap (λ t. t ++ later) passed.silent in
      record {
        told = p.told;
        each = p.each;
        whole_said = subst (λ (s : Setup). said_from s.tenants lines p.told ≡ said_to s.tenants lines) same p.whole_said;
        given = given_stayed old after new lives (said_from old.tenants lines p.told) p.told passed.stayed (subst (λ (s : Setup). AreGiven solo_setup Stands after lives (said_from s.tenants lines p.told) p.told new) same p.given);
        placed = subst (λ (s : Setup). ArePlaced s.tenants (said_from s.tenants lines p.told)) same p.placed;
        whole = λ config for. text_is ∙ p.whole config (subst (λ (s : Setup). AreFor config s lives (said_from s.tenants lines p.told)) (sym same) for);
        was = p.was ∙ (λ i. passed.was i || some_admitted name (said_to (same i).tenants lines));
      }

  -- what a line is to the run
  abbrev Stepped : SoloRun W → List ℕ → List ℕ → SoloRun W → Bool → Type 0
  Stepped old line first after true = IsTaken setup StandsFor name old (said_in old.tenants line) first after
  Stepped old line first after false = IsPassed old first after

  stays_itself : (old : SoloRun W) → HasStayed solo_setup Stands old old
  stays_itself old = record { same = refl; clusters = λ slot cluster h. h }

  -- a line was seen as far as it was cut
  module _ (old after : SoloRun W) (line first : List ℕ) (named : AreOpenNamed old.tenants) (kept : IsKept setup StandsFor name old) where
    taken_whole : AnswersOwn setup StandsFor true name old (cut_line longest_line line) first after → Stepped old line first after true
    taken_whole h = subst (λ s. IsTaken setup StandsFor name old s first after) (said_in-cut old.tenants line named) (h.1 kept)

    passed_over : AnswersOwn setup StandsFor false name old (cut_line longest_line line) first after → Stepped old line first after false
    passed_over (silent, stays) = subst (λ (r : SoloRun W). IsPassed old first r) (sym stays) (record { silent = silent; stayed = stays_itself old; kept = kept; was = refl })

    -- the host's refusal of a line that is no longer of the name
    refused_passed : IsTaken setup StandsFor name old (OfHost (Refuses NobodyOfIt)) first after → Stepped old line first after false
    refused_passed t = record {
      silent = t.text_is ∙ ap (solo_line old.tenants) t.done.0;
      stayed = t.done.1;
      kept = t.kept;
      was = t.was ∙ or_false old.was_open;
    }

    seen_cut : 16 < length name → is_host_line line ≡ false → bytes_eq (first_word (cut_line longest_line line)) name ≡ true → AnswersOwn setup StandsFor true name old (cut_line longest_line line) first after → Stepped old line first after false
    seen_cut long not_host is h =
        refused_passed (subst (λ s. IsTaken setup StandsFor name old s first after) (long_said old.tenants name (cut_line longest_line line) named (host_cut line ∙ not_host) long is) (h.1 kept))

    seen_whole : 16 < length name → is_host_line line ≡ false → bytes_eq (first_word line) name ≡ true → AnswersOwn setup StandsFor false name old (cut_line longest_line line) first after → Stepped old line first after true
    seen_whole long not_host is (silent, stays) =
        subst (λ s. IsTaken setup StandsFor name old s first after) (sym (long_said old.tenants name line named not_host long is))
        (subst (λ (r : SoloRun W). IsTaken setup StandsFor name old (OfHost (Refuses NobodyOfIt)) first r) (sym stays)
        (subst (λ t. IsTaken setup StandsFor name old (OfHost (Refuses NobodyOfIt)) t old) (sym silent) (refused_taken setup StandsFor name old old NobodyOfIt refl refl refl refl kept)))

    -- only of a long name do the first bytes say other than the line
    long_name : (seen is : Bool) → bytes_eq (first_word (cut_line longest_line line)) name ≡ seen → bytes_eq (first_word line) name ≡ is → (seen ≡ is → ⊥) → 16 < length name
    long_name seen is es ei differ = by_test (nat_le (length name) 16)
        (λ short. absurd (differ (sym es ∙ same_first name line (grind (arith, nat_tests)) ∙ ei)))
        (λ long. grind (arith, nat_tests))

    stepped : AnswersOwn setup StandsFor (is_own name (cut_line longest_line line)) name old (cut_line longest_line line) first after → Stepped old line first after (is_own name line)
    stepped h = by (is_host_line line) refl (bytes_eq (first_word (cut_line longest_line line)) name) refl (bytes_eq (first_word line) name) refl
      where
        by : (host : Bool) → is_host_line line ≡ host → (seen : Bool) → bytes_eq (first_word (cut_line longest_line line)) name ≡ seen → (is : Bool) → bytes_eq (first_word line) name ≡ is → Stepped old line first after (is_own name line)
        by true eh seen es is ei =
            subst (Stepped old line first after) (sym (λ i. eh i || ei i)) (taken_whole (subst (λ b. AnswersOwn setup StandsFor b name old (cut_line longest_line line) first after) (λ i. (host_cut line ∙ eh) i || es i) h))
        by false eh true es true ei =
            subst (Stepped old line first after) (sym (λ i. eh i || ei i)) (taken_whole (subst (λ b. AnswersOwn setup StandsFor b name old (cut_line longest_line line) first after) (λ i. (host_cut line ∙ eh) i || es i) h))
        by false eh false es false ei =
            subst (Stepped old line first after) (sym (λ i. eh i || ei i)) (passed_over (subst (λ b. AnswersOwn setup StandsFor b name old (cut_line longest_line line) first after) (λ i. (host_cut line ∙ eh) i || es i) h))
        by false eh true es false ei =
            subst (Stepped old line first after) (sym (λ i. eh i || ei i))
            (seen_cut (long_name true false es ei true≢false) eh es (subst (λ b. AnswersOwn setup StandsFor b name old (cut_line longest_line line) first after) (λ i. (host_cut line ∙ eh) i || es i) h))
        by false eh false es true ei =
            subst (Stepped old line first after) (sym (λ i. eh i || ei i))
            (seen_whole (long_name false true es ei (λ same. true≢false (sym same))) eh ei (subst (λ b. AnswersOwn setup StandsFor b name old (cut_line longest_line line) first after) (λ i. (host_cut line ∙ eh) i || es i) h))

  -- of these lines those of the host and of the name are answered, and no other
  one_line : (own : Bool) (line : List ℕ) (lines : List (List ℕ)) (first later text : List ℕ) (old after new : SoloRun W) (lives : Lives) → is_own name line ≡ own → AreOpenNamed old.tenants → Stepped old line first after own → text ≡ first ++ later →
      ((next : Lives) → AreOpenNamed after.tenants → IsKept setup StandsFor name after → RunsAlone after next lines later new) → RunsAlone old lives (cond own (line ∷ lines) lines) text new
  one_line true line lines first later text old after new lives own named t whole on =
      let said = said_in old.tenants line in
      let answer = answer_of lives t.answer in
      let moved = done_setup solo_setup Stands old after lives said t.answer t.done in
      let still = subst (λ (s : Setup). AreOpenNamed s.tenants) (sym moved) (named_after old.tenants (heard said answer) named (heard_named old.tenants said answer (said_in-named old.tenants line))) in
      one_taken line lines first later text old after new lives own t whole (on (lives_after lives (heard said answer)) still t.kept)
  one_line false line lines first later text old after new lives own named passed whole on =
      one_passed lines first later text old after new lives passed whole (on lives (subst (λ (s : Setup). AreOpenNamed s.tenants) (sym passed.stayed.same) named) passed.kept)

  running : (lines : List (List ℕ)) (old : SoloRun W) (lives : Lives) (text : List ℕ) (new : SoloRun W) → AreOpenNamed old.tenants → IsKept setup StandsFor name old →
      Run (solo_lines setup StandsFor name) old (map (cut_line longest_line) lines) text new → RunsAlone old lives (own_lines name lines) text new
  running [] old lives text new named kept h = subst (λ r. RunsAlone old lives [] text r) (sym h.1)
      (record { told = []; each = refl; whole_said = refl; given = given_nothing solo_setup Stands old lives; placed = tt; whole = λ config for. h.0; was = sym (or_false old.was_open) })
  running (line ∷ lines) old lives text new named kept (first, after, later, answered, run, whole) =
      one_line (is_own name line) line (own_lines name lines) first later text old after new lives refl named (stepped old after line first named kept answered) whole
      (λ next still keeps. running lines after next later new still keeps run)

  -- ---- the head

  -- what runs on after a head
  record Begins (config : Config) (run : SoloRun W) : Type 0 where
    fresh : IsNew solo_setup Stands config run
    kept : IsKept setup StandsFor name run
    was : run.was_open ≡ list_any (has_this_name name) config.tenants

  begins : (config : Config) (run : SoloRun W) → AreFew config.tenants → StartsAlone setup StandsFor name config run → Begins config run
  begins config run few (are, begun) = by (open_slot_of_name (begun_with config.tenants) name) refl begun
    where
      tenants_are : run.tenants ≡ begun_with config.tenants
      tenants_are = ap (λ (s : Setup). s.tenants) are

      apart : AreApart (λ tenant. tenant.name) run.tenants
      apart = subst (AreApart (λ tenant. tenant.name)) (sym tenants_are) (begun_apart config.tenants few)

      named : (found : Option ℕ) → open_slot_of_name (begun_with config.tenants) name ≡ found → is_some found ≡ list_any (has_this_name name) config.tenants
      named found e = ap is_some (sym e) ∙ any_found (has_name name) 0 (begun_with config.tenants) ∙ begun_any name config.tenants

      found_in : (found : Option ℕ) → open_slot_of_name (begun_with config.tenants) name ≡ found → open_slot_of_name run.tenants name ≡ found
      found_in found e = ap (λ ts. open_slot_of_name ts name) tenants_are ∙ e

      by : (found : Option ℕ) → open_slot_of_name (begun_with config.tenants) name ≡ found → BeginsWith setup StandsFor config run found → Begins config run
      by None e (none, was) = record {
        fresh = record { setup_is = are; empty = λ slot below h. let clash : None ≡ Some slot = sym (found_in None e) ∙ h in absurd cc };
        kept = record { apart = apart; world_is = subst (λ o. IsWorldOf setup StandsFor name run.head run.tenants run.world o) (sym (found_in None e)) none };
        was = was ∙ named None e;
      }
      by (Some slot) e (tenant, world, there, world_is, fresh, was) =
          let at : slice_get config.tenants slot ≡ Some tenant = sym (open_begun config.tenants slot) ∙ there in
          let found = named_found (begun_with config.tenants) name slot e in
          let same : Some found.0 ≡ Some tenant = sym found.1 ∙ there in
          let is_named : bytes_eq tenant.name name ≡ true = ap (λ (t : Tenant). bytes_eq t.name name) (let is : tenant ≡ found.0 = cc in is) ∙ found.2 in
          record {
            fresh = record {
              setup_is = are;
              empty = λ other below h.
                  let one : Some slot ≡ Some other = sym (found_in (Some slot) e) ∙ h in
                  let is : slot ≡ other = cc in
                  (world, world_is, subst (λ c. StandsFor world 0 (new_cluster c)) (alone_config config slot tenant at ∙ ap (config_at config) is) (fresh.empty 0 (omega arith)));
            };
            kept = record {
              apart = apart;
              world_is = subst (λ o. IsWorldOf setup StandsFor name run.head run.tenants run.world o) (sym (found_in (Some slot) e))
                  (tenant, world, ap (open_at slot) tenants_are ∙ there, is_named, world_is, fresh.setup_is ∙ ap (λ (s : Setup). new_setup (with_tenant_alone s.head tenant)) (sym are));
            };
            was = was ∙ named (Some slot) e;
          }

  -- a run past its head
  record RanAlone (config : Config) (rest : List (List ℕ)) (text : List ℕ) (new : SoloRun W) : Type 0 where
    first : SoloRun W
    fresh : IsNew solo_setup Stands config first
    runs : RunsAlone first (first_lives config) (own_lines name rest) text new
    was : new.was_open ≡ was_open config name rest

  ran_alone : (config : Config) (rest : List (List ℕ)) (first : SoloRun W) (text : List ℕ) (new : SoloRun W) → AreGood (Begun config) → AreFew config.tenants → StartsAlone setup StandsFor name config first →
      Run (solo_lines setup StandsFor name) first (map (cut_line longest_line) rest) text new → RanAlone config rest text new
  ran_alone config rest first text new good few starts run =
      let b = begins config first few starts in
      let named = subst (λ (k : Setup). AreOpenNamed k.tenants) (sym b.fresh.setup_is) (named_begun config.tenants (named_of config good)) in
      let runs = running rest first (first_lives config) text new named b.kept run in
      record {
        first = first;
        fresh = b.fresh;
        runs = runs;
        was = runs.was ∙ (λ i. b.was i || some_admitted name (said_to (b.fresh.setup_is i).tenants (own_lines name rest))) ∙ sym (was_open-is config name rest);
      }

  module _ (config : Config) (rest : List (List ℕ)) (text : List ℕ) (new : SoloRun W) (a : RanAlone config rest text new) where
    given_at : AreGiven solo_setup Stands a.first (first_lives config) (said_told config (own_lines name rest) a.runs.told) a.runs.told new
    given_at = subst (λ (s : Setup). AreGiven solo_setup Stands a.first (first_lives config) (said_from s.tenants (own_lines name rest) a.runs.told) a.runs.told new) a.fresh.setup_is a.runs.given

    placed_at : ArePlaced (begun_with config.tenants) (said_told config (own_lines name rest) a.runs.told)
    placed_at = subst (λ (s : Setup). ArePlaced s.tenants (said_from s.tenants (own_lines name rest) a.runs.told)) a.fresh.setup_is a.runs.placed

    back : (whole : Config) → AreFor whole (solo_setup a.first) (first_lives config) (said_told config (own_lines name rest) a.runs.told) →
        AreFor whole (solo_setup a.first) (first_lives config) (said_from a.first.tenants (own_lines name rest) a.runs.told)
    back whole for = subst (λ (s : Setup). AreFor whole (solo_setup a.first) (first_lives config) (said_from s.tenants (own_lines name rest) a.runs.told)) (sym a.fresh.setup_is) for

    given_answered : 0 < config.shards → AreAnswered (config_told config (own_lines name rest) a.runs.told) (lives_told config (own_lines name rest) a.runs.told) a.runs.told
    given_answered some = are_answered solo_setup Stands config a.first (own_lines name rest) a.runs.told new some a.fresh given_at placed_at

    given_text : text ≡ text_for (config_told config (own_lines name rest) a.runs.told).tenants name a.runs.told
    given_text = a.runs.whole (config_told config (own_lines name rest) a.runs.told)
        (back (config_told config (own_lines name rest) a.runs.told) (for_all solo_setup Stands config a.first (own_lines name rest) a.runs.told a.fresh placed_at))

    given_whole : AreSpared a.runs.told → a.runs.told ≡ answers_to config (own_lines name rest)
    given_whole spared = all_are_told solo_setup Stands config a.first (own_lines name rest) a.runs.told new a.fresh given_at a.runs.each spared

    -- the definition's text begins so
    given_front : AreSpared a.runs.told → (others : List (List ℕ)) → (more : List ℕ) × (solo_text config name (rest ++ others) ≡ text ++ more)
    given_front spared others =
        let goes = answers_go_on solo_setup Stands config a.first (own_lines name rest) a.runs.told new a.fresh given_at a.runs.each spared (own_lines name others) in
        let split = filter-append (is_own name) rest others in
        let tenants = all_tenants config (own_lines name rest ++ own_lines name others) in
        let written : text ≡ text_for tenants name a.runs.told =
        a.runs.whole (with_all_lives config (said_by_lines config (own_lines name rest ++ own_lines name others))) (back (with_all_lives config (said_by_lines config (own_lines name rest ++ own_lines name others))) goes.2) in (
          text_for tenants name goes.0,
          ap (λ ls. text_for (all_tenants config ls) name (answers_to config ls)) split
              ∙ ap (text_for tenants name) goes.1
              ∙ ap (flat_map (answer_line tenants)) (filter-append (is_called tenants name) a.runs.told goes.0)
              ∙ flat_map-append (answer_line tenants) (filter (is_called tenants name) a.runs.told) (filter (is_called tenants name) goes.0)
              ∙ ap (λ t. t ++ text_for tenants name goes.0) (sym written),
        )

  -- nothing is written before a tenant of the name is open
  abbrev NeverOpen : SoloRun W → Type 0
  NeverOpen run = IsFalse run.was_open

  own_silent : (own : Bool) (of : List ℕ) (old : SoloRun W) (line text : List ℕ) (new : SoloRun W) → AnswersOwn setup StandsFor own of old line text new → NeverOpen new → NeverOpen old × (text ≡ [])
  own_silent true of old line text new h still = h.0 still
  own_silent false of old line text new h still = (ap (λ (r : SoloRun W). r.was_open) (sym h.1) ∙ still, h.0)

  line_silent : (of : List ℕ) (old : SoloRun W) (line text : List ℕ) (new : SoloRun W) → (solo_lines setup StandsFor of).answers old line text new → NeverOpen new → NeverOpen old × (text ≡ [])
  line_silent of old line text new h still = own_silent (is_own of line) of old line text new h still

  -- ---- the whole text

  out_there : (bytes : List ℕ) (config : Config) (lines : List (List ℕ)) (there : Bool) → head_of (lines_of bytes) ≡ Whole config lines → was_open config name lines ≡ there → solo_out name bytes ≡ cond there (Written (solo_text config name lines)) NoTenant
  out_there bytes config lines there head is = ap (solo_after name) head ∙ ap (λ b. cond b (Written (solo_text config name lines)) NoTenant) is

  abbrev Past : LinesOf → List ℕ → List (List ℕ) → List ℕ → SoloRun W → Type 0
  Past body bytes others text new = Behind (solo_rules setup StandsFor) body bytes others text new

  ran : (body : LinesOf) → body.name ≡ name → (bytes : List ℕ) (others : List (List ℕ)) (text : List ℕ) (new : SoloRun W) → (b : Past body bytes others text new) → RanAlone b.config b.lines text new
  ran body is bytes others text new b =
      ran_alone b.config b.lines b.first text new b.good b.apart (subst (λ n. StartsAlone setup StandsFor n b.config b.first) is b.starts)
      (subst (λ n. Run (solo_lines setup StandsFor n) b.first (map (cut_line longest_line) b.lines) text new) is b.run)

  whole_head : (body : LinesOf) (bytes text : List ℕ) (new : SoloRun W) → (b : Past body bytes [] text new) → head_of (lines_of bytes) ≡ Whole b.config b.lines
  whole_head body bytes text new b = b.head ∙ ap (Whole b.config) (append-nil b.lines)

  module _ (old_contents new_contents : Option (List ℕ)) (body : LinesOf) (named : body.name ≡ name) (bytes text : List ℕ) (new : SoloRun W) where
    whole_written : Past body bytes [] text new → IsTrue new.was_open → Appends old_contents new_contents text → WritesSolo name bytes old_contents new_contents
    whole_written b there written =
        let a = ran body named bytes [] text new b in
        let head = whole_head body bytes text new b in
        record {
          config = b.config;
          lines = b.lines;
          head = head;
          there = sym a.was ∙ there;
          told = a.runs.told;
          each = a.runs.each;
          answered = given_answered b.config b.lines text new a (shards_of (lines_of bytes) b.config b.lines head);
          right = given_whole b.config b.lines text new a;
          written = subst (Appends old_contents new_contents) (given_text b.config b.lines text new a) written;
        }

    some_written : (others : List (List ℕ)) → Past body bytes others text new → AppendsFront old_contents new_contents text → WritesSomeSolo name bytes old_contents new_contents
    some_written others b written =
        let a = ran body named bytes others text new b in
        record {
          config = b.config;
          lines = b.lines;
          others = others;
          head = b.head;
          told = a.runs.told;
          each = a.runs.each;
          answered = given_answered b.config b.lines text new a (shards_of (lines_of bytes) b.config (b.lines ++ others) b.head);
          written = subst (AppendsFront old_contents new_contents) (given_text b.config b.lines text new a) written;
          right = λ spared. by_test (was_open b.config name (b.lines ++ others))
              (λ there.
              let more = given_front b.config b.lines text new a spared others in
              subst (AppendsFront old_contents new_contents) (sym (ap text_in (out_there bytes b.config (b.lines ++ others) true b.head there) ∙ more.1)) (AppendsFront-more old_contents new_contents text more.0 written))
              (λ none.
              let run = subst (λ n. Run (solo_lines setup StandsFor n) b.first (map (cut_line longest_line) b.lines) text new) named b.run in
              let silent = (Run-quiet (solo_lines setup StandsFor name) NeverOpen (line_silent name) b.first (map (cut_line longest_line) b.lines) text new run (a.was ∙ was_open-front b.config name b.lines others none)).1 in
              subst (AppendsFront old_contents new_contents) (silent ∙ sym (ap text_in (out_there bytes b.config (b.lines ++ others) false b.head none))) written);
        }

  module _ (old_contents new_contents new_remaining : Option (List ℕ)) (begun : ScriptMachine LinesOf (SoloRun W)) (named : begun.body.name ≡ name) (here : IsHeadAt AtStart 0 begun.script) where
    abbrev StopsAt : Option (List ℕ) → RunFault SoloRefusal → Type 0
    StopsAt known why = StopsEarly (script_rules (solo_rules setup StandsFor)) longest_line known new_remaining begun old_contents new_contents why

    pub all_written : (new : ScriptMachine LinesOf (SoloRun W)) (known : Option (List ℕ)) → AnswersAll (script_rules (solo_rules setup StandsFor)) longest_line known new_remaining begun new old_contents new_contents →
        IfSome known (λ bytes. WritesSolo name bytes old_contents new_contents)
    all_written new known p =
        let e = all_answered (solo_rules setup StandsFor) begun.body old_contents new_contents known new_remaining begun refl here new p in
        by_known (λ bytes. WritesSolo name bytes old_contents new_contents) known new_remaining p.input p.read p.at_end
        (whole_written old_contents new_contents begun.body named p.input p.text e.mid e.behind e.ended.2 (subst (Appends old_contents new_contents) (ap (λ l. p.text ++ l) e.ended.0 ∙ append-nil p.text) p.written))

    pub front_written : (known : Option (List ℕ)) (why : RunFault SoloRefusal) → StopsAt known why → IfSome known (λ bytes. WritesSoloFront name bytes old_contents new_contents)
    front_written None why p = tt
    front_written (Some bytes) why p =
        elim (front_answered (solo_rules setup StandsFor) begun.body old_contents new_contents (Some bytes) new_remaining begun refl here (λ body old text new h. h.0) (Some bytes) why p) [
          | inl nothing ↦ inl nothing
          | inr (others, text, new, behind, written) ↦ inr (some_written old_contents new_contents begun.body named bytes text new others behind written)
        ]

    -- ---- a refusal

    refused_by : (bytes : List ℕ) (refusal : SoloRefusal) → RefusedBy (solo_rules setup StandsFor) begun.body bytes refusal → IsRefusedFor name bytes refusal
    refused_by bytes refusal (BadHead bad is head) = subst (IsRefusedFor name bytes) (sym is) head
    refused_by bytes refusal (NotBegun config lines head refused) = absurd refused
    refused_by bytes refusal (AtLine state line refused) = absurd refused
    refused_by bytes refusal (AtEnd text state b (is, never)) =
        let a = ran begun.body named bytes [] text state b in
        subst (IsRefusedFor name bytes) (sym is) (out_there bytes b.config b.lines false (whole_head begun.body bytes text state b) (sym a.was ∙ never))

    pub refused_for : (known : Option (List ℕ)) (why : RunFault SoloRefusal) → StopsAt known why → IfRunRefused why (λ refusal. IfSome known (λ bytes. IsRefusedFor name bytes refusal))
    refused_for known why p = refused (solo_rules setup StandsFor) begun.body old_contents new_contents known new_remaining begun refl here (IsRefusedFor name) refused_by known why p

    pub unwritten_alone : (known : Option (List ℕ)) (why : RunFault SoloRefusal) → StopsAt known why → IfRunRefused why (λ refusal. Keeps old_contents new_contents)
    unwritten_alone known why p =
        unwritten (solo_rules setup StandsFor) begun.body old_contents new_contents known new_remaining begun refl here NeverOpen
        (line_silent begun.body.name) (λ state line refusal h. absurd h) (λ state refusal h. h.1) known why p

-- ---- nothing is done

stays_as_it_is : (contents : Option (List ℕ)) → Keeps contents contents
stays_as_it_is None = tt
stays_as_it_is (Some bytes) = refl

pub nothing_done : {T E : Type 0} (result : Result T E) (name : List ℕ) (known contents : Option (List ℕ)) → OnErr result (IfSome known (λ bytes. WritesSoloFront name bytes contents contents))
nothing_done (Ok done) name known contents = tt
nothing_done (Err fault) name None contents = tt
nothing_done (Err fault) name (Some bytes) contents = inl (stays_as_it_is contents)
