-- Answers none of which is out of memory are those of the definition.
use Rattle.std.proofs.Common.{◌≡◌, ℕ, ◌+◌, ◌<◌, Bool, true, false, ◌==◌, ◌||◌, true≢false, List, [], ◌∷◌, ◌++◌, length, map, refl, sym, subst, ap, ◌∙◌, append_assoc, append-nil, arith}
use Rattle.std.specs.Prelude.{filter_map, flat_map, slice_get, Option, Some, None}
use Rattle.std.specs.List.{list_all, list_any}
use Rattle.std.proofs.lemmas.Bool.Decides.{Decides-eqb}
use Rattle.std.proofs.lemmas.List.{length-map}
use Rattle.std.proofs.lemmas.List.Concat.{flat_map-append}
use Rattle.std.proofs.lemmas.List.Elements.{filter_map-append}
use Rattle.std.proofs.lemmas.Option.{slice_get_within}
use Rattle.cops_types.specs.declared.configs.Config.{Config}
use Rattle.cops_types.specs.declared.configs.Tenant.{Tenant}
use Rattle.cops_types.specs.Head.{Front, AtStart, Within, Begun, Leads, Whole, BadAt, front_after, head_of, reading_from}
use Rattle.cops_types.specs.HeadLines.{are_sizes, is_tenant}
use Rattle.cops_types.specs.Lines.{lines_of}
use Rattle.cops_types.specs.declared.faults.Fault.TheVariants.{Syntax}
use Rattle.cops_types.specs.OpenSlots.{begun_with, open_at}
use Rattle.cops_types.specs.Slots.{AreNamed}
use Rattle.cops_types.specs.TenantConfig.{TenantConfig, tenant_config}
use Rattle.cops_types.proofs.FrontLemmas.{front_after-finds}
use Rattle.cops_types.proofs.HeadLengths.{name_of_good}
use Rattle.cops_types.proofs.WordLemmas.{both}
use Rattle.cops_model.specs.declared.acts.Event.{Event}
use Rattle.cops_model.specs.declared.replies.Reply.{Reply}
use Rattle.cops_model.specs.declared.replies.Reply.TheVariants.{Refused}
use Rattle.cops_model.specs.Cluster.{SoloCluster, cluster_step, new_cluster}
use Rattle.cops_model.specs.Events.{config_at, is_out_of_memory, own, replies, with_cluster}
use Rattle.cops_model.specs.Goes.{Goes}
use Rattle.cops_causal.proofs.Runs.{exactly}
use Rattle.cops_script.specs.Answers.{Answer, ToTenant, answer_line, is_lack, reply_line}
use Rattle.cops_script.specs.Lives.{Lives, admitted_by, first_lives, lives_after, lives_past, of_life, of_lives, of_lives_from, with_all_lives}
use Rattle.cops_script.specs.Said.{Said, OfHost, Unformed, Acts, tenants_after, tenants_past}
use Rattle.cops_script.specs.OpenNames.{AreOpenNamed}
use Rattle.cops_script.specs.Script.{Written, answers_of, answers_to, events_in, said_by_lines, said_to, script_after, script_out, script_text}
use Rattle.cops_script.specs.ScriptRuns.{AnswersScript, AreAnswersTo, AreSpared, act_replies, said_told}
use Rattle.cops_script.proofs.AnswersTo.{answers_of-from, new_at}
use Rattle.cops_script.proofs.Fronts.{ActsGo}
use Rattle.cops_script.proofs.LifeAnswers.{all_there, said_from-placed, said_spared, said_to-append, said_to-placed}
use Rattle.cops_script.proofs.LifeLines.{name_there}
use Rattle.cops_script.proofs.Meanings.{first_answered, meant_are_said, IsAnswerTo}
use Rattle.cops_script.proofs.Numbered.{AreNumbered, AreOf, ArePlaced, IsPlaced, next_numbered, numbered_first, of_all_lives, of_front, placed_before}
use Rattle.cops_script.proofs.SaidLines.{named_begun}
use Rattle.cops_script.proofs.ScriptHeadLemmas.{whole_head}
use Rattle.cops_script.proofs.Sequence.{AreThere, answers_from}
use Rattle.cops_script.proofs.TenantConfigs.{quota_at, tenant_at}
use Rattle.cops_script.proofs.WholeHeads.{good_of}

by_test : {C : Type 0} (b : Bool) → (b ≡ true → C) → (b ≡ false → C) → C
by_test {C} true holds fails = holds refl
by_test {C} false holds fails = fails refl

first_spared : (a b : Bool) → (a || b) ≡ false → a ≡ false
first_spared true b e = e
first_spared false b e = refl

later_spared : (a b : Bool) → (a || b) ≡ false → b ≡ false
later_spared true b e = absurd (true≢false e)
later_spared false b e = e

-- ---- one line after another

-- the replies of each of these tenants are a run of its acts from its cluster
abbrev AllGo : ℕ → (ℕ → TenantConfig) → List Said → List Answer → (ℕ → SoloCluster) → Type 0
AllGo count configs said told clusters = (number : ℕ) → number < count → ActsGo (configs number) number said told (clusters number)

-- the first line acted, and its answer is right
module _ (configs : ℕ → TenantConfig) (count : ℕ) (e : Event) (said : List Said) (told : List Answer) (clusters : ℕ → SoloCluster) (reply : Reply) (spared : is_out_of_memory reply ≡ false) (within : e.slot < count) (go : AllGo count configs (Acts e ∷ said) (ToTenant e.slot reply ∷ told) clusters) where
  abbrev after : SoloCluster
  after = (cluster_step (configs e.slot) e.act (clusters e.slot)).after

  abbrev Acted : Type 0
  Acted = (reply ≡ (cluster_step (configs e.slot) e.act (clusters e.slot)).reply) × ActsGo (configs e.slot) e.slot said told after

  acted : Acted
  acted =
      let mine = go e.slot within in
      let run : Goes (configs e.slot) (e.act ∷ own e.slot (events_in said)) (reply ∷ replies e.slot (events_in said) (act_replies said told)) (clusters e.slot) mine.0 = rw ((Decides-eqb e.slot e.slot).1 refl) at mine.1 in
      let one = exactly (configs e.slot) e.act reply (clusters e.slot) run.0 spared run.1 in
      (one.0, (mine.0, subst (λ c. Goes (configs e.slot) (own e.slot (events_in said)) (replies e.slot (events_in said) (act_replies said told)) c mine.0) one.1 run.2))

  others_go : AllGo count configs said told (with_cluster e.slot after clusters)
  others_go number low = by_test (e.slot == number)
      (λ is. rw is (subst (λ n. ActsGo (configs n) n said told after) ((Decides-eqb e.slot number).0 is) acted.1))
      (λ apart.
      let other = go number low in
      let run : Goes (configs number) (own number (events_in said)) (replies number (events_in said) (act_replies said told)) (clusters number) other.0 = rw apart at other.1 in
      rw apart (other.0, run))

-- the definition has these answers first
abbrev pub GoesOn : (ℕ → TenantConfig) → List Said → List Said → List Answer → (ℕ → SoloCluster) → Type 0
GoesOn configs said others told clusters = (later : ℕ → SoloCluster) × (answers_from configs (said ++ others) clusters ≡ told ++ answers_from configs others later)

told_go_on : (configs : ℕ → TenantConfig) (list : List TenantConfig) (said others : List Said) (told : List Answer) (clusters : ℕ → SoloCluster) → AreAnswersTo said told → AreSpared told → AreThere list said →
    AllGo (length list) configs said told clusters → GoesOn configs said others told clusters
told_go_on configs list [] others [] clusters each spared there go = (clusters, refl)
told_go_on configs list [] others (answer ∷ told) clusters each spared there go = absurd each
told_go_on configs list (one ∷ said) others [] clusters each spared there go = absurd each
told_go_on configs list (OfHost deed ∷ said) others (answer ∷ told) clusters (is, each) spared there go =
    let rest = told_go_on configs list said others told clusters each (later_spared (is_lack answer) (list_any is_lack told) spared) there go in
    (rest.0, λ i. sym is i ∷ rest.1 i)
told_go_on configs list (Unformed number ∷ said) others (answer ∷ told) clusters (is, each) spared there go =
    let rest = told_go_on configs list said others told clusters each (later_spared (is_lack answer) (list_any is_lack told) spared) there go in
    (rest.0, λ i. sym is i ∷ rest.1 i)
told_go_on configs list (Acts e ∷ said) others (answer ∷ told) clusters ((reply, is), each) spared ((config, found), there) go =
    let within = slice_get_within list e.slot config found in
    let one : is_out_of_memory reply ≡ false = ap is_lack (sym is) ∙ first_spared (is_lack answer) (list_any is_lack told) spared in
    let go_so : AllGo (length list) configs (Acts e ∷ said) (ToTenant e.slot reply ∷ told) clusters = subst (λ a. AllGo (length list) configs (Acts e ∷ said) (a ∷ told) clusters) is go in
    let right = acted configs (length list) e said told clusters reply one within go_so in
    let next = with_cluster e.slot (cluster_step (configs e.slot) e.act (clusters e.slot)).after clusters in
    let rest = told_go_on configs list said others told next each (later_spared (is_lack answer) (list_any is_lack told) spared) there (others_go configs (length list) e said told clusters reply one within go_so) in
    (rest.0, ap (λ r. ToTenant e.slot r ∷ answers_from configs (said ++ others) next) (sym right.0) ∙ (λ i. sym is i ∷ rest.1 i))

-- ---- the lines that are written

-- tenants with the same names at the numbers of the answers
texts_alike : (one other : Config) (tenants : List (Option Tenant)) (lives : Lives) (said : List Said) (told : List Answer) → AreNumbered one tenants lives → AreNumbered other tenants lives → ArePlaced tenants said →
    AreOf one lives said → AreOf other lives said → AreAnswersTo (of_lives_from lives said) told → flat_map (answer_line one.tenants) told ≡ flat_map (answer_line other.tenants) told
texts_alike one other tenants lives [] [] numbered too placed of also each = refl
texts_alike one other tenants lives [] (answer ∷ told) numbered too placed of also each = absurd each
texts_alike one other tenants lives (said ∷ more) [] numbered too placed of also each = absurd each
texts_alike one other tenants lives (said ∷ more) (answer ∷ told) numbered too placed of also each =
    let first = first_answered (of_life lives said) (of_lives_from (lives_after lives said) more) answer told each in
    let rest = texts_alike one other (tenants_after tenants said) (lives_after lives said) more told (next_numbered one tenants lives said numbered placed.0 of.0) (next_numbered other tenants lives said too placed.0 also.0) placed.1 of.1 also.1 first.1 in
    (λ i. same said first.0 placed.0 i ++ rest i)
  where
    named : (slot : ℕ) (reply : Reply) → (tenant : Tenant) × (open_at slot tenants ≡ Some tenant) → answer_line one.tenants (ToTenant (lives.last_at slot) reply) ≡ answer_line other.tenants (ToTenant (lives.last_at slot) reply)
    named slot reply (tenant, there) =
        ap (λ name. reply_line name reply)
        (name_there one.tenants (lives.last_at slot) tenant (numbered.tenant_is slot tenant there) ∙ sym (name_there other.tenants (lives.last_at slot) tenant (too.tenant_is slot tenant there)))

    same : (said : Said) → IsAnswerTo (of_life lives said) answer → IsPlaced tenants said → answer_line one.tenants answer ≡ answer_line other.tenants answer
    same (OfHost deed) is placed = ap (answer_line one.tenants) is ∙ sym (ap (answer_line other.tenants) is)
    same (Unformed slot) is placed = ap (answer_line one.tenants) is ∙ named slot (Refused Syntax) placed ∙ sym (ap (answer_line other.tenants) is)
    same (Acts event) (reply, is) placed = ap (answer_line one.tenants) is ∙ named event.slot reply placed ∙ sym (ap (answer_line other.tenants) is)

-- ---- heads

-- a whole head is read as one
leads_read : (head : List (List ℕ)) (front : Front) (number : ℕ) (rest : List (List ℕ)) (config : Config) → Leads front head (Begun config) → reading_from (head ++ rest) number front ≡ Whole config rest
leads_read [] front number rest config led = ap (reading_from rest number) (sym led)
leads_read (line ∷ head) AtStart number rest config (next, follows, led) = by_next (front_after-finds AtStart line next follows) (leads_read head next (number + 1) rest config led)
  where
    by_next : front_after AtStart line ≡ Some next → reading_from (head ++ rest) (number + 1) next ≡ Whole config rest → reading_from (line ∷ (head ++ rest)) number AtStart ≡ Whole config rest
    by_next found e = ap (λ f. elim f [ None ↦ BadAt number | Some n ↦ reading_from (head ++ rest) (number + 1) n ]) found ∙ e
leads_read (line ∷ head) (Within old) number rest config (next, follows, led) = by_next (front_after-finds (Within old) line next follows) (leads_read head next (number + 1) rest config led)
  where
    by_next : front_after (Within old) line ≡ Some next → reading_from (head ++ rest) (number + 1) next ≡ Whole config rest → reading_from (line ∷ (head ++ rest)) number (Within old) ≡ Whole config rest
    by_next found e = ap (λ f. elim f [ None ↦ BadAt number | Some n ↦ reading_from (head ++ rest) (number + 1) n ]) found ∙ e
leads_read (line ∷ head) (Begun old) number rest config (next, follows, led) = absurd follows

names_of : (tenants : List Tenant) → list_all is_tenant tenants ≡ true → AreNamed tenants
names_of [] good = tt
names_of (t ∷ tenants) good = let each = both (is_tenant t) (list_all is_tenant tenants) good in (name_of_good t each.0, names_of tenants each.1)

-- ---- the whole script

module _ (bytes text : List ℕ) (others : List (List ℕ)) (a : AnswersScript bytes others text) where
  abbrev tenants : List (Option Tenant)
  tenants = begun_with a.config.tenants

  pub head_is : head_of (lines_of bytes) ≡ Whole a.config (a.lines ++ others)
  head_is = ap head_of a.whole ∙ leads_read a.head AtStart 1 (a.lines ++ others) a.config (whole_head a.head a.config a.begins)

  named : AreOpenNamed tenants
  named = named_begun a.config.tenants (names_of a.config.tenants (both (are_sizes a.config) (list_all is_tenant a.config.tenants) (good_of (lines_of bytes) a.config (a.lines ++ others) head_is)).1)

  said_is : (length a.told ≡ length a.lines) × (said_told a.config a.lines a.told ≡ a.said)
  said_is = meant_are_said tenants a.lines (first_lives a.config) a.said a.told named a.meant a.answered.each

  placed : ArePlaced tenants a.said
  placed = subst (ArePlaced tenants) said_is.1 (said_from-placed tenants a.lines a.told)

  module _ (spared : AreSpared a.told) where
    lines_said : a.said ≡ said_by_lines a.config a.lines
    lines_said = sym said_is.1 ∙ said_spared tenants a.lines a.told said_is.0 spared

    abbrev next : List Said
    next = said_to (tenants_past tenants a.said) others

    abbrev all : List Said
    all = a.said ++ next

    all_is : said_by_lines a.config (a.lines ++ others) ≡ all
    all_is = said_to-append tenants a.lines others ∙ (λ i. sym lines_said i ++ said_to (tenants_past tenants (sym lines_said i)) others)

    abbrev small : Config
    small = with_all_lives a.config a.said

    abbrev whole : Config
    whole = with_all_lives a.config all

    -- the tenants of the lines that were read are the first of all
    more_tenants : whole.tenants ≡ small.tenants ++ filter_map admitted_by next
    more_tenants = ap (λ ts. a.config.tenants ++ ts) (filter_map-append admitted_by a.said next) ∙ sym (append_assoc a.config.tenants (filter_map admitted_by a.said) (filter_map admitted_by next))

    same_config : (number : ℕ) → number < length small.tenants → config_at small number ≡ config_at whole number
    same_config number low =
        let found = tenant_at small.tenants number low in
        let later = subst (λ ts. slice_get ts number ≡ Some found.0) (sym more_tenants) (placed_before small.tenants (filter_map admitted_by next) number found.0 found.1) in
        quota_at small number found.0 found.1 ∙ sym (quota_at whole number found.0 later)

    of_first : AreOf whole (first_lives a.config) a.said
    of_first = of_front whole (first_lives a.config) a.said next (of_all_lives a.config all)

    there : AreThere (map (tenant_config small) small.tenants) (of_lives a.config a.said)
    there = all_there a.config a.said placed

    all_go : AllGo (length (map (tenant_config small) small.tenants)) (config_at whole) (of_lives a.config a.said) a.told (new_at whole)
    all_go number low =
        let below : number < length small.tenants = let size = length-map small.tenants (tenant_config small) in omega arith in
        let run = a.answered.theorem number below in
        subst (λ c. ActsGo c number (of_lives a.config a.said) a.told (new_cluster c)) (same_config number below) (run.left, run.goes)

    lives_append : (lives : Lives) (said more : List Said) → of_lives_from lives (said ++ more) ≡ of_lives_from lives said ++ of_lives_from (lives_past lives said) more
    lives_append lives [] more = refl
    lives_append lives (one ∷ said) more = ap (λ rest. of_life lives one ∷ rest) (lives_append (lives_after lives one) said more)

    pub go_on : GoesOn (config_at whole) (of_lives a.config a.said) (of_lives_from (lives_past (first_lives a.config) a.said) next) a.told (new_at whole)
    go_on = told_go_on (config_at whole) (map (tenant_config small) small.tenants) (of_lives a.config a.said) (of_lives_from (lives_past (first_lives a.config) a.said) next) a.told (new_at whole) a.answered.each spared there all_go

    abbrev more : List Answer
    more = answers_from (config_at whole) (of_lives_from (lives_past (first_lives a.config) a.said) next) go_on.0

    all_placed : ArePlaced tenants all
    all_placed = subst (ArePlaced tenants) all_is (said_to-placed tenants (a.lines ++ others))

    -- the definition answers so, and then goes on
    answers_are : answers_to a.config (a.lines ++ others) ≡ a.told ++ more
    answers_are =
        ap (λ s. answers_of (with_all_lives a.config s) (of_lives a.config s)) all_is
        ∙ answers_of-from whole (of_lives a.config all) (all_there a.config all all_placed)
        ∙ ap (λ s. answers_from (config_at whole) s (new_at whole)) (lives_append (first_lives a.config) a.said next)
        ∙ go_on.1

    text_is : text ≡ flat_map (answer_line whole.tenants) a.told
    text_is =
        a.has_answers
        ∙ texts_alike small whole tenants (first_lives a.config) a.said a.told (numbered_first a.config a.said) (numbered_first a.config all) placed (of_all_lives a.config a.said) of_first a.answered.each

    written_is : script_text a.config (a.lines ++ others) ≡ text ++ flat_map (answer_line whole.tenants) more
    written_is =
        (λ i. flat_map (answer_line (with_all_lives a.config (all_is i)).tenants) (answers_are i))
        ∙ flat_map-append (answer_line whole.tenants) a.told more
        ∙ (λ i. sym text_is i ++ flat_map (answer_line whole.tenants) more)

    pub output_is : script_out bytes ≡ Written (text ++ flat_map (answer_line whole.tenants) more)
    output_is = ap script_after head_is ∙ ap Written written_is

-- the answers to some lines are a prefix of the output
pub spared_front : (bytes text : List ℕ) (others : List (List ℕ)) (a : AnswersScript bytes others text) → AreSpared a.told → (rest : List ℕ) × (script_out bytes ≡ Written (text ++ rest))
spared_front bytes text others a spared = (flat_map (answer_line (whole bytes text others a spared).tenants) (more bytes text others a spared), output_is bytes text others a spared)

-- those to all lines are the output
pub spared_whole : (bytes text : List ℕ) (a : AnswersScript bytes [] text) → AreSpared a.told → script_out bytes ≡ Written text
spared_whole bytes text a spared = output_is bytes text [] a spared ∙ ap Written (append-nil text)
