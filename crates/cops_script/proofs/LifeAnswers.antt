-- The replies to the lives of a new world are those of the definition.
use Rattle.std.proofs.Common.{◌≡◌, ℕ, zero, suc, ◌<◌, Bool, true, false, ◌||◌, true≢false, List, [], ◌∷◌, ◌++◌, length, map, refl, sym, subst, ap, ◌∙◌, append-nil, arith}
use Rattle.std.specs.Prelude.{slice_get, IsTrue, Option, Some}
use Rattle.std.specs.List.{list_any}
use Rattle.cops_types.specs.declared.configs.Config.{Config}
use Rattle.cops_types.specs.declared.configs.Tenant.{Tenant}
use Rattle.cops_types.specs.OpenSlots.{begun_with, open_at}
use Rattle.cops_types.specs.TenantConfig.{tenant_config}
use Rattle.cops_model.specs.Cluster.{SoloCluster, new_cluster}
use Rattle.cops_model.specs.Events.{config_at, IsFrontOf, before_lack}
use Rattle.cops_script.specs.Lives.{first_lives, lives_past, of_lives, of_lives_from, with_all_lives}
use Rattle.cops_script.specs.Said.{Admits, Closes, Refuses, Said, OfHost, Unformed, Acts, said_in, tenants_after, tenants_past}
use Rattle.cops_model.specs.Setups.{Setup, is_open_at}
use Rattle.cops_script.specs.Acting.{IsNew}
use Rattle.cops_script.specs.Answers.{Answer, is_lack}
use Rattle.cops_script.specs.Script.{answers_of, answers_to, events_in, said_by_lines, said_to}
use Rattle.cops_script.specs.ScriptWorlds.{cluster_left, life_left, setup_left}
use Rattle.cops_script.specs.ScriptRuns.{AreAnswered, AreSpared, act_replies, config_told, heard, lives_told, said_from, said_told, replies_to}
use Rattle.cops_script.proofs.AnswersTo.{answers_of-from, new_at}
use Rattle.cops_script.proofs.Fronts.{answers_of-along, told_front}
use Rattle.cops_script.proofs.LifeLines.{heard_placed}
use Rattle.cops_script.proofs.LifeRuns.{AreFor, AreGiven, AreStanding, setup_past}
use Rattle.cops_script.proofs.MainLemmas.{own_run}
use Rattle.cops_script.proofs.Numbered.{AreOf, ArePlaced, are_there, numbered_first, of_all_lives, of_front, placed_before}
use Rattle.cops_script.proofs.SaidLines.{said_in-placed}
use Rattle.cops_script.proofs.Sequence.{AreThere, answers_from}
use Rattle.cops_script.proofs.TenantConfigs.{quota_at, tenant_in}
use Rattle.cops_script.proofs.BegunSetups.{open_begun}

first_spared : (a b : Bool) → (a || b) ≡ false → a ≡ false
first_spared true b e = e
first_spared false b e = refl

later_spared : (a b : Bool) → (a || b) ≡ false → b ≡ false
later_spared true b e = absurd (true≢false e)
later_spared false b e = e

-- ---- what lines say

-- if memory was not refused, they were heard as they were said
heard_spared : (said : Said) (answer : Answer) → is_lack answer ≡ false → heard said answer ≡ said
heard_spared (OfHost (Admits slot tenant)) answer spared = rw spared refl
heard_spared (OfHost (Closes slot name)) answer spared = refl
heard_spared (OfHost (Refuses fault)) answer spared = refl
heard_spared (Unformed slot) answer spared = refl
heard_spared (Acts event) answer spared = refl

pub said_spared : (tenants : List (Option Tenant)) (lines : List (List ℕ)) (told : List Answer) → length told ≡ length lines → AreSpared told → said_from tenants lines told ≡ said_to tenants lines
said_spared tenants [] told size spared = refl
said_spared tenants (line ∷ lines) [] size spared = absurd (omega (arith, size))
said_spared tenants (line ∷ lines) (answer ∷ told) size spared =
    let same = heard_spared (said_in tenants line) answer (first_spared (is_lack answer) (list_any is_lack told) spared) in
    ap (λ said. said ∷ said_from (tenants_after tenants said) lines told) same
    ∙ ap (λ more. said_in tenants line ∷ more) (said_spared (tenants_after tenants (said_in tenants line)) lines told (omega (arith, size)) (later_spared (is_lack answer) (list_any is_lack told) spared))

pub said_to-append : (tenants : List (Option Tenant)) (lines others : List (List ℕ)) → said_to tenants (lines ++ others) ≡ said_to tenants lines ++ said_to (tenants_past tenants (said_to tenants lines)) others
said_to-append tenants [] others = refl
said_to-append tenants (line ∷ lines) others = ap (λ more. said_in tenants line ∷ more) (said_to-append (tenants_after tenants (said_in tenants line)) lines others)

pub said_to-placed : (tenants : List (Option Tenant)) (lines : List (List ℕ)) → ArePlaced tenants (said_to tenants lines)
said_to-placed tenants [] = tt
said_to-placed tenants (line ∷ lines) = (said_in-placed tenants line, said_to-placed (tenants_after tenants (said_in tenants line)) lines)

-- all that is said is said by lives of the configuration
pub all_there : (config : Config) (said : List Said) → ArePlaced (begun_with config.tenants) said →
    AreThere (map (tenant_config (with_all_lives config said)) (with_all_lives config said).tenants) (of_lives config said)
all_there config said placed = are_there (with_all_lives config said) (begun_with config.tenants) (first_lives config) said (numbered_first config said) placed (of_all_lives config said)

-- and all that was heard
pub said_from-placed : (tenants : List (Option Tenant)) (lines : List (List ℕ)) (told : List Answer) → ArePlaced tenants (said_from tenants lines told)
said_from-placed tenants [] told = tt
said_from-placed tenants (line ∷ lines) [] = tt
said_from-placed tenants (line ∷ lines) (answer ∷ told) =
    (heard_placed tenants (said_in tenants line) answer (said_in-placed tenants line), said_from-placed (tenants_after tenants (heard (said_in tenants line) answer)) lines told)

-- where lines are answered so, a tenant's replies are the definition's up to a first refusal of memory
pub answered_front : (config : Config) (lines : List (List ℕ)) (told : List Answer) (number : ℕ) → AreAnswered (config_told config lines told) (lives_told config lines told) told →
    number < length (config_told config lines told).tenants →
    IsFrontOf (before_lack (replies_to number told)) (replies_to number (answers_of (config_told config lines told) (lives_told config lines told)))
answered_front config lines told number answered below =
    let whole = config_told config lines told in
    let said = lives_told config lines told in
    let run = answered.theorem number below in
    subst (IsFrontOf (before_lack (replies_to number told)))
    (sym (answers_of-along whole said number (all_there config (said_told config lines told) (said_from-placed (begun_with config.tenants) lines told))))
    (told_front (config_at whole number) number said told (new_cluster (config_at whole number)) run.left answered.each run.goes)

-- ---- a new world

module _ {W : Type 0} (setup : W → Setup) (StandsFor : W → ℕ → SoloCluster → Type 0) (config : Config) (world : W) where
  -- of all that is said, these are the first
  for_front : (said all : List Said) → IsNew setup StandsFor config world → ArePlaced (begun_with config.tenants) said → AreOf (with_all_lives config all) (first_lives config) said →
      AreFor (with_all_lives config all) (setup world) (first_lives config) said
  for_front said all fresh placed of = subst (λ s. AreFor (with_all_lives config all) s (first_lives config) said) (sym fresh.setup_is)
      (record { sizes = λ tenant. refl; numbered = numbered_first config all; placed = placed; of = of })

  -- each tenant has a new cluster
  pub stands_new : (all : List Said) → IsNew setup StandsFor config world → AreStanding setup StandsFor (with_all_lives config all) world (first_lives config) (new_at (with_all_lives config all))
  stands_new all fresh = record {
    stand = λ slot there.
        let whole = with_all_lives config all in
        let found = tenant_in (setup world) slot there in
        let at : slice_get config.tenants slot ≡ Some found.0 = sym (open_begun config.tenants slot) ∙ ap (λ (s : Setup). open_at slot s.tenants) (sym fresh.setup_is) ∙ found.1 in
        let same = quota_at config slot found.0 at ∙ sym (quota_at whole slot found.0 (placed_before config.tenants _ slot found.0 at)) in
        subst (λ c. StandsFor world slot (new_cluster c)) same (fresh.empty slot (below config.tenants slot found.0 at));
    later = λ number low. refl;
  }
    where
      below : (tenants : List Tenant) (slot : ℕ) (t : Tenant) → slice_get tenants slot ≡ Some t → slot < length tenants
      below [] slot t e = absurd cc
      below (u ∷ tenants) zero t e = omega arith
      below (u ∷ tenants) (suc slot) t e = let more = below tenants slot t e in omega (arith, more)

  -- what is said from the start on
  module _ (said : List Said) (told : List Answer) (new : W) where
    -- each answer is to who said it, and right until memory runs out for its tenant
    pub answered_said : 0 < config.shards → IsNew setup StandsFor config world → AreGiven setup StandsFor world (first_lives config) said told new → ArePlaced (begun_with config.tenants) said → AreAnswered (with_all_lives config said) (of_lives config said) told
    answered_said some fresh p placed =
        let whole = with_all_lives config said in
        let for = for_front said said fresh placed (of_all_lives config said) in
        let standing = stands_new said fresh in
        record {
          each = p.answers;
          theorem = λ number below.
              let mine = p.acts whole (new_at whole) for standing number in
              own_run whole (events_in (of_lives config said)) (act_replies (of_lives config said) told) number mine.0 some below mine.1;
        }

    -- if memory was not refused, the answers are the definition's
    pub told_said : IsNew setup StandsFor config world → AreGiven setup StandsFor world (first_lives config) said told new → ArePlaced (begun_with config.tenants) said → AreSpared told → told ≡ answers_of (with_all_lives config said) (of_lives config said)
    told_said fresh p placed spared =
        let whole = with_all_lives config said in
        let found = p.right spared whole (new_at whole) (for_front said said fresh placed (of_all_lives config said)) (stands_new said fresh) in
        sym (answers_of-from whole (of_lives config said) (all_there config said placed)
        ∙ ap (λ s. answers_from (config_at whole) (of_lives_from (first_lives config) s) (new_at whole)) (sym (append-nil said)) ∙ found.2 [] ∙ append-nil told)

  module _ (lines : List (List ℕ)) (told : List Answer) where
    pub for_all : IsNew setup StandsFor config world → ArePlaced (begun_with config.tenants) (said_told config lines told) → AreFor (config_told config lines told) (setup world) (first_lives config) (said_told config lines told)
    for_all fresh placed = for_front (said_told config lines told) (said_told config lines told) fresh placed (of_all_lives config (said_told config lines told))

    module _ (new : W) where
      -- each answer is to whom its line names, and right until memory runs out for its tenant
      pub are_answered : 0 < config.shards → IsNew setup StandsFor config world → AreGiven setup StandsFor world (first_lives config) (said_told config lines told) told new → ArePlaced (begun_with config.tenants) (said_told config lines told) →
          AreAnswered (config_told config lines told) (lives_told config lines told) told
      are_answered some fresh p placed = answered_said (said_told config lines told) told new some fresh p placed

      -- if memory was not refused, the answers are the definition's, and go on as it does
      pub answers_go_on : IsNew setup StandsFor config world → AreGiven setup StandsFor world (first_lives config) (said_told config lines told) told new → length told ≡ length lines → AreSpared told → (others : List (List ℕ)) →
          (more : List Answer) × (answers_to config (lines ++ others) ≡ told ++ more) × AreFor (with_all_lives config (said_by_lines config (lines ++ others))) (setup world) (first_lives config) (said_told config lines told)
      answers_go_on fresh p size spared others =
          let tenants = begun_with config.tenants in
          let said = said_told config lines told in
          let same : said ≡ said_to tenants lines = said_spared tenants lines told size spared in
          let next = said_to (tenants_past tenants (said_to tenants lines)) others in
          let all = said_by_lines config (lines ++ others) in
          let split : all ≡ said ++ next = said_to-append tenants lines others ∙ ap (λ s. s ++ next) (sym same) in
          let whole = with_all_lives config all in
          let placed = subst (ArePlaced tenants) (sym same) (said_to-placed tenants lines) in
          let for = for_front said all fresh placed (of_front whole (first_lives config) said next (subst (AreOf whole (first_lives config)) split (of_all_lives config all))) in
          let found = p.right spared whole (new_at whole) for (stands_new all fresh) in
          let there = all_there config all (said_to-placed tenants (lines ++ others)) in (
            answers_from (config_at whole) (of_lives_from (lives_past (first_lives config) said) next) found.0,
            answers_of-from whole (of_lives config all) there ∙ ap (λ s. answers_from (config_at whole) (of_lives_from (first_lives config) s) (new_at whole)) split ∙ found.2 next,
            for,
          )

      pub all_are_told : IsNew setup StandsFor config world → AreGiven setup StandsFor world (first_lives config) (said_told config lines told) told new → length told ≡ length lines → AreSpared told → told ≡ answers_to config lines
      all_are_told fresh p size spared =
          let said = said_told config lines told in
          let same : said ≡ said_to (begun_with config.tenants) lines = said_spared (begun_with config.tenants) lines told size spared in
          let placed = subst (ArePlaced (begun_with config.tenants)) (sym same) (said_to-placed (begun_with config.tenants) lines) in
          told_said said told new fresh p placed spared ∙ ap (λ s. answers_of (with_all_lives config s) (of_lives config s)) same

      -- if memory was not refused, each open tenant's part of the world is what its life's lines leave
      pub left_standing : IsNew setup StandsFor config world → AreGiven setup StandsFor world (first_lives config) (said_told config lines told) told new → length told ≡ length lines → AreSpared told →
          (setup new ≡ setup_left config lines) × ((slot : ℕ) → IsTrue (is_open_at (setup_left config lines) slot) → StandsFor new slot (cluster_left config lines (life_left config lines slot)))
      left_standing fresh p size spared =
          let all = said_by_lines config lines in
          let whole = with_all_lives config all in
          let given = subst (λ s. AreGiven setup StandsFor world (first_lives config) s told new) (said_spared (begun_with config.tenants) lines told size spared) p in
          let for = for_front all all fresh (said_to-placed (begun_with config.tenants) lines) (of_all_lives config all) in
          let stands = given.left spared whole (new_at whole) for (stands_new all fresh) in
          let same : setup new ≡ setup_left config lines = given.same ∙ ap (λ s. setup_past s all) fresh.setup_is in
          (same, λ slot there. stands.stand slot (subst (λ s. IsTrue (is_open_at s slot)) (sym same) there))
