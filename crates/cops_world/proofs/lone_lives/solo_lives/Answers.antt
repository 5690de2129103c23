use Rattle.std.proofs.Common.{◌≡◌, ◌+◌, drop, List, [], ◌∷◌, ◌++◌, map, sym, subst, ap, ◌∙◌}
use Rattle.std.specs.Prelude.{None, Option, Some}
use Rattle.std.specs.Option.{option_copied}
use Rattle.std.proofs.lemmas.List.{drop_more, map-append}
use Rattle.cops_types.specs.declared.configs.Tenant.{Tenant}
use Rattle.cops_types.specs.OpenSlots.{begun_with, open_at}
use Rattle.cops_model.specs.declared.replies.Reply.{Reply}
use Rattle.cops_script.proofs.BegunSetups.{open_begun}
use Rattle.cops_script.proofs.MainLemmas.{alone_good}
use Rattle.cops_world.specs.declared.host_runs.HostEvent.{HostEvent}
use Rattle.cops_world.specs.declared.lone_lives.LoneLife.{LoneLife}
use Rattle.cops_world.specs.SlotLives.{IsLivedAlone, life_of}
use Rattle.cops_world.proofs.SlotLifeLemmas.{AreLivesSoFar, lives_begin, lives_begin_with, lives_go_on, lives_grow, rest_whole}
use Rattle.cops_world.proofs.lone_lives.solo_lives.Goals as goal
use Rattle.cops_world.proofs.lone_lives.solo_lives.Goals.{in-Some+in_ok-add_life, in_default, in-Some-2+in_ok-add_life-2, in_default-2}

abbrev tenant_in : LoneLife → Tenant
tenant_in life = life.tenant

abbrev told_in : LoneLife → List Reply
told_in life = life.told.items

pub add_life-requires : goal.add_life-requires
add_life-requires c =
    let config = c.args.config.now in
    let there : open_at c.args.slot (begun_with config.tenants) ≡ Some c.in-Some.tenant.now = ap (open_at c.args.slot) (sym c.in_ok-tenants.ensures) ∙ sym c.in-Some.ensures in
    alone_good config c.args.slot c.in-Some.tenant.now c.requires.good (sym (open_begun config.tenants c.args.slot) ∙ there)

pub loop-place-init : goal.loop-place-init
loop-place-init c =
    let config = c.args.config.now in
    let slot = c.args.slot in
    let xs = c.args.events.now in
    let begun = c.in_ok-tenants.ensures in
    let Is : List (Option Tenant) → List LoneLife → Type 0 = λ tenants lives. AreLivesSoFar config slot xs tenants xs (map tenant_in lives) (map told_in lives) in
    elim c.match-tenant.branch [
      | in-Some+in_ok-add_life w ↦
          let tenant = w.in-Some.tenant.now in
          let added = w.in_ok-add_life.ensures in
          let lone = added.0 in
          let there : open_at slot (begun_with config.tenants) ≡ Some tenant = ap (open_at slot) (sym begun) ∙ sym w.in-Some.ensures in
          let items = ap (λ v. v.items) w.lives-is ∙ added.3 ∙ ap (λ (ls : List LoneLife). ls ++ lone ∷ []) c.new-lives.ensures.items in
          let start = lives_begin_with config slot xs tenant (told_in lone) there added.2 in
          let named = subst (λ (of : Tenant). AreLivesSoFar config slot xs (begun_with config.tenants) xs (of ∷ []) (told_in lone ∷ [])) (sym added.1) start in
          record { so_far = subst (Is c.in_ok-tenants.tenants) (sym items) (subst (λ ts. Is ts (lone ∷ [])) (sym begun) named) }
      | in_default w ↦
          let vacant : open_at slot (begun_with config.tenants) ≡ None = ap (open_at slot) (sym begun) ∙ sym c.tenant.ensures ∙ ap option_copied w.in_default.is in
          let items = ap (λ v. v.items) w.lives-is ∙ c.new-lives.ensures.items in
          record { so_far = subst (Is c.in_ok-tenants.tenants) (sym items) (subst (λ ts. Is ts []) (sym begun) (lives_begin config slot xs vacant)) }
    ]

pub loop-place-preserved : goal.loop-place-preserved
loop-place-preserved c =
    let config = c.args.config.now in
    let slot = c.args.slot in
    let xs = c.args.events.now in
    let l = c.loop-place in
    let i = l.place in
    let e = c.index-events-place.result in
    let later = drop (i + 1) xs in
    let next = c.admitted_to.new.tenants in
    let split : drop i xs ≡ e ∷ later = drop_more xs i e c.loop-place-test.true ∙ ap (λ d. d ∷ later) (sym c.index-events-place.is) in
    let found = map tenant_in l.lives.items in
    let told = map told_in l.lives.items in
    let p = subst (λ (rest : List HostEvent). AreLivesSoFar config slot xs l.tenants rest found told) split l.invariant.so_far in
    let after = c.in_ok-tenant.ensures.tenants in
    let given = c.in_ok-tenant.ensures.given in
    let Is : List LoneLife → Type 0 = λ lives. AreLivesSoFar config slot xs next later (map tenant_in lives) (map told_in lives) in
    elim c.match-branch-4.branch [
      | in-Some-2+in_ok-add_life-2 w ↦
          let tenant = w.in-Some-2.tenant in
          let added = w.in_ok-add_life-2.ensures in
          let lone = added.0 in
          let items = ap (λ v. v.items) w.lives-is ∙ added.3 in
          let alone = subst (λ (rest : List HostEvent). IsLivedAlone config (life_of slot rest tenant) (told_in lone)) (rest_whole xs (i + 1)) added.2 in
          let grows = lives_grow config slot xs l.tenants next e later found told after p tenant (told_in lone) (sym given ∙ w.in-Some-2.is) alone in
          let grown = subst (λ (of : Tenant). AreLivesSoFar config slot xs next later (found ++ of ∷ []) (told ++ told_in lone ∷ [])) (sym added.1) grows in
          record {
            so_far = subst Is (sym items)
                (subst (λ ts. AreLivesSoFar config slot xs next later ts (map told_in (l.lives.items ++ lone ∷ []))) (sym (map-append tenant_in l.lives.items (lone ∷ [])))
                (subst (λ rs. AreLivesSoFar config slot xs next later (found ++ tenant_in lone ∷ []) rs) (sym (map-append told_in l.lives.items (lone ∷ []))) grown));
          }
      | in_default-2 w ↦
          let items = ap (λ v. v.items) w.lives-is in
          record { so_far = subst Is (sym items) (lives_go_on config slot xs l.tenants next e later found told after p (sym given ∙ w.in_default-2.is)) }
    ]
