-- One more event of a run, as each tenant sees it.
use Rattle.std.proofs.Common.{◌≡◌, ◌≢◌, ◌<◌, ◌≤◌, ℕ, zero, suc, take, Bool, true, false, cond, get_or, ◌==◌, List, [], ◌∷◌, ◌++◌, length, refl, sym, ◌∙◌, ap, subst, true≢false, append-nil, arith}
use Rattle.std.specs.Prelude.{All, IsTrue, if◌then◌else◌, map, filter}
use Rattle.std.proofs.lemmas.Bool.Decides.{Decides-eqb}
use Rattle.std.proofs.lemmas.List.{map-append}
use Rattle.std.proofs.lemmas.List.Elements.{filter-append}
use Rattle.cops_types.specs.declared.configs.Config.{Config}
use Rattle.cops_types.specs.TenantConfig.{TenantConfig}
use Rattle.cops_model.specs.declared.acts.Act.{Act}
use Rattle.cops_model.specs.declared.acts.Event.{Event}
use Rattle.cops_model.specs.declared.replies.Reply.{Reply}
use Rattle.cops_model.specs.Cluster.{SoloCluster}
use Rattle.cops_model.specs.Events.{own, replies}
use Rattle.cops_model.specs.Setups.{is_open_at, new_setup}
use Rattle.cops_model.specs.Goes.{Goes, Turns}
use Rattle.cops_script.proofs.BegunSetups.{open_within}
use Rattle.cops_script.proofs.Turning.{goes_push}

-- the last reply is the tenant's if the last event is
replies-push : (slot : ℕ) (events : List Event) (e : Event) (rs : List Reply) (r : Reply) → length rs ≡ length events →
    replies slot (events ++ e ∷ []) (rs ++ r ∷ []) ≡ replies slot events rs ++ (if e.slot == slot then r ∷ [] else [])
replies-push slot [] e [] r same = elim (e.slot == slot) as (λ b. cond b (r ∷ replies slot [] []) (replies slot [] []) ≡ cond b (r ∷ []) []) [ true ↦ refl | false ↦ refl ]
replies-push slot [] e (x ∷ rs) r same = absurd (omega arith)
replies-push slot (d ∷ events) e [] r same = absurd (omega arith)
replies-push slot (d ∷ events) e (x ∷ rs) r same =
    let ih = replies-push slot events e rs r (omega arith) in
    elim (d.slot == slot) as (λ b. cond b (x ∷ replies slot (events ++ e ∷ []) (rs ++ r ∷ [])) (replies slot (events ++ e ∷ []) (rs ++ r ∷ [])) ≡ cond b (x ∷ replies slot events rs) (replies slot events rs) ++ (if e.slot == slot then r ∷ [] else [])) [
      | true ↦ ap (λ ys. x ∷ ys) ih
      | false ↦ ih
    ]

-- the last act is the tenant's if the last event is
own-push : (slot : ℕ) (events : List Event) (e : Event) → own slot (events ++ e ∷ []) ≡ own slot events ++ (if e.slot == slot then e.act ∷ [] else [])
own-push slot events e =
    ap (map (λ (d : Event). d.act)) (filter-append (λ (d : Event). d.slot == slot) events (e ∷ []))
    ∙ map-append (λ (d : Event). d.act) (filter (λ (d : Event). d.slot == slot) events) (filter (λ (d : Event). d.slot == slot) (e ∷ []))
    ∙ ap (λ acts. own slot events ++ acts) last
  where
    last : own slot (e ∷ []) ≡ (if e.slot == slot then e.act ∷ [] else [])
    last = elim (e.slot == slot) as (λ b. map (λ (d : Event). d.act) (cond b (e ∷ []) []) ≡ cond b (e.act ∷ []) []) [ true ↦ refl | false ↦ refl ]

by_test : {C : Type 0} (b : Bool) → (b ≡ true → C) → (b ≡ false → C) → C
by_test {C} true holds fails = holds refl
by_test {C} false holds fails = fails refl

-- ---- one tenant alone

pub own_too : (slot : ℕ) (events : List Event) (e : Event) → e.slot ≡ slot → own slot (events ++ e ∷ []) ≡ own slot events ++ e.act ∷ []
own_too slot events e same = own-push slot events e ∙ rw ((Decides-eqb e.slot slot).1 same) refl

-- an event of another tenant
pub own_stays : (slot : ℕ) (events : List Event) (e : Event) → e.slot ≢ slot → own slot (events ++ e ∷ []) ≡ own slot events
own_stays slot events e apart = own-push slot events e ∙ by (e.slot == slot) refl
  where
    by : (t : Bool) → (e.slot == slot) ≡ t → own slot events ++ (if t then e.act ∷ [] else []) ≡ own slot events
    by true is = absurd (apart ((Decides-eqb e.slot slot).0 is))
    by false is = append-nil (own slot events)

-- all of a list is taken
pub taken_whole : {A : Type 0} (n : ℕ) (xs : List A) → length xs ≤ n → take n xs ≡ xs
taken_whole zero [] long = refl
taken_whole zero (x ∷ xs) long = absurd (omega arith)
taken_whole (suc n) [] long = refl
taken_whole (suc n) (x ∷ xs) long = ap (λ ys. x ∷ ys) (taken_whole n xs (omega arith))

-- events of tenants of a head are of open slots
pub all_open : (config : Config) (events : List Event) → All (λ e. e.slot < length config.tenants) events → All (λ e. IsTrue (is_open_at (new_setup config) e.slot)) events
all_open config events all = λ k e below. open_within config (get_or events k e).slot (all k e below)

-- ---- runs in which memory may be refused

-- one more event of anybody
pub goes_step : (config : TenantConfig) (slot : ℕ) (cluster : SoloCluster) (events : List Event) (e : Event) (rs : List Reply) (r : Reply) (Before After : SoloCluster → Type 0) → length rs ≡ length events →
    (e.slot ≡ slot → (c : SoloCluster) → Before c → (d : SoloCluster) × Turns config e.act c r d × After d) → (e.slot ≢ slot → (c : SoloCluster) → Before c → After c) →
    (d : SoloCluster) × Goes config (own slot events) (replies slot events rs) cluster d × Before d →
    (d : SoloCluster) × Goes config (own slot (events ++ e ∷ [])) (replies slot (events ++ e ∷ []) (rs ++ r ∷ [])) cluster d × After d
goes_step config slot cluster events e rs r Before After same mine others (left, goes, stood) =
    by_test (e.slot == slot)
    (λ is.
    let pushed : replies slot (events ++ e ∷ []) (rs ++ r ∷ []) ≡ replies slot events rs ++ r ∷ [] = replies-push slot events e rs r same ∙ rw is refl in
    let acted : own slot (events ++ e ∷ []) ≡ own slot events ++ e.act ∷ [] = own-push slot events e ∙ rw is refl in
    let turn = mine ((Decides-eqb e.slot slot).0 is) left stood in
    (turn.0, moved turn.0 (sym acted) (sym pushed) (goes_push config (own slot events) (replies slot events rs) e.act r cluster left turn.0 goes turn.1), turn.2))
    (λ apart.
    let pushed : replies slot (events ++ e ∷ []) (rs ++ r ∷ []) ≡ replies slot events rs = replies-push slot events e rs r same ∙ rw apart (append-nil (replies slot events rs)) in
    let acted : own slot (events ++ e ∷ []) ≡ own slot events = own-push slot events e ∙ rw apart (append-nil (own slot events)) in
    (left, moved left (sym acted) (sym pushed) goes, others (λ same_slot. true≢false (sym ((Decides-eqb e.slot slot).1 same_slot) ∙ apart)) left stood))
  where
    moved : {acts more : List Act} {rs others : List Reply} (d : SoloCluster) → acts ≡ more → rs ≡ others → Goes config acts rs cluster d → Goes config more others cluster d
    moved {acts} {more} {rs} {others} d same_acts same_replies h = subst (λ said. Goes config more said cluster d) same_replies (subst (λ done. Goes config done rs cluster d) same_acts h)
