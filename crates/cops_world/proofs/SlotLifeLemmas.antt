-- The lives of a slot, event by event: in a world of all tenants, and in worlds of their own.
use Rattle.std.proofs.Common.{◌≡◌, ◌≢◌, ℕ, zero, suc, ◌-◌, ◌<◌, ◌≤◌, ◌==◌, ◌||◌, Bool, true, false, cond, drop, take, inl, inr, List, [], ◌∷◌, ◌++◌, length, length-append, length-set, map, refl, sym, subst, ap, ◌∙◌, append_assoc, append-nil, true≢false, arith}
use Rattle.std.specs.Prelude.{is_some, Option, Some, None, Result, replicate}
use Rattle.std.specs.List.{list_any}
use Rattle.std.specs.declared.alloc.AllocError.{AllocError}
use Rattle.std.specs.Option.{option_map, option_to_list}
use Rattle.std.proofs.lemmas.Bool.Decides.{Decides-eqb}
use Rattle.std.proofs.lemmas.List.{length-drop, length-map, length-replicate, map-append}
use Rattle.cops_types.specs.declared.configs.Config.{Config}
use Rattle.cops_types.specs.declared.configs.Tenant.{Tenant}
use Rattle.cops_types.specs.declared.faults.Fault.{Fault}
use Rattle.cops_types.specs.declared.faults.Fault.TheVariants.{OutOfMemory, UnknownTenant}
use Rattle.cops_types.specs.HeadLines.{most_tenants}
use Rattle.cops_types.specs.OpenSlots.{admission_refusal, begun_with, open_at}
use Rattle.cops_types.specs.TenantConfig.{TenantConfig, tenant_config}
use Rattle.cops_model.specs.declared.acts.Act.{Act}
use Rattle.cops_model.specs.declared.acts.Event.{Event}
use Rattle.cops_model.specs.declared.replies.HostReply.TheVariants.{Admitted, Closed, Denied}
use Rattle.cops_model.specs.declared.replies.Reply.{Reply}
use Rattle.cops_model.specs.declared.replies.Reply.TheVariants.{Refused}
use Rattle.cops_model.specs.Cluster.{SoloCluster, cluster_step, new_cluster}
use Rattle.cops_model.specs.Events.{IsSpared, config_at, is_out_of_memory}
use Rattle.cops_model.specs.Goes.{Goes, Turns}
use Rattle.cops_model.specs.MainTheorem.{IsCausalRun, with_tenant_alone}
use Rattle.cops_model.specs.Setups.{Setup, config_in, config_of, new_setup, with_slot}
use Rattle.cops_script.specs.Acting.{HasActed, HasAdmitted, HasClosed, HasStayed, IsNew, told_act}
use Rattle.cops_script.specs.Answers.{Answer, ToHost, ToTenant}
use Rattle.cops_script.specs.Doing.{IsDone, IsHosted}
use Rattle.cops_script.specs.Said.{Admits, Closes, Refuses, Said, OfHost, Acts, tenants_after}
use Rattle.cops_script.proofs.BegunSetups.{config_begun, within_open}
use Rattle.cops_script.proofs.MainLemmas.{causal_run}
use Rattle.cops_script.proofs.OpenSets.{may_be_given, open_set_other, open_set_same}
use Rattle.cops_script.proofs.RunLaws.{taken_whole}
use Rattle.cops_script.proofs.ToldActs.{as_told_act, as_turn}
use Rattle.cops_script.proofs.Turning.{goes_push}
use Rattle.cops_world.specs.declared.host_runs.Doing.{Doing}
use Rattle.cops_world.specs.declared.host_runs.Doing.TheVariants.{Own, Admit, Close}
use Rattle.cops_world.specs.declared.host_runs.HostEvent.{HostEvent}
use Rattle.cops_world.specs.declared.host_runs.LifeReply.{LifeReply}
use Rattle.cops_world.specs.declared.host_runs.LifeReply.TheVariants as reply
use Rattle.cops_world.specs.HostRuns.{acts_at, admits_unless, answer_at, closes_at, reply_of, said_of}
use Rattle.cops_world.specs.Worlds.{HasOpenCluster, KeptWorld, open_setup}
use Rattle.cops_world.specs.SlotLives.{AllPaired, Life, AreLivedAlone, IsLivedAlone, acts_to_close, acts_with, events_heard, given_by, lacks_memory, life_of, lives_at, lives_from, replies_heard, told_lives_from, told_to_close, told_with}

by_test : {C : Type 0} (b : Bool) → (b ≡ true → C) → (b ≡ false → C) → C
by_test {C} true holds fails = holds refl
by_test {C} false holds fails = fails refl

first_of : (a b : Bool) → (a || b) ≡ false → a ≡ false
first_of true b e = e
first_of false b e = refl

later_of : (a b : Bool) → (a || b) ≡ false → b ≡ false
later_of true b e = absurd (true≢false e)
later_of false b e = e

same_slot : (a b : ℕ) → (a == b) ≡ true → a ≡ b
same_slot a b is = (Decides-eqb a b).0 is

apart_slots : (a b : ℕ) → (a == b) ≡ false → a ≢ b
apart_slots a b differs same = true≢false (sym ((Decides-eqb a b).1 same) ∙ differs)

pub unlike_slots : (a b : ℕ) → a ≢ b → (a == b) ≡ false
unlike_slots a b apart = by_test (a == b) (λ is. absurd (apart (same_slot a b is))) (λ differs. differs)

pub drop_whole : {A : Type 0} (n : ℕ) (xs : List A) → length xs ≤ n → drop n xs ≡ []
drop_whole zero [] long = refl
drop_whole zero (x ∷ xs) long = absurd (omega (arith, long))
drop_whole (suc n) [] long = refl
drop_whole (suc n) (x ∷ xs) long = drop_whole n xs (omega (arith, long))

pub rest_whole : {A : Type 0} (xs : List A) (n : ℕ) → take (length xs - n) (drop n xs) ≡ drop n xs
rest_whole xs n = let size = length-drop n xs in taken_whole (length xs - n) (drop n xs) (omega (arith, size))

-- the reply behind an answer
told_back : (slot : ℕ) (told : LifeReply) (answer : Answer) → answer_at slot told ≡ answer → told ≡ reply_of answer
told_back slot (reply.ToHost told) answer e = ap reply_of e
told_back slot (reply.ToTenant told) answer e = ap reply_of e

-- ---- one event at a slot

-- acts of the slot and replies to them, with one event before the others
module _ (slot : ℕ) (event : HostEvent) (events : List HostEvent) where
  pub acts_here : (event.slot == slot) ≡ true → acts_to_close slot (event ∷ events) ≡ acts_with event.doing (acts_to_close slot events)
  acts_here is = ap (λ b. cond b (acts_with event.doing (acts_to_close slot events)) (acts_to_close slot events)) is

  pub acts_elsewhere : (event.slot == slot) ≡ false → acts_to_close slot (event ∷ events) ≡ acts_to_close slot events
  acts_elsewhere differs = ap (λ b. cond b (acts_with event.doing (acts_to_close slot events)) (acts_to_close slot events)) differs

  module _ (one : LifeReply) (replies : List LifeReply) where
    told_here : (event.slot == slot) ≡ true → told_to_close slot (event ∷ events) (one ∷ replies) ≡ told_with event.doing one (told_to_close slot events replies)
    told_here is = ap (λ b. cond b (told_with event.doing one (told_to_close slot events replies)) (told_to_close slot events replies)) is

    told_elsewhere : (event.slot == slot) ≡ false → told_to_close slot (event ∷ events) (one ∷ replies) ≡ told_to_close slot events replies
    told_elsewhere differs = ap (λ b. cond b (told_with event.doing one (told_to_close slot events replies)) (told_to_close slot events replies)) differs

-- ---- in a world of all tenants

module _ {W : Type 0} (setup : W → Setup) (StandsFor : W → ℕ → SoloCluster → Type 0) where
  -- the tenant of the slot, with these tenants open, has such replies to the next close, and so has each that gets the slot later
  pub record IsLivedOn (world : W) (s : Setup) (slot : ℕ) (events : List HostEvent) (replies : List LifeReply) : Type 0 where
    pub now : (tenant : Tenant) → open_at slot s.tenants ≡ Some tenant → (cluster : SoloCluster) → StandsFor world slot cluster →
        (left : SoloCluster) × Goes (config_in s slot) (acts_to_close slot events) (told_to_close slot events replies) cluster left
    pub later : AllPaired (IsLivedAlone s.head) (lives_from slot s.tenants events) (told_lives_from slot s.tenants events replies)

  -- of the events that are heard, if there is a shard and a slot for each tenant
  abbrev pub LivesOn : W → List HostEvent → List LifeReply → Type 0
  LivesOn world events replies = 0 < (setup world).head.shards → most_tenants ≤ length (setup world).tenants → (slot : ℕ) → IsLivedOn world (setup world) slot (events_heard events replies) (replies_heard replies)

  pub lives_to_end : (world : W) → LivesOn world [] []
  lives_to_end world some enough slot = record { now = λ tenant there cluster stood. (cluster, refl); later = tt }

  -- ---- one slot, with one event before the others

  module _ (old new : W) (event : HostEvent) (one : LifeReply) (events : List HostEvent) (replies : List LifeReply) (slot : ℕ) where
    abbrev Before : Type 0
    Before = IsLivedOn old (setup old) slot (event ∷ events) (one ∷ replies)

    abbrev Mine : SoloCluster → Type 0
    Mine cluster = (left : SoloCluster) × Goes (config_in (setup old) slot) (acts_to_close slot (event ∷ events)) (told_to_close slot (event ∷ events) (one ∷ replies)) cluster left

    abbrev Now : Type 0
    Now = (tenant : Tenant) → open_at slot (setup old).tenants ≡ Some tenant → (cluster : SoloCluster) → StandsFor old slot cluster → Mine cluster

    -- the slot has the cluster that it had
    abbrev Kept : Type 0
    Kept = (cluster : SoloCluster) → StandsFor old slot cluster → StandsFor new slot cluster

    mine : (cluster : SoloCluster) (acts : List Act) (told : List Reply) → acts_to_close slot (event ∷ events) ≡ acts → told_to_close slot (event ∷ events) (one ∷ replies) ≡ told →
        (left : SoloCluster) × Goes (config_in (setup old) slot) acts told cluster left → Mine cluster
    mine cluster acts told acts_are told_are goes =
        subst (λ these. (left : SoloCluster) × Goes (config_in (setup old) slot) these (told_to_close slot (event ∷ events) (one ∷ replies)) cluster left) (sym acts_are)
        (subst (λ ts. (left : SoloCluster) × Goes (config_in (setup old) slot) acts ts cluster left) (sym told_are) goes)

    -- the event acts on no tenant of the slot
    now_skips : acts_to_close slot (event ∷ events) ≡ acts_to_close slot events → told_to_close slot (event ∷ events) (one ∷ replies) ≡ told_to_close slot events replies → Kept → (s : Setup) → config_in s slot ≡ config_in (setup old) slot →
        open_at slot s.tenants ≡ open_at slot (setup old).tenants → IsLivedOn new s slot events replies → Now
    now_skips acts_are told_are kept s config there p tenant here cluster stood =
        mine cluster (acts_to_close slot events) (told_to_close slot events replies) acts_are told_are
        (subst (λ (c : TenantConfig). (left : SoloCluster) × Goes c (acts_to_close slot events) (told_to_close slot events replies) cluster left) config (p.now tenant (there ∙ here) cluster (kept cluster stood)))

    now_elsewhere : (event.slot == slot) ≡ false → Kept → (s : Setup) → s.head ≡ (setup old).head → open_at slot s.tenants ≡ open_at slot (setup old).tenants → IsLivedOn new s slot events replies → Now
    now_elsewhere differs kept s head there p =
        now_skips (acts_elsewhere slot event events differs) (told_elsewhere slot event events one replies differs) kept s (λ i. config_of (head i) (there i)) there p

    -- the lives that begin in the events if the first says this
    abbrev Later : Said → Type 0
    Later said = AllPaired (IsLivedAlone (setup old).head) (option_to_list (option_map (life_of slot events) (given_by slot said)) ++ lives_from slot (tenants_after (setup old).tenants said) events)
        (option_to_list (option_map (λ tenant. told_to_close slot events replies) (given_by slot said)) ++ told_lives_from slot (tenants_after (setup old).tenants said) events replies)

    lived : (said : Said) → said_of (setup old).tenants event ≡ said → Now → Later said → Before
    lived said is now later = record { now = now; later = subst Later (sym is) later }

    -- ---- who acts

    -- the tenant of the slot of the event acted
    lives_act : (act : Act) (answered : Result Reply AllocError) → event.doing ≡ Own act → one ≡ reply.ToTenant (told_act answered) → said_of (setup old).tenants event ≡ Acts (record { slot = event.slot; act = act }) →
        HasActed setup StandsFor old (record { slot = event.slot; act = act }) answered new → IsLivedOn new (setup new) slot events replies → Before
    lives_act act answered doing told said acted rest =
        let p = subst (λ (s : Setup). IsLivedOn new s slot events replies) acted.same rest in
        let turned = as_told_act setup StandsFor old (record { slot = event.slot; act = act }) answered new acted in
        lived (Acts (record { slot = event.slot; act = act })) said
        (by_test (event.slot == slot)
        (λ is tenant there cluster stood.
        let same = same_slot event.slot slot is in
        let turn : (after : SoloCluster) × Turns (config_in (setup old) slot) act cluster (told_act answered) after × StandsFor new slot after =
        subst (λ n. (after : SoloCluster) × Turns (config_in (setup old) n) act cluster (told_act answered) after × StandsFor new n after) same
        (as_turn setup StandsFor old (record { slot = event.slot; act = act }) (told_act answered) new turned cluster (subst (λ n. StandsFor old n cluster) (sym same) stood)) in
        let more = p.now tenant there turn.0 turn.2 in
        mine cluster (act ∷ acts_to_close slot events) (told_act answered ∷ told_to_close slot events replies)
        (acts_here slot event events is ∙ ap (λ d. acts_with d (acts_to_close slot events)) doing)
        (told_here slot event events one replies is ∙ (λ i. told_with (doing i) (told i) (told_to_close slot events replies)))
        (more.0, (turn.0, turn.1, more.1)))
        (λ differs. now_elsewhere differs (turned.others slot (apart_slots event.slot slot differs)) (setup old) refl refl p))
        p.later

    -- nothing was done
    lives_stay : (fault : Fault) → said_of (setup old).tenants event ≡ OfHost (Refuses fault) → HasStayed setup StandsFor old new → ((event.slot == slot) ≡ true → IsLivedOn new (setup old) slot events replies → Now) → IsLivedOn new (setup new) slot events replies → Before
    lives_stay fault said stayed here rest =
        let p = subst (λ (s : Setup). IsLivedOn new s slot events replies) stayed.same rest in
        lived (OfHost (Refuses fault)) said (by_test (event.slot == slot) (λ is. here is p) (λ differs. now_elsewhere differs (stayed.clusters slot) (setup old) refl refl p)) p.later

    -- a tenant was admitted to the slot of the event
    lives_admitted : (tenant : Tenant) → said_of (setup old).tenants event ≡ OfHost (Admits event.slot tenant) → 0 < (setup old).head.shards → event.slot < length (setup old).tenants → open_at event.slot (setup old).tenants ≡ None →
        HasAdmitted setup StandsFor event.slot tenant old new → IsLivedOn new (setup new) slot events replies → Before
    lives_admitted tenant said some within vacant admitted rest =
        let given = with_slot event.slot (Some tenant) (setup old) in
        let p = subst (λ (s : Setup). IsLivedOn new s slot events replies) admitted.setup_is rest in
        by_test (event.slot == slot)
        (λ is.
        let same = same_slot event.slot slot is in
        let there : open_at slot given.tenants ≡ Some tenant = ap (λ n. open_at n given.tenants) (sym same) ∙ open_set_same (setup old).tenants event.slot (Some tenant) within in
        let head = (setup old).head in
        let config = tenant_config head tenant in
        let run = p.now tenant there (new_cluster config) (subst (λ n. StandsFor new n (new_cluster config)) same admitted.begins) in
        let goes = subst (λ (c : TenantConfig). Goes c (acts_to_close slot events) (told_to_close slot events replies) (new_cluster config) run.0) (ap (config_of head) there) run.1 in
        lived (OfHost (Admits event.slot tenant)) said
        (λ other here cluster stood. absurd (clash (sym vacant ∙ ap (λ n. open_at n (setup old).tenants) same ∙ here)))
        (rw is (causal_run config (acts_to_close slot events) (told_to_close slot events replies) run.0 some goes, p.later)))
        (λ differs.
        let apart = apart_slots event.slot slot differs in
        lived (OfHost (Admits event.slot tenant)) said
        (now_elsewhere differs (admitted.others slot apart) given refl (open_set_other (setup old).tenants event.slot slot (Some tenant) (λ e. apart (sym e))) p)
        (rw differs p.later))
      where
        clash : {t : Tenant} → None ≡ Some t → ⊥
        clash e = cc

    -- the slot of the event was closed
    lives_closed : (name : List ℕ) → event.doing ≡ Close → said_of (setup old).tenants event ≡ OfHost (Closes event.slot name) → HasClosed setup StandsFor event.slot old new → IsLivedOn new (setup new) slot events replies → Before
    lives_closed name doing said closed rest =
        let left = with_slot event.slot None (setup old) in
        let p = subst (λ (s : Setup). IsLivedOn new s slot events replies) closed.setup_is rest in
        lived (OfHost (Closes event.slot name)) said
        (by_test (event.slot == slot)
        (λ is tenant there cluster stood. mine cluster [] []
        (acts_here slot event events is ∙ ap (λ d. acts_with d (acts_to_close slot events)) doing)
        (told_here slot event events one replies is ∙ ap (λ d. told_with d one (told_to_close slot events replies)) doing) (cluster, refl))
        (λ differs.
        let apart = apart_slots event.slot slot differs in
        now_elsewhere differs (closed.others slot apart) left refl (open_set_other (setup old).tenants event.slot slot None (λ e. apart (sym e))) p))
        p.later

  -- ---- any event

  -- an admission for which memory ran out is not heard
  stays_on : (old new : W) (slot : ℕ) (events : List HostEvent) (replies : List LifeReply) → HasStayed setup StandsFor old new → IsLivedOn new (setup new) slot events replies → IsLivedOn old (setup old) slot events replies
  stays_on old new slot events replies stayed rest =
      let p = subst (λ (s : Setup). IsLivedOn new s slot events replies) stayed.same rest in
      record { now = λ tenant there cluster stood. p.now tenant there cluster (stayed.clusters slot cluster stood); later = p.later }

  module _ (old new : W) (slot : ℕ) (more : List HostEvent) (others : List LifeReply) (rest : LivesOn new more others) where
    abbrev at_slot : Doing → HostEvent
    at_slot doing = record { slot = slot; doing = doing }

    abbrev Was : Doing → LifeReply → Type 0
    Was doing told = LivesOn old (at_slot doing ∷ more) (told ∷ others)

    abbrev these : List HostEvent
    these = events_heard more others

    abbrev told_then : List LifeReply
    told_then = replies_heard others

    -- what holds after it, if the head is the same and there are as many slots
    next : (s : Setup) → setup new ≡ s → 0 < s.head.shards → most_tenants ≤ length s.tenants → (other : ℕ) → IsLivedOn new (setup new) other these told_then
    next s is some enough = rest (subst (λ (s : Setup). 0 < s.head.shards) (sym is) some) (subst (λ (s : Setup). most_tenants ≤ length s.tenants) (sym is) enough)

    -- the host is refused
    refused : (doing : Doing) (fault : Fault) (told : LifeReply) → said_of (setup old).tenants (at_slot doing) ≡ OfHost (Refuses fault) → answer_at slot told ≡ ToHost (Denied fault) → HasStayed setup StandsFor old new →
        ((other : ℕ) → (slot == other) ≡ true → IsLivedOn new (setup old) other these told_then → Now old new (at_slot doing) (reply.ToHost (Denied fault)) these told_then other) → Was doing told
    refused doing fault told said is stayed here = subst (Was doing) (sym (told_back slot told (ToHost (Denied fault)) is)) (λ some enough other.
        let after = next (setup old) stayed.same some enough other in
        by_test (is_out_of_memory (Refused fault))
        (λ lack. rw lack (stays_on old new other these told_then stayed after))
        (λ spared. rw spared (lives_stay old new (at_slot doing) (reply.ToHost (Denied fault)) these told_then other fault said stayed (here other) after)))

    clash : {t : Tenant} → None ≡ Some t → ⊥
    clash e = cc

    -- at a slot without a tenant
    nobody : (doing : Doing) (one : LifeReply) → open_at slot (setup old).tenants ≡ None → (other : ℕ) → (slot == other) ≡ true → Now old new (at_slot doing) one these told_then other
    nobody doing one vacant other here tenant there cluster stood = absurd (clash (sym vacant ∙ ap (λ n. open_at n (setup old).tenants) (same_slot slot other here) ∙ there))

    own_one : (act : Act) (told : LifeReply) (found : Option Tenant) → open_at slot (setup old).tenants ≡ found → IsDone setup StandsFor old (acts_at slot act found) (answer_at slot told) new → Was (Own act) told
    own_one act told None e (is, stayed) =
        refused (Own act) UnknownTenant told (ap (acts_at slot act) e) is stayed (λ other here p. nobody (Own act) (reply.ToHost (Denied UnknownTenant)) e other here)
    own_one act told (Some tenant) e (answered, is, acted) = subst (Was (Own act)) (sym (told_back slot told (ToTenant slot (told_act answered)) is)) (λ some enough other.
        lives_act old new (at_slot (Own act)) (reply.ToTenant (told_act answered)) these told_then other act answered refl refl (ap (acts_at slot act) e) acted (next (setup old) acted.same some enough other))

    admit_one : (tenant : Tenant) (told : LifeReply) (refusal : Option Fault) → admission_refusal (setup old).tenants slot tenant ≡ refusal → IsHosted setup StandsFor old (admits_unless slot tenant refusal) (answer_at slot told) new → Was (Admit tenant) told
    admit_one tenant told None e (inl (is, admitted)) = subst (Was (Admit tenant)) (sym (told_back slot told (ToHost (Admitted tenant.name)) is)) (λ some enough other.
        let may = may_be_given (setup old).tenants slot tenant e in
        let low = may.low in
        let after = next (with_slot slot (Some tenant) (setup old)) admitted.setup_is some (subst (λ n. most_tenants ≤ n) (sym (length-set (setup old).tenants slot (Some tenant))) enough) other in
        lives_admitted old new (at_slot (Admit tenant)) (reply.ToHost (Admitted tenant.name)) these told_then other tenant (ap (λ o. OfHost (admits_unless slot tenant o)) e) some (omega (arith, low, enough)) may.vacant admitted after)
    admit_one tenant told None e (inr (is, stayed)) = subst (Was (Admit tenant)) (sym (told_back slot told (ToHost (Denied OutOfMemory)) is)) (λ some enough other.
        stays_on old new other these told_then stayed (next (setup old) stayed.same some enough other))
    admit_one tenant told (Some fault) e (is, stayed) =
        let event = at_slot (Admit tenant) in
        let one = reply.ToHost (Denied fault) in
        refused (Admit tenant) fault told (ap (λ o. OfHost (admits_unless slot tenant o)) e) is stayed
        (λ other here p. now_skips old new event one these told_then other (acts_here other event these here) (told_here other event these one told_then here) (stayed.clusters other) (setup old) refl refl p)

    close_one : (told : LifeReply) (found : Option Tenant) → open_at slot (setup old).tenants ≡ found → IsHosted setup StandsFor old (closes_at slot found) (answer_at slot told) new → Was Close told
    close_one told None e (is, stayed) =
        refused Close UnknownTenant told (ap (λ o. OfHost (closes_at slot o)) e) is stayed (λ other here p. nobody Close (reply.ToHost (Denied UnknownTenant)) e other here)
    close_one told (Some tenant) e (is, closed) = subst (Was Close) (sym (told_back slot told (ToHost (Closed tenant.name)) is)) (λ some enough other.
        let after = next (with_slot slot None (setup old)) closed.setup_is some (subst (λ n. most_tenants ≤ n) (sym (length-set (setup old).tenants slot None)) enough) other in
        lives_closed old new (at_slot Close) (reply.ToHost (Closed tenant.name)) these told_then other tenant.name refl (ap (λ o. OfHost (closes_at slot o)) e) closed after)

  pub lives_one : (old new : W) (event : HostEvent) (told : LifeReply) (more : List HostEvent) (others : List LifeReply) → IsDone setup StandsFor old (said_of (setup old).tenants event) (answer_at event.slot told) new → LivesOn new more others →
      LivesOn old (event ∷ more) (told ∷ others)
  lives_one old new event told more others done rest = by event.slot event.doing done
    where
      by : (slot : ℕ) (doing : Doing) → IsDone setup StandsFor old (said_of (setup old).tenants (record { slot = slot; doing = doing })) (answer_at slot told) new → LivesOn old (record { slot = slot; doing = doing } ∷ more) (told ∷ others)
      by slot (Own act) h = own_one old new slot more others rest act told (open_at slot (setup old).tenants) refl h
      by slot (Admit tenant) h = admit_one old new slot more others rest tenant told (admission_refusal (setup old).tenants slot tenant) refl h
      by slot Close h = close_one old new slot more others rest told (open_at slot (setup old).tenants) refl h

  -- ---- from the head

  pub lives_alone : (config : Config) (start : W) (events : List HostEvent) (replies : List LifeReply) → 0 < config.shards → IsNew setup StandsFor config start → LivesOn start events replies → AreLivedAlone config events replies
  lives_alone config start events replies some fresh on = λ slot.
      let heard = events_heard events replies in
      let told = replies_heard replies in
      let begun = new_setup config in
      let after = on (subst (λ (s : Setup). 0 < s.head.shards) (sym fresh.setup_is) some) (subst (λ (s : Setup). most_tenants ≤ length s.tenants) (sym fresh.setup_is) (enough_begun config.tenants)) slot in
      let p = subst (λ (s : Setup). IsLivedOn start s slot heard told) fresh.setup_is after in
      of_head slot heard told p (open_at slot (begun_with config.tenants)) refl
    where
      enough_begun : (tenants : List Tenant) → most_tenants ≤ length (begun_with tenants)
      enough_begun tenants =
          let free = most_tenants - length tenants in
          let vacant : Option Tenant = None in
          let all = length-append (map Some tenants) (replicate free vacant) in
          let mapped = length-map {A = Tenant} {B = Option Tenant} tenants Some in
          let others = length-replicate {A = Option Tenant} free vacant in omega (arith, all, mapped, others)

      of_head : (slot : ℕ) (heard : List HostEvent) (told : List LifeReply) → IsLivedOn start (new_setup config) slot heard told → (found : Option Tenant) → open_at slot (begun_with config.tenants) ≡ found →
          AllPaired (IsLivedAlone config) (option_to_list (option_map (life_of slot heard) found) ++ lives_from slot (begun_with config.tenants) heard)
          (option_to_list (option_map (λ tenant. told_to_close slot heard told) found) ++ told_lives_from slot (begun_with config.tenants) heard told)
      of_head slot heard told p None e = p.later
      of_head slot heard told p (Some tenant) e =
          let own = tenant_config config tenant in
          let same : config_in (new_setup config) slot ≡ own = ap (config_of config) e in
          let at : config_at config slot ≡ own = sym (config_begun config slot) ∙ same in
          let stood = subst (λ (c : TenantConfig). StandsFor start slot (new_cluster c)) at (fresh.empty slot (within_open config slot (ap is_some e))) in
          let run = p.now tenant e (new_cluster own) stood in
          let goes = subst (λ (c : TenantConfig). Goes c (acts_to_close slot heard) (told_to_close slot heard told) (new_cluster own) run.0) same run.1 in
          (causal_run own (acts_to_close slot heard) (told_to_close slot heard told) run.0 some goes, p.later)

-- ---- in a world of its own

-- the tenant has acted in its world up to here, and what it does from here on is left
pub record IsLiving (config : TenantConfig) (slot : ℕ) (events : List HostEvent) (world : KeptWorld) (rest : List HostEvent) (told : List Reply) : Type 0 where
  pub same : config_in world.setup 0 ≡ config
  pub past : List Act
  pub left : SoloCluster
  pub goes : Goes config past told (new_cluster config) left
  pub stands : HasOpenCluster world 0 left
  pub splits : acts_to_close slot events ≡ past ++ acts_to_close slot rest

module _ (config : Config) (slot : ℕ) (tenant : Tenant) (events : List HostEvent) where
  abbrev own : TenantConfig
  own = tenant_config config tenant

  pub living_begins : (world : KeptWorld) → IsNew open_setup HasOpenCluster (with_tenant_alone config tenant) world → IsLiving own slot events world events []
  living_begins world new = record {
    same = ap (λ (s : Setup). config_in s 0) new.setup_is;
    past = [];
    left = new_cluster own;
    goes = refl;
    stands = new.empty 0 (omega arith);
    splits = refl;
  }

  -- it acts
  pub living_acts : (world next : KeptWorld) (event : HostEvent) (act : Act) (answered : Result Reply AllocError) (later : List HostEvent) (told : List Reply) → event.slot ≡ slot → event.doing ≡ Own act →
      HasActed open_setup HasOpenCluster world (record { slot = 0; act = act }) answered next → IsLiving own slot events world (event ∷ later) told → IsLiving own slot events next later (told ++ told_act answered ∷ [])
  living_acts world next event act answered later told here doing acted p =
      let alone : Event = record { slot = 0; act = act } in
      let reply = told_act answered in
      let turned = as_told_act open_setup HasOpenCluster world alone answered next acted in
      let turn = subst (λ (c : TenantConfig). (after : SoloCluster) × Turns c act p.left reply after × HasOpenCluster next 0 after) p.same (as_turn open_setup HasOpenCluster world alone reply next turned p.left p.stands) in
      record {
        same = ap (λ (s : Setup). config_in s 0) acted.same ∙ p.same;
        past = p.past ++ act ∷ [];
        left = turn.0;
        goes = goes_push own p.past told act reply (new_cluster own) p.left turn.0 p.goes turn.1;
        stands = turn.2;
        splits = p.splits ∙ ap (λ these. p.past ++ these) (acts_here slot event later ((Decides-eqb event.slot slot).1 here) ∙ ap (λ d. acts_with d (acts_to_close slot later)) doing) ∙ sym (append_assoc p.past (act ∷ []) (acts_to_close slot later));
      }

  -- another slot's event, or an admission that is refused
  pub living_skips : (world : KeptWorld) (event : HostEvent) (later : List HostEvent) (told : List Reply) → acts_to_close slot (event ∷ later) ≡ acts_to_close slot later → IsLiving own slot events world (event ∷ later) told → IsLiving own slot events world later told
  living_skips world event later told skips p = record { same = p.same; past = p.past; left = p.left; goes = p.goes; stands = p.stands; splits = p.splits ∙ ap (λ these. p.past ++ these) skips }

  -- it has no further acts
  pub living_ends : (world : KeptWorld) (rest : List HostEvent) (told : List Reply) → 0 < config.shards → acts_to_close slot rest ≡ [] → IsLiving own slot events world rest told → IsLivedAlone config (life_of slot events tenant) told
  living_ends world rest told some ends p =
      let all : acts_to_close slot events ≡ p.past = p.splits ∙ ap (λ these. p.past ++ these) ends ∙ append-nil p.past in
      subst (λ these. IsCausalRun own these told) (sym all) (causal_run own p.past told p.left some p.goes)

-- ---- one life after another

-- these lives were found, and those that begin in the rest are left
pub record AreLivesSoFar (config : Config) (slot : ℕ) (events : List HostEvent) (tenants : List (Option Tenant)) (rest : List HostEvent) (found : List Tenant) (told : List (List Reply)) : Type 0 where
  pub past : List Life
  pub tenants_are : found ≡ map (λ (life : Life). life.tenant) past
  pub alone : AllPaired (IsLivedAlone config) past told
  pub splits : lives_at config slot events ≡ past ++ lives_from slot tenants rest

paired_more : {A B : Type 0} (Is : A → B → Type 0) (xs : List A) (ys : List B) (x : A) (y : B) → AllPaired Is xs ys → Is x y → AllPaired Is (xs ++ x ∷ []) (ys ++ y ∷ [])
paired_more Is [] [] x y all one = (one, tt)
paired_more Is [] (b ∷ ys) x y all one = absurd all
paired_more Is (a ∷ xs) [] x y all one = absurd all
paired_more Is (a ∷ xs) (b ∷ ys) x y all one = (all.0, paired_more Is xs ys x y all.1 one)

module _ (config : Config) (slot : ℕ) (events : List HostEvent) where
  -- the life of the head's tenant, if it has one at the slot
  pub lives_begin : open_at slot (begun_with config.tenants) ≡ None → AreLivesSoFar config slot events (begun_with config.tenants) events [] []
  lives_begin vacant = record {
    past = [];
    tenants_are = refl;
    alone = tt;
    splits = ap (λ o. option_to_list (option_map (life_of slot events) o) ++ lives_from slot (begun_with config.tenants) events) vacant;
  }

  pub lives_begin_with : (tenant : Tenant) (told : List Reply) → open_at slot (begun_with config.tenants) ≡ Some tenant → IsLivedAlone config (life_of slot events tenant) told →
      AreLivesSoFar config slot events (begun_with config.tenants) events (tenant ∷ []) (told ∷ [])
  lives_begin_with tenant told there alone = record {
    past = life_of slot events tenant ∷ [];
    tenants_are = refl;
    alone = (alone, tt);
    splits = ap (λ o. option_to_list (option_map (life_of slot events) o) ++ lives_from slot (begun_with config.tenants) events) there;
  }

  module _ (tenants next : List (Option Tenant)) (event : HostEvent) (later : List HostEvent) (found : List Tenant) (told : List (List Reply)) (after : next ≡ tenants_after tenants (said_of tenants event))
      (p : AreLivesSoFar config slot events tenants (event ∷ later) found told) where
    from_next : (given : Option Tenant) → given_by slot (said_of tenants event) ≡ given → lives_from slot tenants (event ∷ later) ≡ option_to_list (option_map (life_of slot later) given) ++ lives_from slot next later
    from_next given is = (λ i. option_to_list (option_map (life_of slot later) (is i)) ++ lives_from slot (sym after i) later)

    -- no life begins with the event
    pub lives_go_on : given_by slot (said_of tenants event) ≡ None → AreLivesSoFar config slot events next later found told
    lives_go_on is = record { past = p.past; tenants_are = p.tenants_are; alone = p.alone; splits = p.splits ∙ ap (λ ls. p.past ++ ls) (from_next None is) }

    -- one begins
    pub lives_grow : (tenant : Tenant) (one : List Reply) → given_by slot (said_of tenants event) ≡ Some tenant → IsLivedAlone config (life_of slot later tenant) one → AreLivesSoFar config slot events next later (found ++ tenant ∷ []) (told ++ one ∷ [])
    lives_grow tenant one is alone =
        let life = life_of slot later tenant in
        record {
          past = p.past ++ life ∷ [];
          tenants_are = ap (λ ts. ts ++ tenant ∷ []) p.tenants_are ∙ sym (map-append (λ (l : Life). l.tenant) p.past (life ∷ []));
          alone = paired_more (IsLivedAlone config) p.past told life one p.alone alone;
          splits = p.splits ∙ ap (λ ls. p.past ++ ls) (from_next (Some tenant) is) ∙ sym (append_assoc p.past (life ∷ []) (lives_from slot next later));
        }

-- ---- both

spared_turn : (config : TenantConfig) (act : Act) (before : SoloCluster) (one : Reply) (after : SoloCluster) → is_out_of_memory one ≡ false → Turns config act before one after →
    (one ≡ (cluster_step config act before).reply) × (after ≡ (cluster_step config act before).after)
spared_turn config act before one after spared (inl same) = same
spared_turn config act before one after spared (inr (lack, left)) = absurd (true≢false (sym (ap is_out_of_memory lack) ∙ spared))

same_runs : (config : TenantConfig) (acts : List Act) (told alone : List Reply) (begin end other_end : SoloCluster) → Goes config acts told begin end → Goes config acts alone begin other_end → IsSpared told → IsSpared alone → told ≡ alone
same_runs config [] [] [] begin end other_end goes also spared also_spared = refl
same_runs config [] [] (b ∷ alone) begin end other_end goes also spared also_spared = absurd also
same_runs config [] (a ∷ told) alone begin end other_end goes also spared also_spared = absurd goes
same_runs config (act ∷ acts) [] alone begin end other_end goes also spared also_spared = absurd goes
same_runs config (act ∷ acts) (a ∷ told) [] begin end other_end goes also spared also_spared = absurd also
same_runs config (act ∷ acts) (a ∷ told) (b ∷ alone) begin end other_end (mid, turn, goes) (other_mid, other_turn, also) spared also_spared =
    let one = spared_turn config act begin a mid (first_of (is_out_of_memory a) (list_any is_out_of_memory told) spared) turn in
    let other = spared_turn config act begin b other_mid (first_of (is_out_of_memory b) (list_any is_out_of_memory alone) also_spared) other_turn in
    let after = (cluster_step config act begin).after in
    let rest = same_runs config acts told alone after end other_end (subst (λ c. Goes config acts told c end) one.1 goes) (subst (λ c. Goes config acts alone c other_end) other.1 also)
    (later_of (is_out_of_memory a) (list_any is_out_of_memory told) spared) (later_of (is_out_of_memory b) (list_any is_out_of_memory alone) also_spared) in
    let first : a ≡ b = one.0 ∙ sym other.0 in
    λ i. first i ∷ rest i

-- runs of the same lives agree if memory didn't run out
pub lived_the_same : (config : Config) (lives : List Life) (told alone : List (List Reply)) → AllPaired (IsLivedAlone config) lives told → AllPaired (IsLivedAlone config) lives alone → AllPaired (λ one other. IsSpared one → IsSpared other → one ≡ other) told alone
lived_the_same config [] [] [] one other = tt
lived_the_same config [] [] (b ∷ alone) one other = absurd other
lived_the_same config [] (a ∷ told) alone one other = absurd one
lived_the_same config (life ∷ lives) [] alone one other = absurd one
lived_the_same config (life ∷ lives) (a ∷ told) [] one other = absurd other
lived_the_same config (life ∷ lives) (a ∷ told) (b ∷ alone) one other =
    let config' = tenant_config config life.tenant in (
      λ spared also_spared. same_runs config' life.acts a b (new_cluster config') one.0.left other.0.left one.0.goes other.0.goes spared also_spared,
      lived_the_same config lives told alone one.1 other.1,
    )

-- all events are heard if no admission ran out of memory
pub all_are_heard : (events : List HostEvent) (replies : List LifeReply) → length replies ≡ length events → list_any lacks_memory replies ≡ false → (events_heard events replies ≡ events) × (replies_heard replies ≡ replies)
all_are_heard [] [] long none = (refl, refl)
all_are_heard [] (one ∷ replies) long none = absurd (omega (arith, long))
all_are_heard (event ∷ events) [] long none = absurd (omega (arith, long))
all_are_heard (event ∷ events) (one ∷ replies) long none =
    let first = first_of (lacks_memory one) (list_any lacks_memory replies) none in
    let rest = all_are_heard events replies (omega (arith, long)) (later_of (lacks_memory one) (list_any lacks_memory replies) none) in
    rw first ((λ i. event ∷ rest.0 i), (λ i. one ∷ rest.1 i))
