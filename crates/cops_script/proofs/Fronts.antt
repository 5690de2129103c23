-- A tenant's replies before memory runs out are those that it gets alone. Tenants differ in their numbers.
use Rattle.std.proofs.Common.{◌≡◌, ℕ, Bool, true, false, cond, ◌==◌, List, [], ◌∷◌, map, refl, sym, ap, ◌∙◌, true≢false, subst}
use Rattle.std.proofs.lemmas.Bool.Decides.{Decides-eqb}
use Rattle.cops_types.specs.declared.configs.Config.{Config}
use Rattle.cops_types.specs.declared.faults.Fault.TheVariants.{Syntax}
use Rattle.cops_types.specs.TenantConfig.{TenantConfig, tenant_config}
use Rattle.cops_model.specs.declared.acts.Event.{Event}
use Rattle.cops_model.specs.declared.replies.HostReply.{HostReply}
use Rattle.cops_model.specs.declared.replies.Reply.{Reply}
use Rattle.cops_model.specs.declared.replies.Reply.TheVariants.{Refused}
use Rattle.cops_model.specs.Cluster.{SoloCluster, cluster_step}
use Rattle.cops_model.specs.declared.acts.Act.{Act}
use Rattle.cops_model.specs.Events.{IsFrontOf, before_lack, config_at, is_out_of_memory, own, replies, with_cluster}
use Rattle.cops_model.specs.Goes.{Goes, Turns}
use Rattle.cops_script.specs.Said.{HostDeed, Said, OfHost, Unformed, Acts}
use Rattle.cops_script.specs.Answers.{Answer, ToHost, ToTenant}
use Rattle.cops_script.specs.Script.{answers_of, events_in}
use Rattle.cops_script.specs.ScriptRuns.{AreAnswersTo, act_replies, replies_to}
use Rattle.cops_causal.proofs.Runs.{exactly}
use Rattle.cops_script.proofs.AnswersTo.{answers_of-from, new_at}
use Rattle.cops_script.proofs.Sequence.{AreThere, answers_from}

by_test : {C : Type 0} (b : Bool) → (b ≡ true → C) → (b ≡ false → C) → C
by_test {C} true holds fails = holds refl
by_test {C} false holds fails = fails refl

-- ---- the replies to one tenant, along the lines

-- the replies to the tenant of a slot, if its cluster is kept
abbrev pub replies_along : TenantConfig → ℕ → List Said → SoloCluster → List Reply
replies_along config slot [] cluster = []
replies_along config slot (OfHost deed ∷ said) cluster = replies_along config slot said cluster
replies_along config slot (Unformed other ∷ said) cluster = cond (other == slot) (Refused Syntax ∷ replies_along config slot said cluster) (replies_along config slot said cluster)
replies_along config slot (Acts event ∷ said) cluster =
    cond (event.slot == slot)
    ((cluster_step config event.act cluster).reply ∷ replies_along config slot said (cluster_step config event.act cluster).after)
    (replies_along config slot said cluster)

-- of the answers to all lines they are those to this tenant
pub along : (configs : ℕ → TenantConfig) (slot : ℕ) (said : List Said) (clusters : ℕ → SoloCluster) →
    replies_to slot (answers_from configs said clusters) ≡ replies_along (configs slot) slot said (clusters slot)
along configs slot [] clusters = refl
along configs slot (OfHost deed ∷ said) clusters = along configs slot said clusters
along configs slot (Unformed other ∷ said) clusters =
    let rest = along configs slot said clusters in
    λ i. cond (other == slot) (Refused Syntax ∷ rest i) (rest i)
along configs slot (Acts e ∷ said) clusters =
    let turn = cluster_step (configs e.slot) e.act (clusters e.slot) in
    let rest = along configs slot said (with_cluster e.slot turn.after clusters) in
    let Is : List Reply → List Reply → Type 0 = λ one others. cond (e.slot == slot) one others ≡ replies_along (configs slot) slot (Acts e ∷ said) (clusters slot) in
    by_test (e.slot == slot)
    (λ is.
    let same = (Decides-eqb e.slot slot).0 is in
    let own = ap (λ s. cluster_step (configs s) e.act (clusters s)) same in
    rw is ((λ i. turn.reply ∷ rest i)
    ∙ (λ i. turn.reply ∷ replies_along (configs slot) slot said (cond (is i) turn.after (clusters slot)))
    ∙ ap (λ t. t.reply ∷ replies_along (configs slot) slot said t.after) own))
    (λ apart. rw apart (rest ∙ (λ i. replies_along (configs slot) slot said (cond (apart i) turn.after (clusters slot)))))

-- to each tenant the definition's answers are the replies in a cluster of its own
pub answers_of-along : (config : Config) (said : List Said) (slot : ℕ) → AreThere (map (tenant_config config) config.tenants) said →
    replies_to slot (answers_of config said) ≡ replies_along (config_at config slot) slot said (new_at config slot)
answers_of-along config said slot there = ap (replies_to slot) (answers_of-from config said there) ∙ along (config_at config) slot said (new_at config)

-- ---- fronts

pub no_replies : {A : Type 0} (whole : List A) → IsFrontOf [] whole
no_replies whole = (whole, refl)

pub one_more : {A : Type 0} (x y : A) (front whole : List A) → x ≡ y → IsFrontOf front whole → IsFrontOf (x ∷ front) (y ∷ whole)
one_more x y front whole same (rest, is) = (rest, λ i. sym same i ∷ is i)

-- one more reply before the others
pub one_reply : (r s : Reply) (told whole : List Reply) → (is_out_of_memory r ≡ false → (r ≡ s) × IsFrontOf (before_lack told) whole) → IsFrontOf (before_lack (r ∷ told)) (s ∷ whole)
one_reply r s told whole right =
    by_test (is_out_of_memory r)
    (λ lack. rw lack (no_replies (s ∷ whole)))
    (λ spared. rw spared (let one = right spared in one_more r s (before_lack told) whole one.0 one.1))

-- from the acts of a tenant, whose replies are a run of them, and from lines that are no acts
pub told_front : (config : TenantConfig) (slot : ℕ) (said : List Said) (told : List Answer) (c d : SoloCluster) → AreAnswersTo said told →
    Goes config (own slot (events_in said)) (replies slot (events_in said) (act_replies said told)) c d → IsFrontOf (before_lack (replies_to slot told)) (replies_along config slot said c)
told_front config slot [] [] c d each goes = no_replies []
told_front config slot [] (answer ∷ told) c d each goes = absurd each
told_front config slot (one ∷ said) [] c d each goes = absurd each
told_front config slot (OfHost deed ∷ said) (answer ∷ told) c d (is, later) goes =
    subst (λ (a : Answer). IsFrontOf (before_lack (replies_to slot (a ∷ told))) (replies_along config slot (OfHost deed ∷ said) c)) (sym is) (told_front config slot said told c d later goes)
told_front config slot (Unformed other ∷ said) (answer ∷ told) c d (is, later) goes =
    let rest = told_front config slot said told c d later goes in
    subst (λ (a : Answer). IsFrontOf (before_lack (replies_to slot (a ∷ told))) (replies_along config slot (Unformed other ∷ said) c)) (sym is)
    (by_test (other == slot)
    (λ is. rw is (one_reply (Refused Syntax) (Refused Syntax) (replies_to slot told) (replies_along config slot said c) (λ spared. (refl, rest))))
    (λ apart. rw apart rest))
told_front config slot (Acts e ∷ said) (answer ∷ told) c d ((reply, is), later) goes =
    let turn = cluster_step config e.act c in
    let acts = own slot (events_in said) in
    let rs = replies slot (events_in said) (act_replies said told) in
    let Run : Answer → Type 0 = λ a. Goes config (own slot (events_in (Acts e ∷ said))) (replies slot (events_in (Acts e ∷ said)) (act_replies (Acts e ∷ said) (a ∷ told))) c d in
    let goes_so : Run (ToTenant e.slot reply) = subst Run is goes in
    subst (λ (a : Answer). IsFrontOf (before_lack (replies_to slot (a ∷ told))) (replies_along config slot (Acts e ∷ said) c)) (sym is)
    (by_test (e.slot == slot)
    (λ is.
    let run : Goes config (e.act ∷ acts) (reply ∷ rs) c d = rw is at goes_so in
    rw is (one_reply reply turn.reply (replies_to slot told) (replies_along config slot said turn.after) (λ spared.
    let one = exactly config e.act reply c run.0 spared run.1 in
    (one.0, subst (λ x. IsFrontOf (before_lack (replies_to slot told)) (replies_along config slot said x)) one.1 (told_front config slot said told run.0 d later run.2)))))
    (λ apart.
    let run : Goes config acts rs c d = rw apart at goes_so in
    rw apart (told_front config slot said told c d later run)))

-- ---- the replies to acts

-- the replies to the tenant of a slot for the acts among these lines are a run of them from this cluster
abbrev pub ActsGo : TenantConfig → ℕ → List Said → List Answer → SoloCluster → Type 0
ActsGo config slot said told cluster = (left : SoloCluster) × Goes config (own slot (events_in said)) (replies slot (events_in said) (act_replies said told)) cluster left

-- a line that acts on nothing
abbrev pub KeepsActs : Answer → Said → Type 0
KeepsActs answer said = (config : TenantConfig) (slot : ℕ) (told : List Answer) (more : List Said) (cluster : SoloCluster) → ActsGo config slot more told cluster → ActsGo config slot (said ∷ more) (answer ∷ told) cluster

pub host_keeps_acts : (reply : HostReply) (deed : HostDeed) → KeepsActs (ToHost reply) (OfHost deed)
host_keeps_acts reply deed config slot told more cluster h = h

pub unformed_keeps_acts : (other : ℕ) → KeepsActs (ToTenant other (Refused Syntax)) (Unformed other)
unformed_keeps_acts other config slot told more cluster h = h

-- a line that acts
pub act_keeps_acts : (config : TenantConfig) (slot : ℕ) (e : Event) (reply : Reply) (told : List Answer) (more : List Said) (cluster : SoloCluster) →
    (e.slot ≡ slot → (after : SoloCluster) × Turns config e.act cluster reply after × ActsGo config slot more told after) → ((e.slot ≡ slot → ⊥) → ActsGo config slot more told cluster) →
    ActsGo config slot (Acts e ∷ more) (ToTenant e.slot reply ∷ told) cluster
act_keeps_acts config slot e reply told more cluster mine others =
    by_test (e.slot == slot) (λ is. rw is (first (mine ((Decides-eqb e.slot slot).0 is)))) (λ apart. rw apart (others (λ same. true≢false (sym ((Decides-eqb e.slot slot).1 same) ∙ apart))))
  where
    acts : List Act
    acts = own slot (events_in more)

    rs : List Reply
    rs = replies slot (events_in more) (act_replies more told)

    first : (after : SoloCluster) × Turns config e.act cluster reply after × ActsGo config slot more told after → (left : SoloCluster) × Goes config (e.act ∷ acts) (reply ∷ rs) cluster left
    first (after, turns, (left, goes)) = (left, (after, turns, goes))
