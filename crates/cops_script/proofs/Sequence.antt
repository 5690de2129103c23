-- Lines that are answered one after another are answered as each tenant is alone.
use Rattle.std.proofs.Common.{◌≡◌, ℕ, zero, suc, ◌+◌, ◌<◌, true, false, ◌==◌, List, [], ◌∷◌, drop, refl, sym, subst, ap, ◌∙◌, arith}
use Rattle.std.specs.Prelude.{slice_get, slice_index_or, slice_set, Some}
use Rattle.std.proofs.lemmas.Bool.Decides.{Decides-eqb}
use Rattle.cops_types.specs.declared.faults.Fault.TheVariants.{Syntax}
use Rattle.cops_types.specs.TenantConfig.{TenantConfig}
use Rattle.cops_types.proofs.WordLemmas.{same_value}
use Rattle.cops_model.specs.declared.acts.Event.{Event}
use Rattle.cops_model.specs.declared.replies.Reply.{Reply}
use Rattle.cops_model.specs.declared.replies.Reply.TheVariants.{Refused}
use Rattle.cops_model.specs.Cluster.{SoloCluster, cluster_step}
use Rattle.cops_model.specs.Events.{own, replies_from, with_cluster}
use Rattle.cops_script.specs.Said.{Said, OfHost, Unformed, Acts}
use Rattle.cops_script.specs.Answers.{Answer, ToHost, ToTenant, reply_to_host}
use Rattle.cops_script.specs.Script.{events_in, first_reply, answers}

-- the replies that each tenant has yet to get, from this slot on
abbrev pub left_from : ℕ → List TenantConfig → (ℕ → SoloCluster) → List Event → List (List Reply)
left_from base [] clusters events = []
left_from base (config ∷ configs) clusters events = replies_from config (own base events) (clusters base) ∷ left_from (base + 1) configs clusters events

apart_from : (slot base : ℕ) → (slot ≡ base → ⊥) → (slot == base) ≡ false
apart_from slot base differ = elim (slot == base) as (λ b. (slot == base) ≡ b → b ≡ false) [ true ↦ λ e. absurd (differ ((Decides-eqb slot base).0 e)) | false ↦ λ e. refl ] refl

-- an event of another slot leaves the replies that its tenant has yet to get
left_at_other : (base : ℕ) (config : TenantConfig) (clusters : ℕ → SoloCluster) (e : Event) (after : SoloCluster) (events : List Event) → (e.slot == base) ≡ false →
    replies_from config (own base events) (with_cluster e.slot after clusters base) ≡ replies_from config (own base (e ∷ events)) (clusters base)
left_at_other base config clusters e after events apart = rw apart refl

left_from-earlier : (base : ℕ) (configs : List TenantConfig) (clusters : ℕ → SoloCluster) (e : Event) (after : SoloCluster) (events : List Event) → e.slot < base →
    left_from base configs (with_cluster e.slot after clusters) events ≡ left_from base configs clusters (e ∷ events)
left_from-earlier base [] clusters e after events below = refl
left_from-earlier base (config ∷ configs) clusters e after events below =
    let one = left_at_other base config clusters e after events (apart_from e.slot base (λ same. omega arith)) in
    let others = left_from-earlier (base + 1) configs clusters e after events (omega arith) in
    λ i. one i ∷ others i

-- an event takes the first reply of its tenant, and leaves the others theirs
record TakesFirst (base : ℕ) (configs : List TenantConfig) (clusters : ℕ → SoloCluster) (e : Event) (events : List Event) (config : TenantConfig) (k : ℕ) : Type 0 where
  first : slice_index_or (left_from base configs clusters (e ∷ events)) k []
      ≡ (cluster_step config e.act (clusters e.slot)).reply ∷ replies_from config (own e.slot events) (cluster_step config e.act (clusters e.slot)).after
  others : slice_set (left_from base configs clusters (e ∷ events)) k (replies_from config (own e.slot events) (cluster_step config e.act (clusters e.slot)).after)
      ≡ left_from base configs (with_cluster e.slot (cluster_step config e.act (clusters e.slot)).after clusters) events

own-first : (e : Event) (events : List Event) → own e.slot (e ∷ events) ≡ e.act ∷ own e.slot events
own-first e events = rw ((Decides-eqb e.slot e.slot).1 refl) refl

with_cluster-same : (slot : ℕ) (after : SoloCluster) (clusters : ℕ → SoloCluster) → with_cluster slot after clusters slot ≡ after
with_cluster-same slot after clusters = rw ((Decides-eqb slot slot).1 refl) refl

takes_head : (configs : List TenantConfig) (clusters : ℕ → SoloCluster) (e : Event) (events : List Event) (config : TenantConfig) →
    TakesFirst e.slot (config ∷ configs) clusters e events config 0
takes_head configs clusters e events config =
    let turn = cluster_step config e.act (clusters e.slot) in
    let others = left_from-earlier (e.slot + 1) configs clusters e turn.after events (omega arith) in
    record {
      first = ap (λ acts. replies_from config acts (clusters e.slot)) (own-first e events);
      others = sym (λ i. replies_from config (own e.slot events) (with_cluster-same e.slot turn.after clusters i) ∷ others i);
    }

takes_first : (base : ℕ) (configs : List TenantConfig) (clusters : ℕ → SoloCluster) (e : Event) (events : List Event) (config : TenantConfig) (k : ℕ) →
    e.slot ≡ base + k → slice_get configs k ≡ Some config → TakesFirst base configs clusters e events config k
takes_first base [] clusters e events config k at found = absurd (let clash : ⊥ = cc in clash)
takes_first base (c ∷ configs) clusters e events config zero at found =
    let same : e.slot ≡ base = omega arith in
    subst (λ b. TakesFirst b (c ∷ configs) clusters e events config 0) same
    (subst (λ d. TakesFirst e.slot (d ∷ configs) clusters e events config 0) (sym (same_value c config found)) (takes_head configs clusters e events config))
takes_first base (c ∷ configs) clusters e events config (suc k) at found =
    let turn = cluster_step config e.act (clusters e.slot) in
    let later = takes_first (base + 1) configs clusters e events config k (omega arith) found in
    let one = left_at_other base c clusters e turn.after events (apart_from e.slot base (λ same. omega arith)) in
    record {
      first = later.first;
      others = λ i. sym one i ∷ later.others i;
    }

-- ---- one line after another

-- the answer to each line, if each tenant's cluster is kept
abbrev pub answers_from : (ℕ → TenantConfig) → List Said → (ℕ → SoloCluster) → List Answer
answers_from configs [] clusters = []
answers_from configs (OfHost deed ∷ said) clusters = ToHost (reply_to_host deed) ∷ answers_from configs said clusters
answers_from configs (Unformed slot ∷ said) clusters = ToTenant slot (Refused Syntax) ∷ answers_from configs said clusters
answers_from configs (Acts e ∷ said) clusters =
    let turn = cluster_step (configs e.slot) e.act (clusters e.slot) in
    ToTenant e.slot turn.reply ∷ answers_from configs said (with_cluster e.slot turn.after clusters)

-- the tenants who act are there
abbrev pub AreThere : List TenantConfig → List Said → Type 0
AreThere list [] = Unit {0}
AreThere list (OfHost deed ∷ said) = AreThere list said
AreThere list (Unformed slot ∷ said) = AreThere list said
AreThere list (Acts e ∷ said) = ((config : TenantConfig) × (slice_get list e.slot ≡ Some config)) × AreThere list said

pub answers-left : (configs : ℕ → TenantConfig) (list : List TenantConfig) → ((k : ℕ) (config : TenantConfig) → slice_get list k ≡ Some config → configs k ≡ config) →
    (said : List Said) (clusters : ℕ → SoloCluster) → AreThere list said → answers said (left_from 0 list clusters (events_in said)) ≡ answers_from configs said clusters
answers-left configs list agree [] clusters there = refl
answers-left configs list agree (OfHost deed ∷ said) clusters there = ap (λ told. ToHost (reply_to_host deed) ∷ told) (answers-left configs list agree said clusters there)
answers-left configs list agree (Unformed slot ∷ said) clusters there = ap (λ told. ToTenant slot (Refused Syntax) ∷ told) (answers-left configs list agree said clusters there)
answers-left configs list agree (Acts e ∷ said) clusters ((config, found), there) =
    let same = agree e.slot config found in
    let events = events_in said in
    let taken = takes_first 0 list clusters e events config e.slot (omega arith) found in
    let turn = cluster_step config e.act (clusters e.slot) in
    let Rest : List Reply → List Answer = λ told. ToTenant e.slot (first_reply told) ∷ answers said (slice_set (left_from 0 list clusters (e ∷ events)) e.slot (drop 1 told)) in
    ap Rest taken.first
    ∙ ap (λ lists. ToTenant e.slot turn.reply ∷ answers said lists) taken.others
    ∙ ap (λ told. ToTenant e.slot turn.reply ∷ told) (answers-left configs list agree said (with_cluster e.slot turn.after clusters) there)
    ∙ ap (λ c. let turn = cluster_step c e.act (clusters e.slot) in ToTenant e.slot turn.reply ∷ answers_from configs said (with_cluster e.slot turn.after clusters)) (sym same)
