-- In every interleaving each tenant gets the replies that it gets alone.
use Rattle.std.proofs.Common.{◌≡◌, ℕ, true, false, ◌==◌, List, [], ◌∷◌, refl, sym, ◌∙◌, ap}
use Rattle.std.proofs.lemmas.Bool.Decides.{Decides-eqb}
use Rattle.cops_types.specs.TenantConfig.{TenantConfig}
use Rattle.cops_model.specs.declared.acts.Event.{Event}
use Rattle.cops_model.specs.Cluster.{SoloCluster, cluster_step}
use Rattle.cops_model.specs.Events.{own, replies, replies_from, solo_replies, with_cluster, world_replies, new_clusters}

pub replies-world_replies : (configs : ℕ → TenantConfig) (slot : ℕ) (events : List Event) (clusters : ℕ → SoloCluster) →
    replies slot events (world_replies configs events clusters) ≡ replies_from (configs slot) (own slot events) (clusters slot)
replies-world_replies configs slot [] clusters = refl
replies-world_replies configs slot (e ∷ events) clusters =
    let turn = cluster_step (configs e.slot) e.act (clusters e.slot) in
    let ih = replies-world_replies configs slot events (with_cluster e.slot turn.after clusters) in
    elim (e.slot == slot) as (λ b. (e.slot == slot) ≡ b → replies slot (e ∷ events) (world_replies configs (e ∷ events) clusters) ≡ replies_from (configs slot) (own slot (e ∷ events)) (clusters slot)) [
      | true ↦ λ is.
          let here : with_cluster e.slot turn.after clusters slot ≡ turn.after = rw is refl in
          let same : e.slot ≡ slot = (Decides-eqb e.slot slot).0 is in
          rw is
          (ap (λ rs. turn.reply ∷ rs) (ih ∙ ap (replies_from (configs slot) (own slot events)) here)
          ∙ ap (λ s. (cluster_step (configs s) e.act (clusters s)).reply ∷ replies_from (configs slot) (own slot events) (cluster_step (configs s) e.act (clusters s)).after) same)
      | false ↦ λ is.
          let elsewhere : with_cluster e.slot turn.after clusters slot ≡ clusters slot = rw is refl in
          rw is (ih ∙ ap (replies_from (configs slot) (own slot events)) elsewhere)
    ] refl

-- a tenant's replies among others are those that it gets alone
pub replies_alone : (configs : ℕ → TenantConfig) (slot : ℕ) (events : List Event) →
    replies slot events (world_replies configs events (new_clusters configs)) ≡ solo_replies (configs slot) (own slot events)
replies_alone configs slot events = replies-world_replies configs slot events (new_clusters configs)

-- lists of events that agree on a tenant's own give it the same replies
pub replies_agree : (configs others : ℕ → TenantConfig) (slot place : ℕ) (events more : List Event) → configs slot ≡ others place → own slot events ≡ own place more →
    replies slot events (world_replies configs events (new_clusters configs)) ≡ replies place more (world_replies others more (new_clusters others))
replies_agree configs others slot place events more same_config same_acts =
    replies_alone configs slot events
    ∙ (λ i. solo_replies (same_config i) (same_acts i))
    ∙ sym (replies_alone others place more)
