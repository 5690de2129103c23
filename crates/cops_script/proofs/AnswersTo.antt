-- What is answered to what tenants say, one line after another.
use Rattle.std.proofs.Common.{◌≡◌, ℕ, suc, ◌+◌, List, [], ◌∷◌, map, refl, sym, subst, ap, ◌∙◌, arith}
use Rattle.std.specs.Prelude.{slice_get, Some}
use Rattle.std.proofs.lemmas.Option.{get_or_from_slice_get}
use Rattle.cops_types.specs.declared.configs.Config.{Config}
use Rattle.cops_types.specs.TenantConfig.{TenantConfig, tenant_config}
use Rattle.cops_model.specs.declared.acts.Event.{Event}
use Rattle.cops_model.specs.Cluster.{SoloCluster, new_cluster}
use Rattle.cops_model.specs.Events.{own, replies_from, no_config, config_at}
use Rattle.cops_script.specs.Said.{Said}
use Rattle.cops_script.specs.Script.{events_in, told_from, answers, answers_of}
use Rattle.cops_script.proofs.Sequence.{left_from, answers_from, AreThere, answers-left}

-- the configuration of a slot that has a tenant
pub config_at-found : (config : Config) (slot : ℕ) (found : TenantConfig) → slice_get (map (tenant_config config) config.tenants) slot ≡ Some found → config_at config slot ≡ found
config_at-found config slot found e = get_or_from_slice_get (map (tenant_config config) config.tenants) slot found no_config e

-- at first each tenant has yet to get all replies that it gets alone
told_from-left : (base : ℕ) (list : List TenantConfig) (clusters : ℕ → SoloCluster) (events : List Event) →
    ((k : ℕ) (config : TenantConfig) → slice_get list k ≡ Some config → clusters (base + k) ≡ new_cluster config) →
    told_from base list events ≡ left_from base list clusters events
told_from-left base [] clusters events fresh = refl
told_from-left base (config ∷ list) clusters events fresh =
    let here : clusters base ≡ new_cluster config = subst (λ n. clusters n ≡ new_cluster config) (omega arith) (fresh 0 config refl) in
    let later = told_from-left (base + 1) list clusters events (λ k found e. subst (λ n. clusters n ≡ new_cluster found) (omega arith) (fresh (suc k) found e)) in
    sym (λ i. replies_from config (own base events) (here i) ∷ sym later i)

-- new clusters, by slot
abbrev pub new_at : Config → ℕ → SoloCluster
new_at config slot = new_cluster (config_at config slot)

pub answers_of-from : (config : Config) (said : List Said) → AreThere (map (tenant_config config) config.tenants) said → answers_of config said ≡ answers_from (config_at config) said (new_at config)
answers_of-from config said there =
    let list = map (tenant_config config) config.tenants in
    ap (answers said) (told_from-left 0 list (new_at config) (events_in said) (λ k found e. ap new_cluster (subst (λ n. config_at config n ≡ found) (omega arith) (config_at-found config k found e))))
    ∙ answers-left (config_at config) list (config_at-found config) said (new_at config) there
