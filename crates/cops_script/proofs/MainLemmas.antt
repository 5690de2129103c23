-- The main theorem, from the replies to each tenant.
use Rattle.std.proofs.Common.{◌≡◌, ℕ, ◌<◌, Bool, true, false, List, length, refl, sym, subst, true≢false, ◌&&◌}
use Rattle.std.specs.Prelude.{IsTrue, nat_le, slice_get, Some}
use Rattle.std.proofs.lemmas.Bool.{leb-true}
use Rattle.std.specs.List.{list_all}
use Rattle.cops_types.specs.declared.configs.Config.{Config}
use Rattle.cops_types.specs.declared.configs.Tenant.{Tenant}
use Rattle.cops_types.specs.HeadLines.{are_sizes, is_between, is_tenant, most_shards}
use Rattle.cops_types.specs.Words.{is_u64}
use Rattle.cops_model.specs.declared.acts.Event.{Event}
use Rattle.cops_model.specs.declared.replies.Reply.{Reply}
use Rattle.cops_model.specs.Events.{config_at, own, replies}
use Rattle.cops_model.specs.declared.acts.Act.{Act}
use Rattle.cops_model.specs.MainTheorem.{IsCausalRun, with_tenant_alone}
use Rattle.cops_types.specs.TenantConfig.{TenantConfig}
use Rattle.cops_model.specs.Cluster.{SoloCluster, new_cluster}
use Rattle.cops_model.specs.Goes.{Goes}
use Rattle.cops_causal.proofs.TurnCausality.{all_are_causal}
use Rattle.cops_script.specs.GoodHeads.{is_good}
use Rattle.cops_script.proofs.TenantConfigs.{quota_at, sizes_at, tenant_within}

and_left : (a b : Bool) → (a && b) ≡ true → a ≡ true
and_left true b h = refl
and_left false b h = absurd (true≢false (sym h))

and_right : (a b : Bool) → (a && b) ≡ true → b ≡ true
and_right true b h = h
and_right false b h = absurd (true≢false (sym h))

pub some_shard : (config : Config) → IsTrue (is_good config) → 0 < config.shards
some_shard config good =
    let shards = is_between 1 most_shards config.shards in
    let sizes = and_left (are_sizes config) (list_all is_tenant config.tenants) good in
    let front = and_left (is_between 1 8 config.data_centres && shards && is_u64 config.trans_time) (nat_le config.restarts 15) sizes in
    let two = and_left (is_between 1 8 config.data_centres && shards) (is_u64 config.trans_time) front in
    let low = and_left (nat_le 1 config.shards) (nat_le config.shards most_shards) (and_right (is_between 1 8 config.data_centres) shards two) in
    leb-true 1 config.shards low

-- a tenant has the shards of the whole cluster
pub some_at : (config : Config) (slot : ℕ) → 0 < config.shards → slot < length config.tenants → 0 < (config_at config slot).shards
some_at config slot some within = subst (λ n. 0 < n) (sym (sizes_at config slot within).shards) some

-- every run of a tenant alone is causal
pub causal_run : (config : TenantConfig) (acts : List Act) (told : List Reply) (left : SoloCluster) → 0 < config.shards → Goes config acts told (new_cluster config) left → IsCausalRun config acts told
causal_run config acts told left some goes = record { left = left; goes = goes; causal = all_are_causal config some acts told left goes }

-- and so is the run of a tenant's own acts among those of many
pub own_run : (config : Config) (events : List Event) (told : List Reply) (slot : ℕ) (left : SoloCluster) → 0 < config.shards → slot < length config.tenants →
    Goes (config_at config slot) (own slot events) (replies slot events told) (new_cluster (config_at config slot)) left → IsCausalRun (config_at config slot) (own slot events) (replies slot events told)
own_run config events told slot left some within goes = causal_run (config_at config slot) (own slot events) (replies slot events told) left (some_at config slot some within) goes

-- ---- one tenant alone

pub alone_good : (config : Config) (slot : ℕ) (tenant : Tenant) → IsTrue (is_good config) → slice_get config.tenants slot ≡ Some tenant → IsTrue (is_good (with_tenant_alone config tenant))
alone_good config slot tenant good at =
    let sizes = and_left (are_sizes config) (list_all is_tenant config.tenants) good in
    let own = tenant_within config.tenants slot tenant (and_right (are_sizes config) (list_all is_tenant config.tenants) good) at in
    (λ i. sizes i && (own i && true))

pub alone_config : (config : Config) (slot : ℕ) (tenant : Tenant) → slice_get config.tenants slot ≡ Some tenant → config_at (with_tenant_alone config tenant) 0 ≡ config_at config slot
alone_config config slot tenant at = sym (quota_at config slot tenant at)
