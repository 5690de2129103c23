-- What of a head concerns one of its tenants, and the limits that it keeps to.
use Rattle.std.proofs.Common.{◌≡◌, ℕ, zero, suc, ◌<◌, ◌≤◌, Bool, true, false, true≢false, ◌&&◌, List, [], ◌∷◌, length, map, refl, sym, subst, ap, ◌∙◌, arith}
use Rattle.std.specs.Prelude.{Option, Some, None, IsTrue, is_some, nat_le, slice_get}
use Rattle.std.specs.Option.{option_map}
use Rattle.std.specs.List.{list_all}
use Rattle.std.proofs.lemmas.Bool.{leb-true}
use Rattle.cops_types.specs.declared.configs.Config.{Config}
use Rattle.cops_types.specs.declared.configs.Tenant.{Tenant}
use Rattle.cops_types.specs.HeadLines.{are_sizes, greatest_quota, is_between, is_name, is_quota, is_tenant, most_shards}
use Rattle.cops_types.specs.OpenSlots.{open_at}
use Rattle.cops_types.specs.TenantConfig.{TenantConfig, tenant_config}
use Rattle.cops_types.specs.Version.{last_clock}
use Rattle.cops_types.specs.Words.{is_u64}
use Rattle.cops_types.proofs.WordLemmas.{same_value}
use Rattle.cops_node.specs.Parts.{are_clocks}
use Rattle.cops_model.specs.Events.{config_at}
use Rattle.cops_model.specs.Setups.{Setup, is_open_at}
use Rattle.cops_script.specs.GoodHeads.{is_good}
use Rattle.cops_script.specs.Sizes.{HasSizes}
use Rattle.cops_script.proofs.AnswersTo.{config_at-found}

and_left : (a b : Bool) → (a && b) ≡ true → a ≡ true
and_left true b h = refl
and_left false b h = absurd (true≢false (sym h))

and_right : (a b : Bool) → (a && b) ≡ true → b ≡ true
and_right true b h = h
and_right false b h = absurd (true≢false (sym h))

pub tenant_at : (tenants : List Tenant) (slot : ℕ) → slot < length tenants → (tenant : Tenant) × (slice_get tenants slot ≡ Some tenant)
tenant_at [] slot below = absurd (omega arith)
tenant_at (t ∷ tenants) zero below = (t, refl)
tenant_at (t ∷ tenants) (suc slot) below = tenant_at tenants slot (omega arith)

pub quota_at : (config : Config) (slot : ℕ) (tenant : Tenant) → slice_get config.tenants slot ≡ Some tenant → config_at config slot ≡ tenant_config config tenant
quota_at config slot tenant at = config_at-found config slot (tenant_config config tenant) (mapped config.tenants slot at)
  where
    mapped : (list : List Tenant) (k : ℕ) → slice_get list k ≡ Some tenant → slice_get (map (tenant_config config) list) k ≡ Some (tenant_config config tenant)
    mapped [] k e = cc
    mapped (t ∷ list) zero e = ap (option_map (tenant_config config)) e
    mapped (t ∷ list) (suc k) e = mapped list k e

pub sizes_at : (setup : Config) (slot : ℕ) → slot < length setup.tenants → HasSizes (config_at setup slot) setup
sizes_at setup slot below =
    let is = tenant_at setup.tenants slot below in
    subst (λ (c : TenantConfig). HasSizes c setup) (sym (quota_at setup slot is.0 is.1)) (record { data_centres = refl; shards = refl; restarts = refl })

pub tenant_in : (setup : Setup) (slot : ℕ) → IsTrue (is_open_at setup slot) → (tenant : Tenant) × (open_at slot setup.tenants ≡ Some tenant)
tenant_in setup slot there = by (open_at slot setup.tenants) there
  where
    by : (o : Option Tenant) → IsTrue (is_some o) → (tenant : Tenant) × (o ≡ Some tenant)
    by None h = absurd (true≢false (sym h))
    by (Some tenant) h = (tenant, refl)

pub record WithinLimits (config : TenantConfig) : Type 0 where
  pub deps : config.quota.deps ≤ 1024
  pub restarts : config.restarts ≤ 15

pub tenant_within : (tenants : List Tenant) (slot : ℕ) (tenant : Tenant) → list_all is_tenant tenants ≡ true → slice_get tenants slot ≡ Some tenant → is_tenant tenant ≡ true
tenant_within [] slot tenant all at = cc
tenant_within (t ∷ tenants) zero tenant all at = ap is_tenant (sym (same_value t tenant at)) ∙ and_left (is_tenant t) (list_all is_tenant tenants) all
tenant_within (t ∷ tenants) (suc slot) tenant all at = tenant_within tenants slot tenant (and_right (is_tenant t) (list_all is_tenant tenants) all) at

pub limits_of : (head : Config) (tenant : Tenant) → IsTrue (is_good head) → IsTrue (is_tenant tenant) → WithinLimits (tenant_config head tenant)
limits_of head tenant good own =
    let quota = tenant.quota in
    let v = nat_le quota.versions greatest_quota in
    let w = nat_le quota.bytes greatest_quota in
    let x = nat_le quota.outbox greatest_quota in
    let y = nat_le quota.contexts greatest_quota in
    let z = nat_le quota.deps 1024 in
    let u = nat_le quota.actors greatest_quota in
    let sizes = is_between 1 8 head.data_centres && is_between 1 most_shards head.shards && is_u64 head.trans_time in
    let quotas = and_right (is_name tenant.name && nat_le tenant.first_clock last_clock) (is_quota quota) own in
    let most = and_left (v && w && x && y && z && u) (nat_le quota.audit greatest_quota) quotas in
    let less = and_left (v && w && x && y && z) u most in
    record {
      deps = leb-true quota.deps 1024 (and_right (v && w && x && y) z less);
      restarts = leb-true head.restarts 15 (and_right sizes (nat_le head.restarts 15) (and_left (are_sizes head) (list_all is_tenant head.tenants) good));
    }

pub limits_at : (setup : Config) (slot : ℕ) → IsTrue (is_good setup) → slot < length setup.tenants → WithinLimits (config_at setup slot)
limits_at setup slot good within =
    let at = tenant_at setup.tenants slot within in
    subst WithinLimits (sym (quota_at setup slot at.0 at.1))
    (limits_of setup at.0 good (tenant_within setup.tenants slot at.0 (and_right (are_sizes setup) (list_all is_tenant setup.tenants) good) at.1))

pub clocks_of_tenants : (tenants : List Tenant) → list_all is_tenant tenants ≡ true → list_all (λ (tenant : Tenant). nat_le tenant.first_clock last_clock) tenants ≡ true
clocks_of_tenants [] h = refl
clocks_of_tenants (t ∷ tenants) h =
    let own = and_left (is_tenant t) (list_all is_tenant tenants) h in
    let front = and_left (is_name t.name && nat_le t.first_clock last_clock) (is_quota t.quota) own in
    let rest = clocks_of_tenants tenants (and_right (is_tenant t) (list_all is_tenant tenants) h) in
    ap (λ b. b && list_all (λ (tenant : Tenant). nat_le tenant.first_clock last_clock) tenants) (and_right (is_name t.name) (nat_le t.first_clock last_clock) front) ∙ rest

pub sizes_of_good : (config : Config) → IsTrue (is_good config) → IsTrue (are_sizes config)
sizes_of_good config good = and_left (are_sizes config) (list_all is_tenant config.tenants) good

pub clocks_of_good : (config : Config) → IsTrue (is_good config) → IsTrue (are_clocks config)
clocks_of_good config good = clocks_of_tenants config.tenants (and_right (are_sizes config) (list_all is_tenant config.tenants) good)
