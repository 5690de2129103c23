-- The words of the lines of a head.
use Rattle.std.specs.Prelude.{◌≡◌, ℕ, List, [], ◌∷◌, codes, decimal, IsTrue, Some}
use Rattle.uuid.specs.Text.{parsed}
use Rattle.cops_types.specs.declared.configs.Config.{Config}
use Rattle.cops_types.specs.declared.configs.Tenant.{Tenant}
use Rattle.cops_types.specs.declared.quotas.Quota.{Quota}
use Rattle.cops_types.specs.HeadLines.{is_tenant_to}

abbrev pub cluster_words : Config → List (List ℕ)
cluster_words config = codes "cluster" ∷ decimal config.data_centres ∷ decimal config.shards ∷ decimal config.trans_time ∷ decimal config.restarts ∷ []

abbrev pub quota_words : Quota → List (List ℕ)
quota_words quota =
    decimal quota.versions ∷ decimal quota.bytes ∷ decimal quota.outbox ∷ decimal quota.contexts ∷ decimal quota.deps ∷ decimal quota.actors ∷ decimal quota.audit ∷ []

-- with the token in this word
abbrev pub tenant_words : List ℕ → Tenant → List (List ℕ)
tenant_words token tenant = codes "tenant" ∷ tenant.name ∷ token ∷ decimal tenant.first_clock ∷ quota_words tenant.quota

-- the words after the first of a tenant's line, with its token in some form and a first clock up to this one
pub record AreTenantWords (last : ℕ) (words : List (List ℕ)) (tenant : Tenant) : Type 0 where
  pub token : List ℕ
  pub spelled : words ≡ tenant.name ∷ token ∷ decimal tenant.first_clock ∷ quota_words tenant.quota
  pub parses : parsed token ≡ Some tenant.token
  pub within : IsTrue (is_tenant_to last tenant)
