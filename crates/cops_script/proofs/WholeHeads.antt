-- What a whole head says of its tenants.
use Rattle.std.proofs.Common.{◌≡◌, ℕ, ◌+◌, ◌<◌, List, [], ◌∷◌, inl, inr, refl, sym, subst, ap, ◌∙◌, ◌≤◌}
use Rattle.std.specs.Prelude.{IsTrue, Option, Some, None, nat_lt, length, slice_get}
use Rattle.std.proofs.lemmas.Option.{slice_get_within}
use Rattle.cops_types.specs.declared.configs.Config.{Config}
use Rattle.cops_types.specs.declared.configs.Tenant.{Tenant}
use Rattle.cops_types.specs.Head.{Front, AtStart, Within, Begun, Follows, Whole, BadAt, front_after, head_of, reading_from}
use Rattle.cops_types.specs.HeadLines.{is_distinct}
use Rattle.cops_types.specs.HeadReader.{front_with}
use Rattle.cops_types.specs.TenantConfig.{TenantConfig, tenant_config}
use Rattle.cops_types.proofs.FrontLemmas.{front_after-is}
use Rattle.cops_types.proofs.WordLemmas.{both}
use Rattle.cops_script.specs.GoodHeads.{is_good, is_front_good}
use Rattle.cops_script.proofs.ApartTenants.{AreApart, apart_push, none_apart}
use Rattle.cops_script.proofs.GoodFronts.{front_with_good}
use Rattle.cops_script.proofs.HeadRuns.{tenants_in}
use Rattle.cops_script.proofs.MainLemmas.{some_shard}
use Rattle.cops_script.proofs.TenantConfigs.{quota_at, limits_at}

follows_apart : (front : Front) (line : List ℕ) (next : Front) → AreApart (tenants_in front) → Follows front line next → AreApart (tenants_in next)
follows_apart AtStart line next apart h = subst AreApart (sym (ap tenants_in h.2 ∙ h.1.bare)) none_apart
follows_apart (Within old) line next apart (inl joins) = subst AreApart (sym (ap tenants_in joins.after)) (apart_push old.tenants joins.tenant apart (both (nat_lt (length old.tenants) 64) (is_distinct old.tenants joins.tenant) joins.may).1)
follows_apart (Within old) line next apart (inr ends) = subst AreApart (sym (ap tenants_in ends.after)) apart
follows_apart (Begun old) line next apart h = absurd h

-- no two tenants of a whole head have one name
whole_apart : (lines : List (List ℕ)) (number : ℕ) (front : Front) (config : Config) (rest : List (List ℕ)) → AreApart (tenants_in front) → reading_from lines number front ≡ Whole config rest → AreApart config.tenants
whole_apart [] number AtStart config rest apart e = cc
whole_apart [] number (Within old) config rest apart e = cc
whole_apart lines number (Begun old) config rest apart e = subst AreApart (let same : old ≡ config = cc in ap (λ (k : Config). k.tenants) same) apart
whole_apart (line ∷ lines) number AtStart config rest apart e = by (front_after AtStart line) refl (λ next. whole_apart lines (number + 1) next config rest) e
  where
    by : (found : Option Front) → front_after AtStart line ≡ found → ((next : Front) → AreApart (tenants_in next) → reading_from lines (number + 1) next ≡ Whole config rest → AreApart config.tenants) →
        elim found [ None ↦ BadAt number | Some next ↦ reading_from lines (number + 1) next ] ≡ Whole config rest → AreApart config.tenants
    by None is on e = cc
    by (Some next) is on e = on next (follows_apart AtStart line next apart (front_after-is AtStart line next is)) e
whole_apart (line ∷ lines) number (Within old) config rest apart e = by (front_after (Within old) line) refl (λ next. whole_apart lines (number + 1) next config rest) e
  where
    by : (found : Option Front) → front_after (Within old) line ≡ found → ((next : Front) → AreApart (tenants_in next) → reading_from lines (number + 1) next ≡ Whole config rest → AreApart config.tenants) →
        elim found [ None ↦ BadAt number | Some next ↦ reading_from lines (number + 1) next ] ≡ Whole config rest → AreApart config.tenants
    by None is on e = cc
    by (Some next) is on e = on next (follows_apart (Within old) line next apart (front_after-is (Within old) line next is)) e

-- a whole head is within the limits
whole_good : (lines : List (List ℕ)) (number : ℕ) (front : Front) (config : Config) (rest : List (List ℕ)) → IsTrue (is_front_good (Some front)) → reading_from lines number front ≡ Whole config rest → IsTrue (is_good config)
whole_good [] number AtStart config rest good e = cc
whole_good [] number (Within old) config rest good e = cc
whole_good lines number (Begun old) config rest good e = subst (λ k. IsTrue (is_good k)) (let same : old ≡ config = cc in same) good
whole_good (line ∷ lines) number AtStart config rest good e = by (front_with (Some AtStart) line) (front_with_good (Some AtStart) line good) (λ next. whole_good lines (number + 1) next config rest) e
  where
    by : (found : Option Front) → IsTrue (is_front_good found) → ((next : Front) → IsTrue (is_front_good (Some next)) → reading_from lines (number + 1) next ≡ Whole config rest → IsTrue (is_good config)) →
        elim found [ None ↦ BadAt number | Some next ↦ reading_from lines (number + 1) next ] ≡ Whole config rest → IsTrue (is_good config)
    by None h on e = cc
    by (Some next) h on e = on next h e
whole_good (line ∷ lines) number (Within old) config rest good e = by (front_with (Some (Within old)) line) (front_with_good (Some (Within old)) line good) (λ next. whole_good lines (number + 1) next config rest) e
  where
    by : (found : Option Front) → IsTrue (is_front_good found) → ((next : Front) → IsTrue (is_front_good (Some next)) → reading_from lines (number + 1) next ≡ Whole config rest → IsTrue (is_good config)) →
        elim found [ None ↦ BadAt number | Some next ↦ reading_from lines (number + 1) next ] ≡ Whole config rest → IsTrue (is_good config)
    by None h on e = cc
    by (Some next) h on e = on next h e

pub good_of : (lines : List (List ℕ)) (config : Config) (rest : List (List ℕ)) → head_of lines ≡ Whole config rest → IsTrue (is_good config)
good_of lines config rest head = whole_good lines 1 AtStart config rest refl head

-- so it has a shard
pub shards_of : (lines : List (List ℕ)) (config : Config) (rest : List (List ℕ)) → head_of lines ≡ Whole config rest → 0 < config.shards
shards_of lines config rest head = some_shard config (good_of lines config rest head)

-- a tenant of a head has a limit of at most 1,024 pairs
pub few_deps : (lines : List (List ℕ)) (config : Config) (rest : List (List ℕ)) (slot : ℕ) (tenant : Tenant) → head_of lines ≡ Whole config rest → slice_get config.tenants slot ≡ Some tenant →
    (tenant_config config tenant).quota.deps ≤ 1024
few_deps lines config rest slot tenant head e =
    subst (λ (own : TenantConfig). own.quota.deps ≤ 1024) (quota_at config slot tenant e) (limits_at config slot (good_of lines config rest head) (slice_get_within config.tenants slot tenant e)).deps
