-- The lines of a head are short, and its tenants have names.
use Rattle.std.proofs.Common.{◌≡◌, ℕ, ◌+◌, ◌<◌, ◌≤◌, ◌^◌, suc, nat_eq, Bool, true, false, cond, inl, inr, List, [], ◌∷◌, ◌++◌, length, refl, sym, subst, length-append, arith}
use Rattle.std.specs.Prelude.{IsTrue, codes, decimal, nat_le, Some, None}
use Rattle.std.specs.List.{AllByRecursion}
use Rattle.std.proofs.lemmas.Bool.Decides.{nat_tests, Decides-eqb}
use Rattle.std.proofs.lemmas.Fmt.{length-decimal-le}
use Rattle.uuid.specs.Text.{parsed, parsed_simple, parsed_hyphenated, parsed_braced, parsed_urn}
use Rattle.cops_types.specs.declared.configs.Config.{Config}
use Rattle.cops_types.specs.declared.configs.Tenant.{Tenant}
use Rattle.cops_types.specs.Head.{Front, AtStart, Within, Begun, Follows, front_after}
use Rattle.cops_types.specs.HeadLines.{is_name, is_tenant, IsClusterLine, IsTenantLine}
use Rattle.cops_types.specs.Key.{is_key}
use Rattle.cops_types.specs.Lines.{longest_line}
use Rattle.cops_types.specs.Version.{last_clock}
use Rattle.cops_types.specs.Words.{spaced, is_u64}
use Rattle.cops_types.proofs.FrontLemmas.{front_after-is}
use Rattle.cops_types.proofs.HeadLemmas.{sizes_fit, tenant_fits}
use Rattle.cops_types.proofs.WordLemmas.{both}

-- ---- how long a line of words is

-- the lengths of the words, and one more for each
abbrev with_gaps : List (List ℕ) → ℕ
with_gaps [] = 0
with_gaps (word ∷ words) = length word + 1 + with_gaps words

spaced-length : (words : List (List ℕ)) → length (spaced words) ≤ with_gaps words
spaced-length [] = omega arith
spaced-length (word ∷ []) = omega arith
spaced-length (word ∷ next ∷ words) =
    let later = spaced-length (next ∷ words) in
    let whole : length (spaced (word ∷ next ∷ words)) ≡ length word + suc (length (spaced (next ∷ words))) = length-append word (32 ∷ spaced (next ∷ words)) in
    omega (arith, later, whole)

decimal-short : (n : ℕ) → IsTrue (is_u64 n) → length (decimal n) ≤ 20
decimal-short n h = let small : n < 2 ^ 64 = grind (arith, nat_tests) in length-decimal-le 20 n (omega arith) (omega arith) small

-- a token has at most 45 bytes
token-short : (token : List ℕ) (bytes : List ℕ) → parsed token ≡ Some bytes → length token ≤ 45
token-short token bytes e = by_32 (nat_eq (length token) 32) refl e
  where
    is_length : (n : ℕ) → nat_eq (length token) n ≡ true → n ≤ 45 → length token ≤ 45
    is_length n t low = let same : length token ≡ n = (Decides-eqb (length token) n).0 t in omega arith

    by_45 : (t : Bool) → nat_eq (length token) 45 ≡ t → cond t (parsed_urn token) None ≡ Some bytes → length token ≤ 45
    by_45 true t e = is_length 45 t (omega arith)
    by_45 false t e = absurd (let clash : ⊥ = cc in clash)

    by_38 : (t : Bool) → nat_eq (length token) 38 ≡ t → cond t (parsed_braced token) (cond (nat_eq (length token) 45) (parsed_urn token) None) ≡ Some bytes → length token ≤ 45
    by_38 true t e = is_length 38 t (omega arith)
    by_38 false t e = by_45 (nat_eq (length token) 45) refl e

    by_36 : (t : Bool) → nat_eq (length token) 36 ≡ t → cond t (parsed_hyphenated token) (cond (nat_eq (length token) 38) (parsed_braced token) (cond (nat_eq (length token) 45) (parsed_urn token) None)) ≡ Some bytes → length token ≤ 45
    by_36 true t e = is_length 36 t (omega arith)
    by_36 false t e = by_38 (nat_eq (length token) 38) refl e

    by_32 : (t : Bool) → nat_eq (length token) 32 ≡ t →
        cond t (parsed_simple token) (cond (nat_eq (length token) 36) (parsed_hyphenated token) (cond (nat_eq (length token) 38) (parsed_braced token) (cond (nat_eq (length token) 45) (parsed_urn token) None))) ≡ Some bytes
        → length token ≤ 45
    by_32 true t e = is_length 32 t (omega arith)
    by_32 false t e = by_36 (nat_eq (length token) 36) refl e

pub name-short : (name : List ℕ) → IsTrue (is_name name) → length name ≤ 16
name-short name h = let low = (both (is_key name) (nat_le (length name) 16) h).1 in grind (arith, nat_tests, low)

-- ---- the lines

cluster-short : (line : List ℕ) (config : Config) → IsClusterLine line config → length line ≤ longest_line
cluster-short line config is =
    let fits = sizes_fit config is.within in
    let one = decimal-short config.data_centres fits.data_centres in
    let two = decimal-short config.shards fits.shards in
    let three = decimal-short config.trans_time fits.trans_time in
    let four = decimal-short config.restarts fits.restarts in
    let whole = spaced-length (codes "cluster" ∷ decimal config.data_centres ∷ decimal config.shards ∷ decimal config.trans_time ∷ decimal config.restarts ∷ []) in
    subst (λ l. length l ≤ longest_line) (sym is.spelled) (omega (arith, one, two, three, four, whole))

pub tenant-short : (line : List ℕ) (tenant : Tenant) → IsTenantLine line tenant → length line ≤ longest_line
tenant-short line tenant is =
    let fits = tenant_fits last_clock (omega arith) tenant is.within in
    let q = tenant.quota in
    let name = name-short tenant.name fits.name in
    let token = token-short is.token tenant.token is.parses in
    let clock = decimal-short tenant.first_clock fits.first_clock in
    let versions = decimal-short q.versions fits.versions in
    let bytes = decimal-short q.bytes fits.bytes in
    let outbox = decimal-short q.outbox fits.outbox in
    let contexts = decimal-short q.contexts fits.contexts in
    let deps = decimal-short q.deps fits.deps in
    let actors = decimal-short q.actors fits.actors in
    let audit = decimal-short q.audit fits.audit in
    let whole = spaced-length (codes "tenant" ∷ tenant.name ∷ is.token ∷ decimal tenant.first_clock ∷ decimal q.versions ∷ decimal q.bytes ∷ decimal q.outbox
    ∷ decimal q.contexts ∷ decimal q.deps ∷ decimal q.actors ∷ decimal q.audit ∷ []) in
    subst (λ l. length l ≤ longest_line) (sym is.spelled) (omega (arith, name, token, clock, versions, bytes, outbox, contexts, deps, actors, audit, whole))

follows-short : (front : Front) (line : List ℕ) (next : Front) → Follows front line next → length line ≤ longest_line
follows-short AtStart line next f = cluster-short line f.0 f.1
follows-short (Within config) line next (inl joins) = tenant-short line joins.tenant joins.said
follows-short (Within config) line next (inr ends) = subst (λ l. length l ≤ longest_line) (sym ends.said) (omega arith)
follows-short (Begun config) line next f = absurd f

-- a line that may stand in a head is not too long
pub front_after-short : (front : Front) (line : List ℕ) (next : Front) → front_after front line ≡ Some next → length line ≤ longest_line
front_after-short front line next e = follows-short front line next (front_after-is front line next e)

-- ---- names

-- each tenant so far is one that a line may give
abbrev pub AreGood : Front → Type 0
AreGood AtStart = Unit {0}
AreGood (Within config) = AllByRecursion (λ (tenant : Tenant). IsTrue (is_tenant tenant)) config.tenants
AreGood (Begun config) = AllByRecursion (λ (tenant : Tenant). IsTrue (is_tenant tenant)) config.tenants

AllByRecursion-push : (P : Tenant → Type 0) (tenants : List Tenant) (tenant : Tenant) → AllByRecursion P tenants → P tenant → AllByRecursion P (tenants ++ tenant ∷ [])
AllByRecursion-push P [] tenant all one = (one, tt)
AllByRecursion-push P (first ∷ tenants) tenant all one = (all.0, AllByRecursion-push P tenants tenant all.1 one)

pub follows-good : (front : Front) (line : List ℕ) (next : Front) → AreGood front → Follows front line next → AreGood next
follows-good AtStart line next good f =
    subst AreGood (sym f.2) (subst (λ tenants. AllByRecursion (λ (tenant : Tenant). IsTrue (is_tenant tenant)) tenants) (sym f.1.bare) tt)
follows-good (Within config) line next good (inl joins) =
    subst AreGood (sym joins.after) (AllByRecursion-push (λ (tenant : Tenant). IsTrue (is_tenant tenant)) config.tenants joins.tenant good joins.said.within)
follows-good (Within config) line next good (inr ends) = subst AreGood (sym ends.after) good
follows-good (Begun config) line next good f = absurd f

pub name_of_good : (tenant : Tenant) → IsTrue (is_tenant tenant) → IsTrue (is_name tenant.name)
name_of_good tenant h = (tenant_fits last_clock (omega arith) tenant h).name
