-- Heads of layout 1: the state to which a line leads, the length of the line, and what a reader says of it.
use Rattle.cops_replay.proofs.Names.{◌≡◌, ℕ, suc, ◌+◌, ◌<◌, ◌≤◌, ◌^◌, ◌⊎◌, inl, inr, Bool, true, false, cond, List, [], ◌∷◌, ◌++◌, length, refl, sym, subst, ap, ◌∙◌, length-append, arith, IsTrue, codes, decimal, Option, Some, None, IsFalse, option_and_then, bytes_eq, nat_tests, Config, Tenant, counted, Front, AtStart, Within, Begun, head_with, may_join, IsTenantLineTo, are_sizes, begin_line, cluster_in, tenant_line, last_old_clock, old_front_after, has_clocks_to, last_clock, spaced, front_after-finds, cluster_in-is, tenant_fits, front_after-short, bytes_from_test, same_value, last_early_clock, option_map, length-decimal-le, More, Begin, Ends, Follows, with_tenant, IsClusterLine, is_tenant, said_at, still_open, old_front_with, old_tenant_in, with_few_shards, tenant_in_to-is, todays-short, clock_within, is_tenant-made, quota_of_tenant, OldHeadContinues, has_sizes, OldHeadGoesOn}
use Rattle.cops_types.specs.declared.heads.HeadLine.TheVariants.{BadLine}

-- ---- one line

-- the line gives one more tenant, whose first clock is at most this
pub record JoinsTo (last : ℕ) (config : Config) (line : List ℕ) (next : Front) : Type 0 where
  pub tenant : Tenant
  pub said : IsTenantLineTo last line tenant
  pub may : IsTrue (may_join config tenant)
  pub after : next ≡ Within (with_tenant config tenant)

-- the line may follow here, if first clocks are at most this
abbrev pub FollowsTo : ℕ → Front → List ℕ → Front → Type 0
FollowsTo last AtStart line next = (config : Config) × IsClusterLine line config × (next ≡ Within config)
FollowsTo last (Within config) line next = JoinsTo last config line next ⊎ Ends config line next
FollowsTo last (Begun config) line next = ⊥

-- today's lines
pub follows_today : (front : Front) (line : List ℕ) (next : Front) → Follows front line next → FollowsTo last_clock front line next
follows_today front line next h3 = grind (arith, nat_tests)

joined-is : (config : Config) (line : List ℕ) (next : Front) (found : Option Tenant) → old_tenant_in line ≡ found → option_and_then (head_with config) found ≡ Some next → JoinsTo last_old_clock config line next
joined-is config line next None was e = absurd cc
joined-is config line next (Some tenant) was e = by_place (may_join config tenant) refl e
  where
    by_place : (t : Bool) → may_join config tenant ≡ t → cond t (Some (Within (with_tenant config tenant))) None ≡ Some next → JoinsTo last_old_clock config line next
    by_place false may e = absurd cc
    by_place true may e = record { tenant = tenant; said = tenant_in_to-is last_old_clock line tenant was; may = may; after = sym (same_value (Within (with_tenant config tenant)) next e) }

within-is : (config : Config) (line : List ℕ) (next : Front) (t : Bool) → bytes_eq line begin_line ≡ t →
    cond t (Some (Begun config)) (option_and_then (head_with config) (old_tenant_in line)) ≡ Some next → JoinsTo last_old_clock config line next ⊎ Ends config line next
within-is config line next false begins e = inl (joined-is config line next (old_tenant_in line) refl e)
within-is config line next true begins e = inr (record { said = bytes_from_test line begin_line begins; after = sym (same_value (Begun config) next e) })

start-is : (line : List ℕ) (next : Front) (found : Option Config) → cluster_in line ≡ found → option_map Within (option_and_then with_few_shards found) ≡ Some next → FollowsTo last_old_clock AtStart line next
start-is line next found h3 h4 = grind (arith, nat_tests, cluster_in-is, same_value)

pub old_front_after-is : (front : Front) (line : List ℕ) (next : Front) → old_front_after front line ≡ Some next → FollowsTo last_old_clock front line next
old_front_after-is AtStart line next e = start-is line next (cluster_in line) refl e
old_front_after-is (Within config) line next e = within-is config line next (bytes_eq line begin_line) refl e
old_front_after-is (Begun config) line next e = absurd cc

-- ---- how long a line is

-- with another first clock it has at most 20 bytes more
tenant-short : (line : List ℕ) (tenant : Tenant) → IsTenantLineTo last_old_clock line tenant → length line ≤ 16384
tenant-short line tenant is =
    let fits = tenant_fits last_old_clock (omega arith) tenant is.within in
    let other : Tenant = record tenant { first_clock = 0 } in
    let good : IsTrue (is_tenant other) = is_tenant-made last_clock tenant.name tenant.token 0 tenant.quota fits.name (omega arith) (quota_of_tenant last_old_clock tenant is.within) in
    let short = todays-short (tenant_line is.token other) other (record { token = is.token; spelled = refl; one_word = is.one_word; parses = is.parses; within = good }) in
    let low : tenant.first_clock < 2 ^ 64 = (let most = clock_within last_old_clock tenant is.within in omega (arith, most)) in
    let digits = length-decimal-le 20 tenant.first_clock (omega arith) (omega arith) low in
    let q = tenant.quota in
    let rest : List ℕ = spaced (decimal q.versions ∷ decimal q.bytes ∷ decimal q.outbox ∷ decimal q.contexts ∷ decimal q.deps ∷ decimal q.actors ∷ decimal q.audit ∷ []) in
    let long : (clock : ℕ) → length (tenant_line is.token (record tenant { first_clock = clock })) ≡ 6 + suc (length tenant.name + suc (length is.token + suc (length (decimal clock) + suc (length rest)))) = λ clock.
    let later : List ℕ = decimal clock ++ (32 ∷ rest) in
    length-append (codes "tenant") (32 ∷ (tenant.name ++ (32 ∷ (is.token ++ (32 ∷ later)))))
    ∙ ap (λ n. 6 + suc n) (length-append tenant.name (32 ∷ (is.token ++ (32 ∷ later)))
    ∙ ap (λ n. length tenant.name + suc n) (length-append is.token (32 ∷ later) ∙ ap (λ n. length is.token + suc n) (length-append (decimal clock) (32 ∷ rest)))) in
    subst (λ l. length l ≤ 16384) (sym is.spelled) (omega (arith, short, digits, long tenant.first_clock, long 0))

follows-short : (front : Front) (line : List ℕ) (next : Front) → FollowsTo last_old_clock front line next → length line ≤ 16384
follows-short AtStart line next (config, is, after) =
    let short = front_after-short AtStart line (Within config) (front_after-finds AtStart line (Within config) (config, is, refl)) in omega (arith, short)
follows-short (Within config) line next (inl joins) = tenant-short line joins.tenant joins.said
follows-short (Within config) line next (inr ends) = subst (λ l. length l ≤ 16384) (sym ends.said) (omega arith)
follows-short (Begun config) line next f = absurd f

-- a line that may stand in a head is not too long
pub old_front_after-short : (front : Front) (line : List ℕ) (next : Front) → old_front_after front line ≡ Some next → length line ≤ 16384
old_front_after-short front line next e = follows-short front line next (old_front_after-is front line next e)

-- ---- the sizes

follows_sized : (front : Front) (line : List ℕ) (next : Front) → FollowsTo last_old_clock front line next → IsTrue (has_sizes (Some front)) → IsTrue (has_sizes (Some next))
follows_sized AtStart line next f good = subst (λ n. IsTrue (has_sizes (Some n))) (sym f.2) f.1.within
follows_sized (Within config) line next (inl joins) good = subst (λ n. IsTrue (has_sizes (Some n))) (sym joins.after) good
follows_sized (Within config) line next (inr ends) good = subst (λ n. IsTrue (has_sizes (Some n))) (sym ends.after) good
follows_sized (Begun config) line next f good = absurd f

front_with_sized : (front : Option Front) (line : List ℕ) → IsTrue (has_sizes front) → IsTrue (has_sizes (old_front_with front line))
front_with_sized None line good = refl
front_with_sized (Some front) line good = by_found (old_front_after front line) refl
  where
    by_found : (found : Option Front) → old_front_after front line ≡ found → IsTrue (has_sizes found)
    by_found None e = refl
    by_found (Some next) e = follows_sized front line next (old_front_after-is front line next e) good

open_sized : (front : Option Front) → IsTrue (has_sizes front) → IsTrue (has_sizes (still_open front))
open_sized front good = grind (arith, nat_tests)

pub still_sized : (front : Option Front) (line : List ℕ) (new : Option Front) → IsTrue (has_sizes front) → new ≡ still_open (old_front_with front line) → IsTrue (has_sizes new)
still_sized front line new good is = subst (λ n. IsTrue (has_sizes n)) (sym is) (open_sized (old_front_with front line) (front_with_sized front line good))

pub begin_sized : (front : Option Front) (line : List ℕ) (config : Config) → IsTrue (has_sizes front) → old_front_with front line ≡ Some (Begun config) → IsTrue (are_sizes config)
begin_sized front line config good is = subst (λ f. IsTrue (has_sizes f)) is (front_with_sized front line good)

-- ---- what a reader said

-- no line leads back to the start
not_back : (front : Front) (line : List ℕ) → FollowsTo last_old_clock front line AtStart → ⊥
not_back front line h2 = grind (arith, nat_tests)

never_at_start : (front : Option Front) (line : List ℕ) → old_front_with front line ≡ Some AtStart → ⊥
never_at_start None line e = cc
never_at_start (Some front) line e = not_back front line (old_front_after-is front line AtStart e)

pub more_said : (front : Option Front) (count : ℕ) (line : List ℕ) (new : Option Front) (new_count : ℕ) → More ≡ said_at (old_front_with front line) → new ≡ still_open (old_front_with front line) → new_count ≡ counted count →
    OldHeadContinues front count line new new_count
more_said front count line new new_count said is counts = by_found (old_front_with front line) refl said is
  where
    by_found : (found : Option Front) → old_front_with front line ≡ found → More ≡ said_at found → new ≡ still_open found → OldHeadContinues front count line new new_count
    by_found None e said is = cc
    by_found (Some AtStart) e said is = absurd (never_at_start front line e)
    by_found (Some (Within config)) e said is = record { config = config; found = e; kept = is; counts = counts }
    by_found (Some (Begun config)) e said is = cc

pub begin_said : (front : Option Front) (line : List ℕ) (config : Config) → Begin config ≡ said_at (old_front_with front line) → old_front_with front line ≡ Some (Begun config)
begin_said front line config said = grind (arith, nat_tests)

pub bad_said : (front : Option Front) (line : List ℕ) → BadLine ≡ said_at (old_front_with front line) → old_front_with front line ≡ None
bad_said front line said = grind (arith, nat_tests)

module _ (old : Option Front) (line : List ℕ) (new : Option Front) where
  pub goes_on : More ≡ said_at (old_front_with old line) → new ≡ still_open (old_front_with old line) → has_clocks_to last_early_clock new ≡ true → OldHeadGoesOn old line new
  goes_on said kept clocks =
      let more = more_said old 0 line new (counted 0) said kept refl in
      record { next = Within more.config; found = more.found; still = refl; clocks = sym (ap (has_clocks_to last_early_clock) more.kept) ∙ clocks; kept = more.kept }

  pub too_great : More ≡ said_at (old_front_with old line) → new ≡ still_open (old_front_with old line) → has_clocks_to last_early_clock new ≡ false → (next : Front) × (old_front_with old line ≡ Some next) × IsFalse (has_clocks_to last_early_clock (Some next))
  too_great said kept clocks = let more = more_said old 0 line new (counted 0) said kept refl in (Within more.config, more.found, sym (ap (has_clocks_to last_early_clock) more.kept) ∙ clocks)
