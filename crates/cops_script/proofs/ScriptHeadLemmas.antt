-- A whole head, as its lines are led through and as one record.
use Rattle.std.proofs.Common.{◌≡◌, ℕ, ◌+◌, ◌<◌, ◌≤◌, true, ◌&&◌, true≢false, List, [], ◌∷◌, ◌++◌, length, inl, inr, refl, sym, subst, ap, ◌∙◌, length-append, arith}
use Rattle.std.specs.Prelude.{nat_lt}
use Rattle.std.proofs.lemmas.Bool.Decides.{nat_tests}
use Rattle.cops_types.specs.declared.configs.Config.{Config}
use Rattle.cops_types.specs.declared.configs.Tenant.{Tenant}
use Rattle.cops_types.specs.Head.{AtStart, Within, Begun, IsHead, Leads, is_begun, with_tenant}
use Rattle.cops_types.specs.HeadLines.{are_sizes, begin_line, cluster_line, is_distinct, most_tenants}
use Rattle.cops_types.proofs.WordLemmas.{both}
use Rattle.cops_script.specs.ScriptHeads.{AreTenantLines, IsWholeHead}

-- ---- from a head that is led through

-- what the lines after the cluster's give
record TenantsLed (old config : Config) (lines : List (List ℕ)) : Type 0 where
  pub tenants : List (List ℕ)
  pub spelled : lines ≡ tenants ++ begin_line ∷ []
  pub same : config ≡ record old { tenants = config.tenants }
  pub each : AreTenantLines old.tenants tenants config.tenants
  pub few : length config.tenants ≤ most_tenants

same_config : (one other : Config) → Begun one ≡ Begun other → one ≡ other
same_config one other e = cc

nothing_more : (old config : Config) (lines : List (List ℕ)) → Leads (Begun old) lines (Begun config) → (lines ≡ []) × (config ≡ old)
nothing_more old config [] led = (refl, same_config config old led)
nothing_more old config (line ∷ lines) (next, follows, led) = absurd follows

tenants_led : (old config : Config) (lines : List (List ℕ)) → length old.tenants ≤ most_tenants → Leads (Within old) lines (Begun config) → TenantsLed old config lines
tenants_led old config [] few led = absurd (true≢false (ap is_begun led))
tenants_led old config (line ∷ lines) few (next, inl joins, led) =
    let may = both (nat_lt (length old.tenants) most_tenants) (is_distinct old.tenants joins.tenant) joins.may in
    let room : length old.tenants < most_tenants = (let test = may.0 in grind (arith, nat_tests)) in
    let size = length-append old.tenants (joins.tenant ∷ []) in
    let rest = tenants_led (with_tenant old joins.tenant) config lines (omega (arith, room, size)) (subst (λ f. Leads f lines (Begun config)) joins.after led) in
    record {
      tenants = line ∷ rest.tenants;
      spelled = ap (λ ls. line ∷ ls) rest.spelled;
      same = rest.same;
      each = (joins.tenant, joins.said, may.1, rest.each);
      few = rest.few;
    }
tenants_led old config (line ∷ lines) few (next, inr ends, led) =
    let last = nothing_more old config lines (subst (λ f. Leads f lines (Begun config)) ends.after led) in
    record {
      tenants = [];
      spelled = (λ i. ends.said i ∷ last.0 i);
      same = last.1 ∙ ap (λ ts. record old { tenants = ts }) (ap (λ (c : Config). c.tenants) (sym last.1));
      each = ap (λ (c : Config). c.tenants) last.1;
      few = subst (λ (c : Config). length c.tenants ≤ most_tenants) (sym last.1) few;
    }

pub head_whole : (head : List (List ℕ)) (config : Config) → IsHead head config → IsWholeHead head config
head_whole [] config led = absurd (true≢false (ap is_begun led))
head_whole (line ∷ lines) config (next, (old, is, at), led) =
    let none : length old.tenants ≤ most_tenants = (let size = ap length is.bare in omega (arith, size)) in
    let rest = tenants_led old config lines none (subst (λ f. Leads f lines (Begun config)) at led) in
    record {
      tenants = rest.tenants;
      spelled = (λ i. (is.spelled ∙ ap cluster_line (sym rest.same)) i ∷ rest.spelled i);
      sizes = ap are_sizes rest.same ∙ is.within;
      each = subst (λ ts. AreTenantLines ts rest.tenants config.tenants) is.bare rest.each;
      few = rest.few;
    }

-- ---- and back

longer : (before : List Tenant) (lines : List (List ℕ)) (all : List Tenant) → AreTenantLines before lines all → length before + length lines ≡ length all
longer before [] all is = let size = ap length is in omega (arith, size)
longer before (line ∷ lines) all (tenant, said, distinct, rest) =
    let size = length-append before (tenant ∷ []) in
    let more = longer (before ++ tenant ∷ []) lines all rest in
    omega (arith, size, more)

leads_tenants : (old : Config) (lines : List (List ℕ)) (all : List Tenant) → length all ≤ most_tenants → AreTenantLines old.tenants lines all → Leads (Within old) (lines ++ begin_line ∷ []) (Begun (record old { tenants = all }))
leads_tenants old [] all few is = (Begun old, inr (record { said = refl; after = refl }), ap (λ ts. Begun (record old { tenants = ts })) is)
leads_tenants old (line ∷ lines) all few (tenant, said, distinct, rest) =
    let size = longer old.tenants (line ∷ lines) all (tenant, said, distinct, rest) in
    let room : nat_lt (length old.tenants) most_tenants ≡ true = (let low : length old.tenants < most_tenants = omega (arith, size, few) in grind (arith, nat_tests)) in (
      Within (with_tenant old tenant),
      inl (record { tenant = tenant; said = said; may = (λ i. room i && distinct i); after = refl }),
      leads_tenants (with_tenant old tenant) lines all few rest,
    )

-- the cluster without its tenants
abbrev emptied : Config → Config
emptied config = record config { tenants = [] }

pub whole_head : (head : List (List ℕ)) (config : Config) → IsWholeHead head config → IsHead head config
whole_head head config is = subst (λ ls. IsHead ls config) (sym is.spelled) led
  where
    led : Leads AtStart (cluster_line config ∷ (is.tenants ++ begin_line ∷ [])) (Begun config)
    led = (Within (emptied config), (emptied config, record { spelled = refl; within = is.sizes; bare = refl }, refl), leads_tenants (emptied config) is.tenants config.tenants is.few is.each)
