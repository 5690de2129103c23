-- Which nodes are a configuration's.
use Rattle.cops_replay.proofs.Names.{◌≡◌, ℕ, suc, ◌*◌, ◌<◌, ◌≤◌, List, [], ◌∷◌, length, get_or, refl, sym, ap, ◌∙◌, arith, Option, Some, option_map, AllByRecursion, slice_get-get_or, nat_tests, Config, Tenant, NODES, tenant_config, id_of, Shared, place_at, place_of, AreNodesOf, AreNodesOfOpen, Home, Terms, home_of, place_under, site_in, site_of, terms_at, terms_of, place_new, HaveTenants}
use Rattle.cops_replay.proofs.AuditTexts.{each_at}

all_from : (P : Shared → Type 0) (nodes : List Shared) → ((i : ℕ) (node : Shared) → i < length nodes → node ≡ get_or nodes i node → P node) → AllByRecursion P nodes
all_from P [] h = tt
all_from P (node ∷ nodes) h = (h 0 node (omega arith) refl, all_from P nodes (λ i n below is. h (suc i) n (omega arith) is))

-- nodes with the homes and the terms of a configuration's nodes, by number
pub nodes_with_sites : (config : Config) (nodes : List Shared) → config.data_centres * config.shards ≤ NODES → length nodes ≡ config.data_centres * config.shards →
    ((number : ℕ) (node : Shared) → number < length nodes → node ≡ get_or nodes number node → site_in node ≡ site_of config (id_of config.shards number)) → AreNodesOf config nodes
nodes_with_sites config nodes fit all each = grind (arith, nat_tests, all_from, place_new)

-- nodes with the homes of a configuration's nodes, by number, that have the open tenants
pub nodes_with_homes : (config : Config) (tenants : List (Option Tenant)) (nodes : List Shared) → config.data_centres * config.shards ≤ NODES → length nodes ≡ config.data_centres * config.shards →
    ((number : ℕ) (node : Shared) → number < length nodes → node ≡ get_or nodes number node → node.home ≡ home_of config (id_of config.shards number)) → HaveTenants tenants nodes → AreNodesOfOpen config tenants nodes
nodes_with_homes config tenants nodes fit all each have = record {
  by_number = record {
    numbers_fit = fit;
    all = all;
    each = λ number node below is. (ap (λ (h : Home). h.id) (each number node below is), ap (λ (h : Home). h.shape) (each number node below is));
  };
  each_tenant = λ slot tenant e. all_from (λ (n : Shared). place_at slot n ≡ Some (place_of (tenant_config config tenant) n.home.id)) nodes (λ number node below is.
      let home = each number node below is in
      let terms : terms_at slot node ≡ Some (terms_of tenant) = each_at (λ (n : Shared). terms_at slot n ≡ Some (terms_of tenant)) nodes number node (have slot tenant e) (slice_get-get_or nodes number node below ∙ ap Some (sym is)) in
      ap (λ (o : Option Terms). option_map (place_under node.home) o) terms
      ∙ ap (λ (h : Home). Some (place_under h (terms_of tenant))) home
      ∙ ap (λ (h : Home). Some (place_of (tenant_config config tenant) h.id)) (sym home));
}
