-- What the audit of a node of a world shows of a tenant.
use Rattle.std.proofs.Common.{◌≡◌, ℕ, zero, suc, ◌+◌, ◌*◌, ◌<◌, false, List, [], ◌∷◌, length, map, refl, sym, ap, ◌∙◌, subst, arith, get_or}
use Rattle.std.specs.Prelude.{is_some, slice_get, IsFalse, Option, Some, None}
use Rattle.std.specs.Option.{option_map}
use Rattle.std.specs.List.{AllByRecursion}
use Rattle.std.proofs.lemmas.List.{get_or-map}
use Rattle.cops_types.specs.declared.configs.Tenant.{Tenant}
use Rattle.cops_types.specs.OpenSlots.{open_at}
use Rattle.cops_types.specs.TenantConfig.{TenantConfig, tenant_config}
use Rattle.cops_model.specs.declared.calls.AuditEntry.{AuditEntry}
use Rattle.cops_model.specs.declared.calls.NodeId.{NodeId}
use Rattle.cops_node.specs.Clusters.{nodes_of}
use Rattle.cops_node.specs.Parts.{Shared, place_at, site_in, solo_of}
use Rattle.cops_model.specs.Place.{Place, node_number, place_of}
use Rattle.cops_model.specs.SoloNode.{SoloNode, new_node}
use Rattle.cops_model.specs.Cluster.{SoloCluster}
use Rattle.cops_model.specs.Setups.{Setup, config_in, is_open_at}
use Rattle.cops_world.specs.Trails.{audited_at}
use Rattle.cops_world.specs.Worlds.{AreSitesIn, ClusterStandsAt, IsSiteIn, World}

all_at : {A : Type 0} (P : A → Type 0) (xs : List A) (i : ℕ) (x : A) → AllByRecursion P xs → i < length xs → x ≡ get_or xs i x → P x
all_at P [] i x h lt is = absurd (omega arith)
all_at P (z ∷ xs) zero x h lt is = subst P (sym is) h.0
all_at P (z ∷ xs) (suc i) x h lt is = all_at P xs i x h.1 (omega arith) is

-- a node shows of a tenant what his own node has, in each cluster that his part of the world stands for
pub shows_own : (world : World) (slot : ℕ) (id : NodeId) (place : ℕ) (node : Shared) (shown : Option AuditEntry) →
    (config_in world.setup slot).shards ≡ world.setup.head.shards → node_number world.setup.head.shards id < length world.nodes.nodes → node ≡ get_or world.nodes.nodes (node_number world.setup.head.shards id) node →
    ((own : Place) → place_at slot node ≡ Some own → shown ≡ slice_get (solo_of slot own node).trail place) →
    (cluster : SoloCluster) → ClusterStandsAt world slot cluster → shown ≡ audited_at (config_in world.setup slot) id place cluster
shows_own world slot id place node shown shards within read told cluster stood =
    told (place_of config node.home.id) found ∙ ap (λ (solo : SoloNode). slice_get solo.trail place) solo_is
  where
    config : TenantConfig
    config = config_in world.setup slot

    solo : Shared → SoloNode
    solo n = solo_of slot (place_of config n.home.id) n

    found : place_at slot node ≡ Some (place_of config node.home.id)
    found = all_at (λ (n : Shared). place_at slot n ≡ Some (place_of config n.home.id)) world.nodes.nodes (node_number world.setup.head.shards id) node stood.has within read

    solo_is : solo node ≡ get_or cluster.nodes (node_number config.shards id) (new_node config.data_centres)
    solo_is =
        ap solo read
        ∙ sym (get_or-map solo world.nodes.nodes (node_number world.setup.head.shards id) node (new_node config.data_centres) within)
        ∙ ap (λ n. get_or (nodes_of config slot world.nodes) (id.dc * n + id.shard) (new_node config.data_centres)) (sym shards)
        ∙ ap (λ ns. get_or ns (node_number config.shards id) (new_node config.data_centres)) stood.nodes_are

-- ---- a slot without a tenant

all_at_map : {A B : Type 0} (P : B → Type 0) (f : A → B) (xs : List A) (i : ℕ) (x : A) → AllByRecursion P (map f xs) → i < length xs → x ≡ get_or xs i x → P (f x)
all_at_map P f [] i x h lt is = absurd (omega arith)
all_at_map P f (z ∷ xs) zero x h lt is = subst (λ y. P (f y)) (sym is) h.0
all_at_map P f (z ∷ xs) (suc i) x h lt is = all_at_map P f xs i x h.1 (omega arith) is

nobody : (o : Option Tenant) → is_some o ≡ false → o ≡ None
nobody None e = refl
nobody (Some tenant) e = absurd cc

-- no node has a place for it
pub vacant_at : (setup : Setup) (slot : ℕ) (nodes : List Shared) (number : ℕ) (node : Shared) → AreSitesIn setup (map site_in nodes) → number < length nodes → node ≡ get_or nodes number node →
    IsFalse (is_open_at setup slot) → place_at slot node ≡ None
vacant_at setup slot nodes number node sites within read closed =
    let site = all_at_map (IsSiteIn setup) site_in nodes number node sites.each within read in
    site.places_are slot ∙ ap (option_map (λ (tenant : Tenant). place_of (tenant_config setup.head tenant) node.home.id)) (nobody (open_at slot setup.tenants) closed)
