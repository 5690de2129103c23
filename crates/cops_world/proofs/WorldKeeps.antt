-- What a world keeps whatever its tenants do: its actors run at its nodes, and its tenants have its sizes.
use Rattle.std.proofs.Common.{◌≡◌, ℕ, zero, suc, ◌+◌, ◌-◌, ◌*◌, ◌<◌, ◌≤◌, Bool, true, false, true≢false, ◌&&◌, cond, List, [], ◌∷◌, ◌++◌, length, map, ◌⊎◌, inl, inr, refl, sym, subst, ap, ◌∙◌, arith}
use Rattle.std.specs.Prelude.{IfOk, OnErr, Option, Some, None, Result, Ok, Err, IsTrue, is_some, replicate, slice_get, slice_index_or}
use Rattle.std.specs.declared.alloc.AllocError.{AllocError}
use Rattle.std.specs.Option.{option_map}
use Rattle.std.specs.List.{AllByRecursion, list_all, range_with_len}
use Rattle.cops_types.specs.HeadLines.{are_sizes, is_tenant, most_tenants}
use Rattle.cops_types.specs.OpenSlots.{begun_with, open_at}
use Rattle.cops_script.specs.GoodHeads.{is_good}
use Rattle.cops_types.proofs.WordLemmas.{same_value}
use Rattle.cops_types.specs.declared.configs.Config.{Config}
use Rattle.cops_types.specs.declared.configs.Tenant.{Tenant}
use Rattle.cops_types.specs.TenantConfig.{TenantConfig, tenant_config}
use Rattle.cops_node.specs.Clusters.{Cluster, HasTenant, IsCall, id_of, new_nodes, new_shared, nodes_of, shape_of}
use Rattle.cops_model.specs.declared.calls.NodeCall.{NodeCall}
use Rattle.cops_model.specs.declared.calls.NodeId.{NodeId}
use Rattle.cops_model.specs.declared.calls.NodeReply.{NodeReply}
use Rattle.cops_node.specs.Parts.{Site, home_of, place_under, site_in, terms_of}
use Rattle.cops_model.specs.Place.{place_of}
use Rattle.cops_node.specs.declared.Shape.{Shape}
use Rattle.cops_model.specs.SoloNode.{new_node}
use Rattle.cops_model.specs.Events.{config_at}
use Rattle.cops_model.specs.Setups.{Setup, config_in, config_of, is_open_at, new_setup}
use Rattle.cops_model.specs.Cluster.{new_cluster}
use Rattle.cops_world.specs.declared.actors.Actor.{Actor as Kept}
use Rattle.cops_world.specs.declared.actors.ActorId.{ActorId}
use Rattle.cops_world.specs.Actors.{AreSame}
use Rattle.cops_world.specs.ActorsStand.{ActorStandsFor, RunsAt, actor_ended}
use Rattle.cops_world.specs.ActorTables.{Places, PutsBack, Table, actor_at, count_at, same_actor}
use Rattle.cops_world.specs.Worlds.{AreSitesIn, HasOpenCluster, IsLeft, IsSiteIn, IsKeptWorld, IsWorld, KeptWorld, world_of}
use Rattle.cops_script.specs.Sizes.{HasSizes}
use Rattle.cops_world.proofs.ActorTableLemmas.{same_actor-is, same_actor-refl}
use Rattle.cops_script.proofs.BegunSetups.{config_begun, open_begun, open_within}
use Rattle.cops_script.proofs.TenantConfigs.{quota_at, tenant_at, tenant_within}
use Rattle.cops_world.proofs.WorldSteps.{CountsAfter, table_after}

and_left : (a b : Bool) → (a && b) ≡ true → a ≡ true
and_left true b h = refl
and_left false b h = absurd (true≢false (sym h))

and_right : (a b : Bool) → (a && b) ≡ true → b ≡ true
and_right true b h = h
and_right false b h = absurd (true≢false (sym h))

-- ---- a tenant's configuration

-- ---- the tenants who are open

-- an open tenant has the sizes of the head
pub sizes_in : (setup : Setup) (slot : ℕ) → IsTrue (is_open_at setup slot) → HasSizes (config_in setup slot) setup.head
sizes_in setup slot there = by (open_at slot setup.tenants) there
  where
    by : (o : Option Tenant) → IsTrue (is_some o) → HasSizes (config_of setup.head o) setup.head
    by None h = absurd (true≢false (sym h))
    by (Some tenant) h = record { data_centres = refl; shards = refl; restarts = refl }

pub below_in : (tenants : List (Option Tenant)) (slot : ℕ) → IsTrue (is_some (open_at slot tenants)) → slot < length tenants
below_in [] slot there = absurd (true≢false (sym there))
below_in (o ∷ tenants) zero there = omega arith
below_in (o ∷ tenants) (suc slot) there = let rest = below_in tenants slot there in omega (arith, rest)

pub below_tables : (kept : KeptWorld) → IsKeptWorld kept → (slot : ℕ) → IsTrue (is_open_at kept.setup slot) → slot < kept.table.slots
below_tables kept is slot there = subst (λ n. slot < n) (sym is.tabled) (below_in kept.setup.tenants slot there)

-- ---- the actors

abbrev pub AllRunIn : Shape → (ActorId → Option Kept) → Type 0
AllRunIn shape actors = (id : ActorId) (actor : Kept) → actors id ≡ Some actor → RunsAt shape id.slot actor

-- each is of a tenant who is open
abbrev pub AllHosted : Setup → (ActorId → Option Kept) → Type 0
AllHosted setup actors = (id : ActorId) (actor : Kept) → actors id ≡ Some actor → IsTrue (is_open_at setup id.slot)

pub hosted_after : (setup : Setup) (old new : ActorId → Option Kept) (id : ActorId) (after : Option Kept) → ((q : ActorId) → new q ≡ cond (same_actor id q) after (old q)) →
    AllHosted setup old → ((actor : Kept) → after ≡ Some actor → IsTrue (is_open_at setup id.slot)) → AllHosted setup new
hosted_after setup old new id after updates before own q actor there = by (same_actor id q) refl
  where
    by : (t : Bool) → same_actor id q ≡ t → IsTrue (is_open_at setup q.slot)
    by true e = subst (λ (i : ActorId). IsTrue (is_open_at setup i.slot)) (same_actor-is id q e) (own actor (ap (λ b. cond b after (old q)) (sym e) ∙ sym (updates q) ∙ there))
    by false e = before q actor (ap (λ b. cond b after (old q)) (sym e) ∙ sym (updates q) ∙ there)

-- one of them was put in, put back or taken out
pub runs_after : (shape : Shape) (old new : ActorId → Option Kept) (id : ActorId) (after : Option Kept) → ((q : ActorId) → new q ≡ cond (same_actor id q) after (old q)) →
    AllRunIn shape old → ((actor : Kept) → after ≡ Some actor → RunsAt shape id.slot actor) → AllRunIn shape new
runs_after shape old new id after updates before own q actor there = by (same_actor id q) refl
  where
    by : (t : Bool) → same_actor id q ≡ t → RunsAt shape q.slot actor
    by true e = subst (λ (i : ActorId). RunsAt shape i.slot actor) (same_actor-is id q e) (own actor (ap (λ b. cond b after (old q)) (sym e) ∙ sym (updates q) ∙ there))
    by false e = before q actor (ap (λ b. cond b after (old q)) (sym e) ∙ sym (updates q) ∙ there)

-- ---- limits

-- ---- the table after a step

-- the actor was put back
pub back_table : (old new : ActorId → Option Kept) (id : ActorId) (after : Kept) (over : Bool) → over ≡ false → ((q : ActorId) → new q ≡ cond (same_actor id q) (Some after) (old q)) →
    (q : ActorId) → new q ≡ table_after over old id after q
back_table old new id after over goes_on puts q = puts q ∙ sym (ap (λ b. table_after b old id after q) goes_on)

-- the actor was put back, and then taken out
pub left_table : (old mid new : ActorId → Option Kept) (id : ActorId) (after : Kept) (over : Bool) → over ≡ true → ((q : ActorId) → mid q ≡ cond (same_actor id q) (Some after) (old q)) →
    ((q : ActorId) → new q ≡ cond (same_actor id q) None (mid q)) → (q : ActorId) → new q ≡ table_after over old id after q
left_table old mid new id after over is puts leaves q =
    leaves q ∙ ap (cond (same_actor id q) None) (puts q) ∙ twice (same_actor id q) ∙ sym (ap (λ b. table_after b old id after q) is)
  where
    twice : (t : Bool) → cond t None (cond t (Some after) (old q)) ≡ cond t None (old q)
    twice true = refl
    twice false = refl

-- how many actors there are then: as many, or one less
pub counts_back : (old new : Table) (id : ActorId) (after : Kept) (over : Bool) → over ≡ false → PutsBack old id after new → CountsAfter over (count_at old) id.slot (count_at new)
counts_back old new id after over goes_on back = record { own = none_less ∙ back.1; others = back.0.others }
  where
    none_less : count_at new id.slot + cond over 1 0 ≡ count_at new id.slot
    none_less = ap (λ b. count_at new id.slot + cond b 1 0) goes_on ∙ omega arith

pub counts_left : (old mid new : Table) (id : ActorId) (after : Kept) (over : Bool) → over ≡ true → PutsBack old id after mid → Places mid id None new → count_at new id.slot + 1 ≡ count_at mid id.slot →
    CountsAfter over (count_at old) id.slot (count_at new)
counts_left old mid new id after over is back out less = record {
  own = ap (λ b. count_at new id.slot + cond b 1 0) is ∙ less ∙ back.1;
  others = λ other differ. out.others other differ ∙ back.0.others other differ;
}

-- it is the one that is there
pub put_back : (old new : Table) (id : ActorId) (after : Kept) → PutsBack old id after new → actor_at new id ≡ Some after
put_back old new id after back = back.0.at id ∙ ap (λ b. cond b (Some after) (actor_at old id)) (same_actor-refl id)

-- what a step leaves once its actor was taken out, where it has ended
pub record HasLeft (old : KeptWorld) (id : ActorId) (after : Kept) (nodes : Cluster) (left : KeptWorld) : Type 0 where
  pub setup : left.setup ≡ old.setup
  pub nodes_are : left.nodes ≡ nodes
  pub table : (q : ActorId) → actor_at left.table q ≡ table_after (actor_ended after) (actor_at old.table) id after q
  pub counts : CountsAfter (actor_ended after) (count_at old.table) id.slot (count_at left.table)

pub has_left : (old : KeptWorld) (id : ActorId) (after : Kept) (mid : Table) (nodes : Cluster) (left : KeptWorld) → PutsBack old.table id after mid → IsLeft id (record old { nodes = nodes; table = mid }) left → HasLeft old id after nodes left
has_left old id after mid nodes left back is_left = elim (is_left after (put_back old.table mid id after back)) [
  | inl over ↦ record {
    setup = ap (λ (k : KeptWorld). k.setup) over.1.rest;
    nodes_are = ap (λ (k : KeptWorld). k.nodes) over.1.rest;
    table = left_table (actor_at old.table) (actor_at mid) (actor_at left.table) id after (actor_ended after) over.0 back.0.at over.1.out.at;
    counts = counts_left old.table mid left.table id after (actor_ended after) over.0 back over.1.out over.1.count;
  }
  | inr stays ↦ record {
    setup = ap (λ (k : KeptWorld). k.setup) stays.1;
    nodes_are = ap (λ (k : KeptWorld). k.nodes) stays.1;
    table = λ q. ap (λ (k : KeptWorld). actor_at k.table q) stays.1 ∙ back_table (actor_at old.table) (actor_at mid) id after (actor_ended after) stays.0 back.0.at q;
    counts = subst (λ (k : KeptWorld). CountsAfter (actor_ended after) (count_at old.table) id.slot (count_at k.table)) (sym stays.1) (counts_back old.table mid id after (actor_ended after) stays.0 back);
  }
]

-- ---- the world as it is kept

-- one actor was put in, put back or taken out
pub kept_placed : (old : KeptWorld) → IsKeptWorld old → (id : ActorId) (after : Option Kept) (table : Table) → Places old.table id after table →
    ((actor : Kept) → after ≡ Some actor → RunsAt (shape_of old.setup.head) id.slot actor × IsTrue (is_open_at old.setup id.slot)) → IsKeptWorld (record { setup = old.setup; nodes = old.nodes; table = table })
kept_placed old kept id after table places own =
    let whole = kept.whole in
    record {
      whole = record {
        shape_is = whole.shape_is;
        sites_are = whole.sites_are;
        good = whole.good;
        tenants_good = whole.tenants_good;
        enough = whole.enough;
        run = runs_after (shape_of old.setup.head) (actor_at old.table) (actor_at table) id after places.at whole.run (λ actor is. (own actor is).0);
        hosted = hosted_after old.setup (actor_at old.table) (actor_at table) id after places.at whole.hosted (λ actor is. (own actor is).1);
      };
      tabled = places.slots ∙ kept.tabled;
    }

-- one was put in, or there was no memory for it
pub kept_joined : (old : KeptWorld) → IsKeptWorld old → (id : ActorId) (actor : Kept) (table : Table) (done : Result Bool AllocError) →
    IfOk done (λ added. added ≡ true → Places old.table id (Some actor) table) → IfOk done (λ added. added ≡ false → table ≡ old.table) → OnErr done (table ≡ old.table) →
    RunsAt (shape_of old.setup.head) id.slot actor → IsTrue (is_open_at old.setup id.slot) → IsKeptWorld (record { setup = old.setup; nodes = old.nodes; table = table })
kept_joined old kept id actor table (Ok true) places same lack runs there = kept_placed old kept id (Some actor) table (places refl) (λ other is. (subst (RunsAt (shape_of old.setup.head) id.slot) (same_value actor other is) runs, there))
kept_joined old kept id actor table (Ok false) places same lack runs there = subst (λ t. IsKeptWorld (record { setup = old.setup; nodes = old.nodes; table = t })) (sym (same refl)) kept
kept_joined old kept id actor table (Err error) places same lack runs there = subst (λ t. IsKeptWorld (record { setup = old.setup; nodes = old.nodes; table = t })) (sym lack) kept

-- a call was made at the nodes
pub kept_called : (old : KeptWorld) → IsKeptWorld old → (nodes : Cluster) → nodes.shape ≡ old.nodes.shape → map site_in nodes.nodes ≡ map site_in old.nodes.nodes → IsKeptWorld (record { setup = old.setup; nodes = nodes; table = old.table })
kept_called old kept nodes shape same =
    let whole = kept.whole in
    record {
      whole = record {
        shape_is = shape ∙ whole.shape_is;
        sites_are = subst (AreSitesIn old.setup) (sym same) whole.sites_are;
        good = whole.good;
        tenants_good = whole.tenants_good;
        enough = whole.enough;
        run = whole.run;
        hosted = whole.hosted;
      };
      tabled = kept.tabled;
    }

-- ---- a new world

-- an empty table
abbrev pub no_actors : ℕ → Table
no_actors slots = record { slots = slots; actors = [] }

-- ---- the tenants of the head are open at first

long_begun : (tenants : List Tenant) (free : ℕ) → length (map (λ (t : Tenant). Some t) tenants ++ replicate free None) ≡ length tenants + free
long_begun [] zero = refl
long_begun [] (suc free) = let more = long_begun [] free in omega (arith, more)
long_begun (t ∷ tenants) free = let more = long_begun tenants free in omega (arith, more)

pub enough_begun : (tenants : List Tenant) → most_tenants ≤ length (begun_with tenants)
enough_begun tenants = let long = long_begun tenants (most_tenants - length tenants) in omega (arith, long)

-- each tenant of a new world has a new cluster
pub new_stands : (config : Config) (nodes : Cluster) (kept : KeptWorld) → kept.setup ≡ new_setup config → kept.nodes ≡ nodes → (slots : ℕ) → kept.table ≡ no_actors slots →
    ((slot : ℕ) (tenant : Tenant) → slice_get config.tenants slot ≡ Some tenant → HasTenant (tenant_config config tenant) slot nodes) →
    ((slot : ℕ) (tenant : Tenant) → slice_get config.tenants slot ≡ Some tenant → nodes_of (tenant_config config tenant) slot nodes ≡ replicate (config.data_centres * config.shards) (new_node config.data_centres)) →
    (slot : ℕ) → slot < length config.tenants → HasOpenCluster kept slot (new_cluster (config_at config slot))
new_stands config nodes kept setup_is nodes_are slots none tenants fresh slot within =
    let at = tenant_at config.tenants slot within in
    let quota = quota_at config slot at.0 at.1 in
    let own = config_begun config slot in
    let Fresh : TenantConfig → Type 0 = λ c. HasTenant c slot nodes × (nodes_of c slot nodes ≡ (new_cluster (config_at config slot)).nodes) in
    let his : Fresh (tenant_config config at.0) = subst (λ c. HasTenant (tenant_config config at.0) slot nodes × (nodes_of (tenant_config config at.0) slot nodes ≡ (new_cluster c).nodes)) (sym quota) (tenants slot at.0 at.1, fresh slot at.0 at.1) in
    let stood = subst Fresh (sym (own ∙ quota)) his in
    let new : KeptWorld = record { setup = new_setup config; nodes = nodes; table = no_actors slots } in
    subst (λ (k : KeptWorld). HasOpenCluster k slot (new_cluster (config_at config slot)))
    (λ i. record { setup = sym setup_is i; nodes = sym nodes_are i; table = sym none i })
    (record {
      open_there = open_within config slot within;
      has = stood.0;
      nodes_are = stood.1;
      actors_are = record { same = λ name. tt; distinct = tt };
      count_is = refl;
    })

-- ---- the nodes stay those of the configuration

abbrev sites : Cluster → List Site
sites cluster = map site_in cluster.nodes

-- after one call at one of them, or none
pub sites_stay : (old new : Cluster) (slot : ℕ) → (new ≡ old) ⊎ ((id : NodeId) × (at : ℕ) × (call : NodeCall) × (reply : NodeReply) × IsCall old id slot at call reply new) →
    map site_in new.nodes ≡ map site_in old.nodes
sites_stay old new slot (inl same) = ap sites same
sites_stay old new slot (inr (id, at, call, reply, made)) = made.sites

-- ---- a world without actors, at new nodes

place_begun : (config : Config) (id : NodeId) (tenants : List Tenant) (slot : ℕ) →
    option_map (place_under (home_of config id)) (slice_index_or (map (λ tenant. Some (terms_of tenant)) tenants) slot None) ≡ option_map (λ tenant. place_of (tenant_config config tenant) id) (slice_get tenants slot)
place_begun config id [] slot = refl
place_begun config id (t ∷ tenants) zero = refl
place_begun config id (t ∷ tenants) (suc slot) = place_begun config id tenants slot

-- the sites of a configuration's nodes
sites_begun : (config : Config) → AreSitesIn (new_setup config) (sites (new_nodes config))
sites_begun config = record { all = count 0 (config.data_centres * config.shards); each = each (range_with_len 0 (config.data_centres * config.shards)) }
  where
    count : (at n : ℕ) → length (map site_in (map (new_shared config) (range_with_len at n))) ≡ n
    count at zero = refl
    count at (suc n) = ap suc (count (at + 1) n)

    each : (numbers : List ℕ) → AllByRecursion (IsSiteIn (new_setup config)) (map site_in (map (new_shared config) numbers))
    each [] = tt
    each (number ∷ numbers) = (
      record {
        shape_is = refl;
        trans_time_is = refl;
        places_are = λ slot.
            place_begun config (id_of config.shards number) config.tenants slot
            ∙ ap (option_map (λ tenant. place_of (tenant_config config tenant) (id_of config.shards number))) (sym (open_begun config.tenants slot));
      },
      each numbers,
    )

pub kept_at_first : (config : Config) (tenants : List (Option Tenant)) (nodes : Cluster) (table : Table) → IsTrue (is_good config) → tenants ≡ begun_with config.tenants → nodes ≡ new_nodes config →
    table ≡ no_actors (length tenants) → IsKeptWorld (record { setup = record { head = config; tenants = tenants }; nodes = nodes; table = table })
kept_at_first config tenants nodes table good begun nodes_are none =
    let slots = length tenants in
    let first : KeptWorld = record { setup = new_setup config; nodes = new_nodes config; table = no_actors slots } in
    let whole : IsWorld (world_of first) = record {
      shape_is = refl;
      sites_are = sites_begun config;
      good = good;
      tenants_good = λ slot tenant e.
          tenant_within config.tenants slot tenant (and_right (are_sizes config) (list_all is_tenant config.tenants) good) (sym (open_begun config.tenants slot) ∙ e);
      enough = enough_begun config.tenants;
      run = λ id actor e. absurd (true≢false (ap is_some (sym e)));
      hosted = λ id actor e. absurd (true≢false (ap is_some (sym e)));
    } in
    let kept : IsKeptWorld first = record { whole = whole; tabled = ap length begun } in
    subst IsKeptWorld (λ i. record { setup = record { head = config; tenants = sym begun i }; nodes = sym nodes_are i; table = sym none i }) kept
