-- A tenant comes to a world, or goes from it.
use Rattle.std.proofs.Common.{◌≡◌, ◌≢◌, inl, inr, ℕ, zero, suc, ◌<◌, ◌≤◌, Bool, true, false, true≢false, ◌&&◌, ◌||◌, List, [], ◌∷◌, length, map, set, refl, sym, subst, ap, ◌∙◌, arith}
use Rattle.std.specs.Prelude.{Option, Some, None, IsTrue, IfNone, IfOk, IfSome, is_ok, is_some, nat_le, replicate, Result, Ok, Err, IsOk, OnErr, OnOk}
use Rattle.std.specs.declared.alloc.AllocError.{AllocError}
use Rattle.std.specs.List.{AllByRecursion, list_any}
use Rattle.std.specs.Option.{option_map}
use Rattle.std.proofs.Math.ListN.{length-set}
use Rattle.std.proofs.lemmas.Bool.{leb-true}
use Rattle.std.proofs.lemmas.Bool.Decides.{eqb_tells, nat_tests}
use Rattle.cops_types.specs.declared.configs.Tenant.{Tenant}
use Rattle.cops_types.specs.declared.faults.Fault.{Fault}
use Rattle.cops_types.specs.declared.request_errors.RequestError.{RequestError}
use Rattle.cops_types.specs.declared.request_errors.RequestError.TheVariants.{OutOfMemory, Refused as RefusedWith}
use Rattle.cops_types.specs.HeadLines.{is_name, is_quota, is_tenant}
use Rattle.cops_types.specs.Version.{last_clock}
use Rattle.cops_types.specs.OpenSlots.{admission_refusal, open_at}
use Rattle.cops_types.specs.RequestErrors.{IfRefusal}
use Rattle.cops_types.specs.TenantConfig.{TenantConfig, tenant_config}
use Rattle.cops_node.specs.Clusters.{Cluster, HasTenant, nodes_of}
use Rattle.cops_node.specs.Lives.{AtEach, IsAdmitted, IsClosed}
use Rattle.cops_node.specs.declared.Home.{Home}
use Rattle.cops_node.specs.Parts.{IsSlotKept, Shared, Site, is_taken, left_by, place_at, place_for, site_in, solo_of, trail_of}
use Rattle.cops_model.specs.Place.{Place, place_of}
use Rattle.cops_model.specs.SoloNode.{new_node}
use Rattle.cops_model.specs.declared.acts.Event.{Event}
use Rattle.cops_model.specs.declared.replies.Reply.{Reply}
use Rattle.cops_model.specs.declared.replies.Reply.TheVariants.{Refused}
use Rattle.cops_model.specs.Cluster.{ActEffect, SoloCluster, cluster_step, new_cluster}
use Rattle.cops_model.specs.Setups.{Setup, config_in, config_of, is_open_at, next_slot}
use Rattle.cops_world.specs.declared.actors.Actor.{Actor as Kept}
use Rattle.cops_world.specs.declared.actors.ActorId.{ActorId}
use Rattle.cops_script.specs.Acting.{HasActed, HasClosed, IsAdmission, TellsExactly}
use Rattle.cops_world.specs.Actors.{ActorsStandFor, AreSame}
use Rattle.cops_world.specs.ActorTables.{IsClearedOf, Table, count_at}
use Rattle.cops_world.specs.ActorsStand.{ActorStandsFor}
use Rattle.cops_model.specs.Lacks.{Lacks}
use Rattle.cops_world.specs.Worlds.{Admits, AreSitesIn, ClusterStandsAt, Closes, HasOpenCluster, IsKeptWorld, IsSiteIn, IsWorld, KeptWorld, Leaves, Moves, StaysOpen, World, open_setup, world_of}
use Rattle.cops_world.proofs.ActorTableLemmas.{nobody}
use Rattle.cops_script.proofs.OpenSets.{MayBeGiven, may_be_given, open_set_other, open_set_same}
use Rattle.cops_world.proofs.WorldJoins.{refused_moves}
use Rattle.cops_world.proofs.WorldKeeps.{AllHosted, below_in}
use Rattle.cops_world.proofs.WorldMoves.{kept_alike}

-- ---- while no tenant comes or goes

-- an act of a tenant
pub has_acted : (old : KeptWorld) (event : Event) (answered : Result Reply AllocError) (new : KeptWorld) → Moves (TellsExactly event.act) (λ config. cluster_step config event.act) (world_of old) event.slot answered (world_of new) →
    Leaves (λ config. Lacks config event.act) (world_of old) event.slot answered (world_of new) → HasActed open_setup HasOpenCluster old event answered new
has_acted old event answered new moves leaves = record { same = moves.same; own = moves.own; lack = leaves; others = moves.others }

-- at a slot without a tenant nothing is done
pub vacant_moves : (Exact : Reply → Type 0) (turn_of : TenantConfig → SoloCluster → ActEffect) (old : World) (slot : ℕ) (fault : Fault) → is_open_at old.setup slot ≡ false → Moves Exact turn_of old slot (Ok (Refused fault)) old
vacant_moves Exact turn_of old slot fault vacant = refused_moves Exact turn_of old slot fault (λ cluster h. absurd (true≢false (sym h.open_there ∙ vacant)))

-- ---- slots

-- given and taken again
pub set_back : (tenants : List (Option Tenant)) (slot : ℕ) (o : Option Tenant) → open_at slot tenants ≡ None → set (set tenants slot o) slot None ≡ tenants
set_back [] slot o vacant = refl
set_back (None ∷ tenants) zero o vacant = refl
set_back (Some t ∷ tenants) zero o vacant = absurd (true≢false (ap is_some vacant))
set_back (t ∷ tenants) (suc slot) o vacant = ap (λ ts. t ∷ ts) (set_back tenants slot o vacant)

-- there was a tenant where the slot was taken from him
abbrev pub OkIsErr : Unit {0} → Fault → Type 0
OkIsErr done fault = let result : Result (Unit {0}) Fault = Ok done in result ≡ Err fault

pub opened : (o : Option Tenant) (done : Unit {0}) (fault : Fault) → IfNone o (OkIsErr done fault) → IsTrue (is_some o)
opened None done fault h = absurd cc
opened (Some tenant) done fault h = refl

-- the same of a request
abbrev pub OkIsRefused : Unit {0} → Fault → Type 0
OkIsRefused done fault = let result : Result (Unit {0}) RequestError = Ok done in result ≡ Err (RefusedWith fault)

unrefused_if : (refusal : Option Fault) (done : Unit {0}) → IfSome refusal (OkIsRefused done) → refusal ≡ None
unrefused_if None done h = refl
unrefused_if (Some fault) done h = absurd cc

-- a slot that was given could be
pub was_given : (tenants : List (Option Tenant)) (slot : ℕ) (tenant : Tenant) (done : Unit {0}) → IfSome (admission_refusal tenants slot tenant) (OkIsRefused done) → MayBeGiven tenants slot
was_given tenants slot tenant done h = may_be_given tenants slot tenant (unrefused_if (admission_refusal tenants slot tenant) done h)

-- and only running out of memory refuses that
pub no_refusal : (P : Fault → Type 0) (tenants : List (Option Tenant)) (slot : ℕ) (tenant : Tenant) (done : Unit {0}) → IfSome (admission_refusal tenants slot tenant) (OkIsRefused done) → IfSome (admission_refusal tenants slot tenant) P
no_refusal P tenants slot tenant done h = subst (λ o. IfSome o P) (sym (unrefused_if (admission_refusal tenants slot tenant) done h)) tt

-- a tenant within the limits begins at a number that a clock has
pub clock_within : (tenant : Tenant) → IsTrue (is_tenant tenant) → tenant.first_clock ≤ last_clock
clock_within tenant good =
    leb-true tenant.first_clock last_clock (right (is_name tenant.name) (nat_le tenant.first_clock last_clock) (left (is_name tenant.name && nat_le tenant.first_clock last_clock) (is_quota tenant.quota) good))
  where
    left : (a b : Bool) → (a && b) ≡ true → a ≡ true
    left true b h = refl
    left false b h = absurd (true≢false (sym h))

    right : (a b : Bool) → (a && b) ≡ true → b ≡ true
    right true b h = h
    right false b h = absurd (true≢false (sym h))

-- the table gave it back where memory was refused elsewhere
pub closed_again : (result : Result (Unit {0}) Fault) (old mid new : List (Option Tenant)) (slot : ℕ) (tenant : Tenant) → slot < length old → open_at slot old ≡ None → mid ≡ set old slot (Some tenant) →
    OnOk result (new ≡ set mid slot None) → IfSome (open_at slot mid) (λ _. IsOk result) → new ≡ old
closed_again (Ok done) old mid new slot tenant within vacant given closed there = closed ∙ ap (λ ts. set ts slot None) given ∙ set_back old slot (Some tenant) vacant
closed_again (Err fault) old mid new slot tenant within vacant given closed there =
    absurd (true≢false (sym (subst (λ o. IfSome o (λ (_ : Tenant). is_ok {T = Unit {0}} (Err fault) ≡ true)) (ap (open_at slot) given ∙ open_set_same old slot (Some tenant) within) there)))

-- a refusal of one call is that of the other that makes it
abbrev pub IsErrOfSlot : RequestError → Fault → Type 0
IsErrOfSlot error other = let result : Result ℕ RequestError = Err error in result ≡ Err (RefusedWith other)

abbrev pub IsErrOfUnit : RequestError → Fault → Type 0
IsErrOfUnit error other = let result : Result (Unit {0}) RequestError = Err error in result ≡ Err (RefusedWith other)

pub refused_too : (refusal : Option Fault) (error : RequestError) → IfSome refusal (IsErrOfUnit error) → IfSome refusal (IsErrOfSlot error)
refused_too None error h = tt
refused_too (Some other) error h = let same : error ≡ RefusedWith other = cc in ap (λ e. let result : Result ℕ RequestError = Err e in result) same

pub refusal_too : (A B : Type 0) (P : Fault → Type 0) (error : RequestError) → IfRefusal {A = A} (Err error) P → IfRefusal {A = B} (Err error) P
refusal_too A B P (RefusedWith fault) h = h
refusal_too A B P OutOfMemory h = tt

abbrev pub SlotIsErr : ℕ → Fault → Type 0
SlotIsErr slot fault = let result : Result ℕ RequestError = Ok slot in result ≡ Err (RefusedWith fault)

-- ---- admissions and closes, as any world of many tenants tells them

-- what an admission found is what any world's may
pub is_admission : (old : KeptWorld) (tenant : Tenant) (result : Result ℕ RequestError) (new : KeptWorld) → let refusal = admission_refusal old.setup.tenants (next_slot old.setup.tenants) tenant in
    IfOk result (λ slot. slot ≡ next_slot old.setup.tenants) → IfOk result (λ slot. Admits slot tenant old new) → IfSome refusal (λ fault. result ≡ Err (RefusedWith fault)) →
    IfRefusal result (λ fault. refusal ≡ Some fault) → OnErr result (StaysOpen old new) → IsAdmission open_setup HasOpenCluster old tenant result new
is_admission old tenant (Ok slot) new least admits refused faults stays = (
  least,
  subst (λ n. admission_refusal old.setup.tenants n tenant ≡ None) (sym least) (none (admission_refusal old.setup.tenants (next_slot old.setup.tenants) tenant) refused),
  record { setup_is = admits.setup_is; begins = admits.begins; others = admits.others },
)
  where
    none : (refusal : Option Fault) → IfSome refusal (SlotIsErr slot) → refusal ≡ None
    none None h = refl
    none (Some fault) h = absurd cc
is_admission old tenant (Err (RefusedWith fault)) new least admits refused faults stays = (faults, record { same = stays.setup_is; clusters = stays.clusters })
is_admission old tenant (Err OutOfMemory) new least admits refused faults stays = (
  by (admission_refusal old.setup.tenants (next_slot old.setup.tenants) tenant) refused,
  record { same = stays.setup_is; clusters = stays.clusters },
)
  where
    by : (refusal : Option Fault) → IfSome refusal (IsErrOfSlot OutOfMemory) → refusal ≡ None
    by None h = refl
    by (Some other) h = absurd cc

-- a slot that had a tenant was closed
pub has_closed : (slot : ℕ) (old new : KeptWorld) (result : Result (Unit {0}) Fault) → OnOk result (Closes slot old new) → IsOk result → HasClosed open_setup HasOpenCluster slot old new
has_closed slot old new (Ok done) closes there = record { setup_is = closes.setup_is; others = closes.others }
has_closed slot old new (Err fault) closes there = absurd (true≢false (sym there))

-- ---- what no call changes of the nodes

abbrev sites : List Shared → List Site
sites nodes = map site_in nodes

-- the slot has such a tenant, or none, and the others are as they were
module _ (setup : Setup) (tenants : List (Option Tenant)) (slot : ℕ) (o : Option Tenant) (here : open_at slot tenants ≡ o) (elsewhere : (other : ℕ) → other ≢ slot → open_at other tenants ≡ open_at other setup.tenants) where
  abbrev next : Setup
  next = record { head = setup.head; tenants = tenants }

  next_site : (old new : Shared) → new.home ≡ old.home → place_at slot new ≡ option_map (λ tenant. place_of (tenant_config setup.head tenant) new.home.id) o →
      ((other : ℕ) → other ≢ slot → IsSlotKept other old new) → IsSiteIn setup (site_in old) → IsSiteIn next (site_in new)
  next_site old new same place others was = record {
    shape_is = ap (λ (h : Home). h.shape) same ∙ was.shape_is;
    trans_time_is = ap (λ (h : Home). h.trans_time) same ∙ was.trans_time_is;
    places_are = λ other. elim (eqb_tells other slot) [
      | inl is ↦ ap (λ n. place_at n new) is.1 ∙ place ∙ ap (his new) (sym here) ∙ ap (λ n. his new (open_at n tenants)) (sym is.1)
      | inr apart ↦
          (others other apart.1).0 ∙ was.places_are other
          ∙ ap (λ id. option_map (λ tenant. place_of (tenant_config setup.head tenant) id) (open_at other setup.tenants)) (ap (λ (h : Home). h.id) (sym same))
          ∙ ap (his new) (sym (elsewhere other apart.1))
    ];
  }
    where
      his : Shared → Option Tenant → Option Place
      his node o = option_map (λ tenant. place_of (tenant_config setup.head tenant) node.home.id) o

each_site : (P Q : Site → Type 0) (Is : Shared → Shared → Type 0) → ((a b : Shared) → Is a b → P (site_in a) → Q (site_in b)) → (old new : List Shared) → AtEach Is old new → AllByRecursion P (sites old) → AllByRecursion Q (sites new)
each_site P Q Is step [] [] h all = tt
each_site P Q Is step [] (b ∷ new) h all = absurd h
each_site P Q Is step (a ∷ old) [] h all = absurd h
each_site P Q Is step (a ∷ old) (b ∷ new) h all = (step a b h.0 all.0, each_site P Q Is step old new h.1 all.1)

each_length : (Is : Shared → Shared → Type 0) (old new : List Shared) → AtEach Is old new → length (sites new) ≡ length (sites old)
each_length Is [] [] h = refl
each_length Is [] (b ∷ new) h = absurd h
each_length Is (a ∷ old) [] h = absurd h
each_length Is (a ∷ old) (b ∷ new) h = ap suc (each_length Is old new h.1)

-- a tenant came
pub came_sites : (setup : Setup) (slot : ℕ) (tenant : Tenant) (old new : List Shared) → slot < length setup.tenants → AtEach (IsAdmitted slot tenant.first_clock tenant.quota) old new → AreSitesIn setup (sites old) →
    AreSitesIn (record { head = setup.head; tenants = set setup.tenants slot (Some tenant) }) (sites new)
came_sites setup slot tenant old new within came was = record {
  all = each_length (IsAdmitted slot tenant.first_clock tenant.quota) old new came ∙ was.all;
  each = each_site (IsSiteIn setup) (IsSiteIn (record { head = setup.head; tenants = set setup.tenants slot (Some tenant) })) (IsAdmitted slot tenant.first_clock tenant.quota)
      (λ a b is site. next_site setup (set setup.tenants slot (Some tenant)) slot (Some tenant) (open_set_same setup.tenants slot (Some tenant) within) (λ other. open_set_other setup.tenants slot other (Some tenant))
      a b is.home (is.place ∙ placed a b is.home site) is.others site)
      old new came was.each;
}
  where
    placed : (a b : Shared) → b.home ≡ a.home → IsSiteIn setup (site_in a) → Some (place_for a.home tenant.first_clock tenant.quota) ≡ Some (place_of (tenant_config setup.head tenant) b.home.id)
    placed a b same site =
        let id = ap (λ (h : Home). h.id) same in
        let shape = site.shape_is in
        let trans_time = site.trans_time_is in
        λ i. Some (record { id = sym id i; data_centres = (shape i).data_centres; shards = (shape i).shards; trans_time = trans_time i; first_clock = tenant.first_clock; quota = tenant.quota })

-- the slot has no tenant any more
pub gone_sites : (setup : Setup) (tenants : List (Option Tenant)) (slot : ℕ) (old new : List Shared) → open_at slot tenants ≡ None → ((other : ℕ) → other ≢ slot → open_at other tenants ≡ open_at other setup.tenants) →
    AtEach (IsClosed slot) old new → AreSitesIn setup (sites old) → AreSitesIn (record { head = setup.head; tenants = tenants }) (sites new)
gone_sites setup tenants slot old new here elsewhere gone was = record {
  all = each_length (IsClosed slot) old new gone ∙ was.all;
  each = each_site (IsSiteIn setup) (IsSiteIn (record { head = setup.head; tenants = tenants })) (IsClosed slot)
      (λ a b is site. next_site setup tenants slot None here elsewhere a b is.home is.vacant is.others site) old new gone was.each;
}

-- ---- what a slot shows at the nodes

-- a slot without a tenant is taken nowhere
pub taken_nowhere : (setup : Setup) (slot : ℕ) → MayBeGiven setup.tenants slot → (nodes : List Shared) → AllByRecursion (IsSiteIn setup) (sites nodes) → list_any (is_taken slot) nodes ≡ false
taken_nowhere setup slot may [] all = refl
taken_nowhere setup slot may (node ∷ nodes) all = (λ i. (high i || is_some (place i)) || taken_nowhere setup slot may nodes all.1 i)
  where
    high : nat_le 64 slot ≡ false
    high = let low = may.low in grind (arith, nat_tests)

    place : place_at slot node ≡ None
    place = all.0.places_are slot ∙ ap (option_map (λ tenant. place_of (tenant_config setup.head tenant) node.home.id)) may.vacant

-- a slot with a tenant is his at all nodes
pub his_everywhere : (setup : Setup) (slot : ℕ) (tenant : Tenant) → open_at slot setup.tenants ≡ Some tenant → (nodes : List Shared) → AllByRecursion (IsSiteIn setup) (sites nodes) →
    AllByRecursion (λ (node : Shared). place_at slot node ≡ Some (place_of (tenant_config setup.head tenant) node.home.id)) nodes
his_everywhere setup slot tenant there [] all = tt
his_everywhere setup slot tenant there (node ∷ nodes) all =
    (all.0.places_are slot ∙ ap (option_map (λ t. place_of (tenant_config setup.head t) node.home.id)) there, his_everywhere setup slot tenant there nodes all.1)

-- the nodes of a tenant who made no call are new
pub solos_new : (config : TenantConfig) (slot : ℕ) (Is : Shared → Shared → Type 0) → ((a b : Shared) → Is a b → trail_of slot b.audit ≡ []) → (old new : List Shared) → AtEach Is old new →
    map (λ (node : Shared). solo_of slot (place_of config node.home.id) node) new ≡ replicate (length (sites new)) (new_node config.data_centres)
solos_new config slot Is empty [] [] h = refl
solos_new config slot Is empty [] (b ∷ new) h = absurd h
solos_new config slot Is empty (a ∷ old) [] h = absurd h
solos_new config slot Is empty (a ∷ old) (b ∷ new) h =
    let none = empty a b h.0 in
    let rest = solos_new config slot Is empty old new h.1 in
    (λ i. left_by (place_of config b.home.id) (none i) ∷ rest i)

-- another slot is as it was
pub record AreKept (other : ℕ) (a b : Shared) : Type 0 where
  pub slot : IsSlotKept other a b
  pub id : b.home.id ≡ a.home.id

pub has_still : (config : TenantConfig) (other : ℕ) (Is : Shared → Shared → Type 0) → ((a b : Shared) → Is a b → AreKept other a b) → (old new : List Shared) → AtEach Is old new →
    AllByRecursion (λ (node : Shared). place_at other node ≡ Some (place_of config node.home.id)) old → AllByRecursion (λ (node : Shared). place_at other node ≡ Some (place_of config node.home.id)) new
has_still config other Is keeps [] [] h all = tt
has_still config other Is keeps [] (b ∷ new) h all = absurd h
has_still config other Is keeps (a ∷ old) [] h all = absurd h
has_still config other Is keeps (a ∷ old) (b ∷ new) h all =
    let kept = keeps a b h.0 in
    (kept.slot.0 ∙ all.0 ∙ ap (λ id. Some (place_of config id)) (sym kept.id), has_still config other Is keeps old new h.1 all.1)

pub nodes_still : (config : TenantConfig) (other : ℕ) (Is : Shared → Shared → Type 0) → ((a b : Shared) → Is a b → AreKept other a b) → (old new : List Shared) → AtEach Is old new →
    map (λ (node : Shared). solo_of other (place_of config node.home.id) node) new ≡ map (λ (node : Shared). solo_of other (place_of config node.home.id) node) old
nodes_still config other Is keeps [] [] h = refl
nodes_still config other Is keeps [] (b ∷ new) h = absurd h
nodes_still config other Is keeps (a ∷ old) [] h = absurd h
nodes_still config other Is keeps (a ∷ old) (b ∷ new) h =
    let kept = keeps a b h.0 in
    let trail = kept.slot.1 in
    let id = kept.id in
    let rest = nodes_still config other Is keeps old new h.1 in
    (λ i. left_by (place_of config (id i)) (trail i) ∷ rest i)

pub admitted_keeps : (slot first_clock : ℕ) (quota : _) (other : ℕ) → other ≢ slot → (a b : Shared) → IsAdmitted slot first_clock quota a b → AreKept other a b
admitted_keeps slot first_clock quota other differ a b is = record { slot = is.others other differ; id = ap (λ (h : Home). h.id) is.home }

pub closed_keeps : (slot other : ℕ) → other ≢ slot → (a b : Shared) → IsClosed slot a b → AreKept other a b
closed_keeps slot other differ a b is = record { slot = is.others other differ; id = ap (λ (h : Home). h.id) is.home }

-- ---- clusters

-- what a tenant's cluster looks at is as it was
pub stands_still : (old new : World) (slot : ℕ) → new.setup.head ≡ old.setup.head → open_at slot new.setup.tenants ≡ open_at slot old.setup.tenants → (Is : Shared → Shared → Type 0) → ((a b : Shared) → Is a b → AreKept slot a b) →
    AtEach Is old.nodes.nodes new.nodes.nodes → ((name : List ℕ) → new.actors (record { slot = slot; name = name }) ≡ old.actors (record { slot = slot; name = name })) → new.count slot ≡ old.count slot →
    (cluster : SoloCluster) → ClusterStandsAt old slot cluster → ClusterStandsAt new slot cluster
stands_still old new slot head same Is keeps each actors count cluster h = record {
  open_there = ap is_some same ∙ h.open_there;
  has = subst (λ c. HasTenant c slot new.nodes) (sym config) (has_still (config_in old.setup slot) slot Is keeps old.nodes.nodes new.nodes.nodes each h.has);
  nodes_are = subst (λ c. nodes_of c slot new.nodes ≡ cluster.nodes) (sym config) (nodes_still (config_in old.setup slot) slot Is keeps old.nodes.nodes new.nodes.nodes each ∙ h.nodes_are);
  actors_are = subst (λ c. ActorsStandFor (ActorStandsFor c) (λ name. new.actors (record { slot = slot; name = name })) cluster) (sym config)
      (kept_alike (ActorStandsFor (config_in old.setup slot)) (λ name. old.actors (record { slot = slot; name = name })) (λ name. new.actors (record { slot = slot; name = name })) cluster actors h.actors_are);
  count_is = count ∙ h.count_is;
}
  where
    config : config_in new.setup slot ≡ config_in old.setup slot
    config = (λ i. config_of (head i) (same i))

-- nobody acts at a slot without a tenant
pub no_actor : (setup : Setup) (actors : ActorId → Option Kept) (slot : ℕ) → AllHosted setup actors → open_at slot setup.tenants ≡ None → (name : List ℕ) → actors (record { slot = slot; name = name }) ≡ None
no_actor setup actors slot hosted vacant name = by (actors (record { slot = slot; name = name })) refl
  where
    by : (o : Option Kept) → actors (record { slot = slot; name = name }) ≡ o → o ≡ None
    by None e = refl
    by (Some kept) e = absurd (true≢false (sym (hosted (record { slot = slot; name = name }) kept e) ∙ ap is_some vacant))

-- ---- admissions

module _ (old : KeptWorld) (whole : IsWorld (world_of old)) (slot : ℕ) (tenant : Tenant) (may : MayBeGiven old.setup.tenants slot) where
  pub within_given : slot < length old.setup.tenants
  within_given = let low = may.low in let enough = whole.enough in omega (arith, low, enough)

  abbrev pub given : Setup
  given = record { head = old.setup.head; tenants = set old.setup.tenants slot (Some tenant) }

  abbrev pub admitted : Cluster → KeptWorld
  admitted nodes = record { setup = given; nodes = nodes; table = old.table }

  module _ (nodes : Cluster) (came : AtEach (IsAdmitted slot tenant.first_clock tenant.quota) old.nodes.nodes nodes.nodes) where
    sites_given : AreSitesIn given (sites nodes.nodes)
    sites_given = came_sites old.setup slot tenant old.nodes.nodes nodes.nodes within_given came whole.sites_are

    nobody_there : count_at old.table slot ≡ 0
    nobody_there = nobody old.table.actors slot (no_actor old.setup (world_of old).actors slot whole.hosted may.vacant)

    there : open_at slot given.tenants ≡ Some tenant
    there = open_set_same old.setup.tenants slot (Some tenant) within_given

    abbrev config : TenantConfig
    config = tenant_config old.setup.head tenant

    still_open : (other : ℕ) → is_some (open_at other old.setup.tenants) ≡ true → is_some (open_at other given.tenants) ≡ true
    still_open other was = elim (eqb_tells other slot) [
      | inl is ↦ ap (λ n. is_some (open_at n given.tenants)) is.1 ∙ ap is_some there
      | inr apart ↦ ap is_some (open_set_other old.setup.tenants slot other (Some tenant) apart.1) ∙ was
    ]

    pub whole_given : IsTrue (is_tenant tenant) → nodes.shape ≡ old.nodes.shape → IsWorld (world_of (admitted nodes))
    whole_given good shape = record {
      shape_is = shape ∙ whole.shape_is;
      sites_are = sites_given;
      good = whole.good;
      tenants_good = λ other t e. elim (eqb_tells other slot) [
        | inl is ↦ subst (λ o. IfSome o (λ (u : Tenant). IsTrue (is_tenant u))) (sym there ∙ ap (λ n. open_at n given.tenants) (sym is.1) ∙ e) good
        | inr apart ↦ whole.tenants_good other t (sym (open_set_other old.setup.tenants slot other (Some tenant) apart.1) ∙ e)
      ];
      enough = let enough = whole.enough in let same = length-set old.setup.tenants slot (Some tenant) in omega (arith, enough, same);
      run = whole.run;
      hosted = λ id actor e. still_open id.slot (whole.hosted id actor e);
    }

    pub admits : Admits slot tenant old (admitted nodes)
    admits = record {
      setup_is = refl;
      begins = record {
        open_there = ap is_some there;
        has = subst (λ c. HasTenant c slot nodes) (sym own) (his_everywhere given slot tenant there nodes.nodes sites_given.each);
        nodes_are = subst (λ c. nodes_of c slot nodes ≡ (new_cluster config).nodes) (sym own)
            (solos_new config slot (IsAdmitted slot tenant.first_clock tenant.quota) (λ a b is. is.empty) old.nodes.nodes nodes.nodes came ∙ ap (λ n. replicate n (new_node config.data_centres)) sites_given.all);
        actors_are = record {
          same = λ name. subst (λ o. AreSame (ActorStandsFor (config_in given slot)) o None) (sym (no_actor old.setup (world_of old).actors slot whole.hosted may.vacant name)) tt;
          distinct = tt;
        };
        count_is = nobody_there;
      };
      others = λ other differ. stands_still (world_of old) (world_of (admitted nodes)) other refl (open_set_other old.setup.tenants slot other (Some tenant) (λ e. differ (sym e)))
          (IsAdmitted slot tenant.first_clock tenant.quota) (admitted_keeps slot tenant.first_clock tenant.quota other (λ e. differ (sym e))) came (λ name. refl) refl;
    }
      where
        own : config_in given slot ≡ config
        own = ap (config_of old.setup.head) there

  -- the nodes gave it back, and so did the table
  module _ (nodes : Cluster) (tenants : List (Option Tenant)) (back : AtEach (IsClosed slot) old.nodes.nodes nodes.nodes) (same : tenants ≡ old.setup.tenants) where
    abbrev pub unchanged : KeptWorld
    unchanged = record { setup = record { head = old.setup.head; tenants = tenants }; nodes = nodes; table = old.table }

    pub whole_back : nodes.shape ≡ old.nodes.shape → IsWorld (world_of unchanged)
    whole_back shape = subst (λ (ts : List (Option Tenant)). IsWorld (world_of (record { setup = record { head = old.setup.head; tenants = ts }; nodes = nodes; table = old.table }))) (sym same) (record {
      shape_is = shape ∙ whole.shape_is;
      sites_are = gone_sites old.setup old.setup.tenants slot old.nodes.nodes nodes.nodes may.vacant (λ other differ. refl) back whole.sites_are;
      good = whole.good;
      tenants_good = whole.tenants_good;
      enough = whole.enough;
      run = whole.run;
      hosted = whole.hosted;
    })

    pub stays_open : StaysOpen old unchanged
    stays_open = record {
      setup_is = ap (λ (ts : List (Option Tenant)). record { head = old.setup.head; tenants = ts }) same;
      clusters = λ other cluster stands. elim (eqb_tells other slot) [
        | inl is ↦ absurd (true≢false (sym stands.open_there ∙ ap (λ n. is_some (open_at n old.setup.tenants)) is.1 ∙ ap is_some may.vacant))
        | inr apart ↦ stands_still (world_of old) (world_of unchanged) other refl (ap (open_at other) same) (IsClosed slot) (closed_keeps slot other apart.1) back (λ name. refl) refl cluster stands
      ];
    }

-- ---- a tenant goes

module _ (old : KeptWorld) (kept : IsKeptWorld old) (slot : ℕ) (open_there : IsTrue (is_open_at old.setup slot)) (nodes : Cluster) (gone : AtEach (IsClosed slot) old.nodes.nodes nodes.nodes) (table : Table) (cleared : IsClearedOf slot old.table table) where
  abbrev pub left : KeptWorld
  left = record { setup = record { head = old.setup.head; tenants = set old.setup.tenants slot None }; nodes = nodes; table = table }

  was_whole : IsWorld (world_of old)
  was_whole = kept.whole

  within_left : slot < length old.setup.tenants
  within_left = below_in old.setup.tenants slot open_there

  none_left : (id : ActorId) → id.slot ≡ slot → (world_of left).actors id ≡ None
  none_left id same = cleared.none id (sym same)

  others_left : (id : ActorId) → slot ≢ id.slot → (world_of left).actors id ≡ (world_of old).actors id
  others_left = cleared.elsewhere

  -- an actor that is there was there before, and is of another slot
  was_there : (id : ActorId) (actor : Kept) → (world_of left).actors id ≡ Some actor → (slot ≢ id.slot) × ((world_of old).actors id ≡ Some actor)
  was_there id actor e = elim (eqb_tells id.slot slot) [
    | inl is ↦ absurd (true≢false (ap is_some (sym e ∙ none_left id is.1)))
    | inr apart ↦ let differ : slot ≢ id.slot = λ same. apart.1 (sym same) in (differ, sym (others_left id differ) ∙ e)
  ]

  whole_left : nodes.shape ≡ old.nodes.shape → IsWorld (world_of left)
  whole_left shape = record {
    shape_is = shape ∙ was_whole.shape_is;
    sites_are = gone_sites old.setup (set old.setup.tenants slot None) slot old.nodes.nodes nodes.nodes (open_set_same old.setup.tenants slot None within_left) (λ other. open_set_other old.setup.tenants slot other None) gone was_whole.sites_are;
    good = was_whole.good;
    tenants_good = λ other t e. elim (eqb_tells other slot) [
      | inl is ↦ absurd (true≢false (ap is_some (sym e ∙ ap (λ n. open_at n (set old.setup.tenants slot None)) is.1 ∙ open_set_same old.setup.tenants slot None within_left)))
      | inr apart ↦ was_whole.tenants_good other t (sym (open_set_other old.setup.tenants slot other None apart.1) ∙ e)
    ];
    enough = let enough = was_whole.enough in let same = length-set old.setup.tenants slot None in omega (arith, enough, same);
    run = λ id actor e. was_whole.run id actor (was_there id actor e).1;
    hosted = λ id actor e.
        let was = was_there id actor e in
        ap is_some (open_set_other old.setup.tenants slot id.slot None (λ same. was.0 (sym same))) ∙ was_whole.hosted id actor was.1;
  }

  pub kept_left : nodes.shape ≡ old.nodes.shape → IsKeptWorld left
  kept_left shape = record { whole = whole_left shape; tabled = cleared.slots ∙ kept.tabled ∙ sym (length-set old.setup.tenants slot None) }

  pub closes : Closes slot old left
  closes = record {
    setup_is = refl;
    no_actor = λ name. none_left (record { slot = slot; name = name }) refl;
    nowhere = at_each old.nodes.nodes nodes.nodes gone;
    others = λ other differ. stands_still (world_of old) (world_of left) other refl (open_set_other old.setup.tenants slot other None (λ e. differ (sym e)))
        (IsClosed slot) (closed_keeps slot other (λ e. differ (sym e))) gone (λ name. others_left (record { slot = other; name = name }) differ) (cleared.counts other differ);
  }
    where
      at_each : (before after : List Shared) → AtEach (IsClosed slot) before after → AllByRecursion (λ (node : Shared). (place_at slot node ≡ None) × (trail_of slot node.audit ≡ [])) after
      at_each [] [] h = tt
      at_each [] (b ∷ after) h = absurd h
      at_each (a ∷ before) [] h = absurd h
      at_each (a ∷ before) (b ∷ after) h = ((h.0.vacant, h.0.empty), at_each before after h.1)
