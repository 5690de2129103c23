-- What a call at one node does to a cluster.
use Rattle.std.proofs.Common.{◌≡◌, ◌≢◌, ℕ, zero, suc, ◌+◌, ◌*◌, ◌/◌, ◌%◌, ◌<◌, ◌≤◌, List, [], ◌∷◌, length, map, refl, sym, ap, ◌∙◌, subst, arith, get_or, set, inl, inr, ◌⊎◌, nat_lt, false, true≢false}
use Rattle.std.specs.Prelude.{slice_get, replicate, Option, None, Some, is_some, IsSome, IsTrue}
use Rattle.std.specs.Option.{option_map}
use Rattle.std.specs.List.{AllByRecursion, range_with_len}
use Rattle.std.proofs.lemmas.List.{map-set, get_or-map, set-get_or}
use Rattle.std.proofs.lemmas.List.FromFn.{length-map-range_with_len, get_or-map-range_with_len}
use Rattle.std.proofs.lemmas.Nat.{div-mul-add, mod-mul-add, mul-add-lt}
use Rattle.std.proofs.lemmas.Option.{get_or_from_slice_get, slice_get-map}
use Rattle.std.proofs.Math.ListN.{length-set}
use Rattle.std.proofs.Math.Seq.{map-set_same}
use Rattle.cops_types.specs.declared.configs.Config.{Config}
use Rattle.cops_types.specs.declared.faults.Fault.TheVariants.{OutOfMemory, AuditFull, UnknownTenant}
use Rattle.cops_types.specs.Layout.{NODES}
use Rattle.cops_types.specs.declared.configs.Tenant.{Tenant}
use Rattle.cops_types.specs.TenantConfig.{TenantConfig, tenant_config}
use Rattle.cops_model.specs.declared.calls.NodeCall.{NodeCall}
use Rattle.cops_model.specs.declared.calls.NodeId.{NodeId}
use Rattle.cops_model.specs.declared.calls.NodeReply.{NodeReply}
use Rattle.cops_model.specs.declared.calls.NodeReply.TheVariants.{Refused}
use Rattle.cops_node.specs.Clusters.{Cluster, HasTenant, HoldsNodes, IsCall, IsCluster, IsTurnOf, IsVacantAt, id_of, new_nodes, new_shared, nodes_of, shape_of, solo_at, turn_at}
use Rattle.cops_node.specs.declared.Home.{Home}
use Rattle.cops_node.specs.Parts.{Shared, home_of, opening_terms, place_at, place_under, site_in, terms_of, trail_of, solo_of, left_by, has_audit_room, IsSoloTurn, IsTurn, AllFit, AuditFits, IsAudited}
use Rattle.cops_model.specs.Place.{Place, fits, node_number, place_of}
use Rattle.cops_node.specs.declared.Shape.{Shape}
use Rattle.cops_node.specs.Shape.{place_in}
use Rattle.cops_model.specs.SoloNode.{SoloNode, new_node}
use Rattle.cops_model.specs.Step.{CallEffect, node_step}
use Rattle.cops_node.proofs.Slots.{AuditFits-noted, some_same}
use Rattle.cops_node.proofs.Fresh.{no_calls_fit, replicate_read}

pub all_set : {A : Type 0} (P : A → Type 0) (xs : List A) (i : ℕ) (x y : A) → AllByRecursion P xs → (P x → P y) → x ≡ get_or xs i x → AllByRecursion P (set xs i y)
all_set P [] i x y h keep is = tt
all_set P (z ∷ xs) zero x y h keep is = (keep (subst P (sym is) h.0), h.1)
all_set P (z ∷ xs) (suc i) x y h keep is = (h.0, all_set P xs i x y h.1 keep is)

all_at : {A : Type 0} (P : A → Type 0) (xs : List A) (i : ℕ) (x : A) → AllByRecursion P xs → i < length xs → x ≡ get_or xs i x → P x
all_at P [] i x h lt is = absurd (omega arith)
all_at P (z ∷ xs) zero x h lt is = subst P (sym is) h.0
all_at P (z ∷ xs) (suc i) x h lt is = all_at P xs i x h.1 (omega arith) is

read_again : {A : Type 0} (xs : List A) (i : ℕ) (d : A) → get_or xs i d ≡ get_or xs i (get_or xs i d)
read_again [] i d = refl
read_again (x ∷ xs) zero d = refl
read_again (x ∷ xs) (suc i) d = read_again xs i d

-- a call that fits, in the audit of its node
fits_more : (slot moment : ℕ) (call : NodeCall) (reply : NodeReply) (node next : Shared) → IsTrue (fits (place_in node.home.shape node.home.id) call) → next.home ≡ node.home → IsAudited slot moment call reply node next → AuditFits node → AuditFits next
fits_more slot moment call reply node next fit home (inl same) before = subst AuditFits (sym same.1) before
fits_more slot moment call reply node next fit home (inr more) before =
    let place : Place = place_in node.home.shape node.home.id in
    subst (λ (h : Home). AllByRecursion (AllFit (place_in h.shape h.id)) next.audit) (sym home)
    (subst (AllByRecursion (AllFit place)) (sym more) (AuditFits-noted place slot node.audit (record { moment = moment; call = call; reply = reply }) before fit))

pub fits_next : (slot moment : ℕ) (call : NodeCall) (reply : NodeReply) (node next : Shared) → IsTrue (fits (place_in node.home.shape node.home.id) call) → next.home ≡ node.home
    → (place_at slot node ≡ None → next ≡ node) → (IsSome (place_at slot node) → IsAudited slot moment call reply node next) → AuditFits node → AuditFits next
fits_next slot moment call reply node next fit home same audited before = by (place_at slot node) refl
  where
    by : (o : Option Place) → place_at slot node ≡ o → AuditFits next
    by None at = subst AuditFits (sym (same at)) before
    by (Some place) at = fits_more slot moment call reply node next fit home (audited (ap is_some at)) before

-- ---- a call

module _ (shape : Shape) (nodes : List Shared) (id : NodeId) (slot moment : ℕ) (call : NodeCall) (reply : NodeReply) (node next : Shared)
    (within : node_number shape.shards id < length nodes) (read : node ≡ get_or nodes (node_number shape.shards id) node) (here : node.home.id ≡ id)
    (turn : (place : Place) → place_at slot node ≡ Some place → IsTurn slot moment call reply place node next)
    (full : (place : Place) → place_at slot node ≡ Some place → has_audit_room slot place node ≡ false → reply ≡ Refused AuditFull)
    (stay : (other : ℕ) → other ≢ slot → trail_of other next.audit ≡ trail_of other node.audit)
    (home : next.home ≡ node.home) (terms : next.terms ≡ node.terms) where
  abbrev number : ℕ
  number = node_number shape.shards id

  abbrev old : Cluster
  old = record { shape = shape; nodes = nodes }

  abbrev new : Cluster
  new = record { shape = shape; nodes = set nodes (node_number shape.shards id) next }

  homes : map (λ (n : Shared). n.home) (set nodes number next) ≡ map (λ (n : Shared). n.home) nodes
  homes = map-set_same (λ (n : Shared). n.home) nodes number next node (home ∙ ap (λ (n : Shared). n.home) read)

  sites : map site_in (set nodes number next) ≡ map site_in nodes
  sites = map-set_same site_in nodes number next node ((λ i. record { home = home i; terms = terms i }) ∙ ap site_in read)

  same_place : (other : ℕ) → place_at other next ≡ place_at other node
  same_place other = λ i. place_at other (record { home = home i; terms = terms i; audit = node.audit })

  same_solo : (config : TenantConfig) (other : ℕ) → other ≢ slot → solo_of other (place_of config next.home.id) next ≡ solo_of other (place_of config node.home.id) node
  same_solo config other differ = (λ i. left_by (place_of config (home i).id) (stay other differ i))

  others : (config : TenantConfig) (other : ℕ) → other ≢ slot → nodes_of config other new ≡ nodes_of config other old
  others config other differ = map-set_same (λ (n : Shared). solo_of other (place_of config n.home.id) n) nodes number next node (same_solo config other differ ∙ ap (λ (n : Shared). solo_of other (place_of config n.home.id) n) read)

  tenants : (config : TenantConfig) (other : ℕ) → HasTenant config other old → HasTenant config other new
  tenants config other h = all_set (λ (n : Shared). place_at other n ≡ Some (place_of config n.home.id)) nodes number node next h
      (λ k. same_place other ∙ k ∙ ap (λ (h : Home). Some (place_of config h.id)) (sym home)) read

  same_number : (config : TenantConfig) → config.shards ≡ shape.shards → number ≡ node_number config.shards id
  same_number config same_shards = ap (λ n. id.dc * n + id.shard) (sym same_shards)

  found : (config : TenantConfig) → HasTenant config slot old → place_at slot node ≡ Some (place_of config node.home.id)
  found config has = all_at (λ (n : Shared). place_at slot n ≡ Some (place_of config n.home.id)) nodes number node has within read

  -- the slot's place at the node
  module _ (place : Place) (at : place_at slot node ≡ Some place) where
    place_is : (config : TenantConfig) → HasTenant config slot old → place ≡ place_of config id
    place_is config has = some_same place (place_of config node.home.id) (sym at ∙ found config has) ∙ ap (place_of config) here

    solo_is : (config : TenantConfig) → config.shards ≡ shape.shards → HasTenant config slot old → solo_of slot place node ≡ solo_at config id slot old
    solo_is config same_shards has =
        ap (λ p. solo_of slot p node) (place_is config has ∙ ap (place_of config) (sym here))
        ∙ ap (λ (n : Shared). solo_of slot (place_of config n.home.id) n) read
        ∙ sym (get_or-map (λ (n : Shared). solo_of slot (place_of config n.home.id) n) nodes number node (new_node config.data_centres) within)
        ∙ ap (λ n. get_or (nodes_of config slot old) n (new_node config.data_centres)) (same_number config same_shards)

    by_tenant : (reply ≡ (node_step place moment call (solo_of slot place node)).reply) × (solo_of slot place next ≡ (node_step place moment call (solo_of slot place node)).after)
        → (config : TenantConfig) → config.shards ≡ shape.shards → HasTenant config slot old → IsTurnOf config id slot moment call reply old new
    by_tenant t config same_shards has = record {
      reply_is = t.0 ∙ ap (λ (u : CallEffect). u.reply) turn_is;
      after = map-set solos nodes number next ∙ (λ i. set (map solos nodes) (same_number config same_shards i) (next_is i));
    }
      where
        solos : Shared → SoloNode
        solos n = solo_of slot (place_of config n.home.id) n

        turn_is : node_step place moment call (solo_of slot place node) ≡ turn_at config id slot moment call old
        turn_is = (λ i. node_step (place_is config has i) moment call (solo_is config same_shards has i))

        next_is : solo_of slot (place_of config next.home.id) next ≡ (turn_at config id slot moment call old).after
        next_is = ap (λ p. solo_of slot p next) (ap (place_of config) (ap (λ (h : Home). h.id) home ∙ here) ∙ sym (place_is config has)) ∙ t.1 ∙ ap (λ (u : CallEffect). u.after) turn_is

    refused_full : (config : TenantConfig) → config.shards ≡ shape.shards → HasTenant config slot old → nat_lt (length (solo_at config id slot old).trail) config.quota.audit ≡ false → reply ≡ Refused AuditFull
    refused_full config same_shards has closed =
        full place at ((λ i. nat_lt (length (solo_is config same_shards has i).trail) (place_is config has i).quota.audit) ∙ closed)

    which : IsTurn slot moment call reply place node next → ((reply ≡ Refused OutOfMemory) × (new ≡ old)) ⊎ ((config : TenantConfig) → config.shards ≡ shape.shards → HasTenant config slot old → IsTurnOf config id slot moment call reply old new)
    which (inl e) = inl (e.0, ap (λ ns. record { shape = shape; nodes = ns }) (ap (set nodes number) (e.1 ∙ read) ∙ set-get_or nodes number node))
    which (inr t) = inr (by_tenant t)

  -- the turn of a slot, which may have no tenant
  turn_of : (o : Option Place) → place_at slot node ≡ o → ((reply ≡ Refused OutOfMemory) × (new ≡ old)) ⊎ ((config : TenantConfig) → config.shards ≡ shape.shards → HasTenant config slot old → IsTurnOf config id slot moment call reply old new)
  turn_of None at = inr (λ config same_shards has. absurd (true≢false (sym (ap is_some (sym at ∙ found config has)))))
  turn_of (Some place) at = which place at (turn place at)

  -- a turn of the slot is the turn of its solo node
  pub turned : ((place : Place) → place_at slot node ≡ Some place → IsSoloTurn slot moment call reply place node next)
      → (config : TenantConfig) → config.shards ≡ shape.shards → HasTenant config slot old → IsTurnOf config id slot moment call reply old new
  turned done config same_shards has = let at = found config has in by_tenant (place_of config node.home.id) at (done (place_of config node.home.id) at) config same_shards has

  -- the node has no tenant there, and is as it was
  refused_vacant : (place_at slot node ≡ None → (reply ≡ Refused UnknownTenant) × (next ≡ node)) → IsVacantAt slot id old → (reply ≡ Refused UnknownTenant) × (new ≡ old)
  refused_vacant refuses (it, is, at) =
      let same : node ≡ it = read ∙ get_or_from_slice_get nodes number it node is in
      let told = refuses (ap (place_at slot) same ∙ at) in
      (told.0, ap (λ ns. record { shape = shape; nodes = ns }) (ap (set nodes number) (told.1 ∙ read) ∙ set-get_or nodes number node))

  pub call_is : (place_at slot node ≡ None → (reply ≡ Refused UnknownTenant) × (next ≡ node)) → IsCall old id slot moment call reply new
  call_is refuses = record {
    turn = turn_of (place_at slot node) refl;
    full = λ config same_shards has. refused_full (place_of config node.home.id) (found config has) config same_shards has;
    vacant = refused_vacant refuses;
    others = others;
    tenants = tenants;
    sites = sites;
  }

  -- the nodes are still those of the cluster
  pub cluster_stays : IsCluster shape nodes → IsCluster shape (set nodes number next)
  cluster_stays h = record {
    numbers_fit = h.numbers_fit;
    all = length-set nodes number next ∙ h.all;
    each = λ n s lt is. home_at n s (subst (λ m. n < m) (length-set nodes number next) lt) is;
  }
    where
      homes_at : (n : ℕ) (s : Shared) → n < length nodes → s ≡ get_or (set nodes number next) n s → s.home ≡ (get_or nodes n s).home
      homes_at n s lt is =
          ap (λ (x : Shared). x.home) is
          ∙ sym (get_or-map (λ (x : Shared). x.home) (set nodes number next) n s s.home (subst (λ m. n < m) (sym (length-set nodes number next)) lt))
          ∙ ap (λ hs. get_or hs n s.home) homes
          ∙ get_or-map (λ (x : Shared). x.home) nodes n s s.home lt

      home_at : (n : ℕ) (s : Shared) → n < length nodes → s ≡ get_or (set nodes number next) n s → (s.home.id ≡ id_of shape.shards n) × (s.home.shape ≡ shape)
      home_at n s lt is =
          let before = h.each n (get_or nodes n s) lt (read_again nodes n s) in
          let same = homes_at n s lt is in
          (ap (λ (x : Home). x.id) same ∙ before.0, ap (λ (x : Home). x.shape) same ∙ before.1)

-- ---- the node of a number

pub number_within : (shape : Shape) (id : NodeId) → id.dc < shape.data_centres → id.shard < shape.shards → node_number shape.shards id < shape.data_centres * shape.shards
number_within shape id dc shard = omega (arith, mul-add-lt id.dc shape.shards id.shard shape.data_centres dc shard)

pub id_is : (shards : ℕ) (id : NodeId) → id.shard < shards → id_of shards (node_number shards id) ≡ id
id_is shards id lt =
    let dc : (id.dc * shards + id.shard) / shards ≡ id.dc = div-mul-add id.dc shards id.shard lt in
    let shard : (id.dc * shards + id.shard) % shards ≡ id.shard = mod-mul-add id.dc shards id.shard lt in
    λ i. record { dc = dc i; shard = shard i }

-- ---- a new cluster

pub IsCluster-new : (config : Config) (nodes : List Shared) → config.data_centres * config.shards ≤ NODES → nodes ≡ map (new_shared config) (range_with_len 0 (config.data_centres * config.shards)) → IsCluster (shape_of config) nodes
IsCluster-new config nodes fits is = record {
  numbers_fit = fits;
  all = ap length is ∙ length-map-range_with_len (new_shared config) 0 (config.data_centres * config.shards);
  each = λ number node lt read. at number node (subst (λ n. number < n) (ap length is ∙ length-map-range_with_len (new_shared config) 0 (config.data_centres * config.shards)) lt) read;
}
  where
    at : (number : ℕ) (node : Shared) → number < config.data_centres * config.shards → node ≡ get_or nodes number node → (node.home.id ≡ id_of config.shards number) × (node.home.shape ≡ shape_of config)
    at number node lt read =
        let same : node ≡ new_shared config number = read ∙ ap (λ ns. get_or ns number node) is ∙ get_or-map-range_with_len (new_shared config) 0 (config.data_centres * config.shards) number number node lt (omega arith) in
        (ap (λ (n : Shared). n.home.id) same, ap (λ (n : Shared). n.home.shape) same)

-- no call has come to its nodes
pub HoldsNodes-new : (config : Config) (nodes : List Shared) → config.data_centres * config.shards ≤ NODES → nodes ≡ map (new_shared config) (range_with_len 0 (config.data_centres * config.shards)) → HoldsNodes (shape_of config) nodes
HoldsNodes-new config nodes numbers is = record {
  in_order = IsCluster-new config nodes numbers is;
  fitting = subst (AllByRecursion AuditFits) (sym is) (none (range_with_len 0 (config.data_centres * config.shards)));
}
  where
    none : (numbers : List ℕ) → AllByRecursion AuditFits (map (new_shared config) numbers)
    none [] = tt
    none (n ∷ numbers) = (no_calls_fit (place_in (shape_of config) (id_of config.shards n)) (length config.tenants), none numbers)

-- the place of a tenant of the configuration, at a new node
pub place_new : (config : Config) (slot : ℕ) (tenant : Tenant) (number : ℕ) → slice_get config.tenants slot ≡ Some tenant → place_at slot (new_shared config number) ≡ Some (place_of (tenant_config config tenant) (id_of config.shards number))
place_new config slot tenant number found =
    ap (option_map (place_under (home_of config (id_of config.shards number))))
    (get_or_from_slice_get (opening_terms config) slot (Some (terms_of tenant)) None
    (slice_get-map (λ (t : Tenant). Some (terms_of t)) config.tenants slot ∙ ap (option_map (λ (t : Tenant). Some (terms_of t))) found))

-- each tenant of the configuration has its slot
pub tenant_new : (config : Config) (slot : ℕ) (tenant : Tenant) → slice_get config.tenants slot ≡ Some tenant → HasTenant (tenant_config config tenant) slot (new_nodes config)
tenant_new config slot tenant found = each (range_with_len 0 (config.data_centres * config.shards))
  where
    each : (numbers : List ℕ) → AllByRecursion (λ (n : Shared). place_at slot n ≡ Some (place_of (tenant_config config tenant) n.home.id)) (map (new_shared config) numbers)
    each [] = tt
    each (number ∷ numbers) = (place_new config slot tenant number found, each numbers)

-- and its solo nodes are new
pub solos_new : (config : Config) (slot : ℕ) (tenant : Tenant) → nodes_of (tenant_config config tenant) slot (new_nodes config) ≡ replicate (config.data_centres * config.shards) (new_node config.data_centres)
solos_new config slot tenant = each 0 (config.data_centres * config.shards)
  where
    each : (at n : ℕ) → map (λ (s : Shared). solo_of slot (place_of (tenant_config config tenant) s.home.id) s) (map (new_shared config) (range_with_len at n)) ≡ replicate n (new_node config.data_centres)
    each at zero = refl
    each at (suc n) =
        let none = replicate_read (length config.tenants) slot [] in
        let rest = each (at + 1) n in
        (λ i. left_by (place_of (tenant_config config tenant) (id_of config.shards at)) (none i) ∷ rest i)
