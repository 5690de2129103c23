-- The text of an audit, piece by piece, whose records have the form of a line.
use Rattle.cops_replay.proofs.Names.{◌≡◌, ℕ, zero, suc, Bool, IsTrue, ◌+◌, ◌<◌, List, [], ◌∷◌, ◌++◌, length, map, drop, get_or, ◌≤◌, refl, sym, subst, ap, ◌∙◌, arith, Some, slice_get, AllByRecursion, list_all, flat_map-append, slice_get-get_or, slice_get_within, drop_all, drop_more, length-map, nat_tests, Config, Tenant, TenantConfig, tenant_config, both, same_value, AuditEntry, NodeId, HasTenant, IsCluster, id_of, shape_of, Shared, place_at, solo_of, place_of, SoloNode, audit_text, ended, head_text, his_nodes, record_of, records_from, records_of, records_text, tenants_text, record_line, Every-append, Place, trail_of, calls_in_trail, Record, has_form, is_record, his_records, slice_get-map, Every-at, slice_get-Among}
use Rattle.cops_replay.proofs.AuditReplays.{audits_formed}

-- ---- what is left of a list, from an element on

pub left_at : {A : Type 0} (xs : List A) (i : ℕ) (x : A) → i < length xs → x ≡ get_or xs i x → drop i xs ≡ x ∷ drop (i + 1) xs
left_at xs i x below is = drop_more xs i x below ∙ ap (λ y. y ∷ drop (i + 1) xs) (sym is)

pub left_from : {A : Type 0} (xs : List A) (i : ℕ) (x : A) → slice_get xs i ≡ Some x → drop i xs ≡ x ∷ drop (i + 1) xs
left_from xs i x e = let within = slice_get_within xs i x e in left_at xs i x within (same_value x (get_or xs i x) (sym e ∙ slice_get-get_or xs i x within))

-- the lines of a node's audit
pub entries_left : (name : List ℕ) (id : NodeId) (trail : List AuditEntry) (i : ℕ) (entry : AuditEntry) → slice_get trail i ≡ Some entry →
    records_text name (map (record_of id) (drop i trail)) ≡ ended (record_line name (record_of id entry)) ++ records_text name (map (record_of id) (drop (i + 1) trail))
entries_left name id trail i entry e = ap (λ t. records_text name (map (record_of id) t)) (left_from trail i entry e)

-- the lines of a tenant's nodes
pub nodes_left : (name : List ℕ) (shards : ℕ) (nodes : List SoloNode) (i : ℕ) (node : SoloNode) → slice_get nodes i ≡ Some node →
    records_text name (records_from shards i (drop i nodes)) ≡ records_text name (map (record_of (id_of shards i)) node.trail) ++ records_text name (records_from shards (i + 1) (drop (i + 1) nodes))
nodes_left name shards nodes i node e =
    ap (λ ns. records_text name (records_from shards i ns)) (left_from nodes i node e) ∙ flat_map-append _ (map (record_of (id_of shards i)) node.trail) (records_from shards (i + 1) (drop (i + 1) nodes))

-- the lines of the tenants
pub tenants_left : (config : Config) (nodes : TenantConfig → ℕ → List SoloNode) (tenants : List Tenant) (i : ℕ) (tenant : Tenant) → slice_get tenants i ≡ Some tenant →
    tenants_text config nodes i (drop i tenants) ≡ records_text tenant.name (records_of (tenant_config config tenant) (nodes (tenant_config config tenant) i)) ++ tenants_text config nodes (i + 1) (drop (i + 1) tenants)
tenants_left config nodes tenants i tenant e = ap (tenants_text config nodes i) (left_from tenants i tenant e)

-- what holds of each holds of one
pub each_at : {A : Type 0} (P : A → Type 0) (xs : List A) (i : ℕ) (x : A) → AllByRecursion P xs → slice_get xs i ≡ Some x → P x
each_at P xs i x h e = Every-at P x xs h (slice_get-Among xs i x e)

-- what a test of all says says it of one
pub all_at : {A : Type 0} (test : A → Bool) (xs : List A) (i : ℕ) (x : A) → IsTrue (list_all test xs) → slice_get xs i ≡ Some x → IsTrue (test x)
all_at test [] i x all at = absurd cc
all_at test (y ∷ ys) zero x all at = subst (λ z. IsTrue (test z)) (same_value y x at) (both (test y) (list_all test ys) all).0
all_at test (y ∷ ys) (suc i) x all at = all_at test ys i x (both (test y) (list_all test ys) all).1 at

-- a node has its number
pub numbered : (config : Config) (nodes : List Shared) (i : ℕ) (node : Shared) → IsCluster (shape_of config) nodes → i < length nodes → node ≡ get_or nodes i node → node.home.id ≡ id_of config.shards i
numbered config nodes i node are below is = (are.each i node below is).0

-- a tenant's slot has its place there
pub place_there : (config : Config) (tenant : TenantConfig) (slot : ℕ) (nodes : List Shared) (i : ℕ) (node : Shared) → IsCluster (shape_of config) nodes → i < length nodes → node ≡ get_or nodes i node →
    HasTenant tenant slot (record { shape = shape_of config; nodes = nodes }) → place_at slot node ≡ Some (place_of tenant (id_of config.shards i))
place_there config tenant slot nodes i node are below is has = grind (arith, nat_tests, each_at, numbered, slice_get-get_or)

-- a tenant's node among those that tenants share
pub his_node : (config : Config) (tenant : TenantConfig) (slot : ℕ) (nodes : List Shared) (i : ℕ) (node : Shared) → IsCluster (shape_of config) nodes → i < length nodes → node ≡ get_or nodes i node →
    slice_get (his_nodes config nodes tenant slot) i ≡ Some (solo_of slot (place_of tenant (id_of config.shards i)) node)
his_node config tenant slot nodes i node are below is = grind (arith, nat_tests, numbered, slice_get-get_or, slice_get-map)

pub no_node_left : (config : Config) (tenant : TenantConfig) (slot : ℕ) (nodes : List Shared) (i : ℕ) → length nodes ≤ i → drop i (his_nodes config nodes tenant slot) ≡ []
no_node_left config tenant slot nodes i past =
    drop_all i (his_nodes config nodes tenant slot) (subst (λ n. n ≤ i) (sym (length-map nodes (λ (n : Shared). solo_of slot (place_of tenant n.home.id) n))) past)

-- if each tenant has the same nodes, the records are the same
pub tenants_text-same : (config : Config) (one other : TenantConfig → ℕ → List SoloNode) (slot : ℕ) (tenants : List Tenant) →
    ((k : ℕ) (tenant : Tenant) → slice_get tenants k ≡ Some tenant → one (tenant_config config tenant) (slot + k) ≡ other (tenant_config config tenant) (slot + k)) →
    tenants_text config one slot tenants ≡ tenants_text config other slot tenants
tenants_text-same config one other slot [] h = refl
tenants_text-same config one other slot (tenant ∷ tenants) h =
    let mine = tenant_config config tenant in
    let here : one mine slot ≡ other mine slot = subst (λ n. one mine n ≡ other mine n) (omega arith) (h 0 tenant refl) in
    let later = tenants_text-same config one other (slot + 1) tenants (λ k t e. subst (λ n. one (tenant_config config t) n ≡ other (tenant_config config t) n) (omega arith) (h (suc k) t e)) in
    λ i. records_text tenant.name (records_of mine (here i)) ++ later i

pub audit_text-same : (config : Config) (one other : TenantConfig → ℕ → List SoloNode) →
    ((k : ℕ) (tenant : Tenant) → slice_get config.tenants k ≡ Some tenant → one (tenant_config config tenant) k ≡ other (tenant_config config tenant) k) → audit_text config one ≡ audit_text config other
audit_text-same config one other h =
    ap (λ l. head_text config ++ l) (tenants_text-same config one other 0 config.tenants (λ k tenant e. subst (λ n. one (tenant_config config tenant) n ≡ other (tenant_config config tenant) n) (omega arith) (h k tenant e)))

abbrev pub AllFormed : List Record → Type 0
AllFormed records = AllByRecursion (λ (told : Record). IsTrue (is_record told)) records

-- a reply in the audit of a slot has a form
pub reply_formed : (slot : ℕ) (place : Place) (node : Shared) (i : ℕ) (entry : AuditEntry) → slice_get (solo_of slot place node).trail i ≡ Some entry → IsTrue (has_form entry.reply)
reply_formed slot place node i entry found =
    each_at (λ (e : AuditEntry). IsTrue (has_form e.reply)) (solo_of slot place node).trail i entry (audits_formed place (calls_in_trail (trail_of slot node.audit))) found

-- those of the nodes from this one on
pub nodes_formed : (shards : ℕ) (nodes : List SoloNode) (i : ℕ) (node : SoloNode) → slice_get nodes i ≡ Some node → AllFormed (map (record_of (id_of shards i)) node.trail) → AllFormed (records_from shards (i + 1) (drop (i + 1) nodes)) →
    AllFormed (records_from shards i (drop i nodes))
nodes_formed shards nodes i node found first more =
    subst AllFormed (sym (ap (records_from shards i) (left_from nodes i node found)))
    (Every-append (λ (told : Record). IsTrue (is_record told)) (map (record_of (id_of shards i)) node.trail) (records_from shards (i + 1) (drop (i + 1) nodes)) first more)

-- of the tenants below a slot
abbrev pub AreFormedBelow : Config → (TenantConfig → ℕ → List SoloNode) → ℕ → Type 0
AreFormedBelow config nodes below = (slot : ℕ) (tenant : Tenant) → slot < below → slice_get config.tenants slot ≡ Some tenant → AllFormed (his_records config nodes slot tenant)

-- those of one tenant more
pub one_tenant_formed : (config : Config) (nodes : TenantConfig → ℕ → List SoloNode) (i : ℕ) (tenant : Tenant) → slice_get config.tenants i ≡ Some tenant → AreFormedBelow config nodes i → AllFormed (his_records config nodes i tenant) →
    AreFormedBelow config nodes (i + 1)
one_tenant_formed config nodes i tenant found before formed slot other below e = grind (arith, nat_tests)
