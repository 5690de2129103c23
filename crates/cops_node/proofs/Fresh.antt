-- What a new node keeps.
use Rattle.std.proofs.Common.{◌≡◌, ℕ, zero, suc, ◌*◌, ◌/◌, ◌%◌, ◌<◌, ◌≤◌, Bool, true, false, true≢false, List, [], ◌∷◌, length, map, refl, sym, ap, ◌∙◌, subst, arith, get_or, ◌⊎◌, inl, inr, IsTrue}
use Rattle.std.specs.Prelude.{Option, Some, None, IfSome, is_some, replicate, drop, nat_le, ◌&&◌, ◌==◌, if◌then◌else◌}
use Rattle.std.specs.List.{AllClonesOf, AllByRecursion, list_all}
use Rattle.std.proofs.lemmas.Bool.Decides.{nat_tests}
use Rattle.std.specs.Option.{option_map}
use Rattle.std.proofs.lemmas.List.{length-map}
use Rattle.std.proofs.lemmas.List.Sorted.{length_permutation}
use Rattle.std.proofs.Math.Nat.{mul-le-mul_left, mul-le-mul_right}
use Rattle.cops_types.specs.declared.configs.Config.{Config}
use Rattle.cops_types.specs.declared.configs.Tenant.{Tenant}
use Rattle.cops_types.specs.declared.records.Dated.{Dated}
use Rattle.cops_types.specs.declared.records.EntryParts.{EntryParts as Entry}
use Rattle.cops_types.specs.HeadLines.{are_sizes}
use Rattle.cops_types.specs.Layout.{NODES}
use Rattle.cops_types.specs.Records.{StandsFor}
use Rattle.cops_types.specs.Version.{Timestamp, no_version, last_clock}
use Rattle.cops_store.specs.Contents.{Contents, rows_of}
use Rattle.cops_outbox.specs.Queues.{Queues, queue_of}
use Rattle.cops_model.specs.declared.calls.AuditEntry.{AuditEntry}
use Rattle.cops_model.specs.declared.calls.NodeId.{NodeId}
use Rattle.cops_node.specs.declared.Terms.{Terms}
use Rattle.cops_node.specs.declared.parts.Part.{Part}
use Rattle.cops_node.specs.declared.Home.{Home}
use Rattle.cops_node.specs.Parts.{AllFit, IsFresh, IsHome, IsNode, StandsAt, StandsForTrail, home_of, left_by, mark_in, no_calls, opening_terms, place_under, terms_in, terms_of, trail_of}
use Rattle.cops_model.specs.Place.{Place}
use Rattle.cops_node.proofs.Slots.{PlaceIn, some_same, some_there, terms_in_part, terms_shown, view_of}

-- a list of copies
pub copies_are : (clones : Timestamp → Timestamp → Type 0) (x : Timestamp) (ys : List Timestamp) → ((y : Timestamp) → clones x y → y ≡ x) → AllClonesOf clones x ys → ys ≡ replicate (length ys) x
copies_are clones x [] f h = refl
copies_are clones x (y ∷ ys) f h = let here : y ≡ x = one h.0 in let rest = copies_are clones x ys f h.1 in (λ i. here i ∷ rest i)
  where
    one : (y ≡ x) ⊎ clones x y → y ≡ x
    one (inl e) = e
    one (inr k) = f y k

-- ---- a new node

pub no_calls_fit : (place : Place) (slots : ℕ) → AllByRecursion (AllFit place) (no_calls slots)
no_calls_fit place zero = tt
no_calls_fit place (suc slots) = (tt, no_calls_fit place slots)

-- what contracts see of a new node
pub new_view : (config : Config) (id : NodeId) (parts : List (Option Part)) (audit : List (List AuditEntry)) → audit ≡ no_calls (length parts) → terms_in parts ≡ opening_terms config
    → view_of (home_of config id) parts audit ≡ record { home = home_of config id; terms = opening_terms config; audit = no_calls (length config.tenants) }
new_view config id parts audit none terms =
    let long : length parts ≡ length config.tenants = sym (length-map parts (option_map terms_in_part)) ∙ ap length terms ∙ length-map config.tenants (λ (t : Tenant). Some (terms_of t)) in
    let trails = none ∙ ap no_calls long in
    λ i. record { home = home_of config id; terms = terms i; audit = trails i }

pub replicate_read : {A : Type 0} (n i : ℕ) (x : A) → get_or (replicate n x) i x ≡ x
replicate_read zero i x = refl
replicate_read (suc n) zero x = refl
replicate_read (suc n) (suc i) x = replicate_read n i x

-- no node has a mark yet
no_mark : (home : Home) (n node : ℕ) → mark_in home (replicate n no_version) node ≡ no_version
no_mark home n node = by (node % home.shape.shards == home.id.shard)
  where
    by : (b : Bool) → (if b then get_or (replicate n no_version) (node / home.shape.shards) no_version else no_version) ≡ no_version
    by true = replicate_read n (node / home.shape.shards) no_version
    by false = refl

pub length_replicate : {A : Type 0} (n : ℕ) (x : A) → length (replicate n x) ≡ n
length_replicate zero x = refl
length_replicate (suc n) x = ap suc (length_replicate n x)

drop_nothing : (n : ℕ) → (let none : List Entry = [] in drop n none ≡ none)
drop_nothing zero = refl
drop_nothing (suc n) = refl

fresh_at : (dcs : ℕ) (parts : List (Option Part)) (slot : ℕ) (part : Part) → AllByRecursion (λ p. IfSome p (IsFresh dcs)) parts → get_or parts slot None ≡ Some part → IsFresh dcs part
fresh_at dcs [] slot part h is = absurd (true≢false (sym (ap is_some is)))
fresh_at dcs (p ∷ parts) zero part h is = subst (λ q. IfSome q (IsFresh dcs)) is h.0
fresh_at dcs (p ∷ parts) (suc slot) part h is = fresh_at dcs parts slot part h.1 is

-- the first clock of each slot's terms is one that a clock has
clock_at : (tenants : List Tenant) (slot : ℕ) (terms : Terms) → AllByRecursion (λ (t : Tenant). t.first_clock ≤ last_clock) tenants
    → get_or (map (λ (t : Tenant). Some (terms_of t)) tenants) slot None ≡ Some terms → terms.first_clock ≤ last_clock
clock_at [] slot terms clocks is = absurd (true≢false (sym (ap is_some is)))
clock_at (t ∷ tenants) zero terms clocks is = subst (λ (k : Terms). k.first_clock ≤ last_clock) (some_same (terms_of t) terms is) clocks.0
clock_at (t ∷ tenants) (suc slot) terms clocks is = clock_at tenants slot terms clocks.1 is

pub nothing_waits : (data_centres slots dc slot : ℕ) → let none : List (List (List Entry)) = replicate data_centres (replicate slots []) in get_or (get_or none dc []) slot [] ≡ []
nothing_waits zero slots dc slot = refl
nothing_waits (suc data_centres) slots zero slot = replicate_read slots slot []
nothing_waits (suc data_centres) slots (suc dc) slot = nothing_waits data_centres slots dc slot

none_of : {A : Type 0} (xs : List A) → length xs ≡ 0 → xs ≡ []
none_of [] h = refl
none_of (x ∷ xs) h = absurd (omega arith)

-- what stands for no records has no rows
pub no_rows : (rows : List Dated) → StandsFor rows [] → rows ≡ []
no_rows rows h = none_of rows (sym (length_permutation rows [] h.records))

-- the part of a tenant before any call, if the slot is empty
pub fresh_part : (home : Home) (slot : ℕ) (part : Part) (store : Contents) (outbox : Queues) → IsHome home → IsFresh home.shape.data_centres part → part.terms.first_clock ≤ last_clock
    → slot < store.tenants → slot < outbox.tenants → outbox.own ≡ home.id.dc → length outbox.queues ≡ home.shape.data_centres → StandsFor (rows_of slot store) [] → ((dc : ℕ) → queue_of slot dc outbox ≡ [])
    → StandsForTrail slot home part [] store outbox
fresh_part home slot part store outbox node h clock stored queued own all empty waits =
    let place : Place = place_under home part.terms in
    let stands : StandsAt slot place part.counters store outbox (left_by place []) = record {
      home_is = node;
      stored = stored;
      queued = queued;
      own_is = own;
      all_queues = all;
      rows = empty;
      queues = λ dc other. waits dc ∙ sym (drop_nothing (get_or (replicate home.shape.data_centres 0) dc 0));
      all_acked = length_replicate home.shape.data_centres 0;
      acked = λ dc. subst (λ n. n ≤ 0) (sym (replicate_read home.shape.data_centres dc 0)) (omega arith);
      clock_is = h.clock_is;
      clock_fits = subst (λ n. n ≤ last_clock) (sym h.clock_is) clock;
      marks = record {
        all = ap length h.marks ∙ length_replicate home.shape.data_centres no_version;
        each = λ node. ap (λ (ms : List Timestamp). mark_in home ms node) h.marks ∙ no_mark home home.shape.data_centres node;
      };
      late = tt;
    } in
    record {
      stands = stands;
      moment = sym h.moment;
      trail_is = refl;
    }

pub IsNode-new : (config : Config) (id : NodeId) (parts : List (Option Part)) (audit : List (List AuditEntry)) (store : Contents) (outbox : Queues) → id.dc < config.data_centres → id.shard < config.shards → config.data_centres * config.shards ≤ NODES
    → AllByRecursion (λ (t : Tenant). t.first_clock ≤ last_clock) config.tenants → AllByRecursion (λ p. IfSome p (IsFresh config.data_centres)) parts → terms_in parts ≡ opening_terms config
    → store.tenants ≡ length parts → outbox ≡ record { own = id.dc; tenants = length parts; queues = replicate config.data_centres (replicate (length parts) []) }
    → ((slot : ℕ) → StandsFor (rows_of slot store) []) → audit ≡ no_calls (length parts) → IsNode (home_of config id) parts audit store outbox
IsNode-new config id parts audit store outbox dc shard numbers clocks fresh terms stored outbox_is empty none = record {
  slots = record {
    home_is = node;
    stored = omega arith;
    queued = (let long = ap (λ (o : Queues). o.tenants) outbox_is in omega arith);
    own_is = own;
    all_queues = all;
  };
  audited = ap length none ∙ length_replicate (length parts) [];
  each = λ slot part read.
      let lt = some_there parts slot part read in
      let clock = clock_at config.tenants slot part.terms clocks (sym (ap (λ (ts : List (Option Terms)). get_or ts slot None) terms) ∙ terms_shown parts slot part read) in
      subst (λ t. StandsForTrail slot (home_of config id) part t store outbox) (sym (no_trail slot))
      (fresh_part (home_of config id) slot part store outbox node (fresh_at config.data_centres parts slot part fresh read) clock
      (omega arith) (let long = ap (λ (o : Queues). o.tenants) outbox_is in omega arith) own all (empty slot) (waits slot));
  vacant = λ slot read. record {
    none = no_trail slot;
    rows = no_rows (rows_of slot store) (empty slot);
    queues = waits slot;
  };
  fitting = subst (AllByRecursion (AllFit (PlaceIn (home_of config id)))) (sym none) (no_calls_fit (PlaceIn (home_of config id)) (length parts));
}
  where
    no_trail : (slot : ℕ) → trail_of slot audit ≡ []
    no_trail slot = ap (trail_of slot) none ∙ replicate_read (length parts) slot []

    node : IsHome (home_of config id)
    node = record {
      dc_exists = dc;
      shard_exists = shard;
      numbers_fit = numbers;
    }

    own : outbox.own ≡ id.dc
    own = ap (λ (o : Queues). o.own) outbox_is

    all : length outbox.queues ≡ config.data_centres
    all = ap (λ (o : Queues). length o.queues) outbox_is ∙ length_replicate config.data_centres (replicate (length parts) [])

    waits : (slot dc : ℕ) → queue_of slot dc outbox ≡ []
    waits slot dc = ap (queue_of slot dc) outbox_is ∙ nothing_waits config.data_centres (length parts) dc slot

-- what the test on first clocks says
pub clocks_of : (tenants : List Tenant) → list_all (λ (tenant : Tenant). nat_le tenant.first_clock last_clock) tenants ≡ true → AllByRecursion (λ (tenant : Tenant). tenant.first_clock ≤ last_clock) tenants
clocks_of [] h = tt
clocks_of (t ∷ tenants) h = (clock (nat_le t.first_clock last_clock) refl h, clocks_of tenants (rest (nat_le t.first_clock last_clock) h))
  where
    clock : (b : Bool) → nat_le t.first_clock last_clock ≡ b → (b && list_all (λ (tenant : Tenant). nat_le tenant.first_clock last_clock) tenants) ≡ true → t.first_clock ≤ last_clock
    clock true is h = grind (arith, nat_tests)
    clock false is h = absurd (true≢false (sym h))

    rest : (b : Bool) → (b && list_all (λ (tenant : Tenant). nat_le tenant.first_clock last_clock) tenants) ≡ true → list_all (λ (tenant : Tenant). nat_le tenant.first_clock last_clock) tenants ≡ true
    rest true h = h
    rest false h = cc

-- so few nodes that a version has their numbers
pub numbers_fit : (config : Config) → IsTrue (are_sizes config) → config.data_centres * config.shards ≤ NODES
numbers_fit config h =
    let dcs : config.data_centres ≤ 8 = grind (arith, nat_tests) in
    let shards : config.shards ≤ 64 = grind (arith, nat_tests) in
    omega (arith, mul-le-mul_right config.shards dcs, mul-le-mul_left 8 shards)
