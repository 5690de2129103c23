-- Nodes that a service leaves whose tenants came and went have the tenants of its roster.
use Rattle.std.proofs.Common.{◌≡◌, ◌∙◌, ℕ, zero, suc, ◌-◌, ◌*◌, ◌^◌, ◌<◌, ◌≤◌, inl, inr, List, [], ◌∷◌, ◌++◌, length, map, get_or, replicate, arith, refl, sym, ap, subst, length-append}
use Rattle.std.specs.Prelude.{Option, Some, None}
use Rattle.std.specs.List.{AllByRecursion, range_with_len}
use Rattle.std.specs.Option.{option_map}
use Rattle.std.proofs.lemmas.List.{length-map}
use mathlib.Core.Option.{some, some-injective, some-ne-none}
use lib.ListN.{get_elem?}
use Rattle.cops_types.specs.declared.configs.Config.{Config}
use Rattle.cops_types.specs.declared.configs.Tenant.{Tenant}
use Rattle.cops_types.specs.HeadLines.{most_tenants}
use Rattle.cops_types.specs.OpenSlots.{begun_with, open_at}
use Rattle.cops_gate.specs.History.{turns_at}
use Rattle.cops_gate.specs.Rule.{Met}
use Rattle.cops_gate.specs.Seats.{HasAllOf, all_spent}
use Rattle.cops_gate.proofs.Ending.{all_split}
use Rattle.cops_gate.proofs.Keeps.{at_below, there_at}
use Rattle.cops_node.specs.Clusters.{new_shared}
use Rattle.cops_node.specs.Hosting.{Hosted, life_at}
use Rattle.cops_node.specs.Parts.{MOST_SLOTS, Shared, opening_terms, terms_at, terms_of}
use Rattle.cops_service.specs.Gates.{Gates, openings}
use Rattle.cops_service.specs.HostedDesks.{HostedSeat, IsInFirstLives, hosted_node}
use Rattle.cops_service.specs.LifeCrews.{AreOfLifeCrew, AreServedInLives}
use Rattle.cops_service.specs.OpenNodes.{AreLeftWithTenants, HaveLives, HaveNoOthers, HaveOpenTenants}
use Rattle.cops_service.specs.Rosters.{Roster, first_roster}
use Rattle.cops_service.proofs.KeptTenants.{Agrees, HasMetNone, all_followed, led}
use Rattle.cops_service.proofs.QuietSeats.{only_of_host}
use Rattle.cops_service.proofs.SlotTenants.{IsHostsOrIdle, has_none, has_terms, in_life, led_so, only_hosts, resident_after, resident_in}

-- ---- lists

module _ {A : Type 0} (P : A → Type 0) where
  all_there : (xs : List A) (n : ℕ) (x : A) → AllByRecursion P xs → get_elem? xs n ≡ some x → P x
  all_there [] n x all at = absurd (some-ne-none x (sym at))
  all_there (y ∷ xs) zero x all at = subst P (some-injective y x at) all.0
  all_there (y ∷ xs) (suc n) x all at = all_there xs n x all.1 at

  all_if_each : (xs : List A) → ((n : ℕ) (x : A) → get_elem? xs n ≡ some x → P x) → AllByRecursion P xs
  all_if_each [] each = tt
  all_if_each (x ∷ xs) each = (each 0 x refl, all_if_each xs (λ n y at. each (suc n) y at))

-- what holds of each node without the numbers of lives
all_nodes : (P : Shared → Type 0) (hs : List Hosted) → AllByRecursion (λ (h : Hosted). P (hosted_node h)) hs → AllByRecursion P (map hosted_node hs)
all_nodes P [] all = tt
all_nodes P (h ∷ hs) all = (all.0, all_nodes P hs all.1)

all_hosted : (P : Shared → Type 0) (hs : List Hosted) → AllByRecursion P (map hosted_node hs) → AllByRecursion (λ (h : Hosted). P (hosted_node h)) hs
all_hosted P [] all = tt
all_hosted P (h ∷ hs) all = (all.0, all_hosted P hs all.1)

met_left : (n : ℕ) (xs ys : List ℕ) → Met n xs → Met n (xs ++ ys)
met_left n [] ys met = absurd met
met_left n (x ∷ xs) ys (inl same) = inl same
met_left n (x ∷ xs) ys (inr met) = inr (met_left n xs ys met)

met_right : (n : ℕ) (xs ys : List ℕ) → Met n ys → Met n (xs ++ ys)
met_right n [] ys met = met
met_right n (x ∷ xs) ys met = inr (met_right n xs ys met)

none_spent : (seats : List HostedSeat) → ((n : ℕ) → Met n (all_spent [] seats) → ⊥) → AllByRecursion HasMetNone seats
none_spent [] none = tt
none_spent (s ∷ seats) none = ((λ n met. none n (met_left n s.spent (all_spent [] seats) met)), none_spent seats (λ n met. none n (met_right n s.spent (all_spent [] seats) met)))

-- ---- the tenants of a configuration

vacant : (count slot : ℕ) → open_at slot (replicate count None) ≡ None
vacant zero slot = refl
vacant (suc count) zero = refl
vacant (suc count) (suc slot) = vacant count slot

begun_terms : (tenants : List Tenant) (free slot : ℕ) → get_or (map (λ (tenant : Tenant). Some (terms_of tenant)) tenants) slot None ≡ option_map terms_of (open_at slot (map Some tenants ++ replicate free None))
begun_terms [] free slot = ap (option_map terms_of) (sym (vacant free slot))
begun_terms (tenant ∷ tenants) free zero = refl
begun_terms (tenant ∷ tenants) free (suc slot) = begun_terms tenants free slot

length_begun : (tenants : List Tenant) → most_tenants ≤ length (begun_with tenants)
length_begun tenants =
    let free : List (Option Tenant) = replicate (most_tenants - length tenants) None in
    omega (arith, length-append (map Some tenants) free, length-map tenants (λ (tenant : Tenant). Some tenant), length_replicated (most_tenants - length tenants))
  where
    length_replicated : (count : ℕ) → length (replicate {A = Option Tenant} count None) ≡ count
    length_replicated zero = refl
    length_replicated (suc count) = ap suc (length_replicated count)

-- new nodes have their terms
terms_new : (config : Config) (numbers : List ℕ) → AllByRecursion (λ (node : Shared). node.terms ≡ opening_terms config) (map (new_shared config) numbers)
terms_new config [] = tt
terms_new config (n ∷ numbers) = (refl, terms_new config numbers)

-- ---- the service

module _ {M : Type 0} (Gives : M → ℕ → M → Type 0) (moments : M) (config : Config) (workers : ℕ) (nodes : List Shared) (roster : Roster) (served : AreServedInLives Gives moments config workers nodes roster) where
  abbrev cluster : Gates Hosted
  cluster = served.cluster

  abbrev crew : AreOfLifeCrew Gives moments config cluster workers (first_roster config) roster served.seen.seats
  crew = served.seen.crew

  abbrev host : HostedSeat
  host = crew.those.those.one

  -- what holds of each seat
  of_host : (P : HostedSeat → Type 0) → AllByRecursion P served.seen.seats → P host
  of_host P all =
      let servers = (all_split P crew.others (crew.one ∷ []) (subst (AllByRecursion P) crew.are all)).0 in
      let hosts = (all_split P crew.those.others (crew.those.one ∷ []) (subst (AllByRecursion P) crew.those.are servers)).0 in
      (all_split P crew.those.those.others (crew.those.those.one ∷ []) (subst (AllByRecursion P) crew.those.those.are hosts)).1.0

  all_seen : AllByRecursion (HasAllOf served.log) served.seen.seats
  all_seen = subst (λ log. AllByRecursion (HasAllOf log) served.seen.seats) (sym served.whole) served.seen.all

  only_host : AllByRecursion (IsHostsOrIdle host.number) served.log
  only_host = only_of_host Gives moments config cluster workers (first_roster config) roster served.log served.seen.seats crew all_seen served.made

  -- ---- one node

  module _ (number : ℕ) (opening node : Hosted) (opened : get_elem? (openings cluster) number ≡ some opening) (left : get_elem? served.left number ≡ some node) where
    resident_is : (slot : ℕ) → resident_in slot node ≡ led cluster number opening host slot
    resident_is slot =
        led_so slot opening node (turns_at number served.log) (served.leaves.1 number opening node opened left)
        ∙ only_hosts host.number number slot served.log only_host (resident_in slot opening)
        ∙ ap (λ log. resident_after slot (turns_at number log) (resident_in slot opening)) (of_host (HasAllOf served.log) all_seen).1

    terms_are : opening.node.terms ≡ opening_terms config
    terms_are = all_there (λ (h : Hosted). h.node.terms ≡ opening_terms config) (openings cluster) number opening
        (all_hosted (λ (s : Shared). s.terms ≡ opening_terms config) (openings cluster) (subst (AllByRecursion (λ (s : Shared). s.terms ≡ opening_terms config)) (sym served.opened)
        (terms_new config (range_with_len 0 (config.data_centres * config.shards))))) opened

    lives_are : opening.lives ≡ replicate MOST_SLOTS 0
    lives_are = all_there IsInFirstLives (openings cluster) number opening served.lives opened

    begun : (slot : ℕ) → resident_in slot opening ≡ option_map (λ (tenant : Tenant). in_life (get_or (replicate MOST_SLOTS 0) slot 0) (terms_of tenant)) (open_at slot (begun_with config.tenants))
    begun slot =
        ap (λ ls. option_map (in_life (get_or ls slot 0)) (terms_at slot opening.node)) lives_are
        ∙ ap (λ ts. option_map (in_life (get_or (replicate MOST_SLOTS 0) slot 0)) (get_or ts slot None)) terms_are
        ∙ ap (option_map (in_life (get_or (replicate MOST_SLOTS 0) slot 0))) (begun_terms config.tenants (most_tenants - length config.tenants) slot)
        ∙ twice (open_at slot (begun_with config.tenants))
      where
        twice : (o : Option Tenant) → option_map (in_life (get_or (replicate MOST_SLOTS 0) slot 0)) (option_map terms_of o) ≡ option_map (λ (tenant : Tenant). in_life (get_or (replicate MOST_SLOTS 0) slot 0) (terms_of tenant)) o
        twice None = refl
        twice (Some tenant) = refl

    -- the host's seat had made no turn
    led_first : (slot : ℕ) → led cluster number opening crew.those.those.that.first slot ≡ resident_in slot opening
    led_first slot = ap (λ log. resident_after slot (turns_at number log) (resident_in slot opening)) crew.those.those.that.no_turn

    agrees_first : Agrees cluster number opening (first_roster config) crew.those.those.that.first
    agrees_first = record {
      many = refl;
      wide = length_begun config.tenants;
      each = λ slot tenant is. led_first slot ∙ begun slot ∙ ap (option_map (λ (t : Tenant). in_life (get_or (replicate MOST_SLOTS 0) slot 0) (terms_of t))) is;
      free = λ none slot is. led_first slot ∙ begun slot ∙ ap (option_map (λ (t : Tenant). in_life (get_or (replicate MOST_SLOTS 0) slot 0) (terms_of t))) is;
    }

    agrees : Agrees cluster number opening roster host
    agrees =
        all_followed cluster number opening (at_below (openings cluster) number opening opened) crew.those.those.that.does.0
        (record { roster = first_roster config; seat = crew.those.those.that.first }) (record { roster = roster; seat = host }) crew.those.those.that.does.1 agrees_first

    has_tenant : (slot : ℕ) (tenant : Tenant) → open_at slot roster.tenants ≡ Some tenant → (terms_at slot node.node ≡ Some (terms_of tenant)) × (life_at slot node ≡ get_or roster.lives slot 0)
    has_tenant slot tenant is = has_terms slot (get_or roster.lives slot 0) (terms_of tenant) node (resident_is slot ∙ agrees.each slot tenant is)

    has_no_other : HasMetNone host → (slot : ℕ) → open_at slot roster.tenants ≡ None → terms_at slot node.node ≡ None
    has_no_other none slot is = has_none slot node (resident_is slot ∙ agrees.free none slot is)

  -- ---- all nodes

  each_left : (P : Hosted → Type 0) → ((number : ℕ) (opening node : Hosted) → get_elem? (openings cluster) number ≡ some opening → get_elem? served.left number ≡ some node → P node) → AllByRecursion P served.left
  each_left P each = all_if_each P served.left (λ number node left.
      let opened = there_at (openings cluster) number (subst (λ n. number < n) served.leaves.0 (at_below served.left number node left)) in
      each number opened.0 node opened.1 left)

  of_nodes : (P : Shared → Type 0) → AllByRecursion (λ (h : Hosted). P (hosted_node h)) served.left → AllByRecursion P nodes
  of_nodes P all = subst (AllByRecursion P) served.nodes_are (all_nodes P served.left all)

  have_open : HaveOpenTenants roster.tenants nodes
  have_open slot tenant is = of_nodes (λ node. terms_at slot node ≡ Some (terms_of tenant)) (each_left (λ node. terms_at slot node.node ≡ Some (terms_of tenant))
      (λ number opening node opened left. (has_tenant number opening node opened left slot tenant is).0))

  pub have_lives : HaveLives roster served.left
  have_lives slot tenant is = each_left (λ node. life_at slot node ≡ get_or roster.lives slot 0) (λ number opening node opened left. (has_tenant number opening node opened left slot tenant is).1)

  -- if no node ran out of tickets
  have_no_others : ((node : ℕ) → length (turns_at node served.log) < 2 ^ 62) → HaveNoOthers roster.tenants nodes
  have_no_others few slot is =
      let none = none_spent served.seen.seats (λ node met. let below = few node in let full = served.exhausted node (subst (Met node) (sym served.seen.spent) met) in omega (arith, below, full)) in
      of_nodes (λ node. terms_at slot node ≡ None) (each_left (λ node. terms_at slot node.node ≡ None)
      (λ number opening node opened left. has_no_other number opening node opened left (of_host HasMetNone none) slot is))

  pub left_with_tenants : AreLeftWithTenants config roster.tenants nodes
  left_with_tenants = record {
    left = record { opening = openings cluster; opened = served.opened; lives = served.lives; left = served.left; nodes_are = served.nodes_are; log = served.log; leaves = served.leaves };
    have = have_open;
    no_others = have_no_others;
  }
