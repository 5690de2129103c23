-- Nodes at which tenants came and went are what histories leave.
use Rattle.std.proofs.Common.{◌≡◌, ◌*◌, ◌<◌, ◌∙◌, ℕ, zero, suc, List, [], ◌∷◌, length, map, arith, refl, sym, ap, Some, get_or}
use Rattle.std.specs.Prelude.{slice_get}
use Rattle.std.proofs.lemmas.List.FromFn.{length-map-range_with_len, get_or-map-range_with_len}
use Rattle.std.proofs.lemmas.Option.{get_or_from_slice_get, slice_get_within}
use mathlib.Core.Option.{some}
use lib.ListN.{get_elem?}
use Rattle.cops_types.specs.declared.configs.Config.{Config}
use Rattle.cops_gate.specs.History.{turns_at}
use Rattle.cops_node.specs.Clusters.{id_of, new_nodes, new_shared}
use Rattle.cops_node.specs.Hosting.{Hosted, host_in}
use Rattle.cops_node.specs.Parts.{Shared, home_in, home_of}
use Rattle.cops_node.specs.declared.Home.{Home}
use Rattle.cops_service.specs.HostedDesks.{hosted_node}
use Rattle.cops_service.specs.HostedLeft.{AreLeftByLives}
use Rattle.cops_service.proofs.Hosted.{stays_there}

-- ---- they stay in their places

length_map : {X Y : Type 0} (f : X → Y) (l : List X) → length (map f l) ≡ length l
length_map f [] = refl
length_map f (x ∷ l) = ap suc (length_map f l)

pub as_many_by_lives : (config : Config) (nodes : List Shared) → AreLeftByLives config nodes → length nodes ≡ config.data_centres * config.shards
as_many_by_lives config nodes h =
    ap length (sym h.nodes_are) ∙ length_map hosted_node h.left ∙ h.leaves.0 ∙ sym (length_map hosted_node h.opening) ∙ ap length h.opened
    ∙ length-map-range_with_len (new_shared config) 0 (config.data_centres * config.shards)

homes_stay : (opening left : List Hosted) → length left ≡ length opening → ((n : ℕ) (first node : Hosted) → get_elem? opening n ≡ some first → get_elem? left n ≡ some node → host_in node ≡ host_in first) → map host_in left ≡ map host_in opening
homes_stay [] [] many h = refl
homes_stay (o ∷ os) (n ∷ ns) many h =
    let first = h 0 o n refl refl in
    let rest = homes_stay os ns (omega arith) (λ k first node at there. h (suc k) first node at there) in
    λ i. first i ∷ rest i
homes_stay [] (n ∷ ns) many h = absurd (omega arith)
homes_stay (o ∷ os) [] many h = absurd (omega arith)

homes_of : (l : List Hosted) → map home_in (map hosted_node l) ≡ map host_in l
homes_of [] = refl
homes_of (x ∷ l) = ap (λ (hs : List Home). x.node.home ∷ hs) (homes_of l)

-- the nodes have the homes of the configuration's
same_homes : (config : Config) (nodes : List Shared) → AreLeftByLives config nodes → map home_in nodes ≡ map home_in (new_nodes config).nodes
same_homes config nodes h =
    ap (map home_in) (sym h.nodes_are) ∙ homes_of h.left
    ∙ homes_stay h.opening h.left h.leaves.0 (λ n first node at there. stays_there first node (turns_at n h.log) (h.leaves.1 n first node at there))
    ∙ sym (homes_of h.opening) ∙ ap (map home_in) h.opened

get_or_map : {X Y : Type 0} (f : X → Y) (l : List X) (n : ℕ) (d : X) → get_or (map f l) n (f d) ≡ f (get_or l n d)
get_or_map f [] n d = refl
get_or_map f (x ∷ l) zero d = refl
get_or_map f (x ∷ l) (suc n) d = get_or_map f l n d

pub at_home_by_lives : (config : Config) (number : ℕ) (nodes : List Shared) (left : Shared) → AreLeftByLives config nodes → slice_get nodes number ≡ Some left → left.home ≡ home_of config (id_of config.shards number)
at_home_by_lives config number nodes left h at =
    let within : number < length nodes = slice_get_within nodes number left at in
    let inside : number < config.data_centres * config.shards = omega (arith, within, as_many_by_lives config nodes h) in
    let opening_is : get_or (new_nodes config).nodes number left ≡ new_shared config number = get_or-map-range_with_len (new_shared config) 0 (config.data_centres * config.shards) number number left inside (omega arith) in
    ap home_in (sym (get_or_from_slice_get nodes number left left at))
    ∙ sym (get_or_map home_in nodes number left)
    ∙ ap (λ (hs : List Home). get_or hs number left.home) (same_homes config nodes h)
    ∙ get_or_map home_in (new_nodes config).nodes number left
    ∙ ap home_in opening_is
