-- Calls at the nodes of a world, and the acts that name a node which isn't there.
use Rattle.std.proofs.Common.{◌≡◌, ℕ, ◌<◌, Bool, true, false, not, ◌&&◌, List, [], ◌∷◌, refl, sym, subst, ap, ◌∙◌, true≢false}
use Rattle.std.specs.Prelude.{IsTrue, Option, Some, None, Result, Ok, is_some, nat_lt, ◌==◌}
use Rattle.std.specs.declared.alloc.AllocError.{AllocError}
use Rattle.std.proofs.lemmas.Bool.{ltb-true}
use Rattle.std.proofs.lemmas.Bool.Decides.{Decides-eqb}
use Rattle.cops_types.specs.declared.faults.Fault.TheVariants.{NoSuchPlace, NameTaken}
use Rattle.cops_types.specs.Search.{first_refusal}
use Rattle.cops_types.specs.TenantConfig.{TenantConfig}
use Rattle.cops_model.specs.declared.calls.NodeCall.TheVariants as node_call
use Rattle.cops_model.specs.declared.calls.NodeId.{NodeId}
use Rattle.cops_node.specs.Clusters.{Cluster, shape_of}
use Rattle.cops_node.specs.declared.Shape.{Shape}
use Rattle.cops_node.specs.Shape.{Fits}
use Rattle.cops_repl.specs.Stands.{RunsIn}
use Rattle.cops_types.specs.declared.configs.Config.{Config}
use Rattle.cops_model.specs.declared.acts.Act.{Act}
use Rattle.cops_model.specs.declared.acts.Act.TheVariants as acts
use Rattle.cops_model.specs.declared.replies.Reply.{Reply}
use Rattle.cops_model.specs.declared.replies.Reply.TheVariants.{Refused}
use Rattle.cops_model.specs.Cluster.{ActEffect, Actor, SoloCluster, actor_refusal, actor_step, cluster_step, collect_at, has_node, has_stream, reply_with, unless_refused, with_new_actor}
use Rattle.cops_model.specs.Setups.{config_in, is_open_at}
use Rattle.cops_world.specs.declared.actors.Actor.{Actor as Kept}
use Rattle.cops_world.specs.declared.actors.ActorId.{ActorId}
use Rattle.cops_script.specs.Acting.{IsSparedReply, TellsExactly}
use Rattle.cops_world.specs.Worlds.{AnyReply, World, IsWorld, Moves, join_step}
use Rattle.cops_script.specs.Sizes.{HasSizes}
use Rattle.cops_world.specs.ActorsStand.{Stepped}
use Rattle.cops_world.proofs.WorldJoins.{refused_moves, same_moves, taken_moves}
use Rattle.cops_world.proofs.WorldKeeps.{sizes_in}
use Rattle.cops_world.proofs.WorldSteps.{CountsAfter, HasSteppedAt, step_moves, table_after}

and_left : (a b : Bool) → (a && b) ≡ true → a ≡ true
and_left true b h = refl
and_left false b h = absurd (true≢false (sym h))

and_right : (a b : Bool) → (a && b) ≡ true → b ≡ true
and_right true b h = h
and_right false b h = absurd (true≢false (sym h))

-- ---- collections

pub node_fits : (shape : Shape) (config : TenantConfig) (id : NodeId) → config.data_centres ≡ shape.data_centres → config.shards ≡ shape.shards →
    has_node config id.dc id.shard ≡ true → Fits shape id node_call.Collect
node_fits shape config id data_centres shards there = record {
  dc_exists = subst (λ n. id.dc < n) data_centres (ltb-true id.dc config.data_centres (and_left _ _ there));
  shard_exists = subst (λ n. id.shard < n) shards (ltb-true id.shard config.shards (and_right (nat_lt id.dc config.data_centres) _ there));
  call_fits = refl;
}

module _ (old : World) (slot : ℕ) (id : NodeId) (moment : ℕ) where
  pub no_node_moves : has_node (config_in old.setup slot) id.dc id.shard ≡ false → Moves AnyReply (λ config. cluster_step config (acts.Collect id.dc id.shard moment)) old slot (Ok (Refused NoSuchPlace)) old
  no_node_moves none = refused_moves AnyReply (λ config. cluster_step config (acts.Collect id.dc id.shard moment)) old slot NoSuchPlace
      (λ cluster h. ap (λ b. unless_refused (first_refusal ((not b, NoSuchPlace) ∷ [])) cluster (collect_at (config_in old.setup slot) id moment cluster)) none)

  pub node_collects : has_node (config_in old.setup slot) id.dc id.shard ≡ true → (answered : Result Reply AllocError) (new : World) → Moves AnyReply (λ config. collect_at config id moment) old slot answered new →
      Moves AnyReply (λ config. cluster_step config (acts.Collect id.dc id.shard moment)) old slot answered new
  node_collects there answered new = same_moves AnyReply (λ config. collect_at config id moment) (λ config. cluster_step config (acts.Collect id.dc id.shard moment)) old slot answered new
      (λ cluster. sym (ap (λ b. unless_refused (first_refusal ((not b, NoSuchPlace) ∷ [])) cluster (collect_at (config_in old.setup slot) id moment cluster)) there))

-- ---- new actors

-- the name is taken
pub name_taken : (old : World) (id : ActorId) → is_some (old.actors id) ≡ true → (solo : Actor) (reply : Reply) → Moves AnyReply (join_step id.name solo reply) old id.slot (Ok (Refused NameTaken)) old
name_taken old id there solo reply = by (old.actors id) refl
  where
    by : (o : Option Kept) → old.actors id ≡ o → Moves AnyReply (join_step id.name solo reply) old id.slot (Ok (Refused NameTaken)) old
    by (Some kept) e = taken_moves old id.slot id.name solo reply kept e
    by None e = absurd (true≢false (sym there ∙ ap is_some e))

-- a new actor, where its place is there
abbrev pub join_where : (TenantConfig → Bool) → List ℕ → Actor → Reply → TenantConfig → SoloCluster → ActEffect
join_where exists name solo told config cluster = unless_refused (actor_refusal config (exists config) name cluster) cluster (reply_with told (with_new_actor name solo cluster))

module _ (old : World) (slot : ℕ) (name : List ℕ) (exists : TenantConfig → Bool) (solo : Actor) (told : Reply) where
  pub joins_there : exists (config_in old.setup slot) ≡ true → (answered : Result Reply AllocError) (new : World) → Moves AnyReply (join_step name solo told) old slot answered new → Moves AnyReply (join_where exists name solo told) old slot answered new
  joins_there there answered new = same_moves AnyReply (join_step name solo told) (join_where exists name solo told) old slot answered new
      (λ cluster. let config = config_in old.setup slot in sym (ap (λ b. unless_refused (actor_refusal config b name cluster) cluster (reply_with told (with_new_actor name solo cluster))) there))

  pub no_place_moves : exists (config_in old.setup slot) ≡ false → Moves AnyReply (join_where exists name solo told) old slot (Ok (Refused NoSuchPlace)) old
  no_place_moves none = refused_moves AnyReply (join_where exists name solo told) old slot NoSuchPlace
      (λ cluster h. let config = config_in old.setup slot in ap (λ b. unless_refused (actor_refusal config b name cluster) cluster (reply_with told (with_new_actor name solo cluster))) none)

-- a stream that is there may be carried
pub stream_runs : (setup : Config) (config : TenantConfig) (origin : NodeId) (to_dc : ℕ) → HasSizes config setup → has_stream config origin.dc origin.shard to_dc ≡ true →
    RunsIn (shape_of setup) setup.shards (record { origin = origin; to_dc = to_dc })
stream_runs setup config origin to_dc sizes there =
    let node = has_node config origin.dc origin.shard in
    let other = nat_lt to_dc config.data_centres in
    let front = and_left (node && other) (not (origin.dc == to_dc)) there in
    let at_node = and_left node other front in
    record {
      shards_are = refl;
      dc_exists = subst (λ n. origin.dc < n) sizes.data_centres (ltb-true origin.dc config.data_centres (and_left (nat_lt origin.dc config.data_centres) (nat_lt origin.shard config.shards) at_node));
      shard_exists = subst (λ n. origin.shard < n) sizes.shards (ltb-true origin.shard config.shards (and_right (nat_lt origin.dc config.data_centres) (nat_lt origin.shard config.shards) at_node));
      to_dc_exists = subst (λ n. to_dc < n) sizes.data_centres (ltb-true to_dc config.data_centres (and_right node other front));
      to_another = λ same. true≢false (sym (and_right (node && other) (not (origin.dc == to_dc)) there) ∙ ap not ((Decides-eqb origin.dc to_dc).1 (sym same)));
    }

-- ---- steps

pub none_there : (o : Option Kept) → is_some o ≡ false → o ≡ None
none_there None h = refl
none_there (Some kept) h = absurd (true≢false h)

abbrev id_of : ℕ → List ℕ → ActorId
id_of slot name = record { slot = slot; name = name }

-- the world after a step
pub steps_world : (old : World) → IsWorld old → (slot : ℕ) (name : List ℕ) (moment : ℕ) (stepped : Stepped) (nodes : Cluster) (before after : Kept) → HasSteppedAt old slot name moment stepped nodes before after →
    (new : World) → ((q : ActorId) → new.actors q ≡ table_after stepped.is_over old.actors (id_of slot name) after q) → new.setup ≡ old.setup → new.nodes ≡ nodes → CountsAfter stepped.is_over old.count slot new.count →
    IsTrue (is_open_at old.setup slot) → Moves IsSparedReply (λ config. actor_step config name moment) old slot stepped.answered new
steps_world old whole slot name moment stepped nodes before after h new actors setup_is nodes_are counts within =
    let sizes = sizes_in old.setup slot within in
    subst (Moves IsSparedReply (λ config. actor_step config name moment) old slot stepped.answered) (λ i. record { setup = sym setup_is i; nodes = sym nodes_are i; actors = new.actors; count = new.count })
    (step_moves old whole slot name moment stepped nodes before after h new.actors actors new.count counts (sizes.shards ∙ sym (ap (λ (s : Shape). s.shards) whole.shape_is)))

-- ---- acts

-- the same act by another name
pub acted : (old : World) (slot : ℕ) (act other : Act) → act ≡ other → (answered : Result Reply AllocError) (new : World) → Moves (TellsExactly other) (λ config. cluster_step config other) old slot answered new →
    Moves (TellsExactly act) (λ config. cluster_step config act) old slot answered new
acted old slot act other same answered new = subst (λ (a : Act). Moves (TellsExactly a) (λ config. cluster_step config a) old slot answered new) (sym same)
