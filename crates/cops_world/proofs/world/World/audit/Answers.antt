use Rattle.std.proofs.Common.{◌≡◌, ◌+◌, ◌*◌, ◌<◌, List, length, sym, ap, ◌∙◌, subst, get_or}
use Rattle.std.specs.Prelude.{IsFalse, None}
use Rattle.std.specs.Option.{option_copied}
use Rattle.cops_node.specs.Clusters.{shape_of}
use Rattle.cops_node.specs.Parts.{Shared}
use Rattle.cops_node.specs.declared.Shape.{Shape}
use Rattle.cops_node.proofs.Clusters.{number_within}
use Rattle.cops_model.specs.Cluster.{SoloCluster}
use Rattle.cops_model.specs.Setups.{config_in, is_open_at}
use Rattle.cops_world.specs.Trails.{audited_at}
use Rattle.cops_world.specs.Worlds.{ClusterStandsAt, KeptWorld, world_of}
use Rattle.cops_world.proofs.WorldKeeps.{sizes_in}
use Rattle.cops_world.proofs.WorldTrails.{shows_own, vacant_at}
use Rattle.cops_world.proofs.world.World.audit.Goals as goal

pub returns : goal.returns
returns c =
    let config = c.self.inside.config in
    let nodes = c.self.inside.nodes in
    let id = c.args.id in
    let slot = c.args.slot in
    let node = c.index-nodes-id.result in
    let number = id.dc * config.shards + id.shard in
    let old : KeptWorld = record { setup = record { head = config; tenants = c.self.inside.tenants }; nodes = nodes; table = c.self.inside.actors } in
    let dc = subst (λ (k : KeptWorld). id.dc < k.setup.head.data_centres) (sym c.self.view_is) c.requires.dc in
    let shard = subst (λ (k : KeptWorld). id.shard < k.setup.head.shards) (sym c.self.view_is) c.requires.shard in
    let all = c.nodes-nodes.ensures.in_order.all ∙ ap (λ (s : Shape). s.data_centres * s.shards) c.self.invariant.whole.shape_is in
    let within : number < length nodes.nodes = subst (λ n. number < n) (sym all) (number_within (shape_of config) id dc shard) in
    let read : node ≡ get_or nodes.nodes number node = c.index-nodes-id.is ∙ ap (λ (ns : List Shared). get_or ns number node) c.nodes-nodes.ensures.value in
    record {
      shows = subst (λ (k : KeptWorld). (cluster : SoloCluster) → ClusterStandsAt (world_of k) slot cluster → option_copied c.audit.result ≡ audited_at (config_in k.setup slot) id c.args.place cluster) c.self.view_is
          (λ cluster stood. shows_own (world_of old) slot id c.args.place node (option_copied c.audit.result) (sizes_in old.setup slot stood.open_there).shards within read c.audit.ensures.solo cluster stood);
      vacant = subst (λ (k : KeptWorld). IsFalse (is_open_at k.setup slot) → c.audit.result ≡ None) c.self.view_is
          (λ closed. c.audit.ensures.vacant (vacant_at old.setup slot nodes.nodes number node c.self.invariant.whole.sites_are within read closed));
    }
