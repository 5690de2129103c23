-- A cluster at which tenants come and go.
use Rattle.std.proofs.Common.{◌≡◌, ℕ, suc, arith, ◌∙◌, ◌+◌, ◌^◌, ◌<◌, ◌≤◌, List, map, length, sym, ap, subst, get_or, IsTrue}
use Rattle.std.proofs.lemmas.List.{get_or-map, length-map}
use Rattle.cops_types.specs.declared.configs.Config.{Config}
use Rattle.cops_types.specs.HeadLines.{are_sizes}
use Rattle.cops_model.specs.declared.calls.NodeId.{NodeId}
use Rattle.cops_model.specs.Place.{node_number}
use Rattle.cops_node.specs.Clusters.{new_nodes, shape_of}
use Rattle.cops_node.specs.declared.hosted.SlotCall.{SlotCall}
use Rattle.cops_node.specs.declared.hosted.SlotCall.TheVariants.{Own, Admit, Close}
use Rattle.cops_node.specs.declared.hosted.SlotReply.{SlotReply}
use Rattle.cops_node.specs.Hosting.{FitsSlot, Hosted, host_in}
use Rattle.cops_service.specs.Gates.{Exists, Gates, openings}
use Rattle.cops_service.specs.HostedDesks.{AreHosted, CallsFirst, FitsThere, HostedSeat, IsHostCall, hosted_node, hosted_shape, nodes_in}
use Rattle.cops_service.proofs.Desks.{counted, fitting_read, new_shape, read_at, there}
use mathlib.Core.Option.{some}
use lib.ListN.{get_elem?}

-- ---- a new cluster

pub new_hosted_shape : (config : Config) (cluster : Gates Hosted) → IsTrue (are_sizes config) → map hosted_node (openings cluster) ≡ (new_nodes config).nodes → hosted_shape cluster ≡ shape_of config
new_hosted_shape config cluster sizes is = new_shape config (nodes_in cluster) sizes is

pub counted_hosted : (config : Config) (machines : List Hosted) → IsTrue (are_sizes config) → map hosted_node machines ≡ (new_nodes config).nodes → (0 < length machines) × (length machines ≤ 2 ^ 32)
counted_hosted config machines sizes is =
    let all = counted config (map hosted_node machines) sizes is in
    subst (λ n. (0 < n) × (n ≤ 2 ^ 32)) (length-map machines hosted_node) all

-- ---- the node of a call

module _ (cluster : Gates Hosted) (id : NodeId) (nodes : AreHosted cluster) (dc : id.dc < (hosted_shape cluster).data_centres) (shard : id.shard < (hosted_shape cluster).shards) where
  pub hosted_there : Exists cluster id
  hosted_there = let here = there (nodes_in cluster) id nodes dc shard in record {
    shard_exists = here.shard_exists;
    dc_exists = subst (λ n. node_number cluster.shards id < n) (length-map (openings cluster) hosted_node) here.dc_exists;
  }

  pub fitting_slot : (slot : ℕ) (call : SlotCall) → FitsThere (hosted_shape cluster) id call →
      (first : Hosted) → get_elem? (openings cluster) (node_number cluster.shards id) ≡ some first → FitsSlot (host_in first) slot call
  fitting_slot slot (Own life call) call_fits first found =
      let number = node_number cluster.shards id in
      let read : first.node ≡ get_or (map hosted_node (openings cluster)) number first.node =
      ap hosted_node (read_at (openings cluster) number first found) ∙ sym (get_or-map hosted_node (openings cluster) number first first.node hosted_there.dc_exists) in
      fitting_read (nodes_in cluster) id nodes dc shard slot call call_fits first.node read
  fitting_slot slot (Admit life tenant) call_fits first found = call_fits
  fitting_slot slot Close call_fits first found = tt

-- ---- the host's calls

pub calls_more : (cluster : Gates Hosted) (slot : ℕ) (call : SlotCall) (Is : SlotReply → Type 0) (n : ℕ) (old between new : HostedSeat) (reply : SlotReply) →
    CallsFirst cluster slot call Is n old between → IsHostCall cluster slot call n reply between new → Is reply → CallsFirst cluster slot call Is (n + 1) old new
calls_more cluster slot call Is n old between new reply earlier called is =
    let next : suc n ≡ n + 1 = omega arith in
    subst (λ m. CallsFirst cluster slot call Is m old new) next (between, reply, earlier, called, is)
