use Rattle.std.proofs.Common.{◌≡◌, map}
use Rattle.std.specs.List.{range_with_len}
use Rattle.cops_node.specs.Clusters.{new_shared}
use Rattle.cops_node.proofs.cluster.Cluster0.new.Given as goal

abbrev pub invariant-loop-number : goal.invariant-loop-number
invariant-loop-number l = l.nodes.items ≡ map (new_shared l.config) (range_with_len 0 l.number)
