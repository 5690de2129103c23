use Rattle.std.proofs.Common.{◌≡◌, ◌++◌, map}
use Rattle.cops_service.specs.HostedDesks.{hosted_node}
use Rattle.cops_service.proofs.host_serving.nodes_of.Given as goal

abbrev pub invariant-loop-node : goal.invariant-loop-node
invariant-loop-node l = l.nodes.items ++ map hosted_node l.node-iterator.rest.items ≡ map hosted_node l.fn.hosted.items
