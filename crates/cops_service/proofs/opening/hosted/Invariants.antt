use Rattle.std.proofs.Common.{◌≡◌, ◌++◌, map}
use Rattle.std.specs.List.{AllByRecursion}
use Rattle.cops_service.specs.HostedDesks.{IsInFirstLives, hosted_node}
use Rattle.cops_service.proofs.opening.hosted.Given as goal

abbrev pub invariant-loop-node : goal.invariant-loop-node
invariant-loop-node l =
    (map hosted_node l.hosted.items ++ l.node-iterator.rest.items ≡ l.fn.nodes.items)
    × AllByRecursion IsInFirstLives l.hosted.items
