use Rattle.std.proofs.Common.{◌≡◌, ℕ}
use Rattle.cops_node.specs.Clusters.{shape_of}
use Rattle.cops_wire.specs.Requests.{KeepsShape}
use Rattle.cops_service.specs.Conversing.{ConverseAll}
use Rattle.cops_service.proofs.threads.serve_each.Given as goal

abbrev pub invariant-loop : goal.invariant-loop
invariant-loop g l =
    (goal.iterator-loop g).can_next l.iterator' × (goal.iterator-loop g).is_finite l.iterator'
    × (g.N.Nodes.shape l.nodes ≡ shape_of l.config)
    × ((count : ℕ) × ConverseAll (KeepsShape g.N.Nodes.shape g.N.Nodes.Answers) g.T.Moments.Gives l.config count l.initial.nodes l.nodes l.initial.moments l.moments)
