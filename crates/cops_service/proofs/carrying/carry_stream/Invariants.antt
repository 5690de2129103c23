use Rattle.std.proofs.Common.{◌≡◌, ℕ}
use Rattle.cops_node.specs.Clusters.{shape_of}
use Rattle.cops_service.specs.Calling.{CallsOnlyFor}
use Rattle.cops_service.specs.Carried.{DeliverAll, DeliversStream}
use Rattle.cops_service.specs.Noted.{IsStream}
use Rattle.cops_service.specs.Repeated.{IsRepeated}
use Rattle.cops_service.proofs.carrying.carry_stream.Given as goal

abbrev pub invariant-loop : goal.invariant-loop
invariant-loop g l =
    (g.N.Nodes.shape l.nodes ≡ shape_of l.config)
    × CallsOnlyFor g.N.Nodes.Answers l.stream.from.slot l.initial.nodes l.nodes
    × IsRepeated (DeliversStream g.N.Nodes.Answers l.config.shards l.stream) l.initial.nodes l.nodes
    × (IsStream l.config l.stream → (count : ℕ) × DeliverAll g.N.Nodes.Answers l.config count l.initial.nodes l.nodes)
