use Rattle.std.proofs.Common.{◌≡◌, ℕ, take}
use Rattle.cops_node.specs.Clusters.{shape_of}
use Rattle.cops_service.specs.Calling.{CallsOnlyFor, DoneForEach}
use Rattle.cops_service.specs.Carried.{DeliverAll}
use Rattle.cops_service.proofs.carrying.carry_streams.Given as goal

abbrev pub invariant-loop-stream : goal.invariant-loop-stream
invariant-loop-stream g l =
    (g.N.Nodes.shape l.nodes ≡ shape_of l.config)
    × DoneForEach (λ stream. CallsOnlyFor g.N.Nodes.Answers stream.from.slot) (take l.stream-index l.streams) l.initial.nodes l.nodes
    × ((count : ℕ) × DeliverAll g.N.Nodes.Answers l.config count l.initial.nodes l.nodes)
