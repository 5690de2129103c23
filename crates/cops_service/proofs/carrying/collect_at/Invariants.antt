use Rattle.std.proofs.Common.{◌≡◌, take}
use Rattle.cops_node.specs.Clusters.{shape_of}
use Rattle.cops_service.specs.Calling.{CollectsIfThere, DoneForEach}
use Rattle.cops_service.proofs.carrying.collect_at.Given as goal

abbrev pub invariant-loop-place : goal.invariant-loop-place
invariant-loop-place g l =
    (g.N.Nodes.shape l.nodes ≡ shape_of l.config)
    × DoneForEach (λ place. CollectsIfThere g.N.Nodes.Answers l.config place) (take l.place-index l.places) l.initial.nodes l.nodes
