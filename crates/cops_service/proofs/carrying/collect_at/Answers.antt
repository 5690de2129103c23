use Rattle.std.proofs.Common.{◌∙◌}
use Rattle.cops_service.specs.Calling.{CollectsIfThere}
use Rattle.cops_service.proofs.Calling.{done_more}
use Rattle.cops_service.proofs.carrying.collect_at.Goals as goal

pub loop-place-preserved : goal.loop-place-preserved
loop-place-preserved g c = (
  c.collect_place-came.ensures.shape ∙ c.loop-place.invariant.0,
  done_more (λ place. CollectsIfThere g.N.Nodes.Answers c.args.config.now place) c.args.places.now c.loop-place.place-index _ c.args.nodes.now c.loop-place.nodes c.collect_place-came.new.nodes c.loop-place-test.true
      c.loop-place.invariant.1 c.collect_place-came.ensures.collected,
)
