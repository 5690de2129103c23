use Rattle.std.proofs.Common.{◌∙◌}
use Rattle.cops_service.proofs.Calling.{collected_on}
use Rattle.cops_service.proofs.carrying.collect_noted.Goals as goal

pub loop-preserved : goal.loop-preserved
loop-preserved g c = (
  tt,
  tt,
  c.collect_at.ensures.shape ∙ c.loop.invariant.2,
  collected_on g.N.Nodes.Answers c.args.config.now c.as_slice.result.now c.args.nodes.now c.loop.nodes c.collect_at.new.nodes c.loop.invariant.3 c.collect_at.ensures.places,
)

pub returns-then-not-goes_on-clause-collects : goal.returns-then-not-goes_on-clause-collects
returns-then-not-goes_on-clause-collects g c =
    collected_on g.N.Nodes.Answers c.args.config.now c.as_slice.result.now c.args.nodes.now c.loop.nodes c.collect_at.new.nodes c.loop.invariant.3 c.collect_at.ensures.places
