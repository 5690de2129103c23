use Rattle.std.proofs.Common.{◌∙◌}
use Rattle.cops_wire.specs.Requests.{KeepsShape}
use Rattle.cops_service.proofs.Conversing.{one_more}
use Rattle.cops_service.proofs.threads.serve_each.Goals as goal

pub loop-preserved : goal.loop-preserved
loop-preserved g c = (
  tt,
  tt,
  c.serve_stream.ensures.shape ∙ c.loop.invariant.2,
  one_more (KeepsShape g.N.Nodes.shape g.N.Nodes.Answers) g.T.Moments.Gives c.args.config.now c.args.nodes.now c.loop.nodes c.serve_stream.new.nodes c.args.moments.now c.loop.moments c.serve_stream.new.moments
      c.loop.invariant.3 c.serve_stream.ensures.converses,
)
