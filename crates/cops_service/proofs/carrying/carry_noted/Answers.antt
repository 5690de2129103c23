use Rattle.std.proofs.Common.{◌∙◌}
use Rattle.cops_service.proofs.Carried.{carried_both}
use Rattle.cops_service.proofs.carrying.carry_noted.Goals as goal

pub loop-preserved : goal.loop-preserved
loop-preserved g c = (
  tt,
  tt,
  c.carry_streams-carried.ensures.shape ∙ c.loop.invariant.2,
  carried_both g.N.Nodes.Answers c.args.config.now c.args.nodes.now c.loop.nodes c.carry_streams-carried.new.nodes c.loop.invariant.3 c.carry_streams-carried.ensures.carries,
)
