use Rattle.std.proofs.Common.{◌∙◌, arith}
use Rattle.cops_service.specs.Calling.{CallsOnlyFor}
use Rattle.cops_service.proofs.Calling.{done_more, done_all}
use Rattle.cops_service.proofs.Carried.{carried_both}
use Rattle.cops_service.proofs.carrying.carry_streams.Goals as goal

pub loop-stream-preserved : goal.loop-stream-preserved
loop-stream-preserved g c = (
  c.carry_next-carried.ensures.shape ∙ c.loop-stream.invariant.0,
  done_more (λ stream. CallsOnlyFor g.N.Nodes.Answers stream.from.slot) c.args.streams.now c.loop-stream.stream-index _ c.args.nodes.now c.loop-stream.nodes c.carry_next-carried.new.nodes c.loop-stream-test.true
      c.loop-stream.invariant.1 c.carry_next-carried.ensures.slot,
  carried_both g.N.Nodes.Answers c.args.config.now c.args.nodes.now c.loop-stream.nodes c.carry_next-carried.new.nodes c.loop-stream.invariant.2 c.carry_next-carried.ensures.carries,
)

pub returns-clause-slots : goal.returns-clause-slots
returns-clause-slots g c =
    done_all (λ stream. CallsOnlyFor g.N.Nodes.Answers stream.from.slot) c.args.streams.now c.loop-stream.stream-index c.args.nodes.now c.loop-stream.nodes (omega (arith, c.loop-stream-test.false)) c.loop-stream.invariant.1
