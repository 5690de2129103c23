use Rattle.std.proofs.Common.{◌∙◌, sym}
use Rattle.cops_service.specs.Carried.{DeliversStream, told_delivery}
use Rattle.cops_service.proofs.Calling.{both}
use Rattle.cops_service.proofs.Carried.{carried_on}
use Rattle.cops_service.proofs.Repeated.{once_more}
use Rattle.cops_service.proofs.carrying.carry_stream.Goals as goal

pub returns-in_default-came : goal.returns-in_default-came
returns-in_default-came g c =
    record {
      shape = c.deliver.ensures.shape ∙ (c.loop.invariant.0 ∙ sym c.requires.shape);
      slot = both g.N.Nodes.Answers c.args.stream.now.from.slot c.args.nodes.now c.loop.nodes c.deliver.new.nodes c.loop.invariant.1 c.deliver.ensures.slot;
      delivers = once_more (DeliversStream g.N.Nodes.Answers c.args.config.now.shards c.args.stream.now) c.args.nodes.now c.loop.nodes c.deliver.new.nodes c.loop.invariant.2 (told_delivery c.deliver.result, c.deliver.ensures.delivers);
      carries = λ is. carried_on g.N.Nodes.Answers c.args.config.now c.args.nodes.now c.loop.nodes c.deliver.new.nodes (c.loop.invariant.3 is) (c.args.stream.now, told_delivery c.deliver.result, is, c.deliver.ensures.delivers);
    }

pub loop-preserved : goal.loop-preserved
loop-preserved g c = (
  c.deliver.ensures.shape ∙ c.loop.invariant.0,
  both g.N.Nodes.Answers c.args.stream.now.from.slot c.args.nodes.now c.loop.nodes c.deliver.new.nodes c.loop.invariant.1 c.deliver.ensures.slot,
  once_more (DeliversStream g.N.Nodes.Answers c.args.config.now.shards c.args.stream.now) c.args.nodes.now c.loop.nodes c.deliver.new.nodes c.loop.invariant.2 (told_delivery c.deliver.result, c.deliver.ensures.delivers),
  λ is. carried_on g.N.Nodes.Answers c.args.config.now c.args.nodes.now c.loop.nodes c.deliver.new.nodes (c.loop.invariant.3 is) (c.args.stream.now, told_delivery c.deliver.result, is, c.deliver.ensures.delivers),
)
