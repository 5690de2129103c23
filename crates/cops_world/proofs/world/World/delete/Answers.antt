use Rattle.cops_model.specs.declared.acts.Act.TheVariants as acts
use Rattle.cops_world.specs.Worlds.{world_of}
use Rattle.cops_world.proofs.WorldLacks.{delete_leaves}
use Rattle.cops_world.proofs.world.World.delete.Goals as goal

pub returns-clause-lack : goal.returns-clause-lack
returns-clause-lack c = delete_leaves (world_of c.args.self.now) c.args.slot c.args.name.now c.args.number c.ask.result (world_of c.ask.new.self) c.ask.ensures.lack
