use Rattle.cops_model.specs.declared.acts.Act.TheVariants as acts
use Rattle.cops_model.specs.Lacks.{Lacks}
use Rattle.cops_world.specs.declared.actors.Deed.TheVariants as deeds
use Rattle.cops_world.specs.Deeds.{DeedLacks}
use Rattle.cops_world.specs.Worlds.{world_of}
use Rattle.cops_world.proofs.WorldLacks.{leaves_too}
use Rattle.cops_world.proofs.world.World.show.Goals as goal

pub returns-clause-lack : goal.returns-clause-lack
returns-clause-lack c =
    leaves_too (DeedLacks c.args.name.now (deeds.Show c.args.number)) (λ config. Lacks config (acts.Show c.args.name.now c.args.number)) (world_of c.args.self.now) c.args.slot c.ask.result (world_of c.ask.new.self) (λ config before after is. (is.1, is.2)) c.ask.ensures.lack
