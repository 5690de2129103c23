use Rattle.cops_world.proofs.WorldLives.{has_acted}
use Rattle.cops_world.proofs.world.World.apply.Goals as goal

pub returns-clause-acted : goal.returns-clause-acted
returns-clause-acted c = has_acted c.args.self.now c.args.event.now c.act.result c.act.new.self c.act.ensures.moves c.act.ensures.lack
