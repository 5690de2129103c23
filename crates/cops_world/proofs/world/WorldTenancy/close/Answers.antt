use Rattle.cops_world.proofs.WorldLives.{has_closed}
use Rattle.cops_world.proofs.world.WorldTenancy.close.Goals as goal

pub returns : goal.returns
returns c = has_closed c.args.slot c.args.self.now c.close-closed.new.self c.close-closed.result c.close-closed.ensures.closed (c.close-closed.ensures.there c.requires)
