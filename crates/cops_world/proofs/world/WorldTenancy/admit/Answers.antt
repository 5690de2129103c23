use Rattle.cops_world.proofs.WorldLives.{is_admission}
use Rattle.cops_world.proofs.world.WorldTenancy.admit.Goals as goal

pub returns : goal.returns
returns c = is_admission c.args.self.now c.args.tenant c.admit.result c.admit.new.self c.admit.ensures.least c.admit.ensures.ok c.admit.ensures.refused c.admit.ensures.faults c.admit.ensures.err
