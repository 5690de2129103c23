use Rattle.cops_world.proofs.HostRunLemmas.{admitted_to}
use Rattle.cops_world.proofs.host_runs.admit_at.Goals as goal

pub returns-in-Ok : goal.returns-in-Ok
returns-in-Ok c = admitted_to c.args.world.now c.admit_at.new.self c.args.slot c.args.tenant c.in-Ok.field-0 c.in-Ok.ensures.refused c.in-Ok.ensures.ok
