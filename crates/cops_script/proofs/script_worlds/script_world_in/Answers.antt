use Rattle.std.proofs.Common.{◌≡◌}
use Rattle.cops_script.specs.declared.line_runs.fault.RunFault.TheVariants.{WriteFault}
use Rattle.cops_script.proofs.SilentRuns.{bad_head, left_by, left_by_read, never_written}
use Rattle.cops_script.proofs.script_worlds.script_world_in.Goals as goal

pub returns-in-Ok-clause-ok : goal.returns-in-Ok-clause-ok
returns-in-Ok-clause-ok g c =
    left_by g.W.Tenancy.setup g.W.Tenancy.StandsFor _ _ _ _ c.new_script-silent.result c.new_script-silent.ensures.head c.run_lines.new.machine c.world_in.result c.world_in.ensures c.in-Ok.ensures.ok

pub returns-in-Ok-clause-read : goal.returns-in-Ok-clause-read
returns-in-Ok-clause-read g c =
    left_by_read g.W.Tenancy.setup g.W.Tenancy.StandsFor _ _ _ _ c.new_script-silent.result c.new_script-silent.ensures.head c.run_lines.new.machine c.world_in.result c.world_in.ensures c.in-Ok.ensures.ok

pub returns-in-Err-clause-bad_head : goal.returns-in-Err-clause-bad_head
returns-in-Err-clause-bad_head g c =
    bad_head g.W.Tenancy.setup g.W.Tenancy.StandsFor _ _ _ _ c.new_script-silent.result c.new_script-silent.ensures.head c.in-Err.fault c.in-Err.ensures.err

pub returns-in-Err-clause-write_fault : goal.returns-in-Err-clause-write_fault
returns-in-Err-clause-write_fault g c is =
    let same : c.in-Err.fault ≡ WriteFault = cc is in
    never_written g.W.Tenancy.setup g.W.Tenancy.StandsFor _ _ _ _ c.new_script-silent.result c.new_script-silent.ensures.head c.in-Err.fault same c.in-Err.ensures.err
