use Rattle.cops_replay.proofs.Names.{◌≡◌, Err, ap, IfSome_then, on_err_weaker, on_ok_weaker, ReadFault}
use Rattle.cops_script.specs.declared.line_runs.fault.RunFault.TheVariants.{WriteFault}
use Rattle.cops_replay.proofs.AuditRunLemmas.{tenants_read, bad_refused, both_ok, err_refused, no_own_front, nothing_kept, on_ok_any, says_part, writes_own, writes_own_front}
use Rattle.cops_replay.proofs.audit_runs.audit_part_text.Goals as goal

pub returns-in-Err-clause-err : goal.returns-in-Err-clause-err
returns-in-Err-clause-err g c = no_own_front c.args.tenant.now _ _

pub returns-in-Err-clause-refused : goal.returns-in-Err-clause-refused
returns-in-Err-clause-refused g c = bad_refused c.args.tenant.now _ c.in-Err.fault c.part_fault.result c.part_fault.ensures.same c.in-Err.ensures.bad_head

pub returns-in-Err-clause-unwritten : goal.returns-in-Err-clause-unwritten
returns-in-Err-clause-unwritten g c = nothing_kept _ c.part_fault.result

pub returns-in-Err-clause-read_fault : goal.returns-in-Err-clause-read_fault
returns-in-Err-clause-read_fault g c is = c.in-Err.ensures.read_fault (ap Err (c.part_fault.ensures.read (let same : c.part_fault.result ≡ ReadFault = cc in same)))

pub returns-in-Err-clause-write_fault : goal.returns-in-Err-clause-write_fault
returns-in-Err-clause-write_fault g c is = absurd (c.in-Err.ensures.write_fault (ap Err (c.part_fault.ensures.write (let same : c.part_fault.result ≡ WriteFault = cc in same))))

pub write_own-result-requires : goal.write_own-result-requires
write_own-result-requires g c = tenants_read c.in-Ok.made _ _ c.in-Ok.ensures.read

pub returns-clause-ok : goal.returns-clause-ok
returns-clause-ok g c = on_ok_weaker c.write_own-result.result (λ written. IfSome_then _ c.in-Ok.ensures.ok (λ bytes left. writes_own c.in-Ok.made bytes left c.args.tenant.now _ _ written)) c.write_own-result.ensures.ok

pub returns-clause-err : goal.returns-clause-err
returns-clause-err g c = on_err_weaker c.write_own-result.result (λ written. IfSome_then _ c.in-Ok.ensures.ok (λ bytes left. writes_own_front c.in-Ok.made bytes left c.args.tenant.now _ _ written)) c.write_own-result.ensures.front

pub returns-clause-says_same : goal.returns-clause-says_same
returns-clause-says_same g c = both_ok c.write_own-result.result (λ written same. IfSome_then _ c.in-Ok.ensures.ok (λ bytes left. says_part c.in-Ok.made bytes left c.args.tenant.now _ _ written same)) c.write_own-result.ensures.ok c.write_own-result.ensures.replays

pub returns-clause-refused : goal.returns-clause-refused
returns-clause-refused g c = err_refused c.in-Ok.made c.args.tenant.now _ c.in-Ok.ensures.ok c.write_own-result.result c.write_own-result.ensures.refused

pub returns-clause-read_fault : goal.returns-clause-read_fault
returns-clause-read_fault g c is = absurd (c.write_own-result.ensures.read_fault is)

pub returns-clause-end : goal.returns-clause-end
returns-clause-end g c = on_ok_any _ c.write_own-result.result c.in-Ok.ensures.end
