use Rattle.cops_replay.proofs.Names.{IfSome_then, on_ok_weaker}
use Rattle.cops_replay.proofs.AuditRunLemmas.{formed_for, never_read, never_refused, none_audited, on_err_any, on_ok_any, replays_same_for, says_same_left, tenants_read, writes_audit, writes_front}
use Rattle.cops_replay.proofs.audit_runs.audit_text_in.Goals as goal

pub returns-in-Err-clause-err : goal.returns-in-Err-clause-err
returns-in-Err-clause-err g c = none_audited _ _

pub write_world-result-requires : goal.write_world-result-requires
write_world-result-requires g c = tenants_read c.in-Ok.made _ _ c.in-Ok.ensures.read

pub returns-clause-ok : goal.returns-clause-ok
returns-clause-ok g c = on_ok_weaker c.write_world-result.result (λ written. IfSome_then _ c.in-Ok.ensures.ok (λ bytes left. writes_audit c.in-Ok.made bytes left _ _ written)) c.write_world-result.ensures.ok

pub returns-clause-err : goal.returns-clause-err
returns-clause-err g c = on_err_any _ c.write_world-result.result (IfSome_then _ c.in-Ok.ensures.ok (λ bytes left. writes_front c.in-Ok.made bytes left _ _ c.write_world-result.ensures.front))

pub returns-clause-bad_head : goal.returns-clause-bad_head
returns-clause-bad_head g c = never_refused _ c.write_world-result.result c.write_world-result.ensures.fault

pub returns-clause-unwritten : goal.returns-clause-unwritten
returns-clause-unwritten g c = never_refused _ c.write_world-result.result c.write_world-result.ensures.fault

pub returns-clause-read_fault : goal.returns-clause-read_fault
returns-clause-read_fault g c is = absurd (never_read c.write_world-result.result c.write_world-result.ensures.fault is)

pub returns-clause-replays : goal.returns-clause-replays
returns-clause-replays g c = on_ok_any _ c.write_world-result.result (IfSome_then _ c.in-Ok.ensures.ok (λ bytes left. replays_same_for c.in-Ok.made bytes left c.write_world-result.ensures.replays))

pub returns-clause-says_same : goal.returns-clause-says_same
returns-clause-says_same g c = on_ok_weaker c.write_world-result.result (λ formed. IfSome_then _ c.in-Ok.ensures.ok (λ bytes left. says_same_left c.in-Ok.made bytes left c.write_world-result.ensures.replays formed)) c.write_world-result.ensures.formed

pub returns-clause-formed : goal.returns-clause-formed
returns-clause-formed g c = on_ok_weaker c.write_world-result.result (λ formed. IfSome_then _ c.in-Ok.ensures.ok (λ bytes left. formed_for c.in-Ok.made bytes left formed)) c.write_world-result.ensures.formed

pub returns-clause-end : goal.returns-clause-end
returns-clause-end g c = on_ok_any _ c.write_world-result.result c.in-Ok.ensures.end
