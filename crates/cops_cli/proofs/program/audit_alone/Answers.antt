use Rattle.std.proofs.Common.{Err, ap}
use Rattle.cops_cli.proofs.Endings.{own_fails}
use Rattle.cops_cli.proofs.program.audit_alone.Goals as goal

pub returns-in_err-ended : goal.returns-in_err-ended
returns-in_err-ended g c =
    own_fails c.as_bytes.result.now _ _ c.in_err-ended.ensures.err c.args.tenant.now c.as_bytes.ensures.value c.in_err-ended.field-0.0 c.from_residual.result
    c.in_err-ended.ensures.refused c.in_err-ended.ensures.unwritten (λ e. c.in_err-ended.ensures.read_fault (ap Err e)) (λ e. c.in_err-ended.ensures.write_fault (ap Err e)) c.from_residual.ensures.1
