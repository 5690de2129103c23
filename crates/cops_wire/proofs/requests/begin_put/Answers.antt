use Rattle.std.proofs.lemmas.Result.{err_from_is_err_and}
use Rattle.cops_wire.proofs.RequestLemmas.{put_told}
use Rattle.cops_wire.proofs.requests.begin_put.Goals as goal

pub returns-in_err-begin_put-clause-told : goal.returns-in_err-begin_put-clause-told
returns-in_err-begin_put-clause-told c = λ config solo stands.
    let failed = err_from_is_err_and c.from_residual-in_err-begin_put.result c.from_residual-in_err-begin_put.ensures.1 in
    rw (failed.1, failed.2) (put_told config c.args.handle.now c.args.key.now c.args.value.now solo c.in_ok-context.context c.in_ok-key.key c.in_err-begin_put.field-0.0
    c.in_ok-key.ensures c.in_ok-value.ensures.refused (c.in_ok-context.ensures.refused config solo stands) c.in_ok-context.ensures.named (c.in_err-begin_put.ensures.told config solo stands))
