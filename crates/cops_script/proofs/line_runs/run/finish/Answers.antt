use Rattle.std.proofs.lemmas.Result.{err_from_is_err_and}
use Rattle.cops_script.proofs.LineEndLemmas.{StopsAtEnd-line, StopsAtEnd-end}
use Rattle.cops_script.proofs.line_runs.run.finish.Goals as goal

pub returns-in_err-answer_last-clause-err : goal.returns-in_err-answer_last-clause-err
returns-in_err-answer_last-clause-err g c =
    let p = err_from_is_err_and c.from_residual.result c.from_residual.ensures.1 in
    rw (p.1, p.2)
    (StopsAtEnd-line g.M.LineMachine.rules c.args.front.now c.args.machine.now c.args.out.now.items _ c.in_err-answer_last.field-0.0 c.in_err-answer_last.ensures.err)

pub returns-in_err-end-clause-err : goal.returns-in_err-end-clause-err
returns-in_err-end-clause-err g c =
    let p = err_from_is_err_and c.from_residual-in_err-end.result c.from_residual-in_err-end.ensures.1 in
    rw (p.1, p.2)
    (StopsAtEnd-end g.M.LineMachine.rules c.args.front.now c.args.machine.now c.answer_last.new.machine c.args.out.now.items c.answer_last.new.out.items _
    c.in_err-end.field-0.0 c.in_ok-answer_last.ensures.ok c.in_err-end.ensures.err)
