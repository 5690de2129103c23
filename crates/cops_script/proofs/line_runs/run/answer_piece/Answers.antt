use Rattle.std.proofs.Common.{refl, sym, ◌∙◌, ◌++◌}
use Rattle.std.proofs.lemmas.Result.{err_from_is_err_and}
use Rattle.cops_types.specs.Sink.{sink_writer}
use Rattle.cops_script.specs.declared.line_runs.fault.RunFault.TheVariants.{OutOfMemory}
use Rattle.cops_script.proofs.LineRunLemmas.{Answered-start, Answered-line, Answered-written, Answered-cut, Stops-here, Stops-written, Stops-at_line, on_ok_at, front_cut, no_front, not_failed}
use Rattle.cops_script.proofs.line_runs.run.answer_piece.Goals as goal

pub loop-line-init : goal.loop-line-init
loop-line-init g c = (Answered-start g.M.LineMachine.rules c.args.limit _ _, c.requires.front, refl)

pub returns-in_err-answer_line-clause-err : goal.returns-in_err-answer_line-clause-err
returns-in_err-answer_line-clause-err g c =
    let p = err_from_is_err_and c.from_residual.result c.from_residual.ensures.1 in
    rw (p.1, p.2)
    (Stops-at_line g.M.LineMachine.rules c.args.limit _ _ c.loop-line.front.items c.in-Some.line.now c.loop-line.rest.now c.in-Some.after.now
    c.loop-line.machine c.loop-line.out.items _ c.in_err-answer_line.field-0.0
    c.loop-line.invariant.0 c.loop-line.invariant.1.unbroken c.in-Some.ensures.some c.in_err-answer_line.ensures.err)

pub returns-then-is_err-clause-err : goal.returns-then-is_err-clause-err
returns-then-is_err-clause-err g c =
    Stops-written g.M.LineMachine.rules c.args.limit _ _ (c.answer_line.new.front.items ++ c.in-Some.after.now) c.answer_line.new.machine c.answer_line.new.out.items _ _
    (Answered-line g.M.LineMachine.rules c.args.limit _ _ c.loop-line.front.items c.in-Some.line.now c.loop-line.rest.now c.in-Some.after.now c.answer_line.new.front.items
    c.loop-line.machine c.answer_line.new.machine c.loop-line.out.items c.answer_line.new.out.items (g.W.Write.contents (sink_writer c.loop-line.sink))
    c.loop-line.invariant.0 c.loop-line.invariant.1.unbroken c.in-Some.ensures.some c.in_ok-answer_line.ensures.empty c.in_ok-answer_line.ensures.ok)
    c.drain_full.ensures.front
    (λ none. not_failed c.drain_full.result (sym c.is_err.ensures.value ∙ c.if-is_err.true) (c.drain_full.ensures.nothing none))

pub loop-line-preserved : goal.loop-line-preserved
loop-line-preserved g c =
    let went_well = sym c.is_err.ensures.value ∙ c.if-is_err.false in (
      Answered-written g.M.LineMachine.rules c.args.limit _ _ (c.answer_line.new.front.items ++ c.in-Some.after.now) c.answer_line.new.machine c.answer_line.new.out.items _ _ _
          (Answered-line g.M.LineMachine.rules c.args.limit _ _ c.loop-line.front.items c.in-Some.line.now c.loop-line.rest.now c.in-Some.after.now c.answer_line.new.front.items
          c.loop-line.machine c.answer_line.new.machine c.loop-line.out.items c.answer_line.new.out.items (g.W.Write.contents (sink_writer c.loop-line.sink))
          c.loop-line.invariant.0 c.loop-line.invariant.1.unbroken c.in-Some.ensures.some c.in_ok-answer_line.ensures.empty c.in_ok-answer_line.ensures.ok)
          (on_ok_at _ c.drain_full.result went_well c.drain_full.ensures.written),
      no_front c.args.limit c.answer_line.new.front.items c.in_ok-answer_line.ensures.empty,
      on_ok_at _ c.drain_full.result went_well c.drain_full.ensures.ok ∙ c.loop-line.invariant.2,
    )

pub returns-in_err-extend_cut-clause-err : goal.returns-in_err-extend_cut-clause-err
returns-in_err-extend_cut-clause-err g c =
    let p = err_from_is_err_and c.from_residual-in_err-extend_cut.result c.from_residual-in_err-extend_cut.ensures.1 in
    rw (p.1, p.2)
    (Stops-here g.M.LineMachine.rules c.args.limit _ _ _ c.loop-line.machine c.loop-line.out.items _ OutOfMemory c.loop-line.invariant.0 (λ P. tt) tt)

pub returns-clause-ok : goal.returns-clause-ok
returns-clause-ok g c =
    Answered-cut g.M.LineMachine.rules c.args.limit _ _ _ c.loop-line.front.items c.loop-line.rest.now _ c.loop-line.invariant.0 c.loop-line.invariant.1.unbroken c.in_default.ensures.none
    c.in_ok-extend_cut.ensures

pub returns-clause-front : goal.returns-clause-front
returns-clause-front g c =
    front_cut c.args.limit c.loop-line.front.items c.loop-line.rest.now _ c.loop-line.invariant.1.unbroken c.in_default.ensures.none
    c.in_ok-extend_cut.ensures
