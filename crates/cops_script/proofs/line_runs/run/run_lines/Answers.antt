use Rattle.std.proofs.Common.{refl, sym, ◌∙◌, take, arith}
use Rattle.std.proofs.lemmas.Result.{err_from_is_err_and, on_ok_weaker, MatchResult-weaker}
use Rattle.cops_script.proofs.LineRunLemmas.{on_ok_at, no_front, not_failed}
use Rattle.cops_script.proofs.LineEndLemmas.{SoFar-start, SoFar-piece, SoFar-written, SoFar-kept, StopsEarly-read, StopsEarly-written, StopsEarly-piece, AnswersAll-finish, StopsEarly-finish, few-next}
use Rattle.cops_types.proofs.CountLemmas.{HasRisenBy-start, HasRisenBy-next}
use Rattle.cops_script.proofs.line_runs.run.run_lines.Goals as goal

pub loop-init : goal.loop-init
loop-init g c = (
  SoFar-start g.M.LineMachine.rules c.args.limit _ _ _ c.new-front.result.items c.new-out.result.items c.new-front.ensures.items c.new-out.ensures.items,
  no_front c.args.limit c.new-front.result.items c.new-front.ensures.items,
  record { reader = refl; reads = HasRisenBy-start _; few = omega arith; writer = refl },
)

pub returns-in-Err-clause-err : goal.returns-in-Err-clause-err
returns-in-Err-clause-err g c =
    StopsEarly-read g.M.LineMachine.rules c.args.limit _ _ _ _ c.loop.front.items c.loop.machine c.loop.out.items _
    (SoFar-kept g.M.LineMachine.rules c.args.limit _ _ _ _ _ c.loop.front.items c.loop.machine c.loop.out.items _ c.loop.invariant.0 c.in-Err.ensures.bytes)

pub returns-then-count-eq0-clause-ok : goal.returns-then-count-eq0-clause-ok
returns-then-count-eq0-clause-ok g c =
    on_ok_weaker c.finish.result
    (AnswersAll-finish g.M.LineMachine.rules c.args.limit _ _ _ _ _ c.loop.front.items c.loop.machine c.finish.new.machine c.loop.out.items _ _
    c.loop.invariant.0 (rw c.if-count-eq0.true at c.in-Ok.ensures.bytes.0) (c.in-Ok.ensures.bytes.1 c.if-count-eq0.true (omega arith)) c.loop.invariant.1)
    (rw c.as_slice.ensures.value at c.finish.ensures.ok)

pub returns-then-count-eq0-clause-err : goal.returns-then-count-eq0-clause-err
returns-then-count-eq0-clause-err g c =
    MatchResult-weaker c.finish.result (rw c.as_slice.ensures.value at c.finish.ensures.err) (λ x h. tt)
    (λ fault. StopsEarly-finish g.M.LineMachine.rules c.args.limit _ _ _ _ _ c.loop.front.items c.loop.machine c.loop.out.items _ _ fault
    c.loop.invariant.0 (rw c.if-count-eq0.true at c.in-Ok.ensures.bytes.0) (c.in-Ok.ensures.bytes.1 c.if-count-eq0.true (omega arith)) c.loop.invariant.1)

pub returns-in_err-answer_piece-clause-err : goal.returns-in_err-answer_piece-clause-err
returns-in_err-answer_piece-clause-err g c =
    let p = err_from_is_err_and c.from_residual.result c.from_residual.ensures.1 in
    rw (p.1, p.2)
    (StopsEarly-piece g.M.LineMachine.rules c.args.limit _ _ _ _ _ c.loop.front.items (take c.in-Ok.count c.read.new.buf) c.loop.machine c.loop.out.items _ _ c.in_err-answer_piece.field-0.0
    c.loop.invariant.0 c.in-Ok.ensures.bytes.0 c.in_err-answer_piece.ensures.err)

pub returns-then-is_err-clause-err : goal.returns-then-is_err-clause-err
returns-then-is_err-clause-err g c =
    StopsEarly-written g.M.LineMachine.rules c.args.limit _ _ _ _ c.answer_piece.new.front.items c.answer_piece.new.machine c.answer_piece.new.out.items _ _
    (SoFar-piece g.M.LineMachine.rules c.args.limit _ _ _ _ _ c.loop.front.items (take c.in-Ok.count c.read.new.buf) c.answer_piece.new.front.items
    c.loop.machine c.answer_piece.new.machine c.loop.out.items c.answer_piece.new.out.items _ _
    c.loop.invariant.0 c.in-Ok.ensures.bytes.0 c.in_ok-answer_piece.ensures.ok)
    c.drain.ensures.front
    (λ none. not_failed c.drain.result (sym c.is_err.ensures.value ∙ c.if-is_err.true) (c.drain.ensures.nothing none))

pub loop-preserved : goal.loop-preserved
loop-preserved g c =
    let went_well = sym c.is_err.ensures.value ∙ c.if-is_err.false in (
      SoFar-written g.M.LineMachine.rules c.args.limit _ _ _ _ c.answer_piece.new.front.items c.answer_piece.new.machine c.answer_piece.new.out.items c.drain.new.out.items _ _
          (SoFar-piece g.M.LineMachine.rules c.args.limit _ _ _ _ _ c.loop.front.items (take c.in-Ok.count c.read.new.buf) c.answer_piece.new.front.items
          c.loop.machine c.answer_piece.new.machine c.loop.out.items c.answer_piece.new.out.items _ _
          c.loop.invariant.0 c.in-Ok.ensures.bytes.0 c.in_ok-answer_piece.ensures.ok)
          (on_ok_at _ c.drain.result went_well c.drain.ensures.written),
      c.in_ok-answer_piece.ensures.front,
      record {
        reader = c.in-Ok.ensures.failures ∙ c.loop.invariant.2.reader;
        reads = HasRisenBy-next _ _ c.loop.counter _ c.loop.invariant.2.reads c.read.ensures.reads;
        few = few-next _ _ c.loop.counter _ c.loop.invariant.2.few c.read.ensures.reads;
        writer = on_ok_at _ c.drain.result went_well c.drain.ensures.ok ∙ c.in_ok-answer_piece.ensures.same ∙ c.loop.invariant.2.writer;
      },
    )

pub returns-clause-err : goal.returns-clause-err
returns-clause-err g c =
    StopsEarly-read g.M.LineMachine.rules c.args.limit _ _ _ _ c.loop.front.items c.loop.machine c.loop.out.items _ c.loop.invariant.0
