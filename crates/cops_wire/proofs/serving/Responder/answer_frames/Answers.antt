use Rattle.std.proofs.Common.{refl, sym, ap, ◌∙◌, arith}
use Rattle.std.proofs.lemmas.List.{take_rest}
use Rattle.cops_types.specs.Sink.{sink_failures, sink_writer}
use Rattle.cops_wire.specs.Streams.{first_frame}
use Rattle.cops_wire.proofs.AnsweredRequests.{on_err}
use Rattle.cops_wire.proofs.WalkLemmas.{walk_begins, walk_kept, walk_sent, walk_unanswered, walk_unsent, walked_broken, walked_other, walked_partial, walked_whole}
use Rattle.cops_wire.proofs.serving.Responder.answer_frames.Goals as goal

pub loop-body-init : goal.loop-body-init
loop-body-init g c = record {
  walked = walk_begins g.A.Answering.Answers c.args.bytes.now c.args.answering.now (g.W.Write.contents (sink_writer c.args.self.now.sink)) c.args.self.now.out.items;
  failures = refl;
  ready = c.requires.ready;
}

pub returns-in-Partial-clause-ok : goal.returns-in-Partial-clause-ok
returns-in-Partial-clause-ok g c =
    walked_partial g.A.Answering.Answers c.args.bytes.now c.loop-body.taken _ _ _ _ _ _ c.loop-body.invariant.walked (ap first_frame (sym (take_rest c.args.bytes.now c.loop-body.taken)) ∙ rw c.in-Partial.is at c.first_body.ensures)

pub returns-in-Broken-clause-ok : goal.returns-in-Broken-clause-ok
returns-in-Broken-clause-ok g c =
    walked_broken g.A.Answering.Answers c.args.bytes.now c.loop-body.taken _ _ _ _ _ _ c.loop-body.invariant.walked (ap first_frame (sym (take_rest c.args.bytes.now c.loop-body.taken)) ∙ rw c.in-Broken.is at c.first_body.ensures)

pub returns-then-not-asked-clause-ok : goal.returns-then-not-asked-clause-ok
returns-then-not-asked-clause-ok g c =
    walked_other g.A.Answering.Answers c.args.bytes.now c.loop-body.taken c.in-Whole.size _ _ _ _ _ _ _ _ _ _ (walk_kept g.A.Answering.Answers c.args.bytes.now c.loop-body.taken _ _ _ _ _ _ _ (ap (λ s. g.W.Write.contents (sink_writer s)) c.answer_body.ensures.sink) c.loop-body.invariant.walked) (ap first_frame (sym (take_rest c.args.bytes.now c.loop-body.taken)) ∙ rw c.in-Whole.is at c.first_body.ensures) c.in_ok-asked-in-Whole.ensures.answered c.if-not-asked.true

pub returns-in_err-asked-in-Whole-clause-front : goal.returns-in_err-asked-in-Whole-clause-front
returns-in_err-asked-in-Whole-clause-front g c =
    on_err c.from_residual.result
    (walk_unanswered g.A.Answering.Answers c.args.bytes.now c.loop-body.taken c.in-Whole.size _ _ _ _ _ _ _ _ (walk_kept g.A.Answering.Answers c.args.bytes.now c.loop-body.taken _ _ _ _ _ _ _ (ap (λ s. g.W.Write.contents (sink_writer s)) c.answer_body.ensures.sink) c.loop-body.invariant.walked) (ap first_frame (sym (take_rest c.args.bytes.now c.loop-body.taken)) ∙ rw c.in-Whole.is at c.first_body.ensures) c.in_err-asked-in-Whole.ensures.front)

pub overflow_add-taken : goal.overflow_add-taken
overflow_add-taken g c =
    let on = walked_whole g.A.Answering.Answers c.args.bytes.now c.loop-body.taken c.in-Whole.size _ _ _ _ _ _ _ _ _ _ (walk_kept g.A.Answering.Answers c.args.bytes.now c.loop-body.taken _ _ _ _ _ _ _ (ap (λ s. g.W.Write.contents (sink_writer s)) c.answer_body.ensures.sink) c.loop-body.invariant.walked) (ap first_frame (sym (take_rest c.args.bytes.now c.loop-body.taken)) ∙ rw c.in-Whole.is at c.first_body.ensures) c.in_ok-asked-in-Whole.ensures.answered c.if-not-asked.false in
    omega (arith, on.walked.within)

pub returns-in_err-send-in-Whole-clause-front : goal.returns-in_err-send-in-Whole-clause-front
returns-in_err-send-in-Whole-clause-front g c =
    let on = walked_whole g.A.Answering.Answers c.args.bytes.now c.loop-body.taken c.in-Whole.size _ _ _ _ _ _ _ _ _ _ (walk_kept g.A.Answering.Answers c.args.bytes.now c.loop-body.taken _ _ _ _ _ _ _ (ap (λ s. g.W.Write.contents (sink_writer s)) c.answer_body.ensures.sink) c.loop-body.invariant.walked) (ap first_frame (sym (take_rest c.args.bytes.now c.loop-body.taken)) ∙ rw c.in-Whole.is at c.first_body.ensures) c.in_ok-asked-in-Whole.ensures.answered c.if-not-asked.false in
    on_err c.from_residual-in_err-send-in-Whole.result (walk_unsent g.A.Answering.Answers c.args.bytes.now _ _ _ _ _ _ _ _ on.walked c.in_err-send-in-Whole.ensures.front)

pub loop-body-smaller : goal.loop-body-smaller
loop-body-smaller g c =
    let on = walked_whole g.A.Answering.Answers c.args.bytes.now c.loop-body.taken c.in-Whole.size _ _ _ _ _ _ _ _ _ _ (walk_kept g.A.Answering.Answers c.args.bytes.now c.loop-body.taken _ _ _ _ _ _ _ (ap (λ s. g.W.Write.contents (sink_writer s)) c.answer_body.ensures.sink) c.loop-body.invariant.walked) (ap first_frame (sym (take_rest c.args.bytes.now c.loop-body.taken)) ∙ rw c.in-Whole.is at c.first_body.ensures) c.in_ok-asked-in-Whole.ensures.answered c.if-not-asked.false in
    omega (arith, on.walked.within, on.some)

pub loop-body-preserved : goal.loop-body-preserved
loop-body-preserved g c =
    let on = walked_whole g.A.Answering.Answers c.args.bytes.now c.loop-body.taken c.in-Whole.size _ _ _ _ _ _ _ _ _ _ (walk_kept g.A.Answering.Answers c.args.bytes.now c.loop-body.taken _ _ _ _ _ _ _ (ap (λ s. g.W.Write.contents (sink_writer s)) c.answer_body.ensures.sink) c.loop-body.invariant.walked) (ap first_frame (sym (take_rest c.args.bytes.now c.loop-body.taken)) ∙ rw c.in-Whole.is at c.first_body.ensures) c.in_ok-asked-in-Whole.ensures.answered c.if-not-asked.false in
    record {
      walked = walk_sent g.A.Answering.Answers c.args.bytes.now _ _ _ _ _ _ _ _ _ on.walked c.in_ok-send-in-Whole.ensures.sent;
      failures = c.in_ok-send-in-Whole.ensures.same ∙ ap sink_failures c.answer_body.ensures.sink ∙ c.loop-body.invariant.failures;
      ready = c.answer_body.ensures.ready;
    }
