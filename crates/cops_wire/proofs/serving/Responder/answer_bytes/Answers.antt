use Rattle.std.proofs.Common.{arith}
use Rattle.std.proofs.lemmas.List.{nil_from_length}
use Rattle.cops_wire.proofs.AnsweredRequests.{on_err, some_written}
use Rattle.cops_wire.proofs.WalkLemmas.{walked_unsent, walked_written}
use Rattle.cops_wire.proofs.serving.Responder.answer_bytes.Goals as goal

pub returns-clause-ok : goal.returns-clause-ok
returns-clause-ok g c =
    walked_written g.A.Answering.Answers c.args.bytes.now _ _ _ _ _ _ _ _ c.in_ok-taken.taken c.clear.ensures.items (nil_from_length c.send.new.self.out.items (omega (arith, c.in_ok-send.ensures.less))) c.in_ok-taken.ensures.ok c.in_ok-send.ensures.sent

pub returns-in_err-send-clause-front : goal.returns-in_err-send-clause-front
returns-in_err-send-clause-front g c =
    on_err c.from_residual-in_err-send.result (walked_unsent g.A.Answering.Answers c.args.bytes.now _ _ _ _ _ _ _ c.in_ok-taken.taken c.clear.ensures.items c.in_ok-taken.ensures.ok c.in_err-send.ensures.front)

pub returns-in_err-taken-clause-front : goal.returns-in_err-taken-clause-front
returns-in_err-taken-clause-front g c =
    on_err c.from_residual.result (some_written g.A.Answering.Answers _ _ _ _ _ _ c.clear.ensures.items c.in_err-taken.ensures.front)
