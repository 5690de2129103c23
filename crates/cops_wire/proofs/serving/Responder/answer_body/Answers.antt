use Rattle.std.proofs.Common.{inr, subst, sym}
use Rattle.cops_wire.specs.Running.{Asks}
use Rattle.cops_wire.proofs.AnsweredRequests.{on_err}
use Rattle.cops_wire.proofs.AskedLemmas.{asks_request}
use Rattle.cops_wire.proofs.serving.Responder.answer_body.Goals as goal

pub returns-in_ok-reply_to-in-Ok-clause-answered : goal.returns-in_ok-reply_to-in-Ok-clause-answered
returns-in_ok-reply_to-in-Ok-clause-answered g c =
    let asked = c.in-Ok.ensures in
    let a = c.in_ok-reply_to-in-Ok.ensures.answered asked.0 (subst (λ k. Asks c.in-Ok.request k asked.0) (sym c.as_slice.ensures.value) asked.2) in
    (asked.0, a.0, asked.1, asks_request c.in-Ok.request _ asked.0 asked.2, a.1, a.2.0)

pub returns-in_err-reply_to-in-Ok-clause-front : goal.returns-in_err-reply_to-in-Ok-clause-front
returns-in_err-reply_to-in-Ok-clause-front g c =
    let asked = c.in-Ok.ensures in
    let a = c.in_err-reply_to-in-Ok.ensures.answered asked.0 (subst (λ k. Asks c.in-Ok.request k asked.0) (sym c.as_slice.ensures.value) asked.2) in
    on_err c.from_residual.result (inr (asked.0, a.0, asked.1, asks_request c.in-Ok.request _ asked.0 asked.2, a.1))
