use Rattle.cops_wire.proofs.answering.ClientAnswering.reply_to.Goals as goal

pub returns-clause-answered : goal.returns-clause-answered
returns-clause-answered g c = λ message asks. (let a = c.answer.ensures.answered message asks in (a.0, record { answered = a.1; same = c.answer.ensures.same; shape_is = c.answer.ensures.shape }, a.2))
