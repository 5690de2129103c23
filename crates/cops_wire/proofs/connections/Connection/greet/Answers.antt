use Rattle.std.proofs.Common.{Err, ap, ◌∙◌}
use Rattle.std.proofs.lemmas.Result.{err_from_is_err_and}
use Rattle.cops_wire.specs.Greeting.{Greets}
use Rattle.cops_wire.proofs.Greetings.{greets, greets_in_part, if_answer, if_err_at, if_refusal, unwritten}
use Rattle.cops_wire.proofs.connections.Connection.greet.Goals as goal

pub returns-clause-greeted : goal.returns-clause-greeted
returns-clause-greeted g c =
    if_answer c.answer_to-answer.result (Greets c.args.tenants.now c.args.dcs _ _ _ _ _ _)
    (greets c.args.tenants.now c.args.dcs _ _ _ _ c.in_ok-bytes.bytes.items c.take_first.new.bytes.items c.in_ok-message.message c.answer_to-answer.result c.reply_of.result
    c.in_ok-bytes.ensures.came c.in_ok-message.ensures c.answer_to-answer.ensures c.reply_of.ensures.reply c.in_ok-write_reply.ensures.ok)

pub returns-clause-refused : goal.returns-clause-refused
returns-clause-refused g c =
    if_refusal c.answer_to-answer.result (Greets c.args.tenants.now c.args.dcs _ _ _ _ _ _) _
    (greets c.args.tenants.now c.args.dcs _ _ _ _ c.in_ok-bytes.bytes.items c.take_first.new.bytes.items c.in_ok-message.message c.answer_to-answer.result c.reply_of.result
    c.in_ok-bytes.ensures.came c.in_ok-message.ensures c.answer_to-answer.ensures c.reply_of.ensures.reply c.in_ok-write_reply.ensures.ok)

pub returns-in_err-write_reply-clause-refused : goal.returns-in_err-write_reply-clause-refused
returns-in_err-write_reply-clause-refused g c =
    let p = err_from_is_err_and c.from_residual-in_err-write_reply.result c.from_residual-in_err-write_reply.ensures.1 in
    if_err_at c.from_residual-in_err-write_reply.result c.in_err-write_reply.field-0.0 _ (p.1 ∙ ap Err p.2)
    (unwritten c.in_err-write_reply.field-0.0 _ _ _ _ _ _ c.in_err-write_reply.ensures.err (λ front. greets_in_part c.args.tenants.now c.args.dcs _ _ _ _ c.in_ok-bytes.bytes.items c.take_first.new.bytes.items c.in_ok-message.message c.answer_to-answer.result c.reply_of.result
    c.in_ok-bytes.ensures.came c.in_ok-message.ensures c.answer_to-answer.ensures c.reply_of.ensures.reply front))
