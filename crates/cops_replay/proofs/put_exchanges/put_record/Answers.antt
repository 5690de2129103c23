use Rattle.cops_replay.proofs.Placing.{line_placed}
use Rattle.cops_replay.proofs.put_exchanges.put_record.Goals as goal

pub returns-clause-text : goal.returns-clause-text
returns-clause-text c =
    line_placed _ c.args.tenant.now c.args.told.now _ _ _ _ c.put_front-of_call.ensures.text c.put_call-after_call.ensures.text c.put_word-of_reply.ensures.text c.put_reply.ensures.text
