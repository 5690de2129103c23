use Rattle.cops_replay.proofs.AskedLines.{told_by_text}
use Rattle.cops_replay.proofs.put_exchanges.is_text_of.Goals as goal

pub returns : goal.returns
returns c = told_by_text c.args.text.now _ c.args.reply.now _ c.eq.ensures c.put_reply-end.ensures.text (c.put_reply-end.ensures.formed c.requires.form)
