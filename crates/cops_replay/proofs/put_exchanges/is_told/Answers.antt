use Rattle.cops_replay.proofs.Names.{sym, ◌∙◌}
use Rattle.cops_replay.proofs.AskedLines.{told_by_none}
use Rattle.cops_replay.proofs.put_exchanges.is_told.Goals as goal

pub returns-then-not-has_form : goal.returns-then-not-has_form
returns-then-not-has_form c = told_by_none c.args.text.now c.args.reply.now (sym c.has_form.ensures ∙ c.if-not-has_form.true)

pub returns : goal.returns
returns c = c.is_text_of.ensures
