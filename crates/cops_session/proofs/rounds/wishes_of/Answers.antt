use Rattle.std.proofs.Common.{◌∙◌, sym}
use Rattle.cops_session.proofs.SettledReads.{wishes_of-settled}
use Rattle.cops_session.proofs.rounds.wishes_of.Goals as goal

pub returns-then-are_settled : goal.returns-then-are_settled
returns-then-are_settled c = c.new-wishes.ensures.items ∙ sym (wishes_of-settled c.args.reads.now (sym c.are_settled.ensures ∙ c.if-are_settled.true))
