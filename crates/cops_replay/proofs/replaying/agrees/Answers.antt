use Rattle.cops_replay.proofs.Names.{subst, IsReplied}
use Rattle.cops_replay.proofs.ReplayLemmas.{compared, not_asked}
use Rattle.cops_replay.proofs.replaying.agrees.Goals as goal

pub returns-in_default : goal.returns-in_default
returns-in_default c = λ config solos are.
    not_asked config c.in_ok-asked.asked c.args.told.now solos c.ask.new.self c.in_ok-asked.ensures
    (subst (λ r. IsReplied config c.in_ok-asked.asked solos r c.ask.new.self) c.in_default.is (c.in_ok-reply.ensures config solos are))

pub returns : goal.returns
returns c = λ config solos are.
    compared config c.in_ok-asked.asked c.in-Some.reply solos c.ask.new.self c.args.told.now c.eq.result c.in_ok-asked.ensures
    (subst (λ r. IsReplied config c.in_ok-asked.asked solos r c.ask.new.self) c.in-Some.is (c.in_ok-reply.ensures config solos are)) c.eq.ensures.exact
