use Rattle.cops_replay.proofs.Names.{subst, IsReplied}
use Rattle.cops_replay.proofs.AskedLines.{line_not_replied, line_replied, line_without_call, line_without_reply}
use Rattle.cops_replay.proofs.replayings.agrees.Goals as goal

pub returns-in-Err-Refused : goal.returns-in-Err-Refused
returns-in-Err-Refused c = λ config solos are.
    let none = (rw c.in-Err-Refused.field-0-is at c.in-Err-Refused.ensures) in
    line_without_call config c.args.line.now c.of-words.result solos c.args.nodes.now c.of-words.ensures none.0

pub returns-in_default : goal.returns-in_default
returns-in_default c = λ config solos are.
    line_without_reply config c.args.line.now c.of-words.result solos c.args.nodes.now c.of-words.ensures c.in-Ok.found c.next_asked.new.words
    c.in-Ok.ensures c.in_default.ensures.none

pub returns-in_default-2 : goal.returns-in_default-2
returns-in_default-2 c = λ config solos are.
    line_not_replied config c.args.line.now c.of-words.result solos c.ask.new.self c.of-words.ensures c.in-Ok.found c.next_asked.new.words
    c.in-Ok.ensures c.in-Some.text.now c.in-Some.ensures.some
    (subst (λ r. IsReplied config c.in-Ok.found.1 solos r c.ask.new.self) c.in_default-2.is (c.in_ok-reply.ensures config solos are))

pub returns : goal.returns
returns c = λ config solos are.
    line_replied config c.args.line.now c.of-words.result solos c.ask.new.self c.of-words.ensures c.in-Ok.found c.next_asked.new.words
    c.in-Ok.ensures c.in-Some.text.now c.in-Some.ensures.some
    c.in-Some-2.reply c.in_ok-same.same
    (subst (λ r. IsReplied config c.in-Ok.found.1 solos r c.ask.new.self) c.in-Some-2.is (c.in_ok-reply.ensures config solos are)) c.in_ok-same.ensures
