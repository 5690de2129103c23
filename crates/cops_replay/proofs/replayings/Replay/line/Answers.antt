use Rattle.cops_replay.proofs.Names.{subst, MayAgree, Standing}
use Rattle.cops_replay.proofs.ReplayLemmas.{over_line, read_line, unread_line}
use Rattle.cops_replay.proofs.replayings.Replay.line.Goals as goal

pub returns-then-is_over-clause-replayed : goal.returns-then-is_over-clause-replayed
returns-then-is_over-clause-replayed c = over_line c.args.line.now c.args.self.now c.is_over.result c.if-is_over.true c.is_over.ensures

pub returns-then-not-may_agree-clause-replayed : goal.returns-then-not-may_agree-clause-replayed
returns-then-not-may_agree-clause-replayed c =
    let may = subst (λ (s : Standing). MayAgree s.layout c.args.line.now c.in_ok-may_agree.may_agree) c.self.view_is c.in_ok-may_agree.ensures.may in
    unread_line c.args.line.now c.args.self.now c.note.new.self c.is_over.result c.if-is_over.false c.is_over.ensures
    (subst (MayAgree c.args.self.now.layout c.args.line.now) c.if-not-may_agree.true may) c.note.ensures

pub returns-clause-replayed : goal.returns-clause-replayed
returns-clause-replayed c =
    let may = subst (λ (s : Standing). MayAgree s.layout c.args.line.now c.in_ok-may_agree.may_agree) c.self.view_is c.in_ok-may_agree.ensures.may in
    read_line c.args.line.now c.args.self.now c.agrees.new.self c.note-2.new.self c.is_over.result c.in_ok-agreed.agreed c.if-is_over.false c.is_over.ensures
    (subst (MayAgree c.args.self.now.layout c.args.line.now) c.if-not-may_agree.false may)
    c.in_ok-agreed.ensures.layout c.in_ok-agreed.ensures.replayed c.in_ok-agreed.ensures.passed c.in_ok-agreed.ensures.found c.note-2.ensures
