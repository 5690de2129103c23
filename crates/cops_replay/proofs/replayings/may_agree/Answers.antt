use Rattle.cops_replay.proofs.Names.{◌≤◌, length, subst, sym, arith, IsTrue, nat_le, true, nat_tests, longest_record, MayAgree}
use Rattle.cops_replay.proofs.ReplayLemmas.{todays_line}
use Rattle.cops_replay.proofs.replayings.may_agree.Goals as goal

pub returns-in-Today-clause-may : goal.returns-in-Today-clause-may
returns-in-Today-clause-may c =
    let within : length c.args.line.now ≤ 200000 = c.if-line-gt-LONGEST_RECORD.false in
    let short : IsTrue (nat_le (length c.args.line.now) longest_record) = grind (arith, nat_tests, within) in
    subst (λ layout. MayAgree layout c.args.line.now true) (sym c.in-Today.is) (todays_line c.args.line.now short)
