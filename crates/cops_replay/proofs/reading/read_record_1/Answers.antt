use Rattle.cops_replay.proofs.ReadingLemmas.{old_refused}
use Rattle.cops_replay.proofs.reading.read_record_1.Goals as goal

pub returns-in_ok-old_fault-in-Err-Refused-clause-refused : goal.returns-in_ok-old_fault-in-Err-Refused-clause-refused
returns-in_ok-old_fault-in-Err-Refused-clause-refused c =
    let refused = (rw c.in-Err-Refused.field-0-is at c.in-Err-Refused.ensures.refused) in
    old_refused c.args.line.now c.in_ok-old_fault-in-Err-Refused.field-0 c.in-Err-Refused.field-0-0 refused c.in_ok-old_fault-in-Err-Refused.ensures
