use Rattle.cops_replay.proofs.Names.{versions_by}
use Rattle.cops_replay.proofs.ReadingLemmas.{not_read}
use Rattle.cops_replay.proofs.reading.is_record.Goals as goal

pub returns-in-Err-Refused : goal.returns-in-Err-Refused
returns-in-Err-Refused c =
    let refused = (rw c.in-Err-Refused.field-0-is at c.in-Err-Refused.ensures.refused) in
    not_read (versions_by c.args.set) c.args.line.now _ refused
