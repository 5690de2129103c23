use Rattle.cops_replay.proofs.LinesSpelled.{record_in_is}
use Rattle.cops_replay.proofs.laws.records_and_lines_determine_each_other.Goals as goal

pub returns-clause-spelled : goal.returns-clause-spelled
returns-clause-spelled c = record_in_is
