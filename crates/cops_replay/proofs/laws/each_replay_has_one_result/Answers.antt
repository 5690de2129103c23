use Rattle.cops_replay.proofs.Names.{lines_of, layout_of}
use Rattle.cops_replay.proofs.OneAnswer.{one_text}
use Rattle.cops_replay.proofs.laws.each_replay_has_one_result.Goals as goal

pub returns-clause-text : goal.returns-clause-text
returns-clause-text c = λ name bytes text other. one_text name (layout_of (lines_of bytes)) (lines_of bytes) text other
