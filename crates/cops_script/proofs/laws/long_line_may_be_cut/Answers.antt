use Rattle.cops_script.proofs.CutLemmas.{said_in-cut}
use Rattle.cops_script.proofs.laws.long_line_may_be_cut.Goals as goal

pub returns : goal.returns
returns c = said_in-cut
