use Rattle.cops_history.proofs.Cutting.{prefixes}
use Rattle.cops_history.proofs.laws.prefixes_are_acts.Goals as goal

pub returns : goal.returns
returns c = prefixes
