use Rattle.cops_whole.proofs.Prefixes.{whole_prefix}
use Rattle.cops_whole.proofs.laws.prefixes_are_whole.Goals as goal

pub returns : goal.returns
returns c = whole_prefix
