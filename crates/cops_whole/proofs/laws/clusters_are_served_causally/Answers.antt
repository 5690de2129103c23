use Rattle.cops_whole.proofs.Seated.{served_causally}
use Rattle.cops_whole.proofs.laws.clusters_are_served_causally.Goals as goal

pub returns : goal.returns
returns c = served_causally
