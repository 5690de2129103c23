use Rattle.cops_whole.proofs.ServedBy.{served_by_actors}
use Rattle.cops_whole.proofs.laws.threads_serve_causally.Goals as goal

pub returns : goal.returns
returns g c = λ config workers moments nodes served some. served_by_actors g.M.Moments.Gives moments config workers nodes some served
