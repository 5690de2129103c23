use Rattle.cops_whole.proofs.ServedLives.{served_by_deeds}
use Rattle.cops_whole.proofs.laws.lives_serve_causally.Goals as goal

pub returns : goal.returns
returns g c = λ config workers moments nodes open_tenants who served some. served_by_deeds g.M.Moments.Gives moments who config workers nodes open_tenants some served
