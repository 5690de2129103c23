use Rattle.cops_history.proofs.LifeLogs.{lived}
use Rattle.cops_history.proofs.laws.lives_are_acts.Goals as goal

pub returns : goal.returns
returns c = λ config tenant slot life log prefix seats did some whole time are. lived config tenant slot life some log prefix whole time seats did are
