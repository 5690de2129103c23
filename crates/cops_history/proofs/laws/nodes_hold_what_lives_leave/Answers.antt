use Rattle.cops_history.proofs.LifeLogs.{holds_lived}
use Rattle.cops_history.proofs.laws.nodes_hold_what_lives_leave.Goals as goal

pub returns : goal.returns
returns c = λ config tenant slot life log prefix did number left held some whole time lives within leads found its. holds_lived config tenant slot life some log prefix whole time did lives number left held within leads found its
