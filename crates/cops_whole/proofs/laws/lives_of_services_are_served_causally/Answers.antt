use Rattle.cops_whole.proofs.LivesRuns.{life_served}
use Rattle.cops_whole.proofs.laws.lives_of_services_are_served_causally.Goals as goal

pub returns : goal.returns
returns c = λ config states history seats deeds log prefix tenant slot life some run is_log time behave. life_served config history seats deeds log prefix tenant slot life some run.few is_log time behave
