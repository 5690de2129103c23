use Rattle.cops_history.proofs.LifeExample.{hosted_log, its_actors, its_time}
use Rattle.cops_history.proofs.laws.small_life_is_served.Goals as goal

pub returns : goal.returns
returns c = record { log = hosted_log; time = its_time; actors = its_actors }
