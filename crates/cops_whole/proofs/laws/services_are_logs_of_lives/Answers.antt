use Rattle.cops_whole.proofs.LivesRuns.{log_of_lives}
use Rattle.cops_whole.proofs.laws.services_are_logs_of_lives.Goals as goal

pub returns : goal.returns
returns c = λ config states history seats deeds run. log_of_lives config states history seats deeds run
