use Rattle.cops_whole.proofs.Crews.{run_of_crew}
use Rattle.cops_whole.proofs.laws.crews_run_services.Goals as goal

pub returns : goal.returns
returns c = run_of_crew
