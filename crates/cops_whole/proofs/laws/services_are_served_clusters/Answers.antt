use Rattle.cops_whole.proofs.Services.{log_of_service}
use Rattle.cops_whole.proofs.laws.services_are_served_clusters.Goals as goal

pub returns : goal.returns
returns c = log_of_service
