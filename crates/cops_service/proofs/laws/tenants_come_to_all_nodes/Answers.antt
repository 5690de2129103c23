use Rattle.cops_service.proofs.Everywhere.{come_to_all}
use Rattle.cops_service.proofs.laws.tenants_come_to_all_nodes.Goals as goal

pub returns : goal.returns
returns c = come_to_all
