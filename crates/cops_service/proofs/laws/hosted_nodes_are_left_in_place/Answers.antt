use Rattle.cops_service.proofs.HostedLeaving.{as_many_by_lives, at_home_by_lives}
use Rattle.cops_service.proofs.laws.hosted_nodes_are_left_in_place.Goals as goal

pub returns-clause-count : goal.returns-clause-count
returns-clause-count c = as_many_by_lives

pub returns-clause-homes : goal.returns-clause-homes
returns-clause-homes c = at_home_by_lives
