use Rattle.cops_service.proofs.Told.{left_count, left_in_place}
use Rattle.cops_service.proofs.laws.nodes_are_left_in_place.Goals as goal

pub returns-clause-count : goal.returns-clause-count
returns-clause-count c = left_count

pub returns-clause-places : goal.returns-clause-places
returns-clause-places c = left_in_place
