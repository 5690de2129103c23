use Rattle.cops_service.proofs.Told.{room_left}
use Rattle.cops_service.proofs.laws.full_audits_are_told_as_such.Goals as goal

pub returns : goal.returns
returns c = room_left
