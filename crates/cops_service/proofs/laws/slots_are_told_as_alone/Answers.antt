use Rattle.cops_service.proofs.Hosted.{replies_as_held, left_as_held, stays_there}
use Rattle.cops_service.proofs.laws.slots_are_told_as_alone.Goals as goal

pub returns-clause-replies : goal.returns-clause-replies
returns-clause-replies c = replies_as_held

pub returns-clause-after : goal.returns-clause-after
returns-clause-after c = left_as_held

pub returns-clause-home : goal.returns-clause-home
returns-clause-home c = stays_there
