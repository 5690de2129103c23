use Rattle.cops_service.proofs.Hosted.{life_as_alone}
use Rattle.cops_service.proofs.laws.lives_are_told_as_alone.Goals as goal

pub returns : goal.returns
returns c = life_as_alone
