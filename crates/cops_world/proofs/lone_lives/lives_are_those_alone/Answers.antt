use Rattle.cops_world.proofs.SlotLifeLemmas.{all_are_heard, lived_the_same}
use Rattle.cops_world.proofs.lone_lives.lives_are_those_alone.Goals as goal

pub returns-clause-same : goal.returns-clause-same
returns-clause-same c = lived_the_same

pub returns-clause-heard : goal.returns-clause-heard
returns-clause-heard c = all_are_heard
