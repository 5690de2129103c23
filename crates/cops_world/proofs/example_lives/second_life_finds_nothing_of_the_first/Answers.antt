use Rattle.cops_world.proofs.ExampleLifeLemmas.{told_in_both_lives}
use Rattle.cops_world.proofs.example_lives.second_life_finds_nothing_of_the_first.Goals as goal

pub returns-clause-told : goal.returns-clause-told
returns-clause-told c = told_in_both_lives
