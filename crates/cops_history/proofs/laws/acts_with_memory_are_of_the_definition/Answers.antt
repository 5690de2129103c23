use Rattle.cops_history.proofs.Acts.{of_definition}
use Rattle.cops_history.proofs.laws.acts_with_memory_are_of_the_definition.Goals as goal

pub returns : goal.returns
returns c = of_definition
