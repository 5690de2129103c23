use Rattle.cops_gate.proofs.Single.{no_turns}
use Rattle.cops_gate.proofs.gate.Gate.split.Goals as goal

pub returns-clause-no_turn : goal.returns-clause-no_turn
returns-clause-no_turn g c = no_turns c.split.result.number c.split.result.history c.split.ensures.no_turn
