use Rattle.cops_causal.proofs.TurnCausality.{all_are_causal}
use Rattle.cops_causal.proofs.causal.every_run_is_causal.Goals as goal

pub returns : goal.returns
returns c = λ config some. all_are_causal config some
