use Rattle.cops_causal.proofs.CallCounts.{makes_few_calls, run_makes_few}
use Rattle.cops_causal.proofs.calls.requests_make_few_calls.Goals as goal

pub returns-clause-of_a_log : goal.returns-clause-of_a_log
returns-clause-of_a_log c = makes_few_calls

pub returns-clause-of_steps : goal.returns-clause-of_steps
returns-clause-of_steps c = λ config old session running steps calls stands runs begun makes. run_makes_few config steps session running old calls stands runs begun makes
