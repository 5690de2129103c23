use Rattle.cops_wire.specs.Requests.{KeepsShape}
use Rattle.cops_whole.proofs.Threads.{both, collects, delivered, worked}
use Rattle.cops_whole.proofs.laws.threads_make_calls_of_actors.Goals as goal

pub returns-clause-workers : goal.returns-clause-workers
returns-clause-workers g c = λ config count nodes new_nodes moments new_moments h. worked (KeepsShape g.N.Nodes.shape g.N.Nodes.Answers) g.M.Moments.Gives config count nodes new_nodes moments new_moments h

pub returns-clause-carriers : goal.returns-clause-carriers
returns-clause-carriers g c = λ config tenant slot stream ending nodes new_nodes found there h. delivered g.N.Nodes.Answers config tenant slot stream ending nodes new_nodes found there h

pub returns-clause-collectors : goal.returns-clause-collectors
returns-clause-collectors g c = λ config tenant slot moment id reply nodes new_nodes found called. collects g.N.Nodes.Answers config tenant slot id moment reply nodes new_nodes found called

pub returns-clause-later : goal.returns-clause-later
returns-clause-later g c = λ config nodes between new_nodes first second. both g.N.Nodes.Answers config nodes between new_nodes first second
