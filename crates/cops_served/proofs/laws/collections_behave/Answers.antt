use Rattle.cops_wire.specs.Requests.{KeepsShape}
use Rattle.cops_served.proofs.Streams.{collected}
use Rattle.cops_served.proofs.laws.collections_behave.Goals as goal

pub returns : goal.returns
returns g c = λ config id slot moment reply nodes new_nodes called.
    collected (KeepsShape g.N.Nodes.shape g.N.Nodes.Answers) config slot id moment reply nodes new_nodes called
