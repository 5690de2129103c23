use Rattle.cops_wire.specs.Requests.{KeepsShape}
use Rattle.cops_served.proofs.Streams.{carried}
use Rattle.cops_served.proofs.laws.carriers_behave.Goals as goal

pub returns : goal.returns
returns g c = λ config slot stream kept steps after nodes new_nodes there stands h.
    carried (KeepsShape g.N.Nodes.shape g.N.Nodes.Answers) config slot stream kept steps after nodes new_nodes there stands h
