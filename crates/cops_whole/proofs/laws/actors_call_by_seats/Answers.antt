use Rattle.cops_wire.specs.Requests.{KeepsShape}
use Rattle.std.proofs.Common.{refl}
use Rattle.cops_whole.proofs.DeskActors.{by_seat}
use Rattle.cops_whole.proofs.laws.actors_call_by_seats.Goals as goal

pub returns : goal.returns
returns g c = λ cluster seat config nodes new_nodes desk calls. by_seat (KeepsShape g.N.Nodes.shape g.N.Nodes.Answers) cluster seat desk (cluster nodes) config nodes new_nodes refl calls
