use Rattle.cops_wire.specs.Requests.{KeepsShape}
use Rattle.std.proofs.Common.{◌≡◌, true}
use Rattle.cops_served.proofs.Recorded.{recorded}
use Rattle.cops_served.proofs.laws.calls_are_recorded.Goals as goal

pub returns : goal.returns
returns g c = λ lost slot holds made turns nodes new_nodes records held all h.
    recorded (KeepsShape g.N.Nodes.shape g.N.Nodes.Answers) lost slot (λ n. holds n ≡ true) made records turns nodes new_nodes held all h
