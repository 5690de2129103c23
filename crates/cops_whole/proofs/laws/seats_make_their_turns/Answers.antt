use Rattle.cops_wire.specs.Requests.{KeepsShape}
use Rattle.std.proofs.Common.{◌≡◌, true}
use Rattle.cops_whole.proofs.Making.{all_made}
use Rattle.cops_whole.proofs.laws.seats_make_their_turns.Goals as goal

pub returns : goal.returns
returns g c = λ lost config seat holds seen actors nodes new_nodes adds held all h.
    all_made (KeepsShape g.N.Nodes.shape g.N.Nodes.Answers) lost config seat (λ n. holds n ≡ true) seen adds actors nodes new_nodes held all h
