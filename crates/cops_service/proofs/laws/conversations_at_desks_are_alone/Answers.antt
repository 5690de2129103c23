use Rattle.cops_wire.specs.Requests.{KeepsShape}
use Rattle.cops_service.proofs.Connections.{desk_received, desk_received_so}
use Rattle.cops_service.proofs.laws.conversations_at_desks_are_alone.Goals as goal

pub returns-clause-amid : goal.returns-clause-amid
returns-clause-amid g c = desk_received (KeepsShape g.N.Nodes.shape g.N.Nodes.Answers) g.M.Moments.Gives

pub returns-clause-goes_amid : goal.returns-clause-goes_amid
returns-clause-goes_amid g c = desk_received_so (KeepsShape g.N.Nodes.shape g.N.Nodes.Answers) g.M.Moments.Gives
