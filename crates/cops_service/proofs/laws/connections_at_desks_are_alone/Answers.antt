use Rattle.cops_wire.specs.Requests.{KeepsShape}
use Rattle.cops_service.proofs.Connections.{desk_goes, desk_told}
use Rattle.cops_service.proofs.laws.connections_at_desks_are_alone.Goals as goal

pub returns-clause-amid : goal.returns-clause-amid
returns-clause-amid g c = λ cluster seat config slot old new requests replies h. desk_told (KeepsShape g.N.Nodes.shape g.N.Nodes.Answers) cluster seat h.desk config slot g.M.Moments.Gives old requests replies new h

pub returns-clause-goes_amid : goal.returns-clause-goes_amid
returns-clause-goes_amid g c = λ cluster seat config slot old new requests replies h. desk_goes (KeepsShape g.N.Nodes.shape g.N.Nodes.Answers) cluster seat h.desk config slot g.M.Moments.Gives old requests replies new h
