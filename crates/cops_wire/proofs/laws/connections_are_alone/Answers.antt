use Rattle.cops_wire.proofs.ClusterTurns.{connection_goes, connection_goes_amid, connection_goes_others, served_alone, served_alone_amid, served_alone_others}
use Rattle.cops_wire.proofs.laws.connections_are_alone.Goals as goal

pub returns-clause-alone : goal.returns-clause-alone
returns-clause-alone g c = λ config slot old new requests replies h. served_alone g.M.Moments.Gives config slot old requests replies new h

pub returns-clause-others : goal.returns-clause-others
returns-clause-others g c = λ config slot old new requests replies h. served_alone_others g.M.Moments.Gives config slot old requests replies new h

pub returns-clause-amid : goal.returns-clause-amid
returns-clause-amid g c = λ config slot old new requests replies h. served_alone_amid g.M.Moments.Gives config slot old requests replies new h

pub returns-clause-goes : goal.returns-clause-goes
returns-clause-goes g c = λ config slot old new requests replies h. connection_goes g.M.Moments.Gives config slot old requests replies new h

pub returns-clause-goes_others : goal.returns-clause-goes_others
returns-clause-goes_others g c = λ config slot old new requests replies h. connection_goes_others g.M.Moments.Gives config slot old requests replies new h

pub returns-clause-goes_amid : goal.returns-clause-goes_amid
returns-clause-goes_amid g c = λ config slot old new requests replies h. connection_goes_amid g.M.Moments.Gives config slot old requests replies new h
