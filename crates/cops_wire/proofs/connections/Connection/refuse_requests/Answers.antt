use Rattle.std.proofs.Common.{refl}
use Rattle.cops_wire.proofs.AnsweredRequests.{map_err, map_ok}
use Rattle.cops_wire.proofs.Refusals.{refused_all, refused_in_part}
use Rattle.cops_wire.proofs.connections.Connection.refuse_requests.Goals as goal

pub returns-clause-refused : goal.returns-clause-refused
returns-clause-refused g c = λ stream answered e f.
    map_ok c.answer_with.result (c.answer_with.ensures.served stream answered e f) (λ ended h. refused_all c.args.fault stream answered _ _ _ _ _ _ ended h refl)

pub returns-clause-front : goal.returns-clause-front
returns-clause-front g c = λ stream answered e f.
    map_err c.answer_with.result (c.answer_with.ensures.front stream answered e f) (λ h. refused_in_part c.args.fault stream answered _ _ _ _ _ h refl)
