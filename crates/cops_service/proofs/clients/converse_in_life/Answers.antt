use Rattle.std.proofs.Common.{[], inr, refl}
use Rattle.cops_types.specs.declared.faults.Fault.TheVariants.{UnknownTenant}
use Rattle.cops_wire.specs.Requests.{KeepsShape}
use Rattle.cops_service.proofs.Unseen.{converses_unseen, served_then_refused, unseen_conversed_in_part}
use Rattle.cops_service.proofs.clients.converse_in_life.Goals as goal

pub returns-in-Err-clause-converses : goal.returns-in-Err-clause-converses
returns-in-Err-clause-converses g c =
    inr (unseen_conversed_in_part (KeepsShape g.N.Nodes.shape g.N.Nodes.Answers) g.M.Moments.Gives c.args.config.now _ _ _ _ _ _ _ c.in-Err.ensures.front)

pub returns-in-Err-clause-served : goal.returns-in-Err-clause-served
returns-in-Err-clause-served g c =
    served_then_refused (KeepsShape g.N.Nodes.shape g.N.Nodes.Answers) g.M.Moments.Gives c.args.config.now UnknownTenant _ _ _ _ _ _ _ _ _ _ c.converse.new.self.bytes.items c.refuse_requests.result c.in-Err.ensures.front
    (c.refuse_requests.ensures.refused c.converse.new.self.bytes.items [] refl refl)

pub returns-in_default-clause-converses : goal.returns-in_default-clause-converses
returns-in_default-clause-converses g c =
    converses_unseen (KeepsShape g.N.Nodes.shape g.N.Nodes.Answers) g.M.Moments.Gives c.args.config.now _ _ _ _ _ _ _ _ c.converse.result c.converse.ensures.conversed c.converse.ensures.front

pub returns-in_default-2-clause-converses : goal.returns-in_default-2-clause-converses
returns-in_default-2-clause-converses g c =
    converses_unseen (KeepsShape g.N.Nodes.shape g.N.Nodes.Answers) g.M.Moments.Gives c.args.config.now _ _ _ _ _ _ _ _ c.converse.result c.converse.ensures.conversed c.converse.ensures.front
