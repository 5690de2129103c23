use Rattle.cops_wire.specs.Requests.{KeepsShape}
use Rattle.cops_service.proofs.Conversing.{converses}
use Rattle.cops_service.proofs.clients.serve_line.Goals as goal

pub returns-clause-converses : goal.returns-clause-converses
returns-clause-converses g c =
    converses (KeepsShape g.N.Nodes.shape g.N.Nodes.Answers) g.M.Moments.Gives c.args.config.now c.args.nodes.now c.serve_client-conversed.new.nodes c.args.moments.now c.serve_client-conversed.new.moments
    c.serve_client-conversed.result.ended c.serve_client-conversed.ensures.conversed c.serve_client-conversed.ensures.front
