use Rattle.std.proofs.Common.{◌∙◌, refl, subst}
use Rattle.cops_types.specs.declared.configs.Config.{Config}
use Rattle.cops_node.specs.Hosting.{Hosted}
use Rattle.cops_service.specs.Gates.{Gates}
use Rattle.cops_service.specs.HostedDesks.{HostedSeat}
use Rattle.cops_service.specs.LifeCrews.{ServesInLife}
use Rattle.cops_service.proofs.Repeated.{once_more}
use Rattle.cops_service.proofs.host_threads.serve_lives.Goals as goal

pub loop-preserved : goal.loop-preserved
loop-preserved g c =
    let inv = c.loop.invariant in
    let done = c.serve_stream.ensures in
    let first : HostedSeat × g.row.T.Denot = (c.args.nodes.now.nodes.desk.seat.now, c.args.moments.now) in
    let between : HostedSeat × g.row.T.Denot = (c.loop.nodes.nodes.desk.seat.now, c.loop.moments) in
    let new : HostedSeat × g.row.T.Denot = (c.serve_stream.new.nodes.nodes.desk.seat.now, c.serve_stream.new.moments) in (
      tt,
      tt,
      done.config ∙ inv.2,
      done.desk.0 ∙ inv.3,
      done.desk.1 ∙ inv.4,
      done.account ∙ inv.5,
      once_more (ServesInLife c.args.nodes.now.config.now c.args.nodes.now.nodes.desk.cluster.now g.T.Moments.Gives) first between new inv.6
          (subst (λ (x : Config × Gates Hosted). ServesInLife x.0 x.1 g.T.Moments.Gives between new) (λ i. (inv.2 i, inv.3 i)) done.serves),
    )
