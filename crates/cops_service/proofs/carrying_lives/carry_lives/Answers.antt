use Rattle.std.proofs.Common.{◌∙◌, subst}
use Rattle.cops_types.specs.declared.configs.Config.{Config}
use Rattle.cops_node.specs.Hosting.{Hosted}
use Rattle.cops_service.specs.Calling.{DoneForEach}
use Rattle.cops_service.specs.Gates.{Gates}
use Rattle.cops_service.specs.HostedCrews.{CarriesInLife}
use Rattle.cops_service.proofs.HostedCrews.{streams_carried}
use Rattle.cops_service.proofs.carrying_lives.carry_lives.Goals as goal

pub loop-preserved : goal.loop-preserved
loop-preserved g c =
    let inv = c.loop.invariant in
    let done = c.carry_each-carried.ensures in (
      tt,
      tt,
      done.config ∙ inv.2,
      done.desk.0 ∙ inv.3,
      done.desk.1 ∙ inv.4,
      done.account ∙ inv.5,
      streams_carried c.args.nodes.now.config.now c.args.nodes.now.nodes.desk.cluster.now c.as_slice.result.now c.args.nodes.now.nodes.desk.seat.now c.loop.nodes.nodes.desk.seat.now c.carry_each-carried.new.nodes.nodes.desk.seat.now inv.6
          (subst (λ (x : Config × Gates Hosted). DoneForEach (CarriesInLife x.0 x.1) c.as_slice.result.now c.loop.nodes.nodes.desk.seat.now c.carry_each-carried.new.nodes.nodes.desk.seat.now) (λ i. (inv.2 i, inv.3 i)) done.carries),
    )
