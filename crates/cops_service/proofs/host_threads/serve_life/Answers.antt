use Rattle.std.proofs.Common.{◌≡◌, ◌⊎◌, subst, sym}
use Rattle.cops_types.specs.declared.configs.Config.{Config}
use Rattle.cops_node.specs.Hosting.{Hosted}
use Rattle.cops_service.specs.Admitted.{ShowsLife}
use Rattle.cops_service.specs.Gates.{Gates}
use Rattle.cops_service.specs.HostedDesks.{HostedSeat}
use Rattle.cops_service.specs.LifeCrews.{ConversesInLife}
use Rattle.cops_service.proofs.Admitted.{served_in_life}
use Rattle.cops_service.proofs.host_threads.serve_life.Goals as goal

pub returns-in-Some-clause-serves : goal.returns-in-Some-clause-serves
returns-in-Some-clause-serves g c =
    let first : HostedSeat × g.row.T.Denot = (c.args.nodes.now.nodes.desk.seat.now, c.args.moments.now) in
    let seen : HostedSeat = c.resident_of.new.nodes.nodes.desk.seat.now in
    let last : HostedSeat × g.row.T.Denot = (c.serve_resident.new.nodes.nodes.desk.seat.now, c.serve_resident.new.moments) in
    let life = c.in-Some.resident.life in
    let tenant = c.in-Some.resident.tenant in
    served_in_life g.T.Moments.Gives c.args.nodes.now.config.now c.args.nodes.now.nodes.desk.cluster.now life tenant first last seen c.in-Some.ensures.more
    (subst (λ (x : Config × Gates Hosted). ShowsLife x.0 x.1 life tenant seen.history) (λ i. (sym c.requires.site.0 i, sym c.requires.site.1 i)) c.in-Some.ensures.shown)
    (subst (λ (x : Config × Gates Hosted). ((last.0 ≡ seen) × (last.1 ≡ first.1)) ⊎ ConversesInLife x.0 x.1 g.T.Moments.Gives life tenant (seen, first.1) last)
    (λ i. (c.in-Some.ensures.config i, c.in-Some.ensures.desk.0 i)) c.serve_resident.ensures.serves)
