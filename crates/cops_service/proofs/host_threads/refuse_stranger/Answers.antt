use Rattle.cops_node.specs.Hosting.{Hosted}
use Rattle.cops_wire.specs.Requests.{KeepsShape}
use Rattle.cops_service.proofs.AtLives.{nobody_calls}
use Rattle.cops_service.proofs.host_threads.refuse_stranger.Goals as goal

pub returns : goal.returns
returns g c =
    let none = nobody_calls _ g.T.Moments.Gives c.config_of_none-config.result c.args.nodes.now c.serve_watched.new.nodes c.args.moments.now c.serve_watched.new.moments (λ i. (c.config_of_none-config.ensures i).tenants) c.serve_watched.ensures.converses in
    record {
      config = λ i. (none.0 i).config.now;
      desk = ((λ i. (none.0 i).nodes.desk.cluster.now), (λ i. (none.0 i).nodes.desk.seat.ghost_name));
      same = ((λ i. (none.0 i).nodes.desk.seat.now), none.1);
    }
