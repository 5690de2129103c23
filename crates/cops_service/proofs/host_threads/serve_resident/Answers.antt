use Rattle.std.proofs.Common.{◌∙◌, inr}
use Rattle.cops_model.specs.MainTheorem.{with_tenant_alone}
use Rattle.cops_service.proofs.AtLives.{converses_in, life_converses}
use Rattle.cops_service.proofs.host_threads.serve_resident.Goals as goal

pub returns : goal.returns
returns g c =
    let turned = c.turn_to.ensures in
    let config = c.in_ok-config.config in
    let kept = (life_converses (λ n. n.config.now) (λ n. n.nodes.desk.cluster.now) (λ n. n.nodes.desk.seat.ghost_name) (λ n. n.nodes.slot) (λ n. n.nodes.life) (λ n. n.nodes.desk.seat.now)
    g.T.Moments.Gives config c.turn_to.new.self c.serve_watched.new.nodes c.args.moments.now c.serve_watched.new.moments c.serve_watched.ensures.converses).0 in
    record {
      config = kept.2 ∙ (λ i. (turned.config i).now);
      desk = (kept.0 ∙ turned.cluster, kept.1 ∙ turned.same_seat.0);
      account = kept.3 ∙ (λ i. (turned.same_seat.1 i).account);
      serves = inr (converses_in (λ n. n.config.now) (λ n. n.nodes.desk.cluster.now) (λ n. n.nodes.desk.seat.ghost_name) (λ n. n.nodes.slot) (λ n. n.nodes.life) (λ n. n.nodes.desk.seat.now)
          g.T.Moments.Gives config (with_tenant_alone c.args.nodes.now.config.now c.args.resident.tenant) c.args.nodes.now.nodes.desk.cluster.now c.args.resident.life c.args.nodes.now.nodes.desk.seat.now
          c.turn_to.new.self c.serve_watched.new.nodes c.args.moments.now c.serve_watched.new.moments c.in_ok-config.ensures turned.cluster turned.slot turned.life turned.same_seat.1 c.serve_watched.ensures.converses);
    }
