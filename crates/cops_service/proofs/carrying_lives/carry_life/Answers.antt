use Rattle.std.proofs.Common.{◌∙◌, inl, inr, refl, sym}
use Rattle.std.proofs.lemmas.Bool.{false≢true}
use Rattle.cops_service.proofs.AtLives.{delivers_in, life_delivers}
use Rattle.cops_service.proofs.carrying_lives.carry_life.Goals as goal

pub returns : goal.returns
returns g c =
    let turned = c.turn_to.ensures in
    let carried = c.carry_stream-tried.ensures in
    let kept = (life_delivers (λ n. n.config.now) (λ n. n.nodes.desk.cluster.now) (λ n. n.nodes.desk.seat.ghost_name) (λ n. n.nodes.slot) (λ n. n.nodes.life) (λ n. n.nodes.desk.seat.now)
    c.args.nodes.now.config.now.shards c.args.stream.now c.turn_to.new.self c.carry_stream-tried.new.nodes carried.delivers).0 in
    record {
      config = kept.2 ∙ (λ i. (turned.config i).now);
      desk = (kept.0 ∙ turned.cluster, kept.1 ∙ turned.same_seat.0);
      account = kept.3 ∙ (λ i. (turned.same_seat.1 i).account);
      carries = inl (
        c.is_between.ensures.between c.if-not-is_between.false,
        delivers_in (λ n. n.config.now) (λ n. n.nodes.desk.cluster.now) (λ n. n.nodes.desk.seat.ghost_name) (λ n. n.nodes.slot) (λ n. n.nodes.life) (λ n. n.nodes.desk.seat.now)
            c.args.nodes.now.config.now.shards c.args.stream.now c.args.nodes.now.nodes.desk.cluster.now (record { slot = c.args.stream.now.from.slot; number = c.args.stream.now.from.life }) c.args.nodes.now.nodes.desk.seat.now
            c.turn_to.new.self c.carry_stream-tried.new.nodes turned.cluster turned.slot turned.life turned.same_seat.1 carried.delivers,
      );
    }

pub returns-then-not-is_between-clause-carries : goal.returns-then-not-is_between-clause-carries
returns-then-not-is_between-clause-carries g c = inr (λ between. false≢true (sym c.if-not-is_between.true ∙ c.is_between.ensures.only between), refl)
