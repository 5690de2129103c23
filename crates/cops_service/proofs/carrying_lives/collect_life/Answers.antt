use Rattle.std.proofs.Common.{◌∙◌, inl, inr, refl, sym}
use Rattle.std.proofs.lemmas.Bool.{false≢true}
use Rattle.cops_node.specs.ToldReplies.{told_reply}
use Rattle.cops_model.specs.declared.calls.NodeCall.TheVariants.{Collect}
use Rattle.cops_service.proofs.AtLives.{calls_in, life_calls}
use Rattle.cops_service.proofs.carrying_lives.collect_life.Goals as goal

pub returns : goal.returns
returns g c =
    let turned = c.turn_to.ensures in
    let id = c.args.place.now.id in
    let slot = c.args.place.now.slot in
    let reply = told_reply c.step.result in
    let kept = (life_calls (λ n. n.config.now) (λ n. n.nodes.desk.cluster.now) (λ n. n.nodes.desk.seat.ghost_name) (λ n. n.nodes.slot) (λ n. n.nodes.life) (λ n. n.nodes.desk.seat.now)
    c.turn_to.new.self c.step.new.self id slot c.args.moment Collect reply c.step.ensures.answers).0 in
    record {
      config = kept.2 ∙ (λ i. (turned.config i).now);
      desk = (kept.0 ∙ turned.cluster, kept.1 ∙ turned.same_seat.0);
      account = kept.3 ∙ (λ i. (turned.same_seat.1 i).account);
      collects = inl (
        c.is_node.ensures.there c.if-not-is_node.false,
        (
          c.args.moment,
          reply,
          calls_in (λ n. n.config.now) (λ n. n.nodes.desk.cluster.now) (λ n. n.nodes.desk.seat.ghost_name) (λ n. n.nodes.slot) (λ n. n.nodes.life) (λ n. n.nodes.desk.seat.now)
              c.args.nodes.now.nodes.desk.cluster.now (record { slot = slot; number = c.args.place.now.life }) c.args.nodes.now.nodes.desk.seat.now c.turn_to.new.self c.step.new.self id slot c.args.moment Collect reply
              turned.cluster turned.slot turned.life turned.same_seat.1 c.step.ensures.answers,
        ),
      );
    }

pub returns-then-not-is_node-clause-collects : goal.returns-then-not-is_node-clause-collects
returns-then-not-is_node-clause-collects g c = inr (λ there. false≢true (sym c.if-not-is_node.true ∙ c.is_node.ensures.only there), refl)
