use Rattle.std.proofs.Common.{◌≡◌, ◌∙◌, false, refl, rules}
use Rattle.std.specs.Prelude.{max}
use Rattle.cops_model.specs.declared.deliveries.Delivery.{Delivery}
use Rattle.cops_model.specs.declared.deliveries.Progress.{Progress}
use Rattle.cops_model.specs.declared.deliveries.Progress.TheVariants.{Working, Done}
use Rattle.cops_repl.specs.Stands.{is_done}
use Rattle.cops_service.specs.Carried.{carried_stream}
use Rattle.cops_service.proofs.Calling.{one_more}
use Rattle.cops_service.proofs.Carried.{come_further, delivered}
use Rattle.cops_service.proofs.carrying.deliver.Goals as goal

pub returns-in-Done-clause-slot : goal.returns-in-Done-clause-slot
returns-in-Done-clause-slot g c =
    let called = c.step.ensures.called in
    one_more g.N.Nodes.Answers c.args.stream.now.from.slot c.args.nodes.now c.loop.nodes c.step.new.nodes c.loop.invariant.6
    (called.0.node, max c.loop.carrier.moment c.now.result, called.0.call, called.1, called.2)

-- a node was refused memory
pub returns-in_err-progress-clause-slot : goal.returns-in_err-progress-clause-slot
returns-in_err-progress-clause-slot g c =
    let called = c.step.ensures.called in
    one_more g.N.Nodes.Answers c.args.stream.now.from.slot c.args.nodes.now c.loop.nodes c.step.new.nodes c.loop.invariant.6
    (called.0.node, max c.loop.carrier.moment c.now.result, called.0.call, called.1, called.2)

pub returns-in-Done-clause-delivers : goal.returns-in-Done-clause-delivers
returns-in-Done-clause-delivers g c =
    let called = c.step.ensures.called in
    delivered g.N.Nodes.Answers c.args.config.now.shards c.args.stream.now.from.slot (carried_stream c.args.stream.now) c.args.nodes.now c.loop.nodes c.step.new.nodes c.loop.carrier c.step.new.self
    c.loop.invariant.7 c.now.result called.0 called.1 _ called.2 called.3 _ (search rules)

pub returns-in_err-progress-clause-delivers : goal.returns-in_err-progress-clause-delivers
returns-in_err-progress-clause-delivers g c =
    let called = c.step.ensures.called in
    delivered g.N.Nodes.Answers c.args.config.now.shards c.args.stream.now.from.slot (carried_stream c.args.stream.now) c.args.nodes.now c.loop.nodes c.step.new.nodes c.loop.carrier c.step.new.self
    c.loop.invariant.7 c.now.result called.0 called.1 _ called.2 called.3 _ (search rules)

-- what is not done works
works_on : (progress : Progress) → ((ending : Delivery) → progress ≡ Done ending → ⊥) → progress ≡ Working
works_on Working not = refl
works_on (Done ending) not = absurd (not ending refl)

is_working : (progress : Progress) → ((ending : Delivery) → progress ≡ Done ending → ⊥) → is_done progress ≡ false
is_working Working not = refl
is_working (Done ending) not = absurd (not ending refl)

pub loop-preserved : goal.loop-preserved
loop-preserved g c =
    let called = c.step.ensures.called in
    let works : c.in_ok-progress.progress ≡ Working = works_on c.in_ok-progress.progress c.in_default.not-Done in (
      tt,
      tt,
      c.in_ok-progress.ensures.ended ∙ is_working c.in_ok-progress.progress c.in_default.not-Done,
      c.step.ensures.stream ∙ c.loop.invariant.3,
      c.step.ensures.shards ∙ c.loop.invariant.4,
      c.step.ensures.shape ∙ c.loop.invariant.5,
      one_more g.N.Nodes.Answers c.args.stream.now.from.slot c.args.nodes.now c.loop.nodes c.step.new.nodes c.loop.invariant.6
          (called.0.node, max c.loop.carrier.moment c.now.result, called.0.call, called.1, called.2),
      come_further g.N.Nodes.Answers c.args.config.now.shards c.args.stream.now.from.slot (carried_stream c.args.stream.now) c.args.nodes.now c.loop.nodes c.step.new.nodes c.loop.carrier c.step.new.self
          c.loop.invariant.7 c.now.result called.0 called.1 _ called.2 called.3 (search (rules, works)),
    )
