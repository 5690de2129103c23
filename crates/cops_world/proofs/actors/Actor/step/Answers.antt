use Rattle.std.proofs.Common.{◌≡◌}
use Rattle.cops_world.specs.declared.actors.Actor.TheVariants as kept
use Rattle.cops_world.specs.ActorsStand.{stepped_to}
use Rattle.cops_world.proofs.ActorSteps.{carrier_steps}
use Rattle.cops_world.proofs.actors.Actor.step.Goals as goal

pub returns-else-ended-clause-steps : goal.returns-else-ended-clause-steps
returns-else-ended-clause-steps g c = λ config solo stands.
    carrier_steps (λ slot at id call reply. g.N.Nodes.Answers c.args.nodes.now id slot at call reply c.step_carrier.new.nodes) (c.step_carrier.new.nodes ≡ c.args.nodes.now)
    (g.N.Nodes.shape c.args.nodes.now) c.args.slot config c.args.moment c.in-OfCarrier.carrier c.step_carrier.new.carrier (stepped_to c.step_carrier.result (kept.OfCarrier c.step_carrier.new.carrier)) c.args.self.now solo c.in-OfCarrier.is stands (c.step_carrier.ensures.steps config)
