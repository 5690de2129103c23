use Rattle.std.proofs.Common.{ap, sym}
use Rattle.std.specs.Prelude.{Ok, Result}
use Rattle.std.specs.declared.alloc.AllocError.{AllocError}
use Rattle.cops_model.specs.declared.deliveries.Progress.{Progress as CarrierProgress}
use Rattle.cops_model.specs.declared.replies.Reply.{Reply}
use Rattle.cops_model.specs.declared.replies.Reply.TheVariants.{Working}
use Rattle.cops_world.specs.ActorsStand.{reply_of_carrying}
use Rattle.cops_world.proofs.ActorSteps.{carrier_told}
use Rattle.cops_world.proofs.actors.step_carrier.Goals as goal

abbrev carried : CarrierProgress → Result Reply AllocError
carried shown = Ok (reply_of_carrying shown)

pub returns-in-Ok-Working-clause-steps : goal.returns-in-Ok-Working-clause-steps
returns-in-Ok-Working-clause-steps g c = λ config.
    carrier_told (λ at id call reply. g.N.Nodes.Answers c.args.nodes.now id c.args.slot at call reply c.step.new.nodes) config c.args.moment (Ok c.in-Ok-Working.field-0) (Ok Working) c.args.carrier.now c.step.new.self
    (ap carried (sym c.in-Ok-Working.field-0-is)) c.in-Ok-Working.ensures.ended c.in-Ok-Working.ensures.called
