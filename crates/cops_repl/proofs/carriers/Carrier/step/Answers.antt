use Rattle.std.proofs.Common.{◌≡◌, ◌∙◌, ℕ, ap, max, subst}
use Rattle.std.proofs.lemmas.Result.{err_from_is_err_and}
use Rattle.cops_types.specs.declared.faults.Fault.TheVariants.{OutOfMemory}
use Rattle.cops_model.specs.declared.calls.NodeReply.TheVariants as reply
use Rattle.cops_model.specs.declared.deliveries.Delivery.TheVariants.{Refused}
use Rattle.cops_repl.specs.declared.stages.After.{After}
use Rattle.cops_repl.specs.declared.stages.After.TheVariants.{Ends}
use Rattle.cops_repl.specs.declared.stages.Stage.{Stage}
use Rattle.cops_repl.specs.Stands.{IsStepFrom, KeptCarrier, stream_of}
use Rattle.cops_repl.proofs.CarrierSteps.{step_goes, step_ends}
use Rattle.cops_repl.proofs.carriers.Carrier.step.Goals as goal

pub returns-in-Goes-clause-called : goal.returns-in-Goes-clause-called
returns-in-Goes-clause-called g c =
    let route = c.self.inside.route in
    let made = c.in_ok-after.ensures.called in
    let inside : KeptCarrier = record { stream = stream_of route; shards = route.shards; moment = c.self.inside.moment; stage = c.self.inside.stage } in
    let from = subst (λ (a : After). IsStepFrom route.shards (stream_of route) c.self.inside.stage made.0 made.1 a) c.in-Goes.is
    (subst (λ (s : Stage). IsStepFrom route.shards (stream_of route) s made.0 made.1 c.in_ok-after.after) c.replace-stage.ensures.value made.3) in
    let now : c.max-self-inside.result ≡ max c.args.self.now.moment c.args.moment = c.max-self-inside.ensures ∙ ap (λ (k : KeptCarrier). max k.moment c.args.moment) c.self.view_is in (
      made.0,
      made.1,
      subst (λ (m : ℕ). g.N.Nodes.Answers c.args.nodes.now made.0.node c.args.slot m made.0.call made.1 c.step.new.nodes) now made.2,
      step_goes inside c.args.self.now c.self.view_is c.args.moment c.max-self-inside.result c.max-self-inside.ensures made.0 made.1 c.in-Goes.stage from,
    )

pub returns-in-Ends-clause-called : goal.returns-in-Ends-clause-called
returns-in-Ends-clause-called g c =
    let route = c.self.inside.route in
    let made = c.in_ok-after.ensures.called in
    let inside : KeptCarrier = record { stream = stream_of route; shards = route.shards; moment = c.self.inside.moment; stage = c.self.inside.stage } in
    let from = subst (λ (a : After). IsStepFrom route.shards (stream_of route) c.self.inside.stage made.0 made.1 a) c.in-Ends.is
    (subst (λ (s : Stage). IsStepFrom route.shards (stream_of route) s made.0 made.1 c.in_ok-after.after) c.replace-stage.ensures.value made.3) in
    let now : c.max-self-inside.result ≡ max c.args.self.now.moment c.args.moment = c.max-self-inside.ensures ∙ ap (λ (k : KeptCarrier). max k.moment c.args.moment) c.self.view_is in (
      made.0,
      made.1,
      subst (λ (m : ℕ). g.N.Nodes.Answers c.args.nodes.now made.0.node c.args.slot m made.0.call made.1 c.step.new.nodes) now made.2,
      rw c.replace-stage.ensures.after (step_ends inside c.args.self.now c.self.view_is c.args.moment c.max-self-inside.result c.max-self-inside.ensures made.0 made.1 c.in-Ends.ending from),
    )

pub returns-in_err-after-clause-called : goal.returns-in_err-after-clause-called
returns-in_err-after-clause-called g c =
    let route = c.self.inside.route in
    let made = c.in_err-after.ensures.called in
    let inside : KeptCarrier = record { stream = stream_of route; shards = route.shards; moment = c.self.inside.moment; stage = c.self.inside.stage } in
    let from = subst (λ (s : Stage). IsStepFrom route.shards (stream_of route) s made.0 made.1 (Ends (Refused OutOfMemory))) c.replace-stage.ensures.value made.3 in
    let now : c.max-self-inside.result ≡ max c.args.self.now.moment c.args.moment = c.max-self-inside.ensures ∙ ap (λ (k : KeptCarrier). max k.moment c.args.moment) c.self.view_is in
    let lack = err_from_is_err_and c.from_residual.result c.from_residual.ensures.1 in
    rw lack.1 (
      made.0,
      made.1,
      subst (λ (m : ℕ). g.N.Nodes.Answers c.args.nodes.now made.0.node c.args.slot m made.0.call made.1 c.step.new.nodes) now made.2,
      rw c.replace-stage.ensures.after (step_ends inside c.args.self.now c.self.view_is c.args.moment c.max-self-inside.result c.max-self-inside.ensures made.0 made.1 (Refused OutOfMemory) from),
    )

pub returns-in_err-after-clause-refused : goal.returns-in_err-after-clause-refused
returns-in_err-after-clause-refused g c =
    let refused = c.in_err-after.ensures.refused in
    let now : c.max-self-inside.result ≡ max c.args.self.now.moment c.args.moment = c.max-self-inside.ensures ∙ ap (λ (k : KeptCarrier). max k.moment c.args.moment) c.self.view_is in
    let lack = err_from_is_err_and c.from_residual.result c.from_residual.ensures.1 in
    rw lack.1 (refused.0, subst (λ (m : ℕ). g.N.Nodes.Answers c.args.nodes.now refused.0.node c.args.slot m refused.0.call (reply.Refused OutOfMemory) c.step.new.nodes) now refused.1)
