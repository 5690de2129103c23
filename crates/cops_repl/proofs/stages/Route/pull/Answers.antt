use Rattle.cops_model.specs.Carrier.{next_after, pull}
use Rattle.std.proofs.Common.{ap, ◌++◌, ◌∷◌, []}
use Rattle.std.proofs.lemmas.Result.{err_from_is_err_and}
use Rattle.cops_types.specs.declared.faults.Fault.TheVariants.{OutOfMemory}
use Rattle.cops_model.specs.declared.calls.NodeReply.TheVariants as reply
use Rattle.cops_repl.specs.Stands.{stream_of}
use Rattle.cops_repl.proofs.NextSteps.{asks_pull}
use Rattle.cops_repl.proofs.stages.Route.pull.Goals as goal

pub returns-clause-called : goal.returns-clause-called
returns-clause-called g c =
    let route = c.args.self.now in
    (pull (stream_of route), c.in_ok-reply.reply, c.in_ok-reply.ensures.answers, (asks_pull route.shards (stream_of route), c.after_pull.ensures.follows))

pub returns-in_err-reply-clause-called : goal.returns-in_err-reply-clause-called
returns-in_err-reply-clause-called g c =
    let route = c.args.self.now in
    let stream = stream_of route in
    let lack = err_from_is_err_and c.from_residual.result c.from_residual.ensures.1 in
    rw lack.1 (
      pull stream,
      reply.Refused OutOfMemory,
      c.in_err-reply.ensures.answers,
      (asks_pull route.shards stream, λ replies led. ap (λ rs. next_after route.shards stream (rs ++ reply.Refused OutOfMemory ∷ [])) led),
    )

pub returns-in_err-reply-clause-refused : goal.returns-in_err-reply-clause-refused
returns-in_err-reply-clause-refused g c =
    let lack = err_from_is_err_and c.from_residual.result c.from_residual.ensures.1 in
    rw lack.1 (pull (stream_of c.args.self.now), c.in_err-reply.ensures.answers)
