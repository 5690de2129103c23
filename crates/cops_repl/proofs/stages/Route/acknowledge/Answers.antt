use Rattle.cops_model.specs.Log.{Directed}
use Rattle.cops_model.specs.declared.calls.NodeCall.TheVariants.{Ack}
use Rattle.std.proofs.Common.{refl}
use Rattle.std.proofs.lemmas.Result.{err_from_is_err_and}
use Rattle.cops_types.specs.declared.faults.Fault.TheVariants.{OutOfMemory}
use Rattle.cops_model.specs.declared.calls.NodeReply.TheVariants as reply
use Rattle.cops_model.specs.declared.deliveries.Delivery.TheVariants as delivery
use Rattle.cops_repl.specs.Stands.{stream_of}
use Rattle.cops_repl.proofs.NextSteps.{asks_acknowledge, ends_acknowledge}
use Rattle.cops_repl.proofs.stages.Route.acknowledge.Goals as goal

pub returns-clause-called : goal.returns-clause-called
returns-clause-called g c =
    let route = c.args.self.now in
    let stream = stream_of route in
    let pair = c.args.pair in
    let call : Directed = record { node = route.origin; call = Ack route.to_dc pair.version } in (
      call,
      c.in_ok-reply.reply,
      c.in_ok-reply.ensures.answers,
      (asks_acknowledge route.shards stream pair c.args.fresh, c.after_acknowledge.ensures.follows route.shards stream),
    )

pub returns-clause-sound : goal.returns-clause-sound
returns-clause-sound g c = c.after_acknowledge.ensures.sound c.args.self.now.shards (stream_of c.args.self.now)

pub returns-in_err-reply-clause-called : goal.returns-in_err-reply-clause-called
returns-in_err-reply-clause-called g c =
    let route = c.args.self.now in
    let stream = stream_of route in
    let pair = c.args.pair in
    let call : Directed = record { node = route.origin; call = Ack route.to_dc pair.version } in
    let lack = err_from_is_err_and c.from_residual.result c.from_residual.ensures.1 in
    rw lack.1 (
      call,
      reply.Refused OutOfMemory,
      c.in_err-reply.ensures.answers,
      (asks_acknowledge route.shards stream pair c.args.fresh, ends_acknowledge route.shards stream pair c.args.fresh (reply.Refused OutOfMemory) (delivery.Refused OutOfMemory) refl),
    )

pub returns-in_err-reply-clause-refused : goal.returns-in_err-reply-clause-refused
returns-in_err-reply-clause-refused g c =
    let route = c.args.self.now in
    let lack = err_from_is_err_and c.from_residual.result c.from_residual.ensures.1 in
    rw lack.1 (record { node = route.origin; call = Ack route.to_dc c.args.pair.version }, c.in_err-reply.ensures.answers)
