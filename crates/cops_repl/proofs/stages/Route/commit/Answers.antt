use Rattle.cops_model.specs.Carrier.{commit_call}
use Rattle.std.proofs.Common.{refl}
use Rattle.std.proofs.lemmas.Result.{err_from_is_err_and}
use Rattle.cops_types.specs.declared.faults.Fault.TheVariants.{OutOfMemory}
use Rattle.cops_model.specs.declared.calls.NodeReply.TheVariants as reply
use Rattle.cops_model.specs.declared.deliveries.Delivery.TheVariants as delivery
use Rattle.cops_repl.specs.Stands.{stream_of}
use Rattle.cops_repl.proofs.Fitting.{commit_fits}
use Rattle.cops_repl.proofs.NextSteps.{asks_commit, ends_commit}
use Rattle.cops_repl.proofs.stages.Route.commit.Goals as goal

pub step-requires : goal.step-requires
step-requires g c =
    let route = c.args.self.now in
    let shape = g.N.Nodes.shape c.args.nodes.now in
    record {
      dc_exists = c.requires.stream.to_dc_exists;
      shard_exists = c.requires.stream.shard_exists;
      call_fits = commit_fits shape route.shards (stream_of route) c.args.entry c.requires.stream c.requires.own;
    }

pub returns-clause-called : goal.returns-clause-called
returns-clause-called g c =
    let route = c.args.self.now in
    let stream = stream_of route in
    let entry = c.args.entry in (
      commit_call stream entry,
      c.in_ok-reply.reply,
      c.in_ok-reply.ensures.answers,
      (asks_commit route.shards stream entry, c.after_commit.ensures.follows route.shards stream entry (λ i. record { key = c.key.ensures i; version = c.version.ensures i })),
    )

pub returns-clause-sound : goal.returns-clause-sound
returns-clause-sound g c = c.after_commit.ensures.sound c.args.self.now.shards (stream_of c.args.self.now)

pub returns-in_err-reply-clause-called : goal.returns-in_err-reply-clause-called
returns-in_err-reply-clause-called g c =
    let route = c.args.self.now in
    let stream = stream_of route in
    let entry = c.args.entry in
    let lack = err_from_is_err_and c.from_residual.result c.from_residual.ensures.1 in
    rw lack.1 (
      commit_call stream entry,
      reply.Refused OutOfMemory,
      c.in_err-reply.ensures.answers,
      (asks_commit route.shards stream entry, ends_commit route.shards stream entry (reply.Refused OutOfMemory) (delivery.Refused OutOfMemory) refl),
    )

pub returns-in_err-reply-clause-refused : goal.returns-in_err-reply-clause-refused
returns-in_err-reply-clause-refused g c =
    let lack = err_from_is_err_and c.from_residual.result c.from_residual.ensures.1 in
    rw lack.1 (commit_call (stream_of c.args.self.now) c.args.entry, c.in_err-reply.ensures.answers)
