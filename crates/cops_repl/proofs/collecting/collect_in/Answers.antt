use Rattle.std.proofs.Common.{◌∙◌, refl}
use Rattle.std.proofs.lemmas.Result.{err_from_is_err_and}
use Rattle.cops_types.specs.declared.faults.Fault.TheVariants.{OutOfMemory}
use Rattle.cops_model.specs.declared.calls.NodeReply.TheVariants.{Refused}
use Rattle.cops_repl.proofs.CollectSteps.{shard_counts, shard_stops}
use Rattle.cops_repl.proofs.collecting.collect_in.Goals as goal

pub returns-in_err-total-clause-collected : goal.returns-in_err-total-clause-collected
returns-in_err-total-clause-collected g c =
    let p = err_from_is_err_and c.from_residual-in_err-total.result c.from_residual-in_err-total.ensures.1 in
    let stop = c.in_err-total.ensures in
    rw (p.1, p.2)
    (shard_stops g.N.Nodes.Answers c.args.slot c.args.moment c.args.nodes.now c.loop-shard.nodes c.step.new.self c.args.start c.loop-shard.total c.args.shards c.loop-shard.shard c.args.dc c.in_ok-reply.reply c.in_err-total.field-0.0
    c.loop-shard-test.true stop.fits c.loop-shard.invariant.so_far c.in_ok-reply.ensures.answers stop.value)

-- a node was refused memory
pub returns-in_err-reply-clause-collected : goal.returns-in_err-reply-clause-collected
returns-in_err-reply-clause-collected g c =
    let p = err_from_is_err_and c.from_residual.result c.from_residual.ensures.1 in
    rw (p.1, p.2)
    (shard_stops g.N.Nodes.Answers c.args.slot c.args.moment c.args.nodes.now c.loop-shard.nodes c.step.new.self c.args.start c.loop-shard.total c.args.shards c.loop-shard.shard c.args.dc (Refused OutOfMemory) OutOfMemory
    c.loop-shard-test.true c.loop-shard.invariant.fits c.loop-shard.invariant.so_far c.in_err-reply.ensures.answers refl)

pub loop-shard-preserved : goal.loop-shard-preserved
loop-shard-preserved g c =
    let added = c.in_ok-total.ensures.value in
    record {
      so_far =
          shard_counts g.N.Nodes.Answers c.args.slot c.args.moment c.args.nodes.now c.loop-shard.nodes c.step.new.self c.args.start c.loop-shard.total added.0 c.in_ok-total.total c.loop-shard.shard c.args.dc c.in_ok-reply.reply
          c.loop-shard.invariant.so_far c.in_ok-reply.ensures.answers added.1 added.2;
      fits = c.in_ok-total.ensures.sum_fits;
      shape = c.step.ensures.shape ∙ c.loop-shard.invariant.shape;
    }
