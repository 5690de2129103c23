use Rattle.std.proofs.Common.{ap, rules}
use Rattle.cops_types.specs.declared.faults.Fault.TheVariants.{Torn}
use Rattle.cops_model.specs.declared.deliveries.Delivery.TheVariants.{OutOfOrder, Refused}
use Rattle.cops_model.specs.Carrier.{end_of}
use Rattle.cops_model.specs.declared.calls.NodeCall.TheVariants.{Commit}
use Rattle.cops_repl.proofs.NextSteps.{ends_commit}
use Rattle.cops_repl.proofs.stages.after_commit.Goals as goal

pub returns-in-OutOfOrder-clause-follows : goal.returns-in-OutOfOrder-clause-follows
returns-in-OutOfOrder-clause-follows c =
    λ shards stream entry is. ends_commit shards stream entry c.args.reply.now (OutOfOrder c.in-OutOfOrder.mark) (ap (end_of shards stream (Commit entry)) c.in-OutOfOrder.is)

pub returns-in-Refused-clause-follows : goal.returns-in-Refused-clause-follows
returns-in-Refused-clause-follows c =
    λ shards stream entry is. ends_commit shards stream entry c.args.reply.now (Refused c.in-Refused.fault) (ap (end_of shards stream (Commit entry)) c.in-Refused.is)

pub returns-in_default : goal.returns-in_default
returns-in_default c =
    record {
      follows = λ shards stream entry is. ends_commit shards stream entry c.args.reply.now (Refused Torn) (search rules);
      sound = λ shards stream. tt;
    }
