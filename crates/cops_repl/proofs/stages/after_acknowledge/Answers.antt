use Rattle.std.proofs.Common.{ap, sym, subst, rules, true, false}
use Rattle.cops_types.specs.declared.faults.Fault.TheVariants.{Torn}
use Rattle.cops_model.specs.declared.calls.NodeCall.TheVariants.{Ack}
use Rattle.cops_model.specs.declared.calls.NodeReply.{NodeReply}
use Rattle.cops_model.specs.declared.deliveries.Delivery.TheVariants.{Carried, Refused}
use Rattle.cops_repl.specs.declared.stages.After.TheVariants.{Ends}
use Rattle.cops_repl.specs.declared.stages.Stage.TheVariants.{Stored}
use Rattle.cops_model.specs.Carrier.{end_of}
use Rattle.cops_repl.specs.Stands.{FollowsReply}
use Rattle.cops_repl.proofs.NextSteps.{acknowledged, ends_acknowledge}
use Rattle.cops_repl.proofs.stages.after_acknowledge.Goals as goal

pub returns-in-Acked-clause-follows : goal.returns-in-Acked-clause-follows
returns-in-Acked-clause-follows c = λ shards stream.
    let stage = Stored c.args.pair c.args.fresh in
    subst (λ (r : NodeReply). FollowsReply shards stream stage r (Ends (Carried c.args.pair c.args.fresh true))) (sym c.in-Acked.is) (acknowledged shards stream c.args.pair c.args.fresh true)

pub returns-in-NotFront-clause-follows : goal.returns-in-NotFront-clause-follows
returns-in-NotFront-clause-follows c = λ shards stream.
    let stage = Stored c.args.pair c.args.fresh in
    subst (λ (r : NodeReply). FollowsReply shards stream stage r (Ends (Carried c.args.pair c.args.fresh false))) (sym c.in-NotFront.is) (acknowledged shards stream c.args.pair c.args.fresh false)

pub returns-in-Refused-clause-follows : goal.returns-in-Refused-clause-follows
returns-in-Refused-clause-follows c = λ shards stream.
    ends_acknowledge shards stream c.args.pair c.args.fresh c.args.reply.now (Refused c.in-Refused.fault) (ap (end_of shards stream (Ack stream.to_dc c.args.pair.version)) c.in-Refused.is)

pub returns-in_default : goal.returns-in_default
returns-in_default c =
    record {
      follows = λ shards stream. ends_acknowledge shards stream c.args.pair c.args.fresh c.args.reply.now (Refused Torn) (search rules);
      sound = λ shards stream. tt;
    }
