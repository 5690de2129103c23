use Rattle.std.proofs.Common.{ap}
use Rattle.std.specs.Option.{is_some}
use Rattle.std.proofs.lemmas.Result.{on_err_weaker, on_ok_weaker}
use Rattle.cops_types.specs.Context.{observations_of}
use Rattle.cops_session.proofs.ContextRows.{ContextsStandFor-extended, obs_in-stands}
use Rattle.cops_session.proofs.ToldContexts.{same_contexts}
use Rattle.cops_session.proofs.contexts.see_reads.Goals as goal

pub row_mut-requires : goal.row_mut-requires
row_mut-requires c = ap is_some c.requires.1

pub returns-clause-stands : goal.returns-clause-stands
returns-clause-stands c =
    on_ok_weaker c.observe_all.result
    (λ seen opens stand. ContextsStandFor-extended c.args.handle c.args.contexts.now.next c.row_mut.result.now c.observe_all.new.self (observations_of c.args.reads.now) c.args.contexts.now.rows opens
    c.row_mut.ensures.in_order c.row_mut.ensures.before seen stand)
    c.observe_all.ensures.seen

pub returns-clause-told : goal.returns-clause-told
returns-clause-told c = λ opens stand.
    c.observe_all.ensures.told _ (obs_in-stands c.args.handle c.args.contexts.now.rows opens c.row_mut.result.now stand c.row_mut.ensures.before)

pub returns-clause-err : goal.returns-clause-err
returns-clause-err c = on_err_weaker c.observe_all.result (same_contexts c.args.handle c.row_mut.result.now c.observe_all.new.self c.args.contexts.now c.row_mut.ensures.in_order c.row_mut.ensures.before) c.observe_all.ensures.err
