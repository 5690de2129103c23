use Rattle.std.proofs.Common.{◌∷◌, [], ap}
use Rattle.std.specs.Option.{is_some}
use Rattle.cops_types.specs.Context.{Put}
use Rattle.cops_session.proofs.ContextRows.{ContextsStandFor-extended}
use Rattle.cops_session.proofs.contexts.see_put.Goals as goal

pub row_mut-requires : goal.row_mut-requires
row_mut-requires c = ap is_some c.requires.1

pub returns-clause-stands : goal.returns-clause-stands
returns-clause-stands c = λ opens stand.
    ContextsStandFor-extended c.args.handle c.args.contexts.now.next c.row_mut.result.now c.after_put.new.self (Put c.args.pair.now ∷ []) c.args.contexts.now.rows opens
    c.row_mut.ensures.in_order c.row_mut.ensures.before c.after_put.ensures.seen stand
