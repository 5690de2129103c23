use Rattle.std.proofs.Common.{◌∙◌, ap}
use Rattle.std.specs.Option.{is_some}
use Rattle.std.proofs.lemmas.Result.{IfOk-weaker, on_err_weaker, on_ok_weaker}
use Rattle.cops_session.proofs.ContextRows.{ContextsStandFor-same, obs_in-stands, row_at-replaced}
use Rattle.cops_session.proofs.ToldContexts.{full_is_told, same_contexts}
use Rattle.cops_session.proofs.contexts.prepare_put.Goals as goal

pub row_mut-requires : goal.row_mut-requires
row_mut-requires c = ap is_some c.requires.1

pub returns-clause-lists : goal.returns-clause-lists
returns-clause-lists c =
    IfOk-weaker c.put_args.result _ _
    (λ lists is opens stand. let stands = obs_in-stands c.args.handle c.args.contexts.now.rows opens c.row_mut.result.now stand c.row_mut.ensures.before in (is.0 ∙ stands.all_is, is.1 ∙ stands.near_is))
    c.put_args.ensures.lists

pub returns-clause-stands : goal.returns-clause-stands
returns-clause-stands c =
    on_ok_weaker c.put_args.result
    (λ kept opens stand. ContextsStandFor-same c.args.handle c.args.contexts.now.next c.row_mut.result.now c.put_args.new.self c.args.contexts.now.rows opens c.row_mut.ensures.in_order c.row_mut.ensures.before
    (λ obs h. record { all_is = ap (λ l. l.all) kept ∙ h.all_is; near_is = ap (λ l. l.near) kept ∙ h.near_is }) stand)
    c.put_args.ensures.kept

pub returns-clause-room : goal.returns-clause-room
returns-clause-room c =
    on_ok_weaker c.put_args.result
    (λ kept. (c.put_args.new.self, row_at-replaced c.args.handle c.row_mut.result.now c.put_args.new.self c.args.contexts.now.rows c.row_mut.ensures.before, ap (λ l. l.kept) kept))
    c.put_args.ensures.kept

pub returns-clause-told : goal.returns-clause-told
returns-clause-told c = λ opens stand.
    let stands = obs_in-stands c.args.handle c.args.contexts.now.rows opens c.row_mut.result.now stand c.row_mut.ensures.before in
    full_is_told c.put_args.result _ (c.put_args.ensures.told _ stands) (c.put_args.ensures.full _ stands)

pub returns-clause-err : goal.returns-clause-err
returns-clause-err c = on_err_weaker c.put_args.result (same_contexts c.args.handle c.row_mut.result.now c.put_args.new.self c.args.contexts.now c.row_mut.ensures.in_order c.row_mut.ensures.before) c.put_args.ensures.err
