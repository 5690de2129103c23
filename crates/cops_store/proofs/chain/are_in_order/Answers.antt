use Rattle.std.proofs.Common.{arith, ◌≡◌, ◌∙◌, sym, true, rules}
use Rattle.cops_store.proofs.StaleOrder.{one_more}
use Rattle.cops_store.proofs.chain.are_in_order.Goals as goal

pub loop-i-preserved : goal.loop-i-preserved
loop-i-preserved c =
    let next : c.is_no_later.result ≡ true = search rules in
    one_more c.args.older.now.items c.index.result.now c.index-in-loop-i.result.now c.loop-i.i (omega arith) (omega (arith, c.len-i-end.ensures, c.args.older.now.ok.0)) c.index.ensures c.index-in-loop-i.ensures
    (sym c.is_no_later.ensures ∙ next) c.loop-i.invariant
