use Rattle.std.proofs.Common.{arith, refl, ◌-◌, deque_len}
use Rattle.cops_store.proofs.StaleOrder.{by_last}
use Rattle.cops_store.proofs.chain.stale_by_of.Goals as goal

pub returns-in-Some-stale : goal.returns-in-Some-stale
returns-in-Some-stale c below =
    let some = c.in-Some.ensures.variant.0 refl in
    let len = c.args.older.now.ok.0 in
    let in_order = c.if-not-are_in_order.ensures refl in
    (in_order, by_last c.args.older.now.items c.in-Some.last.now c.in-Some-stale.moment (deque_len c.args.older.now - 1) in_order c.in-Some-stale.is (omega (arith, some, len)) c.in-Some.ensures.lookup)
