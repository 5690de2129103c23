use Rattle.std.proofs.Common.{arith, ◌≡◌, ◌-◌, ◌<◌, ◌^◌, length}
use Rattle.cops_store.proofs.StaleOrder.{in_order_with}
use Rattle.cops_store.proofs.chain.stale_by_with.Goals as goal

pub returns : goal.returns
returns c row is below =
    let rows = c.args.older.now.items in
    let end : c.args.i ≡ length rows = omega (arith, c.len.ensures, c.args.older.now.ok.0, c.requires.within, c.if-i-len.false) in
    let known : c.args.stale_by < 2 ^ 64 - 1 = omega (arith, below, c.if-at-stale_by.false) in
    in_order_with rows row c.args.stale_by c.args.at c.args.i end is c.if-at-stale_by.false (c.requires.order known)
