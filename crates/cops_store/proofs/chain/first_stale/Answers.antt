use Rattle.std.proofs.Common.{arith, refl}
use Rattle.cops_store.proofs.StaleOrder.{oldest_first}
use Rattle.cops_store.proofs.chain.first_stale.Goals as goal

pub returns-in-Some : goal.returns-in-Some
returns-in-Some c = oldest_first c.args.older.now.items c.in-Some.first.now c.requires (omega (arith, c.args.older.now.ok.0, c.in-Some.ensures.variant.0 refl)) c.in-Some.ensures.lookup
