use Rattle.std.proofs.Common.{arith, sym, subst, ◌≡◌, ◌<◌, length, true}
use Rattle.std.proofs.lemmas.Bool.Decides.{nat_tests}
use Rattle.cops_store.specs.Chains.{KeptChain, is_covered}
use Rattle.cops_store.proofs.StaleOrder.{covered_by}
use Rattle.cops_store.proofs.chain.Chain.is_covered.Goals as goal

pub returns-then-not-is_empty : goal.returns-then-not-is_empty
returns-then-not-is_empty c =
    let rows = c.self.inside.older.items in
    let some : 0 < length rows = grind (arith, nat_tests, c.if-not-is_empty.ensures, c.self.inside.older.ok.0) in
    sym (subst (λ (k : KeptChain). is_covered c.args.at k.items ≡ true) c.self.view_is
    (covered_by c.args.at c.self.inside.stale_by c.self.inside.latest rows some c.if-self-at.true (c.self.invariant.1 c.if-self-lt18446744073709551615.true).1))
