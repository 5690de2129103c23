use Rattle.std.proofs.Common.{◌≡◌, take}
use Rattle.std.specs.Prelude.{None}
use Rattle.std.specs.List.{fold}
use Rattle.cops_store.specs.Chains.{earlier}
use Rattle.cops_store.proofs.chain.oldest_in.Given as goal

abbrev pub invariant-loop-i : goal.invariant-loop-i
invariant-loop-i l = l.oldest ≡ fold (λ o k. earlier o k.stale) None (take l.i l.older.items)
