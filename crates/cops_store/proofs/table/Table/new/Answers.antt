use Rattle.std.proofs.Common.{sym, subst}
use Rattle.cops_store.specs.Lines.{AreRowLines}
use Rattle.cops_store.proofs.Turns.{no_lines}
use Rattle.cops_store.proofs.table.Table.new.Goals as goal

pub invariant_of-result : goal.invariant_of-result
invariant_of-result c = subst (AreRowLines c.with_hasher.result.entries) (sym c.new.ensures.items) (no_lines c.with_hasher.result.entries c.with_hasher.ensures.empty)
