use Rattle.std.proofs.Common.{◌≡◌}
use Rattle.std.specs.Prelude.{replicate}
use Rattle.cops_store.specs.Lines.{no_line}
use Rattle.cops_store.proofs.table.empty_lines.Given as goal

abbrev pub invariant-loop-slot : goal.invariant-loop-slot
invariant-loop-slot l = record { made : l.lines.items ≡ replicate l._slot no_line }
