use Rattle.std.proofs.Common.{◌≡◌, length}
use Rattle.std.specs.List.{AllByRecursion}
use Rattle.cops_outbox.specs.Lines.{IsEmpty}
use Rattle.cops_outbox.proofs.rows.empty_lines.Given as goal

abbrev pub invariant-loop-slot : goal.invariant-loop-slot
invariant-loop-slot l = record {
  long : length l.lines.items ≡ l._slot;
  each : AllByRecursion (IsEmpty l.data_centres) l.lines.items;
}
