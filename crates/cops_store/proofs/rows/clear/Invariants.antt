use Rattle.std.proofs.Common.{◌≡◌, ◌+◌}
use Rattle.cops_store.specs.Lines.{IsLineTurn}
use Rattle.cops_store.proofs.rows.clear.Given as goal

abbrev pub invariant-loop-row : goal.invariant-loop-row
invariant-loop-row l = record {
  turn : IsLineTurn l.initial.rows.entries l.rows.entries l.slot l.initial.line l.line;
  left : l.line.count + l._row ≡ l.initial.line.count;
}
