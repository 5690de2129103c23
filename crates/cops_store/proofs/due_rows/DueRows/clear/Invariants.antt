use Rattle.std.proofs.Common.{◌≡◌, ℕ, ◌+◌}
use Rattle.cops_store.specs.Dues.{IsDueLine, IsDueTurn}
use Rattle.cops_store.proofs.due_rows.DueRows.clear.Given as goal

abbrev pub invariant-loop-row : goal.invariant-loop-row
invariant-loop-row l = record {
  turn : (slot : ℕ) → IsDueLine l.initial.self.slots slot l.initial.line → IsDueTurn l.initial.self.slots l.self.slots slot l.initial.line l.line;
  left : l.line.count + l._row ≡ l.initial.line.count;
  room : l.self.room ≡ l.initial.self.room;
}
