use Rattle.std.proofs.Common.{◌≡◌, ℕ, ◌+◌, length}
use Rattle.cops_outbox.specs.Lines.{IsLine, IsLineChange, span_at}
use Rattle.cops_outbox.proofs.rows.clear.Given as goal

abbrev pub invariant-loop-row : goal.invariant-loop-row
invariant-loop-row l = record {
  turn : (own slot : ℕ) → IsLine l.fn.rows.slots own (length l.fn.line.waits.items) slot l.fn.line → IsLineChange l.fn.rows.slots l.rows.slots own slot l.fn.line l.line;
  none : (dc : ℕ) → (span_at dc l.line).count ≡ 0;
  left : l.line.kept.count + l._row ≡ l.fn.line.kept.count;
}
