use Rattle.std.proofs.Common.{◌≡◌, ℕ, ◌<◌, ◌≤◌}
use Rattle.std.specs.Prelude.{◌==◌, if◌then◌else◌, slice_index_or}
use Rattle.cops_outbox.specs.declared.rows.Span.{Span}
use Rattle.cops_outbox.specs.Lines.{extended}
use Rattle.cops_outbox.proofs.rows.extend_all.Given as goal

abbrev pub invariant-loop-dc : goal.invariant-loop-dc
invariant-loop-dc l = record {
  done : (dc : ℕ) (d : Span) → dc < l.dc → slice_index_or l.waits dc d ≡ (if dc == l.own then slice_index_or l.initial.waits dc d else extended l.at (slice_index_or l.initial.waits dc d));
  rest : (dc : ℕ) (d : Span) → l.dc ≤ dc → slice_index_or l.waits dc d ≡ slice_index_or l.initial.waits dc d;
}
