use Rattle.std.proofs.Common.{◌≡◌, ℕ, ◌<◌}
use Rattle.std.specs.Prelude.{slice_index_or}
use Rattle.cops_outbox.specs.declared.rows.Span.{Span}
use Rattle.cops_outbox.specs.Lines.{nowhere}
use Rattle.cops_outbox.proofs.rows.forget_all.Given as goal

abbrev pub invariant-loop-dc : goal.invariant-loop-dc
invariant-loop-dc l = (dc : ℕ) (d : Span) → dc < l.dc → slice_index_or l.waits dc d ≡ nowhere
