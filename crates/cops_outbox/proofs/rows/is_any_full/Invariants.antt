use Rattle.std.proofs.Common.{◌≡◌, false, not, ◌&&◌}
use Rattle.std.specs.Prelude.{◌==◌, nat_le, slice_index_or}
use Rattle.std.specs.List.{list_any, range_with_len}
use Rattle.cops_outbox.specs.Lines.{nowhere}
use Rattle.cops_outbox.proofs.rows.is_any_full.Given as goal

abbrev pub invariant-loop-dc : goal.invariant-loop-dc
invariant-loop-dc l = list_any (λ dc. not (dc == l.own) && nat_le l.limit (slice_index_or l.waits dc nowhere).count) (range_with_len 0 l.dc) ≡ false
