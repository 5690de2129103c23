use Rattle.std.proofs.Common.{sym, length, not, ◌&&◌}
use Rattle.std.specs.Prelude.{◌==◌, nat_le, slice_index_or}
use Rattle.cops_outbox.specs.Lines.{nowhere}
use Rattle.cops_outbox.proofs.Lines.{is_full_at, own_not_full, not_full_at, some_place, one_more}
use Rattle.cops_outbox.proofs.rows.is_any_full.Goals as goal
use Rattle.cops_outbox.proofs.rows.is_any_full.Goals.{else-dc-own-via-then-dc-own+else-span-limit, else-dc-own-via-else-dc-own}

pub returns-then-span-limit : goal.returns-then-span-limit
returns-then-span-limit c =
    sym (some_place (λ dc. not (dc == c.args.own) && nat_le c.args.limit (slice_index_or c.args.waits.now dc nowhere).count) (length c.args.waits.now) c.loop-dc.dc c.loop-dc-test.true
    (is_full_at c.loop-dc.dc c.args.own c.args.limit _ c.if-dc-own.true c.if-span-limit.true))

pub loop-dc-preserved : goal.loop-dc-preserved
loop-dc-preserved c =
    one_more (λ dc. not (dc == c.args.own) && nat_le c.args.limit (slice_index_or c.args.waits.now dc nowhere).count) c.loop-dc.dc c.loop-dc.invariant
    (elim c.else-dc-own.branch [
      | else-dc-own-via-then-dc-own+else-span-limit w ↦ not_full_at c.loop-dc.dc c.args.own c.args.limit _ w.if-span-limit.false
      | else-dc-own-via-else-dc-own w ↦ own_not_full c.loop-dc.dc c.args.own c.args.limit _ w.if-dc-own.false
    ])
