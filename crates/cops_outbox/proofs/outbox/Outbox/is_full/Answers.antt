use Rattle.std.proofs.Common.{◌∙◌, ap, not, ◌&&◌, length, List}
use Rattle.std.specs.Prelude.{◌==◌, nat_le, slice_index_or}
use Rattle.std.specs.List.{list_any, range_with_len}
use Rattle.cops_outbox.specs.declared.rows.Span.{Span}
use Rattle.cops_outbox.specs.Lines.{nowhere}
use Rattle.cops_outbox.proofs.Views.{full_shown}
use Rattle.cops_outbox.proofs.outbox.Outbox.is_full.Goals as goal

pub returns : goal.returns
returns c =
    c.is_any_full.ensures
    ∙ ap (λ (ss : List Span). list_any (λ dc. not (dc == c.self.inside.own) && nat_le c.args.limit (slice_index_or ss dc nowhere).count) (range_with_len 0 (length ss))) c.deref.ensures.value
    ∙ full_shown c.self.inside.rows.slots c.self.inside.own c.self.inside.tenants c.self.inside.data_centres c.self.inside.lines.items c.args.self.now c.self.invariant c.self.view_is
    c.args.slot c.args.limit c.index-line.result.now c.requires c.index-line.ensures
