use Rattle.std.proofs.Common.{◌≡◌, ◌∙◌, ap}
use Rattle.cops_outbox.proofs.Views.{empty_at, lines_empty, queues_empty}
use Rattle.cops_outbox.proofs.outbox.Outbox.new.Goals as goal

pub invariant_of-result : goal.invariant_of-result
invariant_of-result c =
    lines_empty c.new.result.slots c.args.own c.args.tenants c.args.data_centres c.in_ok-lines.lines.items c.new.ensures.empty c.in_ok-lines.ensures.len (empty_at c.args.data_centres c.in_ok-lines.lines.items c.in_ok-lines.ensures.empty)

pub returns : goal.returns
returns c =
    ap (λ qs. record { own = c.args.own; tenants = c.args.tenants; queues = qs }) (queues_empty c.new.result.slots c.args.tenants c.args.data_centres c.in_ok-lines.lines.items c.in_ok-lines.ensures.len (empty_at c.args.data_centres c.in_ok-lines.lines.items c.in_ok-lines.ensures.empty))
