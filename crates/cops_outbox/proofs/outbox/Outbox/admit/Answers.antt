use Rattle.std.proofs.Common.{◌≡◌, ◌∙◌, ◌+◌, ◌-◌, ◌≤◌, ap, arith, length, sym, subst}
use Rattle.std.proofs.lemmas.Bool.Decides.{nat_tests}
use Rattle.std.proofs.lemmas.List.{length-append}
use Rattle.cops_outbox.specs.Lines.{AreLines, queues_in}
use Rattle.cops_outbox.specs.Queues.{Queues, queue_of}
use Rattle.cops_outbox.proofs.Views.{lines_past, queue_past}
use Rattle.cops_outbox.proofs.outbox.Outbox.admit.Goals as goal

pub invariant_of-self-2 : goal.invariant_of-self-2
invariant_of-self-2 c =
    let past : c.self.inside.tenants ≤ c.args.slot = (let test = c.if-slot-self.false in grind (arith, nat_tests, test)) in
    let made = c.in_ok-added.ensures.len in
    let all = c.self.invariant.all in
    let long = length-append c.self.inside.lines.items c.in_ok-added.added.items in
    subst (AreLines c.self.inside.rows.slots c.self.inside.own (c.args.slot + 1) c.self.inside.data_centres) (sym c.in_ok-append.ensures.items)
    (lines_past c.self.inside.rows.slots c.self.inside.own c.self.inside.tenants c.self.inside.data_centres c.self.inside.lines.items c.in_ok-added.added.items c.self.invariant c.in_ok-added.ensures.empty (c.args.slot + 1) (omega arith))

pub returns-clause-queues : goal.returns-clause-queues
returns-clause-queues c = λ at dc.
    ap (λ lines. queue_of at dc (record { own = c.self.inside.own; tenants = c.args.slot + 1; queues = queues_in c.self.inside.rows.slots lines c.self.inside.data_centres })) c.in_ok-append.ensures.items
    ∙ queue_past c.self.inside.rows.slots c.self.inside.own c.self.inside.tenants c.self.inside.data_centres c.self.inside.lines.items c.in_ok-added.added.items c.self.invariant c.in_ok-added.ensures.empty at dc
    ∙ ap (queue_of at dc) c.self.view_is
