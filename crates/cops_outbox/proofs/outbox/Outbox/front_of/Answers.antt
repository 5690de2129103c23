use Rattle.std.proofs.Common.{◌∙◌, ap, sym}
use Rattle.cops_outbox.proofs.Views.{dc_of_line, queue_shown}
use Rattle.cops_model.specs.SoloNode.{front}
use Rattle.cops_outbox.proofs.outbox.Outbox.front_of.Goals as goal

pub first-requires-clause-dc : goal.first-requires-clause-dc
first-requires-clause-dc c =
    dc_of_line c.self.inside.rows.slots c.self.inside.own c.self.inside.tenants c.self.inside.data_centres c.self.inside.lines.items c.args.self.now c.self.invariant c.self.view_is
    c.args.slot c.args.dc c.index.result.now c.requires.slot c.requires.dc c.index.ensures

pub returns : goal.returns
returns c =
    c.first.ensures
    ∙ sym (ap front (queue_shown c.self.inside.rows.slots c.self.inside.own c.self.inside.tenants c.self.inside.data_centres c.self.inside.lines.items c.args.self.now c.self.invariant c.self.view_is
    c.args.slot c.args.dc c.index.result.now c.requires.slot c.requires.dc c.index.ensures))
