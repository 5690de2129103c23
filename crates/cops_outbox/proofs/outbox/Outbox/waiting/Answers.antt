use Rattle.std.proofs.Common.{◌∙◌}
use Rattle.cops_outbox.proofs.Views.{dc_of_line, count_shown}
use Rattle.cops_outbox.proofs.outbox.Outbox.waiting.Goals as goal

pub count-requires : goal.count-requires
count-requires c =
    dc_of_line c.self.inside.rows.slots c.self.inside.own c.self.inside.tenants c.self.inside.data_centres c.self.inside.lines.items c.args.self.now c.self.invariant c.self.view_is
    c.args.slot c.args.dc c.index.result.now c.requires.slot c.requires.dc c.index.ensures

pub returns : goal.returns
returns c =
    c.count.ensures
    ∙ count_shown c.self.inside.rows.slots c.self.inside.own c.self.inside.tenants c.self.inside.data_centres c.self.inside.lines.items c.args.self.now c.self.invariant c.self.view_is
    c.args.slot c.args.dc c.index.result.now c.requires.slot c.requires.dc c.index.ensures
