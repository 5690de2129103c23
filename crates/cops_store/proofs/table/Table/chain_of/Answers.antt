use Rattle.std.proofs.Common.{◌∙◌, sym}
use Rattle.cops_store.proofs.Turns.{whole_here}
use Rattle.cops_store.proofs.table.Table.chain_of.Goals as goal

pub returns : goal.returns
returns c = record { value = c.chain_of.ensures.value ∙ sym (whole_here c.self.inside.rows.entries c.self.inside.lines.items c.self.invariant c.args.self.now c.self.view_is c.args.slot c.args.key.now) }
