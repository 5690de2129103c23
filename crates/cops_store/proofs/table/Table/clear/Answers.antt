use Rattle.std.proofs.Common.{◌<◌, ◌∙◌, ap, set, subst, sym}
use Rattle.cops_store.specs.Lines.{linked_from, row_of}
use Rattle.cops_store.proofs.Turns.{line_here, lines_turned, shown_turned, slot_there}
use Rattle.cops_store.proofs.table.Table.clear.Goals as goal

pub index_mut-line-requires : goal.index_mut-line-requires
index_mut-line-requires c = subst (λ n. c.args.slot < n) (sym c.self.inside.lines.ok.0) (slot_there c.self.inside.rows.entries c.self.inside.lines.items c.args.slot c.args.self.now c.self.view_is c.requires)

pub clear-requires-clause-line : goal.clear-requires-clause-line
clear-requires-clause-line c = line_here c.self.inside.rows.entries c.self.inside.lines.items c.self.invariant c.args.slot c.index_mut-line.result.now c.args.self.now c.self.view_is c.requires c.index_mut-line.ensures.value

pub invariant_of-self : goal.invariant_of-self
invariant_of-self c = lines_turned c.self.inside.rows.entries c.self.inside.lines.items c.self.invariant c.args.slot c.index_mut-line.result.now c.args.self.now c.self.view_is c.requires c.index_mut-line.ensures.value c.clear.new.rows.entries c.clear.new.line c.clear.ensures.turn

pub returns : goal.returns
returns c = shown_turned c.self.inside.rows.entries c.self.inside.lines.items c.self.invariant c.args.slot c.index_mut-line.result.now c.args.self.now c.self.view_is c.requires c.index_mut-line.ensures.value c.clear.new.rows.entries c.clear.new.line c.clear.ensures.turn ∙ ap (λ n. set c.args.self.now c.args.slot (linked_from (row_of c.clear.new.rows.entries c.args.slot) n c.clear.new.line.first)) c.clear.ensures.count
