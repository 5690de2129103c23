use Rattle.std.proofs.Common.{refl}
use Rattle.cops_store.proofs.Cleans.{cleaned_chains, cleaned_freed, cleaned_lines, cleaned_others, cleaned_use, nothing_there}
use Rattle.cops_store.proofs.table.Table.clean_at.Goals as goal

pub clean_at-requires-clause-at : goal.clean_at-requires-clause-at
clean_at-requires-clause-at c = (c.args.slot, c.args.key.now, c.in-Some.ensures.at, cleaned_use c.self.inside.rows.entries c.self.inside.lines.items c.self.invariant c.args.self.now c.self.view_is c.args.slot c.args.key.now c.requires.countable)

pub invariant_of-self : goal.invariant_of-self
invariant_of-self c = cleaned_lines c.self.inside.rows.entries c.self.inside.lines.items c.self.invariant c.args.self.now c.self.view_is c.args.slot c.requires.slot c.args.key.now c.args.now c.args.trans_time c.clean_at.new.rows.entries c.clean_at.result (c.clean_at.ensures c.args.slot c.args.key.now c.in-Some.ensures.at)

pub returns-in-Some-clause-chains : goal.returns-in-Some-clause-chains
returns-in-Some-clause-chains c = cleaned_chains c.self.inside.rows.entries c.self.inside.lines.items c.self.invariant c.args.self.now c.self.view_is c.args.slot c.requires.slot c.args.key.now c.args.now c.args.trans_time c.clean_at.new.rows.entries c.clean_at.result (c.clean_at.ensures c.args.slot c.args.key.now c.in-Some.ensures.at)

pub returns-in-Some-clause-freed : goal.returns-in-Some-clause-freed
returns-in-Some-clause-freed c = cleaned_freed c.self.inside.rows.entries c.self.inside.lines.items c.self.invariant c.args.self.now c.self.view_is c.args.slot c.requires.slot c.args.key.now c.args.now c.args.trans_time c.clean_at.new.rows.entries c.clean_at.result (c.clean_at.ensures c.args.slot c.args.key.now c.in-Some.ensures.at)

pub returns-in-Some-clause-others : goal.returns-in-Some-clause-others
returns-in-Some-clause-others c = cleaned_others c.self.inside.rows.entries c.self.inside.lines.items c.self.invariant c.args.self.now c.self.view_is c.args.slot c.requires.slot c.args.key.now c.args.now c.args.trans_time c.clean_at.new.rows.entries c.clean_at.result (c.clean_at.ensures c.args.slot c.args.key.now c.in-Some.ensures.at)

pub returns-in-None-clause-chains : goal.returns-in-None-clause-chains
returns-in-None-clause-chains c = nothing_there c.self.inside.rows.entries c.self.inside.lines.items c.self.invariant c.args.self.now c.self.view_is c.args.slot c.args.key.now c.args.now c.args.trans_time (c.in-None.ensures.none refl)
