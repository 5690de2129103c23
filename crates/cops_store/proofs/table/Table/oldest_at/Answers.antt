use Rattle.std.proofs.Common.{◌∙◌, ap}
use Rattle.cops_store.specs.Chains.{oldest_of}
use Rattle.cops_store.specs.Lines.{chain_entries_at}
use Rattle.cops_store.proofs.Collections.{chain_at_found, chain_at_none}
use Rattle.cops_store.proofs.table.Table.oldest_at.Goals as goal

pub returns-in-Some : goal.returns-in-Some
returns-in-Some c = c.oldest.ensures ∙ ap oldest_of (chain_at_found c.args.key.now (chain_entries_at c.args.slot c.args.self.now) c.in-Some.chain.now c.in-Some.ensures.value)

pub returns-in-None : goal.returns-in-None
returns-in-None c = ap oldest_of (chain_at_none c.args.key.now (chain_entries_at c.args.slot c.args.self.now) c.in-None.ensures.value)
