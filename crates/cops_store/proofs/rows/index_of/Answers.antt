use Rattle.cops_store.proofs.Lines.{indexed_at}
use Rattle.cops_store.proofs.rows.index_of.Goals as goal

pub returns-clause-at : goal.returns-clause-at
returns-clause-at c = indexed_at c.args.rows.now.entries c.args.slot c.args.key.now c.get_index_of.result c.get_index_of.ensures.index
