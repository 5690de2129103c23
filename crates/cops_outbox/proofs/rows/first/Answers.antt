use Rattle.cops_outbox.proofs.Lines.{there_at}
use Rattle.cops_outbox.proofs.rows.first.Goals as goal

pub index-row-requires : goal.index-row-requires
index-row-requires c =
    there_at c.args.rows.now.slots c.requires.line.0 c.requires.line.1 c.args.dc c.args.line.now c.index-span.result.now c.requires.line.2 c.requires.dc c.index-span.ensures c.if-span-eq0.false
