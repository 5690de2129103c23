use Rattle.cops_outbox.proofs.Lines.{last_there, linked_is_added}
use Rattle.cops_outbox.proofs.rows.link.Goals as goal

pub index_mut-last-requires : goal.index_mut-last-requires
index_mut-last-requires c =
    last_there c.args.rows.now.slots c.insert_reserved-at.new.self.slots c.args.slot c.args.line.now.last c.args.line.now.kept.count c.args.line.now.kept.first c.insert_reserved-at.result
    c.insert_reserved-at.ensures.was_vacant c.insert_reserved-at.ensures.updates.others c.if-line-gt0.true c.requires.line

pub returns-then-line-gt0-clause-added : goal.returns-then-line-gt0-clause-added
returns-then-line-gt0-clause-added c =
    linked_is_added c.args.rows.now.slots c.insert_reserved-at.new.self.slots c.args.slot c.args.line.now.last c.args.line.now.kept.count c.args.line.now.kept.first c.insert_reserved-at.result c.args.entry c.index_mut-last.result.now
    c.insert_reserved-at.ensures.was_vacant c.insert_reserved-at.ensures.updates.changed c.insert_reserved-at.ensures.updates.others c.index_mut-last.ensures.value c.if-line-gt0.true c.requires.line
