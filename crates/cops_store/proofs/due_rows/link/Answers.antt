use Rattle.std.proofs.Common.{◌∙◌}
use Rattle.cops_store.proofs.DueLines.{count_written, last_still, linked_is_added}
use Rattle.cops_store.proofs.due_rows.link.Goals as goal

pub index_mut-last-requires : goal.index_mut-last-requires
index_mut-last-requires c =
    last_still c.args.rows.now.slots c.insert_reserved-at.new.self.slots c.args.slot c.insert_reserved-at.result c.args.line.now
    c.insert_reserved-at.ensures.was_vacant c.insert_reserved-at.ensures.updates.others c.if-line-gt0.true c.requires.line

pub returns-then-line-gt0-clause-added : goal.returns-then-line-gt0-clause-added
returns-then-line-gt0-clause-added c =
    linked_is_added c.args.rows.now.slots c.insert_reserved-at.new.self.slots c.args.slot c.insert_reserved-at.result c.args.line.now c.args.due c.index_mut-last.result.now
    c.insert_reserved-at.ensures.was_vacant c.insert_reserved-at.ensures.updates.changed c.insert_reserved-at.ensures.updates.others c.index_mut-last.ensures.value c.if-line-gt0.true c.requires.line

pub returns-then-line-gt0-clause-len : goal.returns-then-line-gt0-clause-len
returns-then-line-gt0-clause-len c =
    count_written c.insert_reserved-at.new.self.slots c.args.line.now.last c.index_mut-last.result.now (record c.index_mut-last.result.now { next = c.insert_reserved-at.result }) c.index_mut-last.ensures.value
    ∙ c.insert_reserved-at.ensures.len
