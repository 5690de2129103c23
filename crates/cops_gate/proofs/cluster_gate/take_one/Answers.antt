use Rattle.std.proofs.Common.{◌+◌, ◌*◌, ◌∙◌, sym}
use Rattle.std.specs.Mem.Slots.{slots_items}
use Rattle.cops_gate.proofs.Words.{word_at}
use Rattle.cops_gate.proofs.cluster_gate.take_one.Goals as goal

pub returns-else-drawn-served-clause-served : goal.returns-else-drawn-served-clause-served
returns-else-drawn-served-clause-served g c same =
    let words = slots_items c.args.closed.now.words in
    absurd (c.if-drawn-served.false (sym (word_at words (16 * c.args.node) c.word-drawn.result c.word-drawn.ensures) ∙ (same ∙ word_at words (16 * c.args.node + 1) c.word-served.result c.word-served.ensures)))
