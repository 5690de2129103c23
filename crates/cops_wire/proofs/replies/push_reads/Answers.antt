use Rattle.std.proofs.Common.{arith}
use Rattle.cops_wire.proofs.ReplyLemmas.{all_counted, all_written}
use Rattle.cops_wire.proofs.replies.push_reads.Goals as goal

pub returns-clause-ok : goal.returns-clause-ok
returns-clause-ok c =
    let l = c.loop-read in (
      all_counted c.args.reads.now l.read-index (omega arith) (omega arith) l.invariant.all,
      all_written l.out.items c.args.out.now.items c.args.reads.now l.read-index (omega arith) l.invariant.items,
    )
