use Rattle.std.proofs.Common.{◌++◌, ◌∷◌, [], take, append_assoc}
use Rattle.cops_types.specs.Context.{observations_of}
use Rattle.cops_context.proofs.Rules.{observations_of-more, observe_more}
use Rattle.cops_context.proofs.observing.has_seen_all.Goals as goal

pub loop-read-preserved : goal.loop-read-preserved
loop-read-preserved c =
    let reads = c.args.reads.now in
    let i = c.loop-read.read-index in
    let read = c.read-item.result in
    let xs = observations_of (take i reads) in
    let ys = observations_of (read ∷ []) in
    let more = observations_of-more reads i read c.loop-read-test.true c.read-item.is in
    record {
      seen = λ obs stand. rw (more, ← append_assoc obs xs ys) (c.has_seen_read.ensures.seen c.if-not-has_seen_read.false (obs ++ xs) (c.loop-read.invariant.seen obs stand));
      within = λ obs stand. rw more (observe_more c.args.limit obs xs ys (c.loop-read.invariant.within obs stand) (c.has_seen_read.ensures.within c.if-not-has_seen_read.false (obs ++ xs) (c.loop-read.invariant.seen obs stand)));
    }
