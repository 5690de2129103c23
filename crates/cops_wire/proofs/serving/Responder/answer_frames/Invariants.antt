use Rattle.std.proofs.Common.{◌≡◌, ◌-◌, length}
use Rattle.cops_types.specs.Sink.{sink_failures, sink_writer}
use Rattle.cops_wire.proofs.WalkLemmas.{WalkedSoFar}
use Rattle.cops_wire.proofs.serving.Responder.answer_frames.Given as goal

abbrev pub invariant-loop-body : goal.invariant-loop-body
invariant-loop-body g l = record {
  walked : WalkedSoFar g.A.Answering.Answers l.bytes l.taken l.fn.answering l.answering
      (g.W.Write.contents (sink_writer l.fn.self.sink)) (g.W.Write.contents (sink_writer l.self.sink)) l.fn.self.out.items l.self.out.items;
  failures : sink_failures l.self.sink ≡ sink_failures l.fn.self.sink;
  ready : g.A.Answering.CanAnswer l.answering;
}

abbrev pub decreases-loop-body : goal.decreases-loop-body
decreases-loop-body g l = length l.bytes - l.taken
