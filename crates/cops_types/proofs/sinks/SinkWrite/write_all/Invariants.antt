use Rattle.std.proofs.Common.{◌≡◌, length}
use Rattle.cops_types.specs.Sink.{AppendsAllBut, sink_failures, sink_writer}
use Rattle.cops_types.proofs.sinks.SinkWrite.write_all.Given as goal

abbrev pub invariant-loop-rest : goal.invariant-loop-rest
invariant-loop-rest g l =
    AppendsAllBut (g.W.Write.contents (sink_writer l.fn.self)) (g.W.Write.contents (sink_writer l.self)) l.fn.buf l.rest
    × (sink_failures l.self ≡ sink_failures l.fn.self)

abbrev pub decreases-loop-rest : goal.decreases-loop-rest
decreases-loop-rest g l = length l.rest
