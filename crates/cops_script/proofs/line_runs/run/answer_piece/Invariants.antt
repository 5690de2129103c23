use Rattle.std.proofs.Common.{◌≡◌, ◌++◌, length}
use Rattle.cops_types.specs.Sink.{sink_failures, sink_writer}
use Rattle.cops_script.specs.LineRuns.{Answered, IsLineFront, stage}
use Rattle.cops_script.proofs.line_runs.run.answer_piece.Given as goal

abbrev pub invariant-loop-line : goal.invariant-loop-line
invariant-loop-line g l =
    Answered g.M.LineMachine.rules l.limit
    (l.fn.front.items ++ l.fn.piece) (stage l.fn.machine l.fn.out.items (g.W.Write.contents (sink_writer l.fn.sink)))
    (l.front.items ++ l.rest) (stage l.machine l.out.items (g.W.Write.contents (sink_writer l.sink)))
    × IsLineFront l.limit l.front.items
    × (sink_failures l.sink ≡ sink_failures l.fn.sink)

abbrev pub decreases-loop-line : goal.decreases-loop-line
decreases-loop-line g l = length l.rest
