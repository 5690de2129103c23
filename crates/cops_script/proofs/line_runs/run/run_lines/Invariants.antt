use Rattle.cops_types.specs.Sink.{sink_failures, sink_writer}
use Rattle.cops_types.specs.Source.{source_failures, source_reader, source_reads}
use Rattle.cops_script.specs.LineRuns.{IsLineFront}
use Rattle.cops_script.proofs.LineEndLemmas.{SoFar, OnlyReads}
use Rattle.cops_script.proofs.line_runs.run.run_lines.Given as goal

abbrev pub invariant-loop : goal.invariant-loop
invariant-loop g l =
    SoFar g.M.LineMachine.rules l.limit (g.R.Read.remaining (source_reader l.fn.source)) (g.R.Read.remaining (source_reader l.source))
    l.fn.machine (g.W.Write.contents (sink_writer l.fn.sink)) l.front.items l.machine l.out.items (g.W.Write.contents (sink_writer l.sink))
    × IsLineFront l.limit l.front.items
    × OnlyReads (source_failures l.fn.source) (source_failures l.source) (source_reads l.fn.source) (source_reads l.source) l.counter (sink_failures l.fn.sink) (sink_failures l.sink)
