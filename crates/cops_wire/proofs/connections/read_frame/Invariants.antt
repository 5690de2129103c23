use Rattle.std.proofs.Common.{◌≡◌}
use Rattle.cops_types.specs.Counts.{HasRisenBy}
use Rattle.cops_types.specs.Source.{source_failures, source_reader, source_reads}
use Rattle.cops_wire.proofs.Greetings.{NothingCame}
use Rattle.cops_wire.proofs.connections.read_frame.Given as goal

abbrev pub invariant-loop : goal.invariant-loop
invariant-loop g l = record {
  came : NothingCame (g.R.Read.remaining (source_reader l.fn.source)) (g.R.Read.remaining (source_reader l.source)) l.bytes.items;
  failures : source_failures l.source ≡ source_failures l.fn.source;
  reads : HasRisenBy (source_reads l.fn.source) (source_reads l.source) l.counter;
}
