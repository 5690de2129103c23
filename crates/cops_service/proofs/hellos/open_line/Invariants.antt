use Rattle.std.proofs.Common.{◌≡◌, []}
use Rattle.cops_wire.specs.Decoding.{kept_of}
use Rattle.cops_wire.specs.Streams.{split_of}
use Rattle.cops_service.proofs.hellos.open_line.Given as goal

abbrev pub invariant-loop : goal.invariant-loop
invariant-loop g l = (l.decoder ≡ kept_of l.bytes.items) × ((split_of l.bytes.items).messages ≡ [])
