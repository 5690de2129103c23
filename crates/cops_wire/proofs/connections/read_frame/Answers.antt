use Rattle.std.proofs.Common.{[], append-nil, inl, inr, refl, sym, subst, take}
use Rattle.cops_types.proofs.CountLemmas.{HasRisenBy-start}
use Rattle.cops_types.specs.Source.{source_reader}
use Rattle.cops_wire.specs.Greeting.{CameBytes}
use Rattle.cops_wire.specs.Streams.{IsFrameThere, first_frame}
use Rattle.cops_wire.proofs.Greetings.{first_came, nothing_yet, on_false}
use Rattle.cops_wire.proofs.connections.read_frame.Goals as goal

pub loop-init : goal.loop-init
loop-init g c = record {
  came = nothing_yet _ _ c.new-bytes.ensures.items;
  failures = refl;
  reads = HasRisenBy-start _;
}

pub returns-then-count-eq0-clause-came : goal.returns-then-count-eq0-clause-came
returns-then-count-eq0-clause-came g c =
    let came = subst (λ n. CameBytes (g.R.Read.remaining (source_reader c.loop.source)) (g.R.Read.remaining (source_reader c.read_bytes.new.source)) (take n c.read_bytes.new.buffer)) c.if-count-eq0.true c.in_ok-count.ensures.came in
    first_came _ _ _ c.loop.bytes.items [] c.loop.bytes.items c.loop.invariant.came came (sym (append-nil c.loop.bytes.items)) (inl refl)

pub returns-then-not-is_partial-clause-came : goal.returns-then-not-is_partial-clause-came
returns-then-not-is_partial-clause-came g c =
    let there = subst (λ l. IsFrameThere (first_frame l)) c.as_slice.ensures.value (on_false c.is_partial.result c.if-not-is_partial.true c.is_partial.ensures.whole) in
    first_came _ _ _ c.loop.bytes.items _ c.extend_from_slice.new.self.items c.loop.invariant.came c.in_ok-count.ensures.came c.in_ok-extend_from_slice.ensures.items (inr there)
