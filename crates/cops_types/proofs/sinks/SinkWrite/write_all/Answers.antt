use Rattle.std.proofs.Common.{◌∙◌}
use Rattle.std.proofs.lemmas.List.{take_rest}
use Rattle.cops_types.proofs.Writing.{AppendsAllBut-more, failures_after_write-some}
use Rattle.cops_types.proofs.sinks.SinkWrite.write_all.Goals as goal

pub loop-rest-preserved : goal.loop-rest-preserved
loop-rest-preserved g c =
    let count = c.in_ok-count.count in (
      rw take_rest (AppendsAllBut-more count c.loop-rest.invariant.0 c.in_ok-count.ensures.bytes),
      c.write.ensures.failures ∙ failures_after_write-some c.write.result count c.loop-rest.rest.now _ c.in_ok-count.was c.if-count-eq0.false ∙ c.loop-rest.invariant.1,
    )
