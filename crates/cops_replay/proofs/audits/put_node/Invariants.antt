use Rattle.cops_replay.proofs.Names.{drop, map, sink_failures, sink_writer, tenant_config, solo_of, place_of, record_of, records_text, page}
use Rattle.cops_replay.proofs.PageLemmas.{IsLeft}
use Rattle.cops_replay.proofs.AuditTexts.{AllFormed}
use Rattle.cops_replay.proofs.audits.put_node.Given as goal

abbrev pub invariant-loop-place : goal.invariant-loop-place
invariant-loop-place g l =
    let trail = (solo_of l.slot (place_of (tenant_config l.config l.tenant) l.id) l.node).trail in
    record {
      text : IsLeft (records_text l.tenant.name (map (record_of l.id) trail)) (records_text l.tenant.name (map (record_of l.id) (drop l.place trail)))
          (page l.fn.out.items (g.W.Write.contents (sink_writer l.fn.sink)) (sink_failures l.fn.sink)) (page l.out.items (g.W.Write.contents (sink_writer l.sink)) (sink_failures l.sink));
      formed : AllFormed (map (record_of l.id) (drop l.place trail)) → AllFormed (map (record_of l.id) trail);
    }
