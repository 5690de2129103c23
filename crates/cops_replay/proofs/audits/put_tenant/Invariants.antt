use Rattle.cops_replay.proofs.Names.{drop, sink_failures, sink_writer, tenant_config, his_nodes, records_from, records_of, records_text, page}
use Rattle.cops_replay.proofs.PageLemmas.{IsLeft}
use Rattle.cops_replay.proofs.AuditTexts.{AllFormed}
use Rattle.cops_replay.proofs.audits.put_tenant.Given as goal

abbrev pub invariant-loop-place : goal.invariant-loop-place
invariant-loop-place g l =
    let tenant = tenant_config l.config l.tenant in
    let nodes = his_nodes l.config l.nodes tenant l.slot in
    let left = records_from l.config.shards l.place (drop l.place nodes) in
    record {
      text : IsLeft (records_text l.tenant.name (records_of tenant nodes)) (records_text l.tenant.name left)
          (page l.fn.out.items (g.W.Write.contents (sink_writer l.fn.sink)) (sink_failures l.fn.sink)) (page l.out.items (g.W.Write.contents (sink_writer l.sink)) (sink_failures l.sink));
      formed : AllFormed left → AllFormed (records_of tenant nodes);
    }
