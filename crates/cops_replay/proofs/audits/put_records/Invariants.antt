use Rattle.cops_replay.proofs.Names.{drop, sink_failures, sink_writer, tenants_text, nodes_at, with_tenants, page}
use Rattle.cops_replay.proofs.PageLemmas.{IsLeft}
use Rattle.cops_replay.proofs.AuditTexts.{AreFormedBelow}
use Rattle.cops_replay.proofs.audits.put_records.Given as goal

abbrev pub invariant-loop-place : goal.invariant-loop-place
invariant-loop-place g l =
    let config = with_tenants l.config l.tenants in
    let nodes = nodes_at l.config l.slots l.nodes in
    record {
      text : IsLeft (tenants_text config nodes 0 l.tenants) (tenants_text config nodes l.place (drop l.place l.tenants))
          (page l.fn.out.items (g.W.Write.contents (sink_writer l.fn.sink)) (sink_failures l.fn.sink)) (page l.out.items (g.W.Write.contents (sink_writer l.sink)) (sink_failures l.sink));
      formed : AreFormedBelow config nodes l.place;
    }
