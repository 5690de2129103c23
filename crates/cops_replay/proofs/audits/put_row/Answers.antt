use Rattle.cops_replay.proofs.Names.{err_from_is_err_and, sink_failures, sink_writer, ended, record_of, record_line}
use Rattle.cops_replay.proofs.AuditRunLemmas.{on_ok_any}
use Rattle.cops_replay.proofs.PageLemmas.{Puts-lack}
use Rattle.cops_replay.proofs.audits.put_row.Goals as goal

pub returns-in_err-push_row-clause-text : goal.returns-in_err-push_row-clause-text
returns-in_err-push_row-clause-text g c =
    let p = err_from_is_err_and c.from_residual.result c.from_residual.ensures.1 in
    rw (p.1, p.2)
    (Puts-lack (ended (record_line c.args.name.now (record_of c.args.id c.args.row.now))) c.args.out.now.items c.push_row.new.out.items
    (g.W.Write.contents (sink_writer c.args.sink.now)) (sink_failures c.args.sink.now))

pub returns-clause-formed : goal.returns-clause-formed
returns-clause-formed g c = on_ok_any _ c.drain_full.result c.in_ok-push_row.ensures.formed
