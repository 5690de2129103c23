use Rattle.cops_replay.proofs.Names.{◌≡◌, ◌+◌, List, length, map, drop, sym, subst, ap, arith, Some, slice_get, drop_all, sink_failures, sink_writer, tenant_config, AuditEntry, solo_of, place_of, ended, record_of, records_text, page, record_line}
use Rattle.cops_replay.proofs.PageLemmas.{all_left, left_early, less_left, none_left}
use Rattle.cops_replay.proofs.AuditTexts.{entries_left, left_from, AllFormed, reply_formed}
use Rattle.cops_replay.proofs.audits.put_node.Goals as goal

pub loop-place-init : goal.loop-place-init
loop-place-init g c =
    let trail = (solo_of c.args.slot (place_of (tenant_config c.args.config.now c.args.tenant.now) c.args.id) c.args.node.now).trail in
    record {
      text = all_left (records_text c.args.tenant.now.name (map (record_of c.args.id) trail)) (page c.args.out.now.items (g.W.Write.contents (sink_writer c.args.sink.now)) (sink_failures c.args.sink.now));
      formed = λ all. all;
    }

pub returns-in-Err-clause-text : goal.returns-in-Err-clause-text
returns-in-Err-clause-text g c =
    let name = c.args.tenant.now.name in
    let id = c.args.id in
    let place = place_of (tenant_config c.args.config.now c.args.tenant.now) id in
    let trail = (solo_of c.args.slot place c.args.node.now).trail in
    let entry = c.in-Some.row.now in
    let found : slice_get trail c.loop-place.place ≡ Some entry = sym (c.in-Some.ensures.solo place c.requires) in
    left_early (ended (record_line name (record_of id entry))) (records_text name (map (record_of id) (drop (c.loop-place.place + 1) trail))) c.in-Err.error
    (page c.put_row.new.out.items (g.W.Write.contents (sink_writer c.put_row.new.sink)) (sink_failures c.put_row.new.sink)) (entries_left name id trail c.loop-place.place entry found) c.loop-place.invariant.text c.in-Err.ensures.text

pub loop-place-preserved : goal.loop-place-preserved
loop-place-preserved g c =
    let name = c.args.tenant.now.name in
    let id = c.args.id in
    let place = place_of (tenant_config c.args.config.now c.args.tenant.now) id in
    let trail = (solo_of c.args.slot place c.args.node.now).trail in
    let entry = c.in-Some.row.now in
    let found : slice_get trail c.loop-place.place ≡ Some entry = sym (c.in-Some.ensures.solo place c.requires) in
    record {
      text = less_left (ended (record_line name (record_of id entry))) (records_text name (map (record_of id) (drop (c.loop-place.place + 1) trail)))
          (page c.put_row.new.out.items (g.W.Write.contents (sink_writer c.put_row.new.sink)) (sink_failures c.put_row.new.sink)) (entries_left name id trail c.loop-place.place entry found) c.loop-place.invariant.text c.in_default-put_row.ensures.text;
      formed = λ more. c.loop-place.invariant.formed (subst (λ (t : List AuditEntry). AllFormed (map (record_of id) t)) (sym (left_from trail c.loop-place.place entry found))
          (c.in_default-put_row.ensures.formed (reply_formed c.args.slot place c.args.node.now c.loop-place.place entry found), more));
    }

pub returns-clause-text : goal.returns-clause-text
returns-clause-text g c =
    let place = place_of (tenant_config c.args.config.now c.args.tenant.now) c.args.id in
    let trail = (solo_of c.args.slot place c.args.node.now).trail in
    let many : c.audit_len-place-end.result ≡ length trail = c.audit_len-place-end.ensures.solo place c.requires in
    none_left (ap (λ (t : List AuditEntry). records_text c.args.tenant.now.name (map (record_of c.args.id) t)) (drop_all c.loop-place.place trail (omega arith))) c.loop-place.invariant.text

pub returns-clause-formed : goal.returns-clause-formed
returns-clause-formed g c =
    let place = place_of (tenant_config c.args.config.now c.args.tenant.now) c.args.id in
    let trail = (solo_of c.args.slot place c.args.node.now).trail in
    let many : c.audit_len-place-end.result ≡ length trail = c.audit_len-place-end.ensures.solo place c.requires in
    c.loop-place.invariant.formed (subst (λ (t : List AuditEntry). AllFormed (map (record_of c.args.id) t)) (sym (drop_all c.loop-place.place trail (omega arith))) tt)
