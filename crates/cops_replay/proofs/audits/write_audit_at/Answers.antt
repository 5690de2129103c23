use Rattle.cops_replay.proofs.Names.{◌++◌, ◌∙◌, ap, on_ok_weaker, sink_failures, sink_writer, head_text, tenants_text, audit_at, nodes_at, with_tenants, page}
use Rattle.cops_replay.proofs.PageLemmas.{failed_at_last, failed_by, front_of_none, front_of_put, front_put, risen_by, whole_put}
use Rattle.cops_replay.proofs.audits.write_audit_at.Goals as goal

pub returns-in_err-push_head-clause-front : goal.returns-in_err-push_head-clause-front
returns-in_err-push_head-clause-front g c = front_of_none (g.W.Write.contents (sink_writer c.args.sink.now)) (audit_at c.args.config.now c.args.tenants.now c.args.slots.now c.args.nodes.now)

pub returns-in-Err-clause-front : goal.returns-in-Err-clause-front
returns-in-Err-clause-front g c =
    let config = with_tenants c.args.config.now c.args.tenants.now in
    front_of_put (head_text config) (tenants_text config (nodes_at c.args.config.now c.args.slots.now c.args.nodes.now) 0 c.args.tenants.now) c.push_head.new.out.items (g.W.Write.contents (sink_writer c.args.sink.now))
    (sink_failures c.args.sink.now) c.in-Err.error (page c.put_records.new.out.items (g.W.Write.contents (sink_writer c.put_records.new.sink)) (sink_failures c.put_records.new.sink))
    (c.in_ok-push_head.ensures ∙ ap (λ l. l ++ head_text config) c.new-out.ensures.items) c.in-Err.ensures.text

pub returns-clause-ok : goal.returns-clause-ok
returns-clause-ok g c =
    let config = with_tenants c.args.config.now c.args.tenants.now in
    on_ok_weaker c.drain.result
    (whole_put (head_text config) (tenants_text config (nodes_at c.args.config.now c.args.slots.now c.args.nodes.now) 0 c.args.tenants.now) c.push_head.new.out.items (g.W.Write.contents (sink_writer c.args.sink.now))
    (g.W.Write.contents (sink_writer c.drain.new.sink)) (sink_failures c.args.sink.now) (page c.put_records.new.out.items (g.W.Write.contents (sink_writer c.put_records.new.sink)) (sink_failures c.put_records.new.sink))
    (c.in_ok-push_head.ensures ∙ ap (λ l. l ++ head_text config) c.new-out.ensures.items) c.in_default.ensures.text) c.drain.ensures.written

pub returns-clause-front : goal.returns-clause-front
returns-clause-front g c =
    let config = with_tenants c.args.config.now c.args.tenants.now in
    front_put (head_text config) (tenants_text config (nodes_at c.args.config.now c.args.slots.now c.args.nodes.now) 0 c.args.tenants.now) c.push_head.new.out.items (g.W.Write.contents (sink_writer c.args.sink.now))
    (g.W.Write.contents (sink_writer c.drain.new.sink)) (sink_failures c.args.sink.now) (page c.put_records.new.out.items (g.W.Write.contents (sink_writer c.put_records.new.sink)) (sink_failures c.put_records.new.sink))
    (c.in_ok-push_head.ensures ∙ ap (λ l. l ++ head_text config) c.new-out.ensures.items) c.in_default.ensures.text c.drain.ensures.front

pub returns-clause-formed : goal.returns-clause-formed
returns-clause-formed g c = on_ok_weaker c.drain.result (λ written. c.in_default.ensures.formed) c.drain.ensures.written

pub returns-in-Err-clause-fault : goal.returns-in-Err-clause-fault
returns-in-Err-clause-fault g c = failed_by c.in-Err.error _ _ c.in-Err.ensures.text.1

pub returns-in-Err-clause-write_fault : goal.returns-in-Err-clause-write_fault
returns-in-Err-clause-write_fault g c = risen_by c.in-Err.error _ _ c.in-Err.ensures.text.1

pub returns-clause-fault : goal.returns-clause-fault
returns-clause-fault g c = failed_at_last c.drain.result c.drain.ensures.fault
