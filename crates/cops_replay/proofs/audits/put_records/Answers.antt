use Rattle.cops_replay.proofs.Names.{◌≡◌, ◌≤◌, ◌+◌, ◌<◌, ◌∙◌, length, drop, sym, ap, arith, Some, slice_get, drop_all, slice_get-get_or, slice_get_within, sink_failures, sink_writer, tenant_config, records_of, records_text, tenants_text, nodes_at, with_tenants, page}
use Rattle.cops_replay.proofs.PageLemmas.{all_left, left_early, less_left, none_left}
use Rattle.cops_replay.proofs.AuditTexts.{tenants_left, one_tenant_formed}
use Rattle.cops_replay.proofs.audits.put_records.Goals as goal

pub loop-place-init : goal.loop-place-init
loop-place-init g c = record {
  text = all_left (tenants_text (with_tenants c.args.config.now c.args.tenants.now) (nodes_at c.args.config.now c.args.slots.now c.args.nodes.now) 0 c.args.tenants.now)
      (page c.args.out.now.items (g.W.Write.contents (sink_writer c.args.sink.now)) (sink_failures c.args.sink.now));
  formed = λ slot tenant below e. absurd (omega (arith, below));
}

pub returns-in-Err-clause-text : goal.returns-in-Err-clause-text
returns-in-Err-clause-text g c =
    let tenants = c.args.tenants.now in
    let config = with_tenants c.args.config.now tenants in
    let nodes = nodes_at c.args.config.now c.args.slots.now c.args.nodes.now in
    let i = c.loop-place.place in
    let tenant = c.index-tenants-place.result in
    let below : i < length tenants = omega arith in
    let found : slice_get tenants i ≡ Some tenant = slice_get-get_or tenants i tenant below ∙ ap Some (sym c.index-tenants-place.is) in
    left_early (records_text tenant.name (records_of (tenant_config config tenant) (nodes (tenant_config config tenant) i))) (tenants_text config nodes (i + 1) (drop (i + 1) tenants)) c.in-Err.error
    (page c.put_tenant.new.out.items (g.W.Write.contents (sink_writer c.put_tenant.new.sink)) (sink_failures c.put_tenant.new.sink)) (tenants_left config nodes tenants i tenant found) c.loop-place.invariant.text c.in-Err.ensures.text

pub loop-place-preserved : goal.loop-place-preserved
loop-place-preserved g c =
    let tenants = c.args.tenants.now in
    let config = with_tenants c.args.config.now tenants in
    let nodes = nodes_at c.args.config.now c.args.slots.now c.args.nodes.now in
    let i = c.loop-place.place in
    let tenant = c.index-tenants-place.result in
    let below : i < length tenants = omega arith in
    let found : slice_get tenants i ≡ Some tenant = slice_get-get_or tenants i tenant below ∙ ap Some (sym c.index-tenants-place.is) in
    record {
      text = less_left (records_text tenant.name (records_of (tenant_config config tenant) (nodes (tenant_config config tenant) i))) (tenants_text config nodes (i + 1) (drop (i + 1) tenants))
          (page c.put_tenant.new.out.items (g.W.Write.contents (sink_writer c.put_tenant.new.sink)) (sink_failures c.put_tenant.new.sink)) (tenants_left config nodes tenants i tenant found) c.loop-place.invariant.text c.in_default.ensures.text;
      formed = one_tenant_formed config nodes i tenant found c.loop-place.invariant.formed c.in_default.ensures.formed;
    }

pub put_tenant-requires-clause-tenant : goal.put_tenant-requires-clause-tenant
put_tenant-requires-clause-tenant g c =
    let tenants = c.args.tenants.now in
    let i = c.loop-place.place in
    let tenant = c.index-tenants-place.result in
    let below : i < length tenants = omega arith in
    let found : slice_get tenants i ≡ Some tenant = slice_get-get_or tenants i tenant below ∙ ap Some (sym c.index-tenants-place.is) in
    c.requires.nodes.each_tenant i tenant found

pub bounds-slots-place : goal.bounds-slots-place
bounds-slots-place g c = let many = c.requires.nodes.each_slot in omega (arith, many)

pub returns-clause-text : goal.returns-clause-text
returns-clause-text g c =
    let tenants = c.args.tenants.now in
    let config = with_tenants c.args.config.now tenants in
    let nodes = nodes_at c.args.config.now c.args.slots.now c.args.nodes.now in
    let i = c.loop-place.place in
    let past : length tenants ≤ i = omega arith in
    none_left (ap (tenants_text config nodes i) (drop_all i tenants past)) c.loop-place.invariant.text

pub returns-clause-formed : goal.returns-clause-formed
returns-clause-formed g c place tenant e =
    let within = slice_get_within c.args.tenants.now place tenant e in
    c.loop-place.invariant.formed place tenant (omega arith) e
