use Rattle.cops_replay.proofs.Names.{◌≤◌, ◌+◌, ◌<◌, length, map, drop, sym, subst, ap, arith, sink_failures, sink_writer, tenant_config, id_of, solo_of, place_of, his_nodes, record_of, records_from, records_of, records_text, page}
use Rattle.cops_replay.proofs.PageLemmas.{all_left, left_early, less_left, none_left}
use Rattle.cops_replay.proofs.AuditTexts.{his_node, no_node_left, nodes_left, place_there, AllFormed, nodes_formed}
use Rattle.cops_replay.proofs.audits.put_tenant.Goals as goal

pub loop-place-init : goal.loop-place-init
loop-place-init g c =
    let tenant = tenant_config c.args.config.now c.args.tenant.now in
    record {
      text = all_left (records_text c.args.tenant.now.name (records_of tenant (his_nodes c.args.config.now c.args.nodes.now tenant c.args.slot))) (page c.args.out.now.items (g.W.Write.contents (sink_writer c.args.sink.now)) (sink_failures c.args.sink.now));
      formed = λ all. all;
    }

pub returns-in-Err-clause-text : goal.returns-in-Err-clause-text
returns-in-Err-clause-text g c =
    let name = c.args.tenant.now.name in
    let shards = c.args.config.now.shards in
    let tenant = tenant_config c.args.config.now c.args.tenant.now in
    let nodes = his_nodes c.args.config.now c.args.nodes.now tenant c.args.slot in
    let i = c.loop-place.place in
    let solo = solo_of c.args.slot (place_of tenant (id_of shards i)) c.index-nodes-place.result in
    let below : i < length c.args.nodes.now = omega arith in
    let found = his_node c.args.config.now tenant c.args.slot c.args.nodes.now i c.index-nodes-place.result c.requires.nodes below c.index-nodes-place.is in
    left_early (records_text name (map (record_of (id_of shards i)) solo.trail)) (records_text name (records_from shards (i + 1) (drop (i + 1) nodes))) c.in-Err.error
    (page c.put_node.new.out.items (g.W.Write.contents (sink_writer c.put_node.new.sink)) (sink_failures c.put_node.new.sink)) (nodes_left name shards nodes i solo found) c.loop-place.invariant.text c.in-Err.ensures.text

pub loop-place-preserved : goal.loop-place-preserved
loop-place-preserved g c =
    let name = c.args.tenant.now.name in
    let shards = c.args.config.now.shards in
    let tenant = tenant_config c.args.config.now c.args.tenant.now in
    let nodes = his_nodes c.args.config.now c.args.nodes.now tenant c.args.slot in
    let i = c.loop-place.place in
    let solo = solo_of c.args.slot (place_of tenant (id_of shards i)) c.index-nodes-place.result in
    let below : i < length c.args.nodes.now = omega arith in
    let found = his_node c.args.config.now tenant c.args.slot c.args.nodes.now i c.index-nodes-place.result c.requires.nodes below c.index-nodes-place.is in
    record {
      text = less_left (records_text name (map (record_of (id_of shards i)) solo.trail)) (records_text name (records_from shards (i + 1) (drop (i + 1) nodes)))
          (page c.put_node.new.out.items (g.W.Write.contents (sink_writer c.put_node.new.sink)) (sink_failures c.put_node.new.sink)) (nodes_left name shards nodes i solo found) c.loop-place.invariant.text c.in_default.ensures.text;
      formed = λ more. c.loop-place.invariant.formed (nodes_formed shards nodes i solo found c.in_default.ensures.formed more);
    }

pub put_node-requires : goal.put_node-requires
put_node-requires g c =
    place_there c.args.config.now (tenant_config c.args.config.now c.args.tenant.now) c.args.slot c.args.nodes.now c.loop-place.place c.index-nodes-place.result c.requires.nodes (omega arith) c.index-nodes-place.is c.requires.tenant

pub returns-clause-text : goal.returns-clause-text
returns-clause-text g c =
    let tenant = tenant_config c.args.config.now c.args.tenant.now in
    let i = c.loop-place.place in
    let past : length c.args.nodes.now ≤ i = omega arith in
    none_left (ap (λ ns. records_text c.args.tenant.now.name (records_from c.args.config.now.shards i ns)) (no_node_left c.args.config.now tenant c.args.slot c.args.nodes.now i past)) c.loop-place.invariant.text

pub returns-clause-formed : goal.returns-clause-formed
returns-clause-formed g c =
    let past : length c.args.nodes.now ≤ c.loop-place.place = omega arith in
    c.loop-place.invariant.formed (subst (λ ns. AllFormed (records_from c.args.config.now.shards c.loop-place.place ns))
    (sym (no_node_left c.args.config.now (tenant_config c.args.config.now c.args.tenant.now) c.args.slot c.args.nodes.now c.loop-place.place past)) tt)
