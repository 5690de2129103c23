use Rattle.cops_replay.proofs.Names.{subst, Appends, on_ok_weaker, AppendsFront, sink_writer, shape_of}
use Rattle.cops_replay.proofs.AuditReplays.{cluster_replays_same}
use Rattle.cops_replay.proofs.OpenAuditLemmas.{AreOfWorld, formed_of_world, nodes_of_world, text_of_world}
use Rattle.cops_replay.proofs.audit_runs.write_open.Goals as goal

pub write_open_audit-requires-clause-nodes : goal.write_open_audit-requires-clause-nodes
write_open_audit-requires-clause-nodes g c =
    nodes_of_world c.args.world.now c.config.result.now c.tenants.result.now c.nodes-nodes.result.now (record {
      config_is = c.config.ensures.value;
      tenants_are = c.tenants.ensures;
      nodes_are = c.nodes-nodes.ensures.value;
    }) c.nodes-nodes.ensures.in_order c.requires

of_world : (g : _) (c : goal.After-write_open_audit g) → AreOfWorld c.args.world.now c.config.result.now c.tenants.result.now c.nodes-nodes.result.now
of_world g c = record {
  config_is = c.config.ensures.value;
  tenants_are = c.tenants.ensures;
  nodes_are = c.nodes-nodes.ensures.value;
}

pub returns-clause-ok : goal.returns-clause-ok
returns-clause-ok g c =
    on_ok_weaker c.write_open_audit.result
    (subst (Appends (g.O.Write.contents (sink_writer c.args.sink.now)) (g.O.Write.contents (sink_writer c.write_open_audit.new.sink)))
    (text_of_world c.args.world.now c.config.result.now c.tenants.result.now c.nodes-nodes.result.now (of_world g c))) c.write_open_audit.ensures.ok

pub returns-clause-front : goal.returns-clause-front
returns-clause-front g c =
    subst (AppendsFront (g.O.Write.contents (sink_writer c.args.sink.now)) (g.O.Write.contents (sink_writer c.write_open_audit.new.sink)))
    (text_of_world c.args.world.now c.config.result.now c.tenants.result.now c.nodes-nodes.result.now (of_world g c)) c.write_open_audit.ensures.front

pub returns-clause-formed : goal.returns-clause-formed
returns-clause-formed g c =
    on_ok_weaker c.write_open_audit.result (formed_of_world c.args.world.now c.config.result.now c.tenants.result.now c.nodes-nodes.result.now (of_world g c)) c.write_open_audit.ensures.formed

pub returns-clause-replays : goal.returns-clause-replays
returns-clause-replays g c = cluster_replays_same (shape_of c.args.world.now.setup.head) c.args.world.now.nodes.nodes c.nodes-nodes.ensures.in_order c.nodes-nodes.ensures.fitting
