use Rattle.cops_replay.proofs.Names.{[], ◌∷◌, Appends, on_ok_weaker, AppendsFront, sink_writer, shape_of, AreNodesAt, audit_at, nodes_at, with_tenants, AreFormed}
use Rattle.cops_replay.proofs.AuditReplays.{cluster_replays_same}
use Rattle.cops_replay.proofs.AuditRunLemmas.{of_kept, of_shown, slot_nodes}
use Rattle.cops_replay.proofs.audit_runs.write_slot.Goals as goal

pub write_audit_at-requires-clause-nodes : goal.write_audit_at-requires-clause-nodes
write_audit_at-requires-clause-nodes g c =
    of_kept (λ config nodes. AreNodesAt config (c.args.tenant ∷ []) (c.args.slot ∷ []) nodes) c.args.world.now c.config.result.now c.nodes-nodes.result.now c.config.ensures.value c.nodes-nodes.ensures.value
    (slot_nodes c.args.world.now c.args.slot c.args.tenant c.nodes-nodes.ensures.in_order c.requires.tenants c.requires.there)

pub returns-clause-ok : goal.returns-clause-ok
returns-clause-ok g c =
    on_ok_weaker c.write_audit_at.result
    (of_shown (λ config nodes. Appends (g.O.Write.contents (sink_writer c.args.sink.now)) (g.O.Write.contents (sink_writer c.write_audit_at.new.sink)) (audit_at config (c.args.tenant ∷ []) (c.args.slot ∷ []) nodes))
    c.args.world.now c.config.result.now c.nodes-nodes.result.now c.config.ensures.value c.nodes-nodes.ensures.value) c.write_audit_at.ensures.ok

pub returns-clause-front : goal.returns-clause-front
returns-clause-front g c =
    of_shown (λ config nodes. AppendsFront (g.O.Write.contents (sink_writer c.args.sink.now)) (g.O.Write.contents (sink_writer c.write_audit_at.new.sink)) (audit_at config (c.args.tenant ∷ []) (c.args.slot ∷ []) nodes))
    c.args.world.now c.config.result.now c.nodes-nodes.result.now c.config.ensures.value c.nodes-nodes.ensures.value c.write_audit_at.ensures.front

pub returns-clause-formed : goal.returns-clause-formed
returns-clause-formed g c =
    on_ok_weaker c.write_audit_at.result
    (of_shown (λ config nodes. AreFormed (with_tenants config (c.args.tenant ∷ [])) (nodes_at config (c.args.slot ∷ []) nodes))
    c.args.world.now c.config.result.now c.nodes-nodes.result.now c.config.ensures.value c.nodes-nodes.ensures.value) c.write_audit_at.ensures.formed

pub returns-clause-replays : goal.returns-clause-replays
returns-clause-replays g c = cluster_replays_same (shape_of c.args.world.now.setup.head) c.args.world.now.nodes.nodes c.nodes-nodes.ensures.in_order c.nodes-nodes.ensures.fitting
