use Rattle.cops_replay.proofs.Names.{◌≡◌, ℕ, List, refl, subst, ◌∙◌, AllByRecursion, Whole, head_of, tenant_config, Config, shape_of, AuditFits, Shared, AllReplaySame, HaveLines, SaysSame, Appends, on_ok_weaker, AppendsFront, sink_writer, AreNodesOf, audit_of, his_nodes}
use Rattle.cops_replay.proofs.AuditReplays.{cluster_replays_same}
use Rattle.cops_replay.proofs.WrittenAudits.{says_same}
use Rattle.cops_replay.proofs.OpenLists.{AreFirst, formed_of_first, nodes_of_first, text_of_first}
use Rattle.cops_replay.proofs.PageLemmas.{front_of_none}
use Rattle.cops_replay.proofs.audits.write_audit.Goals as goal

replays : (config : Config) (nodes : List Shared) → AreNodesOf config nodes → AllByRecursion AuditFits nodes → AllReplaySame config (his_nodes config nodes)
replays config nodes are fitting = λ slot tenant e. cluster_replays_same (shape_of config) nodes are.by_number fitting (tenant_config config tenant) slot (record { data_centres = refl; shards = refl })

text_says : (config : Config) (nodes : List Shared) → AllReplaySame config (his_nodes config nodes) → (lines rest : List (List ℕ)) → head_of lines ≡ Whole config rest → HaveLines config (his_nodes config nodes) →
    SaysSame config (his_nodes config nodes) (audit_of config nodes)
text_says config nodes same lines rest head all = λ slot tenant e. says_same lines rest config (his_nodes config nodes) slot tenant head all e (same slot tenant e)

pub returns-in_err-slots-clause-replays : goal.returns-in_err-slots-clause-replays
returns-in_err-slots-clause-replays g c = replays c.args.config.now c.args.nodes.now c.requires.nodes c.audits_fit.ensures

pub returns-in_err-slots-clause-says_same : goal.returns-in_err-slots-clause-says_same
returns-in_err-slots-clause-says_same g c = text_says c.args.config.now c.args.nodes.now (replays c.args.config.now c.args.nodes.now c.requires.nodes c.audits_fit.ensures)

pub returns-clause-replays : goal.returns-clause-replays
returns-clause-replays g c = replays c.args.config.now c.args.nodes.now c.requires.nodes c.audits_fit.ensures

pub returns-clause-says_same : goal.returns-clause-says_same
returns-clause-says_same g c = text_says c.args.config.now c.args.nodes.now (replays c.args.config.now c.args.nodes.now c.requires.nodes c.audits_fit.ensures)

pub returns-in_err-slots-clause-front : goal.returns-in_err-slots-clause-front
returns-in_err-slots-clause-front g c = front_of_none (g.W.Write.contents (sink_writer c.args.sink.now)) (audit_of c.args.config.now c.args.nodes.now)

are_first : (g : _) (c : goal.After-drop-slots g) → AreFirst c.args.config.now c.as_slice-tenants.result.now c.as_slice.result.now
are_first g c = record {
  tenants_are = c.as_slice-tenants.ensures.value;
  slots_are = c.as_slice.ensures.value ∙ c.in_ok-slots.ensures;
}

pub write_audit_at-requires-clause-nodes : goal.write_audit_at-requires-clause-nodes
write_audit_at-requires-clause-nodes g c =
    nodes_of_first c.args.config.now c.args.nodes.now c.as_slice-tenants.result.now c.as_slice.result.now
    (record { tenants_are = c.as_slice-tenants.ensures.value; slots_are = c.as_slice.ensures.value ∙ c.in_ok-slots.ensures }) c.requires.nodes

pub returns-clause-ok : goal.returns-clause-ok
returns-clause-ok g c =
    on_ok_weaker c.write_audit_at.result
    (subst (Appends (g.W.Write.contents (sink_writer c.args.sink.now)) (g.W.Write.contents (sink_writer c.write_audit_at.new.sink)))
    (text_of_first c.args.config.now c.args.nodes.now c.as_slice-tenants.result.now c.as_slice.result.now (are_first g c))) c.write_audit_at.ensures.ok

pub returns-clause-front : goal.returns-clause-front
returns-clause-front g c =
    subst (AppendsFront (g.W.Write.contents (sink_writer c.args.sink.now)) (g.W.Write.contents (sink_writer c.write_audit_at.new.sink)))
    (text_of_first c.args.config.now c.args.nodes.now c.as_slice-tenants.result.now c.as_slice.result.now (are_first g c)) c.write_audit_at.ensures.front

pub returns-clause-formed : goal.returns-clause-formed
returns-clause-formed g c =
    on_ok_weaker c.write_audit_at.result (formed_of_first c.args.config.now c.args.nodes.now c.as_slice-tenants.result.now c.as_slice.result.now (are_first g c)) c.write_audit_at.ensures.formed
