use Rattle.std.proofs.Common.{◌≡◌, List, ℕ, subst}
use Rattle.std.specs.Prelude.{Option}
use Rattle.std.specs.Io.KnownBytes.{Appends}
use Rattle.cops_types.specs.declared.configs.Config.{Config}
use Rattle.cops_types.specs.declared.configs.Tenant.{Tenant}
use Rattle.cops_types.specs.Head.{Whole, head_of}
use Rattle.cops_types.specs.Sink.{AppendsFront, sink_writer}
use Rattle.cops_node.specs.Parts.{Shared}
use Rattle.cops_replay.specs.AuditText.{open_audit_of, open_config_of, open_nodes_of}
use Rattle.cops_replay.specs.AuditRuns.{AllReplaySame, HaveLines, SaysSame}
use Rattle.cops_cli.proofs.serve_lives.conclude.Goals as goal

-- what holds of the tenants and nodes that are passed on holds of those that the service left
of_left : (P : List (Option Tenant) → List Shared → Type 0) (tenants left : List (Option Tenant)) (nodes all : List Shared) → tenants ≡ left → nodes ≡ all → P tenants nodes → P left all
of_left P tenants left nodes all same alike holds = subst (λ (ts : List (Option Tenant)). P ts all) same (subst (λ (ns : List Shared). P tenants ns) alike holds)

-- a replay of the text of these nodes' audit says that all is the same
abbrev SaysSameOf : Config → List (Option Tenant) → List Shared → Type 0
SaysSameOf config tenants nodes =
    (lines rest : List (List ℕ)) → head_of lines ≡ Whole (open_config_of config tenants) rest → HaveLines (open_config_of config tenants) (open_nodes_of config tenants nodes)
    → SaysSame (open_config_of config tenants) (open_nodes_of config tenants nodes) (open_audit_of config tenants nodes)

pub returns-in-Done-clause-ok : goal.returns-in-Done-clause-ok
returns-in-Done-clause-ok g c =
    of_left (λ tenants nodes. Appends (g.O.Write.contents (sink_writer c.args.sink.now)) (g.O.Write.contents (sink_writer c.write_open_audit.new.sink)) (open_audit_of c.args.config.now tenants nodes))
    _ _ _ _ c.tenants.ensures c.as_slice-nodes.ensures.value c.in-Ok.ensures.ok

pub returns-in_default-clause-lost : goal.returns-in_default-clause-lost
returns-in_default-clause-lost g c is =
    of_left (λ tenants nodes. Appends (g.O.Write.contents (sink_writer c.args.sink.now)) (g.O.Write.contents (sink_writer c.write_open_audit.new.sink)) (open_audit_of c.args.config.now tenants nodes))
    _ _ _ _ c.tenants.ensures c.as_slice-nodes.ensures.value c.in-Ok.ensures.ok

pub returns-in-Err-Refused-clause-says_same : goal.returns-in-Err-Refused-clause-says_same
returns-in-Err-Refused-clause-says_same g c = of_left (SaysSameOf c.args.config.now) _ _ _ _ c.tenants.ensures c.as_slice-nodes.ensures.value c.in-Err-Refused.ensures.says_same

pub returns-in-Err-OutOfMemory-clause-says_same : goal.returns-in-Err-OutOfMemory-clause-says_same
returns-in-Err-OutOfMemory-clause-says_same g c = of_left (SaysSameOf c.args.config.now) _ _ _ _ c.tenants.ensures c.as_slice-nodes.ensures.value c.in-Err-OutOfMemory.ensures.says_same

pub returns-in-Done-clause-says_same : goal.returns-in-Done-clause-says_same
returns-in-Done-clause-says_same g c = of_left (SaysSameOf c.args.config.now) _ _ _ _ c.tenants.ensures c.as_slice-nodes.ensures.value c.in-Ok.ensures.says_same

pub returns-in_default-clause-says_same : goal.returns-in_default-clause-says_same
returns-in_default-clause-says_same g c = of_left (SaysSameOf c.args.config.now) _ _ _ _ c.tenants.ensures c.as_slice-nodes.ensures.value c.in-Ok.ensures.says_same

pub returns-in-Err-Refused-clause-front : goal.returns-in-Err-Refused-clause-front
returns-in-Err-Refused-clause-front g c =
    of_left (λ tenants nodes. AppendsFront (g.O.Write.contents (sink_writer c.args.sink.now)) (g.O.Write.contents (sink_writer c.write_open_audit.new.sink)) (open_audit_of c.args.config.now tenants nodes))
    _ _ _ _ c.tenants.ensures c.as_slice-nodes.ensures.value c.in-Err-Refused.ensures.front

pub returns-in-Err-Refused-clause-replays : goal.returns-in-Err-Refused-clause-replays
returns-in-Err-Refused-clause-replays g c =
    of_left (λ tenants nodes. AllReplaySame (open_config_of c.args.config.now tenants) (open_nodes_of c.args.config.now tenants nodes))
    _ _ _ _ c.tenants.ensures c.as_slice-nodes.ensures.value c.in-Err-Refused.ensures.replays

pub returns-in-Err-OutOfMemory-clause-front : goal.returns-in-Err-OutOfMemory-clause-front
returns-in-Err-OutOfMemory-clause-front g c =
    of_left (λ tenants nodes. AppendsFront (g.O.Write.contents (sink_writer c.args.sink.now)) (g.O.Write.contents (sink_writer c.write_open_audit.new.sink)) (open_audit_of c.args.config.now tenants nodes))
    _ _ _ _ c.tenants.ensures c.as_slice-nodes.ensures.value c.in-Err-OutOfMemory.ensures.front

pub returns-in-Err-OutOfMemory-clause-replays : goal.returns-in-Err-OutOfMemory-clause-replays
returns-in-Err-OutOfMemory-clause-replays g c =
    of_left (λ tenants nodes. AllReplaySame (open_config_of c.args.config.now tenants) (open_nodes_of c.args.config.now tenants nodes))
    _ _ _ _ c.tenants.ensures c.as_slice-nodes.ensures.value c.in-Err-OutOfMemory.ensures.replays

pub returns-in-Done-clause-front : goal.returns-in-Done-clause-front
returns-in-Done-clause-front g c =
    of_left (λ tenants nodes. AppendsFront (g.O.Write.contents (sink_writer c.args.sink.now)) (g.O.Write.contents (sink_writer c.write_open_audit.new.sink)) (open_audit_of c.args.config.now tenants nodes))
    _ _ _ _ c.tenants.ensures c.as_slice-nodes.ensures.value c.in-Ok.ensures.front

pub returns-in-Done-clause-replays : goal.returns-in-Done-clause-replays
returns-in-Done-clause-replays g c =
    of_left (λ tenants nodes. AllReplaySame (open_config_of c.args.config.now tenants) (open_nodes_of c.args.config.now tenants nodes))
    _ _ _ _ c.tenants.ensures c.as_slice-nodes.ensures.value c.in-Ok.ensures.replays

pub returns-in_default-clause-front : goal.returns-in_default-clause-front
returns-in_default-clause-front g c =
    of_left (λ tenants nodes. AppendsFront (g.O.Write.contents (sink_writer c.args.sink.now)) (g.O.Write.contents (sink_writer c.write_open_audit.new.sink)) (open_audit_of c.args.config.now tenants nodes))
    _ _ _ _ c.tenants.ensures c.as_slice-nodes.ensures.value c.in-Ok.ensures.front

pub returns-in_default-clause-replays : goal.returns-in_default-clause-replays
returns-in_default-clause-replays g c =
    of_left (λ tenants nodes. AllReplaySame (open_config_of c.args.config.now tenants) (open_nodes_of c.args.config.now tenants nodes))
    _ _ _ _ c.tenants.ensures c.as_slice-nodes.ensures.value c.in-Ok.ensures.replays
