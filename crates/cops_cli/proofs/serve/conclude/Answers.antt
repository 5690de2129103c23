use Rattle.std.proofs.Common.{◌≡◌, List, ℕ, subst}
use Rattle.std.specs.Io.KnownBytes.{Appends}
use Rattle.cops_types.specs.declared.configs.Config.{Config}
use Rattle.cops_types.specs.Head.{Whole, head_of}
use Rattle.cops_types.specs.Sink.{sink_writer}
use Rattle.cops_node.specs.Parts.{Shared}
use Rattle.cops_replay.specs.AuditText.{audit_of, his_nodes}
use Rattle.cops_replay.specs.AuditRuns.{HaveLines, SaysSame}
use Rattle.cops_cli.proofs.serve.conclude.Goals as goal

pub returns-in-Done-clause-ok : goal.returns-in-Done-clause-ok
returns-in-Done-clause-ok g c =
    subst (λ nodes. Appends (g.O.Write.contents (sink_writer c.args.sink.now)) (g.O.Write.contents (sink_writer c.write_audit.new.sink)) (audit_of c.args.config.now nodes)) c.as_slice.ensures.value c.in-Ok.ensures.ok

pub returns-in_default-clause-lost : goal.returns-in_default-clause-lost
returns-in_default-clause-lost g c is =
    subst (λ nodes. Appends (g.O.Write.contents (sink_writer c.args.sink.now)) (g.O.Write.contents (sink_writer c.write_audit.new.sink)) (audit_of c.args.config.now nodes)) c.as_slice.ensures.value c.in-Ok.ensures.ok

-- a replay of the text of these nodes' audit says that all is the same
abbrev SaysSameOf : Config → List Shared → Type 0
SaysSameOf config nodes =
    (lines rest : List (List ℕ)) → head_of lines ≡ Whole config rest → HaveLines config (his_nodes config nodes) → SaysSame config (his_nodes config nodes) (audit_of config nodes)

pub returns-in-Err-Refused-clause-says_same : goal.returns-in-Err-Refused-clause-says_same
returns-in-Err-Refused-clause-says_same g c = subst (SaysSameOf c.args.config.now) c.as_slice.ensures.value c.in-Err-Refused.ensures.says_same

pub returns-in-Err-OutOfMemory-clause-says_same : goal.returns-in-Err-OutOfMemory-clause-says_same
returns-in-Err-OutOfMemory-clause-says_same g c = subst (SaysSameOf c.args.config.now) c.as_slice.ensures.value c.in-Err-OutOfMemory.ensures.says_same

pub returns-in-Done-clause-says_same : goal.returns-in-Done-clause-says_same
returns-in-Done-clause-says_same g c = subst (SaysSameOf c.args.config.now) c.as_slice.ensures.value c.in-Ok.ensures.says_same

pub returns-in_default-clause-says_same : goal.returns-in_default-clause-says_same
returns-in_default-clause-says_same g c = subst (SaysSameOf c.args.config.now) c.as_slice.ensures.value c.in-Ok.ensures.says_same
