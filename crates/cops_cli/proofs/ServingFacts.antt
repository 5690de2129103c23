-- What a service leaves, and how it ends.
use Rattle.std.proofs.Common.{◌≡◌, ◌⊎◌, inl, inr, ℕ, ◌<◌, ◌∙◌, List, length, get_or, Option, Some, None, refl, sym, ap, subst}
use Rattle.std.specs.Prelude.{IsTrue, IfSome, IfErr, IsErrOf, OnOk, Result, Ok, Err, slice_get}
use Rattle.std.specs.Io.KnownBytes.{Appends, Keeps}
use Rattle.std.proofs.lemmas.Option.{slice_get-get_or}
use Rattle.cops_types.specs.declared.configs.Config.{Config}
use Rattle.cops_types.specs.declared.faults.Fault.{Fault}
use Rattle.cops_types.specs.declared.faults.Fault.TheVariants as fault
use Rattle.cops_types.specs.Counts.{HasRisen}
use Rattle.cops_types.specs.Head.{Whole, head_of}
use Rattle.cops_types.specs.HeadLines.{are_sizes}
use Rattle.cops_types.specs.Lines.{lines_of}
use Rattle.cops_types.specs.Sink.{AppendsFront}
use Rattle.cops_node.specs.Clusters.{new_nodes}
use Rattle.cops_node.specs.Parts.{Shared}
use Rattle.cops_node.proofs.Fresh.{numbers_fit}
use Rattle.cops_replay.specs.AuditText.{AreNodesOf, audit_of, his_nodes}
use Rattle.cops_replay.specs.AuditRuns.{AllReplaySame, HaveLines, SaysSame}
use Rattle.cops_replay.proofs.NodesOf.{nodes_with_sites}
use Rattle.cops_service.specs.Left.{AreLeft}
use Rattle.cops_service.proofs.Told.{left_count, left_in_place}
use Rattle.cops_cli.specs.Commands.{AreServedForHead, HasHead, MayEnd, MayFail, Streams, serving}
use Rattle.cops_cli.specs.Faults.{ended_serving_by}
use Rattle.cops_cli.specs.declared.faults.CliFault.{CliFault}
use Rattle.cops_cli.specs.declared.faults.CliFault.TheVariants.{OutOfMemory, ReadFault, WriteFault}

-- nodes that are left are the configuration's
pub left_nodes : (config : Config) (nodes : List Shared) → IsTrue (are_sizes config) → AreLeft (new_nodes config).nodes nodes → AreNodesOf config nodes
left_nodes config nodes sizes left =
    nodes_with_sites config nodes (numbers_fit config sizes) (left_count config nodes left)
    (λ number node below is. left_in_place config number nodes node left (slice_get-get_or nodes number node below ∙ ap Some (sym is)))

-- a head that is known is that of the configuration, so a replay of the text says the same
says_for : (known : Option (List ℕ)) (config : Config) (nodes : List Shared) → IfSome known (λ bytes. (lines : List (List ℕ)) × (head_of (lines_of bytes) ≡ Whole config lines))
    → ((lines rest : List (List ℕ)) → head_of lines ≡ Whole config rest → HaveLines config (his_nodes config nodes) → SaysSame config (his_nodes config nodes) (audit_of config nodes))
    → IfSome known (λ bytes. HaveLines config (his_nodes config nodes) → SaysSame config (his_nodes config nodes) (audit_of config nodes))
says_for None config nodes head says = tt
says_for (Some bytes) config nodes head says = says (lines_of bytes) head.0 head.1

-- the head before the reader is the configuration's
pub served_from : (known : Option (List ℕ)) (config : Config) (nodes : List Shared)
    → IfSome known (λ bytes. (lines : List (List ℕ)) × (head_of (lines_of bytes) ≡ Whole config lines)) → AreLeft (new_nodes config).nodes nodes → AllReplaySame config (his_nodes config nodes)
    → ((lines rest : List (List ℕ)) → head_of lines ≡ Whole config rest → HaveLines config (his_nodes config nodes) → SaysSame config (his_nodes config nodes) (audit_of config nodes))
    → AreServedForHead known config nodes
served_from known config nodes head left replays says = record { head = head; left = left; replays = replays; says_same = says_for known config nodes head says }

pub keeps : (known : Option (List ℕ)) → Keeps known known
keeps None = tt
keeps (Some bytes) = refl

-- the head is known
pub head_is : (known : Option (List ℕ)) (config : Config) → IfSome known (λ bytes. (lines : List (List ℕ)) × (head_of (lines_of bytes) ≡ Whole config lines)) → IfSome known HasHead
head_is None config head = tt
head_is (Some bytes) config head = (config, head.0, head.1)

-- a service that ends before anything is written
pub ends_early : (old new : Streams) (ended : CliFault) → new.contents ≡ old.contents → IfSome old.remaining HasHead → (ended ≡ OutOfMemory) ⊎ (ended ≡ ReadFault) → MayFail serving old new ended
ends_early old new ended same head stopped =
    let kept : Keeps old.contents new.contents = subst (Keeps old.contents) (sym same) (keeps old.contents) in
    elim stopped [
      | inl lack ↦ subst (MayFail serving old new) (sym lack) (record { why = inl tt; begun = inl kept })
      | inr failed ↦ subst (MayFail serving old new) (sym failed) (record { why = inr (inl (head, kept)); begun = inl kept })
    ]

-- the audit is written, or a prefix of it
pub concludes : {T : Type 0} → (old new : Streams) (result : Result T CliFault) (config : Config) (nodes : List Shared) → AreServedForHead old.remaining config nodes
    → OnOk result (Appends old.contents new.contents (audit_of config nodes)) → AppendsFront old.contents new.contents (audit_of config nodes)
    → IfErr result (λ ended. (ended ≡ OutOfMemory) ⊎ ((ended ≡ WriteFault) ⊎ (ended ≡ ReadFault)))
    → (IsErrOf result ReadFault → Appends old.contents new.contents (audit_of config nodes))
    → (IsErrOf result WriteFault → HasRisen old.write_failures new.write_failures) → MayEnd serving old new result
concludes old new (Ok done) config nodes served all front stopped lost rises = (config, nodes, served, all)
concludes old new (Err ended) config nodes served all front stopped lost rises =
    elim stopped [
      | inl lack ↦ subst (MayFail serving old new) (sym lack) (record { why = inl tt; begun = inr (config, nodes, served, front) })
      | inr others ↦ elim others [
        | inl failed ↦ subst (MayFail serving old new) (sym failed) (record { why = inl (rises (ap Err failed)); begun = inr (config, nodes, served, front) })
        | inr gone ↦ subst (MayFail serving old new) (sym gone) (record { why = inr (inr (config, nodes, served, lost (ap Err gone))); begun = inr (config, nodes, served, front) })
      ]
    ]
