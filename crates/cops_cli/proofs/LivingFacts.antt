-- What a service leaves whose tenants come and go, and how it ends.
use Rattle.std.proofs.Common.{◌≡◌, ◌⊎◌, inl, inr, ℕ, ◌∙◌, List, get_or, Option, Some, None, refl, sym, ap, subst}
use Rattle.std.specs.Prelude.{IsTrue, IfSome, IfErr, IsErrOf, OnOk, Result, Ok, Err, slice_get}
use Rattle.std.specs.Io.KnownBytes.{Appends, Keeps}
use Rattle.std.proofs.lemmas.Option.{slice_get-get_or}
use Rattle.cops_types.specs.declared.configs.Config.{Config}
use Rattle.cops_types.specs.declared.configs.Tenant.{Tenant}
use Rattle.cops_types.specs.Counts.{HasRisen}
use Rattle.cops_types.specs.Head.{Whole, head_of}
use Rattle.cops_types.specs.HeadLines.{are_sizes}
use Rattle.cops_types.specs.Lines.{lines_of}
use Rattle.cops_types.specs.Sink.{AppendsFront}
use Rattle.cops_node.specs.Parts.{Shared}
use Rattle.cops_node.proofs.Fresh.{numbers_fit}
use Rattle.cops_replay.specs.AuditText.{AreNodesOfOpen, HaveTenants, open_audit_of, open_config_of, open_nodes_of}
use Rattle.cops_replay.specs.AuditRuns.{AllReplaySame, HaveLines, SaysSame}
use Rattle.cops_replay.proofs.NodesOf.{nodes_with_homes}
use Rattle.cops_service.specs.HostedLeft.{AreLeftByLives}
use Rattle.cops_service.proofs.HostedLeaving.{as_many_by_lives, at_home_by_lives}
use Rattle.cops_cli.specs.Commands.{AreServedByLives, HasHead, MayEnd, MayFail, Streams, serving_lives}
use Rattle.cops_cli.specs.declared.faults.CliFault.{CliFault}
use Rattle.cops_cli.specs.declared.faults.CliFault.TheVariants.{OutOfMemory, ReadFault, WriteFault}
use Rattle.cops_cli.proofs.ServingFacts.{keeps}

-- nodes that are left and have the open tenants are the configuration's, with these tenants
pub open_left : (config : Config) (tenants : List (Option Tenant)) (nodes : List Shared) → IsTrue (are_sizes config) → AreLeftByLives config nodes → HaveTenants tenants nodes → AreNodesOfOpen config tenants nodes
open_left config tenants nodes sizes left have =
    nodes_with_homes config tenants nodes (numbers_fit config sizes) (as_many_by_lives config nodes left)
    (λ number node below is. at_home_by_lives config number nodes node left (slice_get-get_or nodes number node below ∙ ap Some (sym is))) have

-- a service that ends before anything is written
pub lives_end_early : (old new : Streams) (ended : CliFault) → new.contents ≡ old.contents → IfSome old.remaining HasHead → (ended ≡ OutOfMemory) ⊎ (ended ≡ ReadFault) → MayFail serving_lives old new ended
lives_end_early old new ended same head stopped =
    let kept : Keeps old.contents new.contents = subst (Keeps old.contents) (sym same) (keeps old.contents) in
    elim stopped [
      | inl lack ↦ subst (MayFail serving_lives old new) (sym lack) (record { why = inl tt; begun = inl kept })
      | inr failed ↦ subst (MayFail serving_lives old new) (sym failed) (record { why = inr (inl (head, kept)); begun = inl kept })
    ]

-- the audit is written, or a prefix of it
pub lives_conclude : {T : Type 0} → (old new : Streams) (result : Result T CliFault) (config : Config) (tenants : List (Option Tenant)) (nodes : List Shared) → AreServedByLives old.remaining config tenants nodes
    → OnOk result (Appends old.contents new.contents (open_audit_of config tenants nodes)) → AppendsFront old.contents new.contents (open_audit_of config tenants nodes)
    → IfErr result (λ ended. (ended ≡ OutOfMemory) ⊎ ((ended ≡ WriteFault) ⊎ (ended ≡ ReadFault)))
    → (IsErrOf result ReadFault → Appends old.contents new.contents (open_audit_of config tenants nodes))
    → (IsErrOf result WriteFault → HasRisen old.write_failures new.write_failures) → MayEnd serving_lives old new result
lives_conclude old new (Ok done) config tenants nodes served all front stopped lost rises = (config, tenants, nodes, served, all)
lives_conclude old new (Err ended) config tenants nodes served all front stopped lost rises =
    elim stopped [
      | inl lack ↦ subst (MayFail serving_lives old new) (sym lack) (record { why = inl tt; begun = inr (config, tenants, nodes, served, front) })
      | inr others ↦ elim others [
        | inl failed ↦ subst (MayFail serving_lives old new) (sym failed) (record { why = inl (rises (ap Err failed)); begun = inr (config, tenants, nodes, served, front) })
        | inr gone ↦ subst (MayFail serving_lives old new) (sym gone) (record { why = inr (inr (config, tenants, nodes, served, lost (ap Err gone))); begun = inr (config, tenants, nodes, served, front) })
      ]
    ]
