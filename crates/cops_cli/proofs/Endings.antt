-- How an audit of one tenant, a replay and an extraction end early.
use Rattle.std.proofs.Common.{◌≡◌, ◌⊎◌, ◌^◌, ℕ, List, inl, inr, refl, sym, subst}
use Rattle.std.specs.Prelude.{IfSome, IsErrAnd, Result, Ok, Err}
use Rattle.std.specs.Io.KnownBytes.{Keeps}
use Rattle.cops_types.specs.Counts.{HasRisen, HasRisenBy}
use Rattle.cops_script.specs.LineRuns.{IfRunRefused}
use Rattle.cops_script.specs.declared.line_runs.fault.RunFault.{RunFault}
use Rattle.cops_script.specs.declared.line_runs.fault.RunFault.TheVariants as run
use Rattle.cops_replay.specs.OwnParts.{RefusesOwnAuditOf, RefusesPartOf}
use Rattle.cops_replay.specs.ReplayText.{RefusesReplayOf}
use Rattle.cops_replay.specs.declared.refusals.PartRefusal.{PartRefusal}
use Rattle.cops_replay.specs.declared.refusals.PartRefusal.TheVariants as part
use Rattle.cops_replay.specs.declared.refusals.ReplayRefusal.{ReplayRefusal}
use Rattle.cops_replay.specs.declared.refusals.ReplayRefusal.TheVariants as replay
use Rattle.cops_cli.specs.Commands.{MayEnd, MayFail, Streams, auditing_alone, extracting, replaying}
use Rattle.cops_cli.specs.Faults.{ended_by, not_extracted, not_replayed}
use Rattle.cops_cli.specs.declared.faults.CliFault.{CliFault}

module _ (name : List ℕ) (old new : Streams) (begun : (replaying name).begins old new) where
  replay_ends : (fault : RunFault ReplayRefusal) → IfRunRefused fault (λ refusal. IfSome old.remaining (λ bytes. RefusesReplayOf name bytes refusal)) → IfRunRefused fault (λ refusal. Keeps old.contents new.contents) →
      (fault ≡ run.ReadFault → HasRisen old.read_failures new.read_failures ⊎ HasRisenBy old.reads new.reads (2 ^ 32)) → (fault ≡ run.WriteFault → HasRisen old.write_failures new.write_failures) →
      MayFail (replaying name) old new (ended_by not_replayed fault)
  replay_ends (run.Refused (replay.BadConfig bad)) refused unwritten read write = record { why = inr (refused, unwritten); begun = begun }
  replay_ends (run.Refused replay.UnknownTenant) refused unwritten read write = record { why = inr (refused, unwritten); begun = begun }
  replay_ends (run.Refused replay.ClockTooGreat) refused unwritten read write = record { why = inr (refused, unwritten); begun = begun }
  replay_ends run.OutOfMemory refused unwritten read write = record { why = inl tt; begun = begun }
  replay_ends run.ReadFault refused unwritten read write = record { why = inl (read refl); begun = begun }
  replay_ends run.WriteFault refused unwritten read write = record { why = inl (write refl); begun = begun }

  -- the tenant is named by the bytes of a text
  pub replay_fails : {T : Type 0} → (tenant : List ℕ) → name ≡ tenant → (fault : RunFault ReplayRefusal) (result : Result T CliFault) → IfRunRefused fault (λ refusal. IfSome old.remaining (λ bytes. RefusesReplayOf name bytes refusal)) →
      IfRunRefused fault (λ refusal. Keeps old.contents new.contents) → (fault ≡ run.ReadFault → HasRisen old.read_failures new.read_failures ⊎ HasRisenBy old.reads new.reads (2 ^ 32)) →
      (fault ≡ run.WriteFault → HasRisen old.write_failures new.write_failures) → IsErrAnd result (λ ended. ended ≡ ended_by not_replayed fault) → MayEnd (replaying tenant) old new result
  replay_fails tenant same fault (Ok done) refused unwritten read write is = absurd is
  replay_fails tenant same fault (Err ended) refused unwritten read write is =
      subst (λ (it : List ℕ). MayFail (replaying it) old new ended) same (subst (MayFail (replaying name) old new) (sym is) (replay_ends fault refused unwritten read write))

module _ (name : List ℕ) (old new : Streams) (begun : (extracting name).begins old new) where
  extract_ends : (fault : RunFault PartRefusal) → IfRunRefused fault (λ refusal. IfSome old.remaining (λ bytes. RefusesPartOf name bytes refusal)) → IfRunRefused fault (λ refusal. Keeps old.contents new.contents) →
      (fault ≡ run.ReadFault → HasRisen old.read_failures new.read_failures ⊎ HasRisenBy old.reads new.reads (2 ^ 32)) → (fault ≡ run.WriteFault → HasRisen old.write_failures new.write_failures) →
      MayFail (extracting name) old new (ended_by not_extracted fault)
  extract_ends (run.Refused (part.BadConfig bad)) refused unwritten read write = record { why = inr (refused, unwritten); begun = begun }
  extract_ends (run.Refused part.UnknownTenant) refused unwritten read write = record { why = inr (refused, unwritten); begun = begun }
  extract_ends run.OutOfMemory refused unwritten read write = record { why = inl tt; begun = begun }
  extract_ends run.ReadFault refused unwritten read write = record { why = inl (read refl); begun = begun }
  extract_ends run.WriteFault refused unwritten read write = record { why = inl (write refl); begun = begun }

  -- the tenant is named by the bytes of a text
  pub extract_fails : {T : Type 0} → (tenant : List ℕ) → name ≡ tenant → (fault : RunFault PartRefusal) (result : Result T CliFault) → IfRunRefused fault (λ refusal. IfSome old.remaining (λ bytes. RefusesPartOf name bytes refusal)) →
      IfRunRefused fault (λ refusal. Keeps old.contents new.contents) → (fault ≡ run.ReadFault → HasRisen old.read_failures new.read_failures ⊎ HasRisenBy old.reads new.reads (2 ^ 32)) →
      (fault ≡ run.WriteFault → HasRisen old.write_failures new.write_failures) → IsErrAnd result (λ ended. ended ≡ ended_by not_extracted fault) → MayEnd (extracting tenant) old new result
  extract_fails tenant same fault (Ok done) refused unwritten read write is = absurd is
  extract_fails tenant same fault (Err ended) refused unwritten read write is =
      subst (λ (it : List ℕ). MayFail (extracting it) old new ended) same (subst (MayFail (extracting name) old new) (sym is) (extract_ends fault refused unwritten read write))

module _ (name : List ℕ) (old new : Streams) (begun : (auditing_alone name).begins old new) where
  own_ends : (fault : RunFault PartRefusal) → IfRunRefused fault (λ refusal. IfSome old.remaining (λ bytes. RefusesOwnAuditOf name bytes refusal)) → IfRunRefused fault (λ refusal. Keeps old.contents new.contents) →
      (fault ≡ run.ReadFault → HasRisen old.read_failures new.read_failures ⊎ HasRisenBy old.reads new.reads (2 ^ 32)) → (fault ≡ run.WriteFault → HasRisen old.write_failures new.write_failures) →
      MayFail (auditing_alone name) old new (ended_by not_extracted fault)
  own_ends (run.Refused (part.BadConfig bad)) refused unwritten read write = record { why = inr (refused, unwritten); begun = begun }
  own_ends (run.Refused part.UnknownTenant) refused unwritten read write = record { why = inr (refused, unwritten); begun = begun }
  own_ends run.OutOfMemory refused unwritten read write = record { why = inl tt; begun = begun }
  own_ends run.ReadFault refused unwritten read write = record { why = inl (read refl); begun = begun }
  own_ends run.WriteFault refused unwritten read write = record { why = inl (write refl); begun = begun }

  -- the tenant is named by the bytes of a text
  pub own_fails : {T : Type 0} → (tenant : List ℕ) → name ≡ tenant → (fault : RunFault PartRefusal) (result : Result T CliFault) → IfRunRefused fault (λ refusal. IfSome old.remaining (λ bytes. RefusesOwnAuditOf name bytes refusal)) →
      IfRunRefused fault (λ refusal. Keeps old.contents new.contents) → (fault ≡ run.ReadFault → HasRisen old.read_failures new.read_failures ⊎ HasRisenBy old.reads new.reads (2 ^ 32)) →
      (fault ≡ run.WriteFault → HasRisen old.write_failures new.write_failures) → IsErrAnd result (λ ended. ended ≡ ended_by not_extracted fault) → MayEnd (auditing_alone tenant) old new result
  own_fails tenant same fault (Ok done) refused unwritten read write is = absurd is
  own_fails tenant same fault (Err ended) refused unwritten read write is =
      subst (λ (it : List ℕ). MayFail (auditing_alone it) old new ended) same (subst (MayFail (auditing_alone name) old new) (sym is) (own_ends fault refused unwritten read write))
