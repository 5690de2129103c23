-- The program's faults, from those of the calls that it makes.
use Rattle.std.specs.Prelude.{◌≡◌, ◌≢◌, ⊤}
use Rattle.clap.specs.Words.{kind_of}
use Rattle.clap.specs.declared.error.Error.{Error}
use Rattle.clap.specs.declared.error.kind.ErrorKind.TheVariants as kind
use Rattle.cops_types.specs.declared.request_errors.RequestError.{RequestError}
use Rattle.cops_types.specs.declared.request_errors.RequestError.TheVariants as request_error
use Rattle.cops_script.specs.declared.line_runs.fault.RunFault.{RunFault}
use Rattle.cops_script.specs.declared.line_runs.fault.RunFault.TheVariants as run
use Rattle.cops_script.specs.declared.scripts.BadConfig.{BadConfig}
use Rattle.cops_script.specs.declared.solo_machine.SoloRefusal.{SoloRefusal}
use Rattle.cops_script.specs.declared.solo_machine.SoloRefusal.TheVariants as solo
use Rattle.cops_replay.specs.declared.migrations.MigrationRefusal.{MigrationRefusal}
use Rattle.cops_replay.specs.declared.migrations.MigrationRefusal.TheVariants as migration
use Rattle.cops_replay.specs.declared.refusals.PartRefusal.{PartRefusal}
use Rattle.cops_replay.specs.declared.refusals.PartRefusal.TheVariants as part
use Rattle.cops_replay.specs.declared.refusals.ReplayRefusal.{ReplayRefusal}
use Rattle.cops_replay.specs.declared.refusals.ReplayRefusal.TheVariants as replay
use Rattle.cops_cli.specs.declared.faults.CliFault.{CliFault}
use Rattle.cops_cli.specs.declared.faults.CliFault.TheVariants.{CommandLine, NoText, BadHead, BadLine, UnknownTenant, ClockTooGreat, OutOfMemory, ReadFault, WriteFault}

-- the fault of a run whose refusals become these faults
abbrev pub ended_by : {F : Type 0} → (F → CliFault) → RunFault F → CliFault
ended_by refused (run.Refused refusal) = refused refusal
ended_by refused run.OutOfMemory = OutOfMemory
ended_by refused run.ReadFault = ReadFault
ended_by refused run.WriteFault = WriteFault

-- the fault of a refused script
abbrev pub bad_head : BadConfig → CliFault
bad_head bad = BadHead bad.line

-- the same for one tenant alone
abbrev pub not_answered : SoloRefusal → CliFault
not_answered (solo.BadConfig bad) = BadHead bad.line
not_answered solo.UnknownTenant = UnknownTenant

-- the fault of a refused replay
abbrev pub not_replayed : ReplayRefusal → CliFault
not_replayed (replay.BadConfig bad) = BadHead bad.line
not_replayed replay.UnknownTenant = UnknownTenant
not_replayed replay.ClockTooGreat = ClockTooGreat

-- the fault of a refused extraction
abbrev pub not_extracted : PartRefusal → CliFault
not_extracted (part.BadConfig bad) = BadHead bad.line
not_extracted part.UnknownTenant = UnknownTenant

-- the fault of a refused migration
abbrev pub not_migrated : MigrationRefusal → CliFault
not_migrated (migration.BadConfig bad) = BadHead bad.line
not_migrated (migration.BadLine bad) = BadLine bad.fault bad.line

-- the fault of a service that left nothing: a thread could not be started
abbrev pub ended_serving_by : RequestError → CliFault
ended_serving_by request_error.OutOfMemory = OutOfMemory
ended_serving_by (request_error.Refused why) = ReadFault

-- the fault of words that clap refuses
pub record RefusesWords (error : Error) (fault : CliFault) : Type 0 where
  pub lack : kind_of error ≡ kind.OutOfMemory → fault ≡ OutOfMemory
  pub words : kind_of error ≢ kind.OutOfMemory → fault ≡ CommandLine error

-- the fault is of the command line
abbrev pub IsOfWords : CliFault → Type 0
IsOfWords (CommandLine error) = ⊤
IsOfWords NoText = ⊤
IsOfWords other = ⊥
