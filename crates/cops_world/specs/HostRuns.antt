-- The replies in a run of events of tenants that come and go.
use Rattle.std.specs.Prelude.{◌≡◌, ℕ, List, [], ◌∷◌, length, map, IsTrue, Option, Some, None}
use Rattle.cops_types.specs.declared.configs.Config.{Config}
use Rattle.cops_types.specs.declared.configs.Tenant.{Tenant}
use Rattle.cops_types.specs.declared.faults.Fault.{Fault}
use Rattle.cops_types.specs.declared.faults.Fault.TheVariants.{UnknownTenant}
use Rattle.cops_types.specs.HeadLines.{is_tenant}
use Rattle.cops_types.specs.OpenSlots.{admission_refusal, begun_with, open_at}
use Rattle.cops_model.specs.declared.acts.Act.{Act}
use Rattle.cops_script.specs.Lives.{of_lives, with_all_lives}
use Rattle.cops_script.specs.Said.{HostDeed, Admits, Closes, Refuses, Said, OfHost, Acts, tenants_after}
use Rattle.cops_world.specs.declared.host_runs.Doing.{Doing}
use Rattle.cops_world.specs.declared.host_runs.Doing.TheVariants.{Own, Admit, Close}
use Rattle.cops_world.specs.declared.host_runs.HostEvent.{HostEvent}
use Rattle.cops_world.specs.declared.host_runs.LifeReply.{LifeReply}
use Rattle.cops_world.specs.declared.host_runs.LifeReply.TheVariants as reply
use Rattle.cops_script.specs.Answers.{Answer, ToHost, ToTenant}
use Rattle.cops_script.specs.Script.{answers_of}
use Rattle.cops_script.specs.ScriptRuns.{AreAnswered, AreSpared, heard}

-- who is admitted is within the limits that a head sets
abbrev pub IsWithin : Doing → Type 0
IsWithin (Own act) = Unit {0}
IsWithin (Admit tenant) = IsTrue (is_tenant tenant)
IsWithin Close = Unit {0}

abbrev pub IsWithinLimits : HostEvent → Type 0
IsWithinLimits event = IsWithin event.doing

-- ---- what an event says while these tenants are open

abbrev pub admits_unless : ℕ → Tenant → Option Fault → HostDeed
admits_unless slot tenant None = Admits slot tenant
admits_unless slot tenant (Some fault) = Refuses fault

abbrev pub admits_at : List (Option Tenant) → ℕ → Tenant → HostDeed
admits_at tenants slot tenant = admits_unless slot tenant (admission_refusal tenants slot tenant)

abbrev pub closes_at : ℕ → Option Tenant → HostDeed
closes_at slot None = Refuses UnknownTenant
closes_at slot (Some tenant) = Closes slot tenant.name

abbrev pub acts_at : ℕ → Act → Option Tenant → Said
acts_at slot act None = OfHost (Refuses UnknownTenant)
acts_at slot act (Some tenant) = Acts (record { slot = slot; act = act })

abbrev pub said_doing : List (Option Tenant) → ℕ → Doing → Said
said_doing tenants slot (Own act) = acts_at slot act (open_at slot tenants)
said_doing tenants slot (Admit tenant) = OfHost (admits_at tenants slot tenant)
said_doing tenants slot Close = OfHost (closes_at slot (open_at slot tenants))

abbrev pub said_of : List (Option Tenant) → HostEvent → Said
said_of tenants event = said_doing tenants event.slot event.doing

-- ---- one event after another

-- as they were heard
abbrev pub said_heard : List (Option Tenant) → List HostEvent → List Answer → List Said
said_heard tenants [] told = []
said_heard tenants (event ∷ events) [] = []
said_heard tenants (event ∷ events) (answer ∷ told) =
    let said = heard (said_of tenants event) answer in said ∷ said_heard (tenants_after tenants said) events told

abbrev pub said_after_head : Config → List HostEvent → List Answer → List Said
said_after_head config events told = said_heard (begun_with config.tenants) events told

-- ---- replies

-- a reply, as an answer to this number
abbrev pub answer_at : ℕ → LifeReply → Answer
answer_at number (reply.ToHost told) = ToHost told
answer_at number (reply.ToTenant told) = ToTenant number told

abbrev pub reply_of : Answer → LifeReply
reply_of (ToHost told) = reply.ToHost told
reply_of (ToTenant number told) = reply.ToTenant told

-- The replies are answers to the lives of the run, which are the tenants of the theorem. If none is out of memory, they are those of
-- the definition.
pub record TellsLives (config : Config) (events : List HostEvent) (replies : List LifeReply) : Type 0 where
  pub told : List Answer
  pub each : length told ≡ length events
  pub replies_are : replies ≡ map reply_of told
  pub answered :
      let said = said_after_head config events told in AreAnswered (with_all_lives config said) (of_lives config said) told
  pub right : AreSpared told → let said = said_after_head config events told in told ≡ answers_of (with_all_lives config said) (of_lives config said)
