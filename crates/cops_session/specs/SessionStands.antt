-- The session of the definitions that a session represents.
use Rattle.std.specs.Prelude.{◌≡◌, ℕ, ◌==◌, List, [], ◌∷◌, find, unwrap_or, Option, Some, None}
use Rattle.std.specs.Option.{option_map}
use Rattle.cops_types.specs.Context.{Observation, all_of, near_of}
use Rattle.cops_types.specs.TenantConfig.{TenantConfig}
use Rattle.cops_model.specs.Log.{LogStep}
use Rattle.cops_context.specs.Lists.{Lists, ListsStandFor}
use Rattle.cops_handles.specs.declared.tables.Open.{Open}
use Rattle.cops_session.specs.declared.ongoing.Ongoing.{Ongoing}
use Rattle.cops_session.specs.declared.ongoing.Work.{Work}
use Rattle.cops_session.specs.declared.ongoing.Work.TheVariants.{Put, Get}
use Rattle.cops_session.specs.declared.ongoing.PendingPut.{PendingPut}
use Rattle.cops_session.specs.declared.settings.Setting.{Setting}
use Rattle.cops_session.specs.Kept.{KeptSession}
use Rattle.cops_session.specs.Reading.{IsReading}
use Rattle.cops_model.specs.Request.{Request, Write, Fetch}
use Rattle.cops_model.specs.Session.{OpenContext, Running, Session, request_of}

-- the sizes and limits are those of the configuration
pub record IsSettingOf (config : TenantConfig) (setting : Setting) : Type 0 where
  pub data_centres : setting.data_centres ≡ config.data_centres
  pub shards : setting.shards ≡ config.shards
  pub trans_time : setting.trans_time ≡ config.trans_time
  pub restarts : setting.restarts ≡ config.restarts
  pub deps : setting.deps ≡ config.quota.deps

-- the same numbers in the same order, each context representing what it has seen
abbrev pub ContextsStandFor : List (Open Lists) → List OpenContext → Type 0
ContextsStandFor [] [] = Unit {0}
ContextsStandFor (row ∷ rows) (context ∷ contexts) = (row.number ≡ context.number) × ListsStandFor row.row context.obs × ContextsStandFor rows contexts
ContextsStandFor [] (context ∷ contexts) = ⊥
ContextsStandFor (row ∷ rows) [] = ⊥

-- what the context of a number has seen
abbrev pub obs_in : ℕ → List OpenContext → List Observation
obs_in number contexts = unwrap_or (option_map (λ c. c.obs) (find (λ c. c.number == number) contexts)) []

-- a put that has made no step, with the two lists of its context
pub record IsWriting (request : Request) (log : List LogStep) (writing : PendingPut) : Type 0 where
  pub action_is : request.action ≡ Write writing.key writing.value
  pub no_step : log ≡ []
  pub deps_are : writing.deps ≡ all_of request.obs
  pub near_are : writing.near ≡ near_of request.obs

-- a request that has no answer yet
abbrev pub WorkStandsFor : TenantConfig → Request → List LogStep → Work → Type 0
WorkStandsFor config request log (Put writing) = IsWriting request log writing
WorkStandsFor config request log (Get reading) = (keys : List (List ℕ)) × (request.action ≡ Fetch keys) × IsReading config request keys log reading

-- both run nothing, or the same request
abbrev pub RunningStandsFor : TenantConfig → Session → Option Ongoing → Option Running → Type 0
RunningStandsFor config session None None = Unit {0}
RunningStandsFor config session (Some ongoing) (Some running) =
    (ongoing.number ≡ running.number) × (ongoing.context ≡ running.context) × WorkStandsFor config (request_of session running) running.log ongoing.work
RunningStandsFor config session None (Some running) = ⊥
RunningStandsFor config session (Some ongoing) None = ⊥

pub record SessionStandsFor (config : TenantConfig) (kept : KeptSession) (session : Session) : Type 0 where
  pub setting_is : IsSettingOf config kept.setting
  pub dc_is : kept.setting.dc ≡ session.dc
  pub moment_is : kept.moment ≡ session.moment
  pub contexts_are : ContextsStandFor kept.contexts.rows session.contexts
  pub limit_is : kept.contexts.limit ≡ config.quota.contexts
  pub next_context_is : kept.contexts.next ≡ session.next_context
  pub next_request_is : kept.next_request ≡ session.next_request
  pub running_is : RunningStandsFor config session kept.running session.running
