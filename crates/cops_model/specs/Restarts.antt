-- Restarts: an attempt of a transaction ends in a restart only at a timestamp that is late for it.
use Rattle.std.specs.Prelude.{ℕ, Bool, true, false, ◌+◌, nat_lt, List, [], ◌∷◌, slice_get, zero, suc, Option, Some, None, if◌then◌else◌}
use Rattle.std.specs.List.{list_any}
use Rattle.std.specs.Option.{option_and_then, option_map, option_map_or}
use Rattle.cops_types.specs.declared.faults.Fault.TheVariants.{Overrun}
use Rattle.cops_types.specs.TenantConfig.{TenantConfig}
use Rattle.cops_model.specs.Request.{attempt_of}
use Rattle.cops_model.specs.Session.{Session, Running}
use Rattle.cops_model.specs.declared.acts.Act.{Act}
use Rattle.cops_model.specs.declared.acts.Act.TheVariants.{Step, Done, Collect}
use Rattle.cops_model.specs.declared.replies.Reply.{Reply}
use Rattle.cops_model.specs.declared.replies.Reply.TheVariants.{Restarted, Refused}
use Rattle.cops_model.specs.Cluster.{SoloCluster, find_session, actor_step, goes_on, most_steps}
use Rattle.cops_model.specs.Log.{LogStep}

-- the timestamp that an act passes
abbrev pub moment_in : Act → Option ℕ
moment_in (Step name moment) = Some moment
moment_in (Done name moment) = Some moment
moment_in (Collect dc shard moment) = Some moment
moment_in act = None

-- ---- the steps of an act

-- a step of the actor of this name, at this timestamp, from this cluster
pub record ActorStep : Type 0 where
  pub name : List ℕ
  pub moment : ℕ
  pub from : SoloCluster

-- the steps at one timestamp until the reply is neither working nor restarted; at most `more` after the first
abbrev pub steps_from : ℕ → TenantConfig → List ℕ → ℕ → SoloCluster → List ActorStep
steps_from zero config name moment cluster = record { name = name; moment = moment; from = cluster } ∷ []
steps_from (suc more) config name moment cluster =
    let turn = actor_step config name moment cluster in
    record { name = name; moment = moment; from = cluster } ∷ elim (goes_on turn.reply) [ true ↦ steps_from more config name moment turn.after | false ↦ [] ]

-- `step` is one step; `done` is as many as it takes
abbrev pub steps_of : TenantConfig → Act → SoloCluster → List ActorStep
steps_of config (Step name moment) cluster = steps_from 0 config name moment cluster
steps_of config (Done name moment) cluster = steps_from (most_steps config) config name moment cluster
steps_of config act cluster = []

-- ---- attempts

-- the attempt of a transaction ended: the transaction restarted, or used up its restarts
abbrev pub ends_attempt : Reply → Bool
ends_attempt (Restarted times) = true
ends_attempt (Refused Overrun) = true
ends_attempt reply = false

-- the timestamp of the first step of the attempt of the request that the session of this name runs
abbrev pub attempt_start : List ℕ → SoloCluster → Option ℕ
attempt_start name cluster =
    option_and_then (λ (r : Running). option_map (λ (first : LogStep). first.moment) (slice_get (attempt_of r.action r.log).steps 0))
    (option_and_then (λ (s : Session). s.running) (find_session name cluster))

-- a step ends an attempt only if one of the timestamps is past the attempt's start by more than `trans_time`
abbrev pub ends_when_due : TenantConfig → List ℕ → ActorStep → Bool
ends_when_due config moments step =
    if ends_attempt (actor_step config step.name step.moment step.from).reply
    then option_map_or (λ start. list_any (nat_lt (start + config.trans_time)) moments) (attempt_start step.name step.from) false
    else true
