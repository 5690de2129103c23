-- What an act leaves of its tenant's cluster if memory ran out.
use Rattle.std.specs.Prelude.{◌≡◌, ◌⊎◌, ℕ, ◌+◌, Bool, true, false, nat_lt, zero, suc, List, length, Option, Some, None, IsTrue, slice_index_or}
use Rattle.cops_types.specs.declared.contexts.ReadParts.{ReadParts as Read}
use Rattle.cops_types.specs.TenantConfig.{TenantConfig}
use Rattle.cops_model.specs.declared.calls.NodeId.{NodeId}
use Rattle.cops_model.specs.Log.{Call, Directed, LogStep, Replied, replies_of}
use Rattle.cops_model.specs.Place.{node_number}
use Rattle.cops_model.specs.SoloNode.{new_node}
use Rattle.cops_model.specs.declared.requests.Progress.TheVariants as session_progress
use Rattle.cops_model.specs.Request.{Fetch, Request, attempt_of, next, values_or_full}
use Rattle.cops_model.specs.Session.{Running, Session, has_restarted, moment_at, progress, request_of}
use Rattle.cops_model.specs.Carrier.{carrier_next}
use Rattle.cops_model.specs.declared.acts.Act.{Act}
use Rattle.cops_model.specs.declared.acts.Act.TheVariants.{Delete, Step, Done}
use Rattle.cops_model.specs.declared.replies.Reply.{Reply}
use Rattle.cops_model.specs.declared.replies.Reply.TheVariants.{Refused}
use Rattle.cops_model.specs.Cluster.{Actor, OfCarrier, OfSession, SoloCluster, actor_step, call_node, cluster_step, find_actor, goes_on, most_steps, with_actor, without_actor}

-- ---- the last step of an act

-- the audit of the node has room for a call: a full one refuses it, whatever memory there is
abbrev pub has_room : TenantConfig → NodeId → SoloCluster → Bool
has_room config id cluster = nat_lt (length (slice_index_or cluster.nodes (node_number config.shards id) (new_node config.data_centres)).trail) config.quota.audit

-- the reply to this step completes a round of a transaction: the second round follows, or the reads are the answer
pub record EndsRound (config : TenantConfig) (request : Request) (keys : List (List ℕ)) (log : List LogStep) (step : LogStep) : Type 0 where
  pub same_attempt : has_restarted (Fetch keys) log step ≡ false
  pub is_read : ((progress config request log step ≡ session_progress.Working) × (length (replies_of (attempt_of (Fetch keys) log).steps) + 1 ≡ length keys))
      ⊎ ((reads : List Read) × (progress config request log step ≡ session_progress.Done (values_or_full config.quota.deps request.obs reads)))

-- the session without its request, at this timestamp; its contexts stay the same
abbrev pub request_dropped : ℕ → Session → Session
request_dropped moment session = record session { moment = moment; running = None }

-- the session's request is over, at this timestamp
abbrev pub without_request : List ℕ → ℕ → Session → SoloCluster → SoloCluster
without_request name moment session cluster = with_actor name (OfSession (request_dropped (moment_at moment session) session)) cluster

-- the reply to the step is the last of a round of a get transaction
abbrev pub IsLastRead : TenantConfig → Session → Running → LogStep → Type 0
IsLastRead config session running step = (keys : List (List ℕ)) × (running.action ≡ Fetch keys) × EndsRound config (request_of session running) keys running.log step

-- a session's step stopped at its call: either no node changed, or the node took its turn and its reply is such a last read
pub record SessionStops (config : TenantConfig) (name : List ℕ) (moment : ℕ) (session : Session) (before after : SoloCluster) : Type 0 where
  pub running : Running
  pub directed : Directed
  pub runs : session.running ≡ Some running
  pub calls : next config (request_of session running) running.log (moment_at moment session) ≡ Call directed
  pub left :
      let turn = call_node config directed.node (moment_at moment session) directed.call before in
      (IsTrue (has_room config directed.node before) × (after ≡ without_request name moment session before))
      ⊎ (IsLastRead config session running (record { moment = moment_at moment session; outcome = Replied turn.reply }) × (after ≡ without_request name moment session turn.after))

-- the step of an actor stopped; a carrier stopped where it was to make a call: it is gone, and no node was changed
abbrev pub ActorStops : TenantConfig → List ℕ → ℕ → Option Actor → SoloCluster → SoloCluster → Type 0
ActorStops config name moment (Some (OfSession session)) before after = SessionStops config name moment session before after
ActorStops config name moment (Some (OfCarrier carrier)) before after =
    (directed : Directed) × (carrier_next config.shards carrier.stream carrier.log ≡ Call directed) × IsTrue (has_room config directed.node before) × (after ≡ without_actor name before)
ActorStops config name moment None before after = ⊥

abbrev pub StepStops : TenantConfig → List ℕ → ℕ → SoloCluster → SoloCluster → Type 0
StepStops config name moment before after = ActorStops config name moment (find_actor name before) before after

-- steps at one timestamp, at most `more` after the first: steps by the definition after which the actor goes on, then one that stopped
abbrev pub StepsStop : ℕ → TenantConfig → List ℕ → ℕ → SoloCluster → SoloCluster → Type 0
StepsStop zero config name moment before after = StepStops config name moment before after
StepsStop (suc more) config name moment before after =
    let turn = actor_step config name moment before in
    StepStops config name moment before after ⊎ ((goes_on turn.reply ≡ true) × StepsStop more config name moment turn.after after)

-- ---- acts

abbrev pub is_refusal : Reply → Bool
is_refusal (Refused fault) = true
is_refusal reply = false

-- An act changes nothing, unless it takes steps, of which the last stopped. A deletion needs no memory, and neither does a refusal.
abbrev pub Lacks : TenantConfig → Act → SoloCluster → SoloCluster → Type 0
Lacks config (Delete name number) before after = ⊥
Lacks config (Step name moment) before after = StepStops config name moment before after
Lacks config (Done name moment) before after = StepsStop (most_steps config) config name moment before after
Lacks config act before after = (is_refusal (cluster_step config act before).reply ≡ false) × (after ≡ before)
