-- A step for which there was no memory: what it leaves of the cluster.
use Rattle.std.proofs.Common.{◌≡◌, ◌⊎◌, ◌++◌, ℕ, Bool, true, false, cond, inl, inr, List, [], ◌∷◌, append-nil, refl, sym, ◌∙◌, ap, subst, max, true≢false}
use Rattle.std.specs.Prelude.{Option, Some, None, Result, ◌==◌, slice_index_or, IsTrue}
use Rattle.std.specs.declared.alloc.AllocError.{AllocError}
use Rattle.cops_types.specs.declared.faults.Fault.{Fault}
use Rattle.cops_types.specs.declared.faults.Fault.TheVariants.{OutOfMemory}
use Rattle.cops_types.specs.TenantConfig.{TenantConfig}
use Rattle.cops_model.specs.declared.calls.NodeCall.{NodeCall}
use Rattle.cops_model.specs.declared.calls.NodeId.{NodeId}
use Rattle.cops_model.specs.declared.calls.NodeReply.{NodeReply}
use Rattle.cops_model.specs.declared.calls.NodeReply.TheVariants as node_reply
use Rattle.cops_model.specs.Log.{LogStep, Late, Replied, Directed, Next, Call, Restart, Ended}
use Rattle.cops_model.specs.Place.{node_number, place_of}
use Rattle.cops_model.specs.SoloNode.{SoloNode, new_node}
use Rattle.cops_model.specs.declared.requests.Answer.{Answer}
use Rattle.cops_model.specs.declared.requests.Answer.TheVariants as answer
use Rattle.cops_model.specs.declared.requests.Progress.{Progress}
use Rattle.cops_model.specs.declared.requests.Progress.TheVariants as session_progress
use Rattle.cops_session.specs.Kept.{KeptSession}
use Rattle.cops_model.specs.Request.{Action, Fetch, Write, next}
use Rattle.cops_model.specs.Session.{OpenContext, Running, Session, context_extended, has_restarted, moment_after, moment_at, raised, request_of, session_after}
use Rattle.cops_session.specs.SessionStands.{SessionStandsFor}
use Rattle.cops_session.specs.Stepping.{DoesNext, HasStepped, told_shown}
use Rattle.cops_session.proofs.StepLaws.{as_told}
use Rattle.cops_model.specs.Lacks.{EndsRound, ActorStops, IsLastRead, SessionStops, StepStops, has_room, without_request}
use Rattle.cops_session.specs.Wants.{WantsMemory}
use Rattle.cops_model.specs.declared.deliveries.Progress.{Progress as CarrierProgress}
use Rattle.cops_model.specs.declared.deliveries.Progress.TheVariants as carrying
use Rattle.cops_model.specs.Carrier.{Carrier}
use Rattle.cops_repl.specs.Stands.{KeptCarrier, is_done, told_progress}
use Rattle.cops_model.specs.declared.replies.Reply.{Reply}
use Rattle.cops_model.specs.declared.replies.Reply.TheVariants.{Refused}
use Rattle.cops_model.specs.Cluster.{Actor, OfCarrier, OfSession, SoloCluster, call_node, find_actor, reply_of_progress, without_actor}
use Rattle.cops_model.specs.Events.{is_out_of_memory}
use Rattle.cops_world.specs.declared.actors.Actor.{Actor as Kept}
use Rattle.cops_world.specs.declared.actors.Actor.TheVariants as kept
use Rattle.cops_world.specs.ActorsStand.{ActorSteps, CarrierSteps, SessionSteps, NodesTurn, IsAfter, StepsCluster, reply_of_carrying, Stepped}
use Rattle.cops_script.specs.Acting.{told_act}
use Rattle.cops_world.proofs.ClusterSteps.{told_of_carried, told_of_shown}
use Rattle.cops_session.proofs.SparedNodes.{lacks, node_spared}
use Rattle.cops_session.proofs.StoppedRequests.{ended_is, last_read, late_stops, unmoved, unraised}
use Rattle.cops_world.proofs.SparedCalls.{carrier_spared}

-- ---- what shows that memory was refused

pub fault_of_lack : (fault : Fault) → is_out_of_memory (Refused fault) ≡ true → fault ≡ OutOfMemory
fault_of_lack OutOfMemory lack = refl
fault_of_lack fault lack = absurd (true≢false (sym lack))

shown_of_lack : (shown : Progress) → is_out_of_memory (reply_of_progress shown) ≡ true → shown ≡ session_progress.Done (answer.Refused OutOfMemory)
shown_of_lack session_progress.Working lack = absurd (true≢false (sym lack))
shown_of_lack (session_progress.Restarted times) lack = absurd (true≢false (sym lack))
shown_of_lack (session_progress.Done (answer.Stored pair)) lack = absurd (true≢false (sym lack))
shown_of_lack (session_progress.Done (answer.Values reads)) lack = absurd (true≢false (sym lack))
shown_of_lack (session_progress.Done (answer.Refused fault)) lack = ap (λ f. session_progress.Done (answer.Refused f)) (fault_of_lack fault lack)

carrying_of_lack : (shown : CarrierProgress) → is_out_of_memory (reply_of_carrying shown) ≡ true → is_done shown ≡ true
carrying_of_lack carrying.Working lack = absurd (true≢false (sym lack))
carrying_of_lack (carrying.Done ending) lack = refl

-- ---- a request that ended without memory

module _ (config : TenantConfig) (name : List ℕ) (before : SoloCluster) (nodes : List SoloNode) (moment : ℕ) where
  abbrev AtNodes : ℕ → NodeId → NodeCall → NodeReply → Type 0
  AtNodes = NodesTurn config before.nodes nodes

  -- ---- sessions

  module _ (s : Session) (running : Running) (kept_after : KeptSession) (answered : Result Reply AllocError) (runs : s.running ≡ Some running) (lack : is_out_of_memory (told_act answered) ≡ true) where
    abbrev at : ℕ
    at = moment_at moment s

    abbrev step : NodeReply → LogStep
    step replied = record { moment = at; outcome = Replied replied }

    -- the cluster that is left at these nodes
    abbrev left : SoloCluster
    left = without_request name moment s (record before { nodes = nodes })

    abbrev Stopped : Type 0
    Stopped = (after : SoloCluster) × SessionStops config name moment s before after
        × StepsCluster config name before nodes (record { reply = told_act answered; after = after }) (record { answered = answered; is_over = false }) (kept.OfSession kept_after)

    abbrev turn : Directed → record { reply : NodeReply; after : SoloCluster }
    turn d = call_node config d.node at d.call before

    -- the session has ended so in its cluster
    stops : (d : Directed) (shown : Progress) (replied : NodeReply) → next config (request_of s running) running.log at ≡ Call d → shown ≡ session_progress.Done (answer.Refused OutOfMemory) →
        HasStepped config s running (step replied) shown kept_after → moment_after running (step replied) ≡ at →
        (IsTrue (has_room config d.node before) × (left ≡ without_request name moment s before)) ⊎ (IsLastRead config s running (step (turn d).reply) × (left ≡ without_request name moment s (turn d).after)) → Stopped
    stops d shown replied calls ends stepped same_moment is_left = (
      left,
      record { running = running; directed = d; runs = runs; calls = calls; left = is_left },
      record {
        reply_is = refl;
        nodes_are = refl;
        actors_are = (
          OfSession (record s { moment = at; running = None }),
          refl,
          subst (SessionStandsFor config kept_after) (ap (session_after s running (step replied)) ends ∙ ended_is config s running at (step replied) same_moment) stepped.stands,
        );
      },
    )

    request_stops : (shown : Progress) → told_act answered ≡ reply_of_progress shown → (n : Next Answer) → next config (request_of s running) running.log at ≡ n →
        DoesNext (AtNodes at) (nodes ≡ before.nodes) config s running at shown kept_after n → Stopped
    request_stops shown is (Call d) calls (replied, made, stepped) = by_turn made
      where
        ends : shown ≡ session_progress.Done (answer.Refused OutOfMemory)
        ends = shown_of_lack shown (ap is_out_of_memory (sym is) ∙ lack)

        by_turn : AtNodes at d.node d.call replied → Stopped
        by_turn (inl (refused, room, stays)) = stops d shown replied calls ends stepped (unmoved config s running at replied refused) (inl (room, ap (λ (ns : List SoloNode). without_request name moment s (record before { nodes = ns })) stays))
        by_turn (inr (turned, changed)) =
            let spared : lacks replied ≡ false = ap lacks turned ∙ node_spared (place_of config d.node) at d.call (slice_index_or before.nodes (node_number config.shards d.node) (new_node config.data_centres)) in
            let read = last_read config s running at running.action replied refl spared (stepped.wants ends) in
            stops d shown replied calls ends stepped (unraised config s running at read.0 replied read.1 read.2)
            (inr (subst (λ r. IsLastRead config s running (step r)) turned read, ap (λ (ns : List SoloNode). without_request name moment s (record before { nodes = ns })) changed))
    request_stops shown is Restart calls (stays, stepped) = absurd (late_stops config s running at running.action (stepped.wants (shown_of_lack shown (ap is_out_of_memory (sym is) ∙ lack))))
    request_stops shown is (Ended a) calls none = absurd none

  running_stops : (s : Session) (kept_after : KeptSession) (answered : Result Reply AllocError) → is_out_of_memory (told_act answered) ≡ true → (running : Option Running) → s.running ≡ running →
      SessionSteps AtNodes (nodes ≡ before.nodes) config s moment answered kept_after running →
      (after : SoloCluster) × SessionStops config name moment s before after
      × StepsCluster config name before nodes (record { reply = told_act answered; after = after }) (record { answered = answered; is_over = false }) (kept.OfSession kept_after)
  running_stops s kept_after answered lack None runs (is, stays, stands) = absurd (true≢false (sym lack ∙ ap (λ a. is_out_of_memory (told_act a)) is))
  running_stops s kept_after answered lack (Some running) runs (told, is, tells) =
      let at = moment_at moment s in
      let comes = next config (request_of s running) running.log at in
      request_stops s running kept_after answered runs lack (told_shown told) (ap told_act is ∙ told_of_shown told) comes refl
      (as_told (AtNodes at) (nodes ≡ before.nodes) config s running at told kept_after comes tells)

  -- ---- carriers

  carrier_stops : (c : Carrier) (kept_after : KeptCarrier) (stepped : Stepped) → is_out_of_memory (told_act stepped.answered) ≡ true → CarrierSteps AtNodes config c moment stepped kept_after →
      (after : SoloCluster) × ActorStops config name moment (Some (OfCarrier c)) before after
      × StepsCluster config name before nodes (record { reply = told_act stepped.answered; after = after }) stepped (kept.OfCarrier kept_after)
  carrier_stops c kept_after stepped lack p =
      let over : stepped.is_over ≡ true = p.over_is ∙ carrying_of_lack (told_progress p.told) (ap is_out_of_memory (sym reply_told) ∙ lack) in
      let after : SoloCluster = record { nodes = nodes; actors = (without_actor name before).actors } in (
        after,
        (let stayed = by_turn p.made in (d, p.step_of.asked, stayed.0, ap (λ (ns : List SoloNode). record { nodes = ns; actors = (without_actor name before).actors }) stayed.1)),
        record { reply_is = refl; nodes_are = refl; actors_are = subst (IsAfter config name before after (kept.OfCarrier kept_after)) (sym over) refl },
      )
    where
      at : ℕ
      at = max c.moment moment

      reply_told : told_act stepped.answered ≡ reply_of_carrying (told_progress p.told)
      reply_told = ap told_act p.answer_is ∙ told_of_carried p.told

      d : Directed
      d = p.directed

      by_turn : AtNodes at d.node d.call p.reply → IsTrue (has_room config d.node before) × (nodes ≡ before.nodes)
      by_turn (inl (refused, room, stays)) = (room, stays)
      by_turn (inr (turned, changed)) =
          let spared : lacks p.reply ≡ false = ap lacks turned ∙ node_spared (place_of config d.node) at d.call (slice_index_or before.nodes (node_number config.shards d.node) (new_node config.data_centres)) in
          absurd (true≢false (sym lack ∙ ap is_out_of_memory reply_told ∙ ap (λ shown. is_out_of_memory (reply_of_carrying shown)) p.step_of.shown
          ∙ carrier_spared config.shards c.stream c.log d at p.reply p.step_of.asked spared))

  -- ---- any actor

  pub actor_stops : (solo : Actor) (kept_after : Kept) (stepped : Stepped) → find_actor name before ≡ Some solo → is_out_of_memory (told_act stepped.answered) ≡ true →
      ActorSteps AtNodes (nodes ≡ before.nodes) config moment stepped solo kept_after →
      (after : SoloCluster) × StepStops config name moment before after × StepsCluster config name before nodes (record { reply = told_act stepped.answered; after = after }) stepped kept_after
  actor_stops solo kept_after stepped found lack steps =
      subst (λ o. (after : SoloCluster) × ActorStops config name moment o before after
      × StepsCluster config name before nodes (record { reply = told_act stepped.answered; after = after }) stepped kept_after) (sym found) (by_actor solo kept_after steps)
    where
      by_actor : (solo : Actor) (kept_after : Kept) → ActorSteps AtNodes (nodes ≡ before.nodes) config moment stepped solo kept_after →
          (after : SoloCluster) × ActorStops config name moment (Some solo) before after
          × StepsCluster config name before nodes (record { reply = told_act stepped.answered; after = after }) stepped kept_after
      by_actor (OfSession s) (kept.OfSession after) (steps, lasts) =
          subst (λ over. (left : SoloCluster) × SessionStops config name moment s before left
          × StepsCluster config name before nodes (record { reply = told_act stepped.answered; after = left }) (record { answered = stepped.answered; is_over = over }) (kept.OfSession after)) (sym lasts)
          (running_stops s after stepped.answered lack s.running refl steps)
      by_actor (OfCarrier c) (kept.OfCarrier after) steps = carrier_stops c after stepped lack steps
      by_actor (OfSession s) (kept.OfCarrier after) steps = absurd steps
      by_actor (OfCarrier c) (kept.OfSession after) steps = absurd steps
