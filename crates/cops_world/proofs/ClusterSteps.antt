-- The step of an actor, at nodes that take the definition's turns, is the step of the cluster.
use Rattle.std.proofs.Common.{◌≡◌, ◌⊎◌, ℕ, false, inl, inr, List, refl, sym, ◌∙◌, ap, subst, max, true≢false}
use Rattle.std.specs.Prelude.{IsFalse, Option, Some, None, Result, Ok, Err}
use Rattle.std.specs.declared.alloc.AllocError.{AllocError}
use Rattle.cops_types.specs.declared.faults.Fault.TheVariants.{OutOfMemory}
use Rattle.cops_types.specs.TenantConfig.{TenantConfig}
use Rattle.cops_model.specs.declared.calls.NodeCall.{NodeCall}
use Rattle.cops_model.specs.declared.calls.NodeId.{NodeId}
use Rattle.cops_model.specs.declared.calls.NodeReply.{NodeReply}
use Rattle.cops_model.specs.Log.{LogStep, Late, Replied, Directed, Next, Call, Restart, Ended}
use Rattle.cops_model.specs.SoloNode.{SoloNode}
use Rattle.cops_model.specs.declared.requests.Answer.{Answer}
use Rattle.cops_model.specs.declared.requests.Answer.TheVariants as answer
use Rattle.cops_model.specs.declared.requests.Progress.{Progress}
use Rattle.cops_model.specs.declared.requests.Progress.TheVariants as session_progress
use Rattle.cops_session.specs.Kept.{KeptSession}
use Rattle.cops_model.specs.Request.{next}
use Rattle.cops_model.specs.Session.{Session, Running, request_of, moment_at, session_after}
use Rattle.cops_model.specs.Session as session
use Rattle.cops_session.specs.SessionStands.{SessionStandsFor}
use Rattle.cops_session.specs.Stepping.{DoesNext, HasStepped, told_shown}
use Rattle.cops_session.proofs.StepLaws.{as_told}
use Rattle.cops_model.specs.declared.deliveries.Delivery.TheVariants as delivery
use Rattle.cops_model.specs.declared.deliveries.Progress.{Progress as CarrierProgress}
use Rattle.cops_model.specs.declared.deliveries.Progress.TheVariants as carrying
use Rattle.cops_model.specs.Carrier.{Carrier, carrier_after}
use Rattle.cops_model.specs.Carrier as carrier
use Rattle.cops_repl.specs.Stands.{KeptCarrier, StandsIfWorking, is_done, told_progress}
use Rattle.cops_model.specs.declared.replies.Reply.{Reply}
use Rattle.cops_model.specs.declared.replies.Reply.TheVariants.{Refused}
use Rattle.cops_model.specs.Cluster.{ActEffect, Actor, OfCarrier, OfSession, SoloCluster, actor_step, call_node, carrier_does, carrier_stepped, find_actor, reply_of_progress, request_does, running_step, session_stepped, step_of, with_actor, without_actor}
use Rattle.cops_model.specs.Events.{is_out_of_memory}
use Rattle.cops_world.specs.declared.actors.Actor.{Actor as Kept}
use Rattle.cops_world.specs.declared.actors.Actor.TheVariants as kept
use Rattle.cops_script.specs.Acting.{told_act}
use Rattle.cops_world.specs.ActorsStand.{ActorSteps, CarrierSteps, SessionSteps, NodesTurn, IsAfter, StepsCluster, answer_carried, answer_shown, reply_of_carrying, Stepped}
use Rattle.cops_world.specs.Actors.{HaveDistinctNames}
use Rattle.cops_world.proofs.ActorMoves.{with_actor-same}
use Rattle.cops_session.proofs.RefusedRequests.{request_refused}
use Rattle.cops_world.proofs.RefusedCarriers.{carrier_refused}

not_spared : (reply : Reply) → IsFalse (is_out_of_memory reply) → reply ≡ Refused OutOfMemory → ⊥
not_spared reply spared is = true≢false (ap is_out_of_memory (sym is) ∙ spared)

-- what a step is told, as its reply
pub told_of_shown : (told : Result Progress AllocError) → told_act (answer_shown told) ≡ reply_of_progress (told_shown told)
told_of_shown (Ok shown) = refl
told_of_shown (Err error) = refl

pub told_of_carried : (told : Result CarrierProgress AllocError) → told_act (answer_carried told) ≡ reply_of_carrying (told_progress told)
told_of_carried (Ok shown) = refl
told_of_carried (Err error) = refl

module _ (config : TenantConfig) (name : List ℕ) (before : SoloCluster) (nodes : List SoloNode) (moment : ℕ) where
  abbrev AtNodes : ℕ → NodeId → NodeCall → NodeReply → Type 0
  AtNodes = NodesTurn config before.nodes nodes

  -- ---- sessions

  module _ (s : Session) (running : Running) (kept_after : KeptSession) (answered : Result Reply AllocError) (spared : IsFalse (is_out_of_memory (told_act answered))) where
    abbrev Took : ActEffect → Type 0
    Took turn = StepsCluster config name before nodes turn (record { answered = answered; is_over = false }) (kept.OfSession kept_after)

    -- the session took this step, and its nodes are these
    session_took : (step : LogStep) (shown : Progress) (after : SoloCluster) → after.actors ≡ before.actors → after.nodes ≡ nodes → told_act answered ≡ reply_of_progress shown → HasStepped config s running step shown kept_after →
        Took (session_stepped config name s running step after)
    session_took step shown after same_actors same_nodes reply_is stepped = by_shown stepped.shown_is
      where
        by_shown : (shown ≡ session.progress config (request_of s running) running.log step) ⊎ (shown ≡ session_progress.Done (answer.Refused OutOfMemory)) → Took (session_stepped config name s running step after)
        by_shown (inr lack) = absurd (not_spared (told_act answered) spared (reply_is ∙ ap reply_of_progress lack))
        by_shown (inl is) = record {
          reply_is = reply_is ∙ ap reply_of_progress is;
          nodes_are = same_nodes;
          actors_are = (
            OfSession (session_after s running step (session.progress config (request_of s running) running.log step)),
            ap (λ actors. (with_actor name (OfSession (session_after s running step (session.progress config (request_of s running) running.log step))) (record before { actors = actors })).actors) same_actors,
            subst (λ p. SessionStandsFor config kept_after (session_after s running step p)) is stepped.stands,
          );
        }

    session_does_next : (at : ℕ) (shown : Progress) (n : Next Answer) → next config (request_of s running) running.log at ≡ n → told_act answered ≡ reply_of_progress shown →
        DoesNext (AtNodes at) (nodes ≡ before.nodes) config s running at shown kept_after n → Took (request_does config name s running at before n)
    session_does_next at shown (Call d) comes reply_is (replied, made, stepped) = by_turn made
      where
        by_turn : AtNodes at d.node d.call replied → Took (request_does config name s running at before (Call d))
        by_turn (inl (lack, room, stays)) =
            let refused : session.progress config (request_of s running) running.log (record { moment = at; outcome = Replied replied }) ≡ session_progress.Done (answer.Refused OutOfMemory) =
            ap (λ r. session.progress config (request_of s running) running.log (record { moment = at; outcome = Replied r })) lack ∙ request_refused config (request_of s running) running.log at at d OutOfMemory comes in
            let lacks : shown ≡ session_progress.Done (answer.Refused OutOfMemory) = elim stepped.shown_is [ inl is ↦ is ∙ refused | inr is ↦ is ] in
            absurd (not_spared (told_act answered) spared (reply_is ∙ ap reply_of_progress lacks))
        by_turn (inr (is, moved)) =
            let turn = call_node config d.node at d.call before in
            session_took (record { moment = at; outcome = Replied turn.reply }) shown turn.after refl (sym moved) reply_is
            (subst (λ r. HasStepped config s running (record { moment = at; outcome = Replied r }) shown kept_after) is stepped)
    session_does_next at shown Restart comes reply_is (stays, stepped) = session_took (record { moment = at; outcome = Late }) shown before refl (sym stays) reply_is stepped
    session_does_next at shown (Ended a) comes reply_is none = absurd none

  session_turn : (s : Session) (kept_after : KeptSession) (answered : Result Reply AllocError) → HaveDistinctNames before.actors → find_actor name before ≡ Some (OfSession s) → IsFalse (is_out_of_memory (told_act answered)) → (running : Option Running) →
      SessionSteps AtNodes (nodes ≡ before.nodes) config s moment answered kept_after running →
      StepsCluster config name before nodes (running_step config name s moment before running) (record { answered = answered; is_over = false }) (kept.OfSession kept_after)
  session_turn s kept_after answered distinct found spared None (is, stays, stands) = record {
    reply_is = ap told_act is;
    nodes_are = sym stays;
    actors_are = (OfSession s, sym (with_actor-same name (OfSession s) before distinct found), stands);
  }
  session_turn s kept_after answered distinct found spared (Some running) (told, is, tells) =
      let at = moment_at moment s in
      let comes = next config (request_of s running) running.log at in
      session_does_next s running kept_after answered spared at (told_shown told) comes refl (ap told_act is ∙ told_of_shown told)
      (as_told (AtNodes at) (nodes ≡ before.nodes) config s running at told kept_after comes tells)

  -- ---- carriers

  carrier_turn : (c : Carrier) (kept_after : KeptCarrier) (stepped : Stepped) → IsFalse (is_out_of_memory (told_act stepped.answered)) → CarrierSteps AtNodes config c moment stepped kept_after →
      StepsCluster config name before nodes (carrier_does config name c (max c.moment moment) before (carrier.carrier_next config.shards c.stream c.log)) stepped (kept.OfCarrier kept_after)
  carrier_turn c kept_after stepped spared p = by_turn p.made
    where
      at : ℕ
      at = max c.moment moment

      d : Directed
      d = p.directed

      TookOver : ActEffect → Type 0
      TookOver turn = StepsCluster config name before nodes turn stepped (kept.OfCarrier kept_after)

      reply_told : told_act stepped.answered ≡ reply_of_carrying (told_progress p.told)
      reply_told = ap told_act p.answer_is ∙ told_of_carried p.told

      step_of_reply : NodeReply → LogStep
      step_of_reply reply = record { moment = at; outcome = Replied reply }

      by_shown : (reply : NodeReply) (after : SoloCluster) (shown : CarrierProgress) → after.actors ≡ before.actors → after.nodes ≡ nodes → told_act stepped.answered ≡ reply_of_carrying shown → stepped.is_over ≡ is_done shown →
          StandsIfWorking config.shards kept_after (carrier_after c (step_of_reply reply)) shown → TookOver (carrier_stepped name (carrier_after c (step_of_reply reply)) shown after)
      by_shown reply after carrying.Working same_actors same_nodes reply_is over_is stands = record {
        reply_is = reply_is;
        nodes_are = same_nodes;
        actors_are = subst (IsAfter config name before (with_actor name (OfCarrier (carrier_after c (step_of_reply reply))) after) (kept.OfCarrier kept_after)) (sym over_is)
            (OfCarrier (carrier_after c (step_of_reply reply)), ap (λ actors. (with_actor name (OfCarrier (carrier_after c (step_of_reply reply))) (record before { actors = actors })).actors) same_actors, stands);
      }
      by_shown reply after (carrying.Done ending) same_actors same_nodes reply_is over_is stands = record {
        reply_is = reply_is;
        nodes_are = same_nodes;
        actors_are = subst (IsAfter config name before (without_actor name after) (kept.OfCarrier kept_after)) (sym over_is)
            (ap (λ actors. (without_actor name (record before { actors = actors })).actors) same_actors);
      }

      whole_turn : carrier_does config name c at before (carrier.carrier_next config.shards c.stream c.log) ≡ carrier_does config name c at before (Call d)
      whole_turn = ap (carrier_does config name c at before) p.step_of.asked

      by_turn : AtNodes at d.node d.call p.reply → TookOver (carrier_does config name c at before (carrier.carrier_next config.shards c.stream c.log))
      by_turn (inl (lack, room, stays)) =
          let ends : carrier.delivery_progress config.shards c (step_of_reply p.reply) ≡ carrying.Done (delivery.Refused OutOfMemory) =
          ap (λ r. carrier.delivery_progress config.shards c (step_of_reply r)) lack ∙ ap carrier.progress_of (carrier_refused config.shards c.stream c.log d at OutOfMemory p.step_of.asked) in
          absurd (not_spared (told_act stepped.answered) spared (reply_told ∙ ap reply_of_carrying (p.step_of.shown ∙ ends)))
      by_turn (inr (is, moved)) =
          let turn = call_node config d.node at d.call before in
          subst TookOver (sym whole_turn)
          (subst (λ r. TookOver (carrier_stepped name (carrier_after c (step_of_reply r)) (carrier.delivery_progress config.shards c (step_of_reply r)) turn.after)) is
          (subst (λ shown. TookOver (carrier_stepped name (carrier_after c (step_of_reply p.reply)) shown turn.after)) p.step_of.shown
          (by_shown p.reply turn.after (told_progress p.told) refl (sym moved) reply_told p.over_is p.step_of.stands)))

  -- ---- any actor

  pub actor_turn : (solo : Actor) (kept_after : Kept) (stepped : Stepped) → HaveDistinctNames before.actors → find_actor name before ≡ Some solo → IsFalse (is_out_of_memory (told_act stepped.answered)) →
      ActorSteps AtNodes (nodes ≡ before.nodes) config moment stepped solo kept_after → StepsCluster config name before nodes (actor_step config name moment before) stepped kept_after
  actor_turn (OfSession s) (kept.OfSession after) stepped distinct found spared (steps, lasts) =
      subst (λ over. StepsCluster config name before nodes (actor_step config name moment before) (record { answered = stepped.answered; is_over = over }) (kept.OfSession after)) (sym lasts)
      (subst (λ o. StepsCluster config name before nodes (step_of config name moment before o) (record { answered = stepped.answered; is_over = false }) (kept.OfSession after)) (sym found)
      (session_turn s after stepped.answered distinct found spared s.running steps))
  actor_turn (OfCarrier c) (kept.OfCarrier after) stepped distinct found spared steps =
      subst (λ o. StepsCluster config name before nodes (step_of config name moment before o) stepped (kept.OfCarrier after)) (sym found) (carrier_turn c after stepped spared steps)
  actor_turn (OfSession s) (kept.OfCarrier after) stepped distinct found spared steps = absurd steps
  actor_turn (OfCarrier c) (kept.OfSession after) stepped distinct found spared steps = absurd steps
