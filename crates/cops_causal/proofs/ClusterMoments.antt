-- No timestamp of a cluster is past all those that were passed.
use Rattle.std.proofs.Common.{◌≡◌, ℕ, ◌+◌, ◌*◌, ◌≤◌, Bool, true, false, cond, List, [], ◌∷◌, ◌++◌, refl, sym, ◌∙◌, ap, subst, arith}
use Rattle.std.specs.Prelude.{Option, Some, None, filter_map, max, length}
use Rattle.std.specs.List.{AllByRecursion, cons_option}
use Rattle.cops_types.specs.declared.faults.Fault.{Fault}
use Rattle.cops_types.specs.TenantConfig.{TenantConfig}
use Rattle.cops_types.proofs.Elements.{Every-append, fold-push}
use Rattle.cops_model.specs.declared.calls.NodeCall.{NodeCall}
use Rattle.cops_model.specs.declared.calls.NodeCall.TheVariants as node_call
use Rattle.cops_model.specs.declared.calls.NodeId.{NodeId}
use Rattle.cops_model.specs.declared.calls.NodeReply.TheVariants.{Gone}
use Rattle.cops_model.specs.Log.{LogStep, Outcome, Late, Replied, Directed, Call}
use Rattle.cops_model.specs.Place.{node_number, place_of}
use Rattle.cops_model.specs.SoloNode.{SoloNode, new_node}
use Rattle.cops_model.specs.declared.requests.Progress.{Progress}
use Rattle.cops_model.specs.declared.requests.Progress.TheVariants as session_progress
use Rattle.cops_model.specs.Request.{Action, Write, Fetch, Attempt, begins_again, attempt_after, attempt_of}
use Rattle.cops_model.specs.Request as request
use Rattle.cops_model.specs.Session.{Session, Running, new_session, obs_of, context_created, context_deleted, request_begun, request_of, moment_at, raised, moment_after, has_restarted, session_after}
use Rattle.cops_model.specs.Session as session
use Rattle.cops_session.proofs.RequestReplies.{get-next, call_of}
use Rattle.cops_model.specs.Carrier.{new_carrier}
use Rattle.cops_model.specs.declared.acts.Act.{Act}
use Rattle.cops_model.specs.declared.acts.Act.TheVariants.{Open, Create, Delete, Put, Get, Show, Carry, Step, Done, Collect}
use Rattle.cops_model.specs.Cluster.{ActEffect, Actor, OfCarrier, OfSession, SoloCluster, actor_step, actor_steps, call_node, cluster_step, find_session, most_steps, new_cluster, on_session, unless_refused, with_actor, session_stepped}
use Rattle.cops_model.specs.Restarts.{moment_in}
use Rattle.cops_causal.proofs.ActorsKeep.{actor_found, session_actor, Stands, bare, carried_to, changed, joined}
use Rattle.cops_causal.proofs.NodeEffects.{node_of}
use Rattle.cops_causal.proofs.NodeMoments.{turn_moment, get_gone, call_leaves}
use Rattle.cops_causal.proofs.Past.{new_nodes}
use Rattle.cops_causal.proofs.ActorSteps.{as_session, by_step, by_steps}
use Rattle.cops_causal.proofs.RequestSteps.{only_runs, run}
use Rattle.cops_model.specs.Causal.{Traced}

-- the timestamps that acts pass
abbrev pub moments_in : List Act → List ℕ
moments_in acts = filter_map moment_in acts

-- ---- the words

-- no step of an attempt came before its first, and this timestamp is not before it
abbrev pub IsAscending : List LogStep → ℕ → Type 0
IsAscending [] now = Unit {0}
IsAscending (first ∷ steps) now = (first.moment ≤ now) × AllByRecursion (λ (s : LogStep). first.moment ≤ s.moment) (first ∷ steps)

abbrev pub IsActorWithin : ℕ → List ℕ → Actor → Type 0
IsActorWithin most name (OfSession s) = (s.moment ≤ most) × ((running : Running) → s.running ≡ Some running → IsAscending (attempt_of running.action running.log).steps s.moment)
IsActorWithin most name (OfCarrier k) = k.moment ≤ most

-- so of each actor, whatever the nodes and the history
abbrev pub AreActorsWithin : ℕ → List SoloNode → List Traced → List ℕ → Actor → Type 0
AreActorsWithin most nodes ts = IsActorWithin most

-- and of each node
abbrev pub AreNodesWithin : TenantConfig → ℕ → List SoloNode → List Traced → Type 0
AreNodesWithin config most nodes ts = (n : ℕ) → (node_of config (bare nodes) n).moment ≤ most

-- no timestamp is past this one, and attempts ascend
abbrev pub IsWithin : TenantConfig → ℕ → SoloCluster → Type 0
IsWithin config most c = Stands (AreNodesWithin config most) (AreActorsWithin most) c []

-- ---- a session

ascending_push : (steps : List LogStep) (now : ℕ) (step : LogStep) (later : ℕ) → IsAscending steps now → now ≤ step.moment → step.moment ≤ later → IsAscending (steps ++ step ∷ []) later
ascending_push [] now step later is first last = (last, (omega arith, tt))
ascending_push (s ∷ steps) now step later is first last =
    (let low = is.0 in omega arith, Every-append (λ (t : LogStep). s.moment ≤ t.moment) (s ∷ steps) (step ∷ []) is.1 ((let low = is.0 in omega arith), tt))

ascending_after : (action : Action) (log : List LogStep) (now : ℕ) (step : LogStep) (later : ℕ) → IsAscending (attempt_of action log).steps now → now ≤ step.moment → step.moment ≤ later →
    IsAscending (attempt_of action (log ++ step ∷ [])).steps later
ascending_after action log now step later is first last =
    subst (λ (a : Attempt). IsAscending a.steps later) (sym (fold-push (attempt_after action) (record { restarts = 0; steps = [] }) log step))
    (by_again (begins_again action (length (attempt_of action log).steps) step.outcome))
  where
    by_again : (b : Bool) → let attempt = attempt_of action log in
        IsAscending (cond {A = Attempt} b (record { restarts = attempt.restarts + 1; steps = [] }) (record { restarts = attempt.restarts; steps = attempt.steps ++ step ∷ [] })).steps later
    by_again true = tt
    by_again false = ascending_push (attempt_of action log).steps now step later is first last

raised_from : (moment : ℕ) (o : Outcome) → moment ≤ raised moment o
raised_from moment Late = omega arith
raised_from moment (Replied (Gone now)) = omega arith
raised_from moment (Replied reply) = omega arith

raised_within : (most moment : ℕ) (o : Outcome) → moment ≤ most → ((now : ℕ) → o ≡ Replied (Gone now) → now ≤ most) → raised moment o ≤ most
raised_within most moment Late low gone = low
raised_within most moment (Replied (Gone now)) low gone = let high = gone now refl in omega arith
raised_within most moment (Replied reply) low gone = low

-- the step's timestamp lies between, and so does the session's then
record IsStepWithin (most : ℕ) (s : Session) (running : Running) (step : LogStep) : Type 0 where
  pub first : s.moment ≤ step.moment
  pub next : step.moment ≤ moment_after running step
  pub last : moment_after running step ≤ most

stepped_within : (most : ℕ) (name : List ℕ) (s : Session) (running : Running) (step : LogStep) (shown : Progress) → s.running ≡ Some running → IsActorWithin most name (OfSession s) → IsStepWithin most s running step →
    IsActorWithin most name (OfSession (session_after s running step shown))
stepped_within most name s running step shown runs is within = by_shown shown
  where
    open_still : (other : Running) → Some (record running { log = running.log ++ step ∷ [] }) ≡ Some other → IsAscending (attempt_of other.action other.log).steps (moment_after running step)
    open_still other same =
        let more : Running = record running { log = running.log ++ step ∷ [] } in
        let one : more ≡ other = cc in
        subst (λ (r : Running). IsAscending (attempt_of r.action r.log).steps (moment_after running step)) one
        (ascending_after running.action running.log s.moment step (moment_after running step) (is.1 running runs) within.first within.next)

    by_shown : (shown : Progress) → IsActorWithin most name (OfSession (session_after s running step shown))
    by_shown (session_progress.Done ended) = (within.last, λ other never. cc)
    by_shown session_progress.Working = (within.last, open_still)
    by_shown (session_progress.Restarted times) = (within.last, open_still)

-- ---- moves

module _ (config : TenantConfig) (most : ℕ) where
  pub call_within : (c : SoloCluster) (id : NodeId) (moment : ℕ) (call : NodeCall) → moment ≤ most → IsWithin config most c → IsWithin config most (call_node config id moment call c).after
  call_within c id moment call low is =
      record {
        nodes = λ n. call_leaves config c id moment call (λ solo after. solo.moment ≤ most → after.moment ≤ most) (λ solo old. old)
            (λ solo old. (turn_moment (place_of config id) moment call solo).within most old low) n (is.nodes n);
        actors = is.actors;
      }

  pub changed_within : (c : SoloCluster) (name : List ℕ) (a : Actor) → IsActorWithin most name a → IsWithin config most c → IsWithin config most (with_actor name a c)
  changed_within c name a new is = changed (AreNodesWithin config most) (AreActorsWithin most) c [] is name a new

  module _ (c : SoloCluster) (is : IsWithin config most c) (name : List ℕ) (s : Session) (found : find_session name c ≡ Some s) where
    session_is : IsActorWithin most name (OfSession s)
    session_is = actor_found (IsActorWithin most) c name (OfSession s) is.actors (session_actor c name s found)

    step_within : (running : Running) (step : LogStep) → s.moment ≤ step.moment → step.moment ≤ most → (has_restarted running.action running.log step ≡ true → (now : ℕ) → step.outcome ≡ Replied (Gone now) → now ≤ most) → IsStepWithin most s running step
    step_within running step first low gone = by_again (has_restarted running.action running.log step) refl
      where
        After : Bool → ℕ
        After b = cond b (raised step.moment step.outcome) step.moment

        by_again : (b : Bool) → has_restarted running.action running.log step ≡ b → IsStepWithin most s running step
        by_again true again =
            let now : moment_after running step ≡ raised step.moment step.outcome = ap After again in
            record { first = first; next = (let at_least = raised_from step.moment step.outcome in omega (arith, now)); last = (let at_most = raised_within most step.moment step.outcome low (gone again) in omega (arith, now)) }
        by_again false again =
            let now : moment_after running step ≡ step.moment = ap After again in
            record { first = first; next = omega (arith, now); last = omega (arith, now) }

    -- a version that is gone brings the node's timestamp
    gone_within : (number context : ℕ) (action : Action) (log : List LogStep) (moment : ℕ) (directed : Directed) → moment ≤ most →
        let running : Running = record { number = number; context = context; action = action; log = log } in
        let call = call_node config directed.node moment directed.call c in
        request.next config (request_of s running) log moment ≡ Call directed → has_restarted action log (record { moment = moment; outcome = Replied call.reply }) ≡ true →
        (now : ℕ) → Replied call.reply ≡ Replied (Gone now) → now ≤ most
    gone_within number context (Write key value) log moment directed low e again now gone = cc
    gone_within number context (Fetch keys) log moment directed low e again now gone =
        let chosen = get-next config s.dc (obs_of context s) keys log moment directed e in
        let sent = call_of config s.dc chosen.asked in
        let n = node_number config.shards sent.node in
        let call = call_node config sent.node moment sent.call c in
        let replied : call.reply ≡ Gone now = (let both : Replied call.reply ≡ Replied (Gone now) = ap (λ (d : Directed). Replied (call_node config d.node moment d.call c).reply) (sym chosen.call) ∙ gone in cc) in
        let is_gone = get_gone (place_of config sent.node) moment chosen.asked.key chosen.asked.wanted (node_of config c n) now replied in
        let high = (turn_moment (place_of config sent.node) moment sent.call (node_of config c n)).within most (is.nodes n) low in
        let same = is_gone.now_is in
        omega (arith, same)

    -- a step that calls leaves all timestamps within
    called_within : (running : Running) (moment : ℕ) (directed : Directed) → s.running ≡ Some running → s.moment ≤ moment → moment ≤ most → request.next config (request_of s running) running.log moment ≡ Call directed →
        let call = call_node config directed.node moment directed.call c in IsWithin config most (session_stepped config name s running (record { moment = moment; outcome = Replied call.reply }) call.after).after
    called_within running moment directed runs first low e =
        let call = call_node config directed.node moment directed.call c in
        let step : LogStep = record { moment = moment; outcome = Replied call.reply } in
        changed_within call.after name _
        (stepped_within most name s running step (session.progress config (request_of s running) running.log step) runs session_is
        (step_within running step first low (λ again now gone. gone_within running.number running.context running.action running.log moment directed low e again now gone)))
        (call_within c directed.node moment directed.call low is)

    -- so does one that comes late
    late_within : (running : Running) (moment : ℕ) → s.running ≡ Some running → s.moment ≤ moment → moment ≤ most → IsWithin config most (session_stepped config name s running (record { moment = moment; outcome = Late }) c).after
    late_within running moment runs first low =
        let step : LogStep = record { moment = moment; outcome = Late } in
        changed_within c name _
        (stepped_within most name s running step (session.progress config (request_of s running) running.log step) runs session_is (step_within running step first low (λ again now gone. cc))) is

    -- of any timestamp that is passed
    pub moment_within : (moment : ℕ) → moment ≤ most → (s.moment ≤ moment_at moment s) × (moment_at moment s ≤ most)
    moment_within moment low = let old = session_is.0 in (omega arith, omega arith)

  pub actor_step_within : (c : SoloCluster) (name : List ℕ) (moment : ℕ) → moment ≤ most → IsWithin config most c → IsWithin config most (actor_step config name moment c).after
  actor_step_within c name moment low is = by_step config name moment c (λ turn. IsWithin config most turn.after) (record {
    unknown = is;
    idle = is;
    called = λ s running directed found runs e.
        let at = moment_within c is name s (as_session name c s found) moment low in called_within c is name s (as_session name c s found) running (moment_at moment s) directed runs at.0 at.1 e;
    late = λ s running found runs e. let at = moment_within c is name s (as_session name c s found) moment low in late_within c is name s (as_session name c s found) running (moment_at moment s) runs at.0 at.1;
    ended = λ s running a found runs e. is;
    carrier_called = λ k directed found e.
        let old : k.moment ≤ most = actor_found (IsActorWithin most) c name (OfCarrier k) is.actors found in
        let now : max k.moment moment ≤ most = omega arith in
        carried_to (AreNodesWithin config most) (AreActorsWithin most) (call_node config directed.node (max k.moment moment) directed.call c).after [] (call_within c directed.node (max k.moment moment) directed.call now is) name _ _ (λ open_still. now);
    carrier_waits = λ k found e. is;
    carrier_ended = λ k ending found e. is;
  })

  steps_within : (more : ℕ) (c : SoloCluster) (name : List ℕ) (moment : ℕ) → moment ≤ most → IsWithin config most c → IsWithin config most (actor_steps more config name moment c).after
  steps_within more c name moment low is =
      by_steps config name moment (IsWithin config most) (λ c turn. IsWithin config most turn.after) (λ c is. actor_step_within c name moment low is) (λ c is goes. actor_step_within c name moment low is)
      (λ c turn is goes later. later) more c is

  -- ---- acts

  abbrev pub Within : ActEffect → Type 0
  Within turn = IsWithin config most turn.after

  unless_within : (refusal : Option Fault) (c : SoloCluster) (turn : ActEffect) → IsWithin config most c → Within turn → Within (unless_refused refusal c turn)
  unless_within (Some fault) c turn is passed = is
  unless_within None c turn is passed = passed

  on_within : (name : List ℕ) (c : SoloCluster) (act : Session → ActEffect) → IsWithin config most c → ((s : Session) → find_session name c ≡ Some s → Within (act s)) → Within (on_session (find_session name c) c act)
  on_within name c act is there = by_found (find_session name c) there
    where
      by_found : (found : Option Session) → ((s : Session) → found ≡ Some s → Within (act s)) → Within (on_session found c act)
      by_found (Some s) there = there s refl
      by_found None there = is

  -- a request that begins has no steps
  begun_within : (c : SoloCluster) (name : List ℕ) (s : Session) (number : ℕ) (action : Action) → find_session name c ≡ Some s → IsWithin config most c → IsWithin config most (with_actor name (OfSession (request_begun number action s)) c)
  begun_within c name s number action found is =
      changed_within c name (OfSession (request_begun number action s))
      ((session_is c is name s found).0, only_runs (λ (r : Running). IsAscending (attempt_of r.action r.log).steps s.moment) (run s.next_request number action []) tt) is

  -- the act passes no timestamp past this one
  abbrev pub HandsIn : Act → Type 0
  HandsIn act = (moment : ℕ) → moment_in act ≡ Some moment → moment ≤ most

  pub act_within : (act : Act) (c : SoloCluster) → HandsIn act → IsWithin config most c → Within (cluster_step config act c)
  act_within (Open name dc) c low is = unless_within _ c _ is (joined (AreNodesWithin config most) (AreActorsWithin most) c [] is name (OfSession (new_session dc 1)) (omega arith, λ running runs. cc))
  act_within (Create name) c low is = on_within name c _ is (λ s found. unless_within _ c _ is (changed_within c name (OfSession (context_created s)) (session_is c is name s found) is))
  act_within (Delete name number) c low is = on_within name c _ is (λ s found. unless_within _ c _ is (changed_within c name (OfSession (context_deleted number s)) (session_is c is name s found) is))
  act_within (Put name number key value) c low is = unless_within _ c _ is (on_within name c _ is (λ s found. unless_within _ c _ is (begun_within c name s number (Write key value) found is)))
  act_within (Get name number keys) c low is = unless_within _ c _ is (on_within name c _ is (λ s found. unless_within _ c _ is (begun_within c name s number (Fetch keys) found is)))
  act_within (Show name number) c low is = on_within name c _ is (λ s found. unless_within _ c _ is is)
  act_within (Carry name dc shard to_dc) c low is = unless_within _ c _ is (joined (AreNodesWithin config most) (AreActorsWithin most) c [] is name (OfCarrier (new_carrier (record { origin = record { dc = dc; shard = shard }; to_dc = to_dc }))) (omega arith))
  act_within (Step name moment) c low is = actor_step_within c name moment (low moment refl) is
  act_within (Done name moment) c low is = steps_within (most_steps config) c name moment (low moment refl) is
  act_within (Collect dc shard moment) c low is = unless_within _ c _ is (call_within c (record { dc = dc; shard = shard }) moment node_call.Collect (low moment refl) is)

  pub within_at_first : IsWithin config most (new_cluster config)
  within_at_first =
      record {
        nodes = λ n. subst (λ (solo : SoloNode). solo.moment ≤ most) (sym (new_nodes (config.data_centres * config.shards) n (new_node config.data_centres))) (omega arith);
        actors = tt;
      }

  abbrev pub AreUpTo : List ℕ → Type 0
  AreUpTo moments = AllByRecursion (λ (m : ℕ). m ≤ most) moments

  pub handed_in : (acts : List Act) → AreUpTo (moments_in acts) → AllByRecursion HandsIn acts
  handed_in [] low = tt
  handed_in (act ∷ acts) low = let both = by_moment (moment_in act) low in (both.0, handed_in acts both.1)
    where
      by_moment : (o : Option ℕ) → AreUpTo (cons_option o (moments_in acts)) → ((moment : ℕ) → o ≡ Some moment → moment ≤ most) × AreUpTo (moments_in acts)
      by_moment None low = (λ moment e. cc, low)
      by_moment (Some m) low = (λ moment e. let same : m ≡ moment = cc in let high = low.0 in omega (arith, same), low.1)
