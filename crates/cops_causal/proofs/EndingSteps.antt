-- `done` ends: a request has no more steps left than it may take, and each step leaves fewer.
use Rattle.std.proofs.Common.{◌≡◌, ℕ, ◌+◌, ◌*◌, ◌≤◌, ◌<◌, Bool, true, false, cond, List, [], ◌∷◌, ◌++◌, length, refl, sym, ◌∙◌, ap, subst, arith, length-append}
use Rattle.std.specs.Prelude.{Option, Some, None, zero, suc, max, slice_get}
use Rattle.std.specs.Option.{option_and_then}
use Rattle.cops_types.specs.TenantConfig.{TenantConfig}
use Rattle.cops_types.proofs.Zipped.{Zipped}
use Rattle.cops_model.specs.declared.calls.NodeReply.{NodeReply}
use Rattle.cops_model.specs.declared.calls.NodeReply.TheVariants.{Pulled}
use Rattle.cops_model.specs.Log.{Call, Directed, Late, LogStep, Outcome, Replied, Restart, replies_of}
use Rattle.cops_model.specs.declared.deliveries.Progress.{Progress as CarrierProgress}
use Rattle.cops_model.specs.declared.deliveries.Progress.TheVariants as carrier_progress
use Rattle.cops_repl.specs.Bounds.{near_in}
use Rattle.cops_model.specs.Carrier.{Carrier, carrier_after, finished_delivery, first_end, stream_calls}
use Rattle.cops_model.specs.Carrier as carrier
use Rattle.cops_repl.proofs.CarrierCalls.{carrier_replies}
use Rattle.cops_repl.proofs.CarrierCounts.{call-within, never-restarts}
use Rattle.cops_model.specs.declared.requests.Answer.{Answer}
use Rattle.cops_model.specs.Request.{Action, Write, Fetch, Attempt, begins_again, attempt_of, answer}
use Rattle.cops_model.specs.Request as request
use Rattle.cops_model.specs.Session.{Session, Running, obs_of, has_restarted, moment_at, request_of, session_after, shown}
use Rattle.cops_session.proofs.ReplyCounts.{gets-few, replies-push, attempt-push}
use Rattle.cops_session.proofs.RequestReplies.{put-ends, replies_in, unspent, unanswered-within}
use Rattle.cops_model.specs.Causal.{Traced}
use Rattle.cops_model.specs.Cluster.{ActEffect, Actor, OfCarrier, OfSession, SoloCluster, actor_step, actor_steps, call_node, carrier_stepped, find_actor, find_session, goes_on, most_steps, new_cluster, reply_of_progress, session_in, session_stepped}
use Rattle.cops_causal.proofs.ActorsKeep.{actor_found, find_actor-with_actor}
use Rattle.cops_causal.proofs.AfterActs.{answer_ends, delivery_ends}
use Rattle.cops_causal.proofs.Limits.{IsWithinLimits, room, offered_few, limits_kept, limits_at_first}
use Rattle.cops_causal.proofs.Moves.{IsKept, Both, kept_both, actor_step_keeps, history_after}
use Rattle.cops_causal.proofs.Provenance.{IsRunning}
use Rattle.cops_causal.proofs.Sound.{IsSound, sound_kept, sound_at_first}
use Rattle.cops_causal.proofs.Streams.{OnStream, Delivered}
use Rattle.cops_causal.proofs.TracedIdle.{session_of}
use Rattle.cops_causal.proofs.RequestSteps.{by_late, only_runs, run}
use Rattle.cops_causal.proofs.ActorSteps.{by_step}

-- ---- how many steps are left

module _ (config : TenantConfig) where
  -- of a transaction: at most 64 replies and a late step for each attempt
  abbrev pub IsLeft : Action → List LogStep → ℕ → Type 0
  IsLeft (Write key value) log n = 1 ≤ n
  IsLeft (Fetch keys) log n = config.restarts * 65 + 64 ≤ n + ((attempt_of (Fetch keys) log).restarts * 65 + length (replies_in keys log))

  -- of a carrier: its remaining calls
  abbrev pub IsCarrierLeft : List NodeReply → ℕ → Type 0
  IsCarrierLeft [] n = config.quota.deps + 3 ≤ n
  IsCarrierLeft (r ∷ rs) n = length (near_in (r ∷ rs)) + 3 ≤ n + length (r ∷ rs)

  abbrev pub IsActorLeft : Option Actor → ℕ → Type 0
  IsActorLeft (Some (OfSession s)) n = (running : Running) → s.running ≡ Some running → IsLeft running.action running.log n
  IsActorLeft (Some (OfCarrier k)) n = IsCarrierLeft (carrier_replies k.log) n
  IsActorLeft None n = Unit {0}

  -- a step that leaves fewer
  abbrev Fewer : (ℕ → Type 0) → ℕ → Type 0
  Fewer P n = (m : ℕ) × (n ≡ suc m) × P m

-- a step whose reply goes on gave no answer
open_shown : (o : Option Answer) (restarted : Bool) (times : ℕ) → goes_on (reply_of_progress (shown o restarted times)) ≡ true → o ≡ None
open_shown None restarted times e = refl
open_shown (Some a) restarted times e = absurd (answer_ends a e)

-- a put is never late
abbrev IsTakenBy : Outcome → Action → Type 0
IsTakenBy Late (Write key value) = ⊥
IsTakenBy outcome action = Unit {0}

-- one more reply, or another attempt
data Moved (before after : Attempt) : Type 0 where
  Further : after.restarts ≡ before.restarts → length (replies_of after.steps) ≡ length (replies_of before.steps) + 1 → Moved before after
  Again : after.restarts ≡ before.restarts + 1 → length (replies_of after.steps) ≡ 0 → Moved before after

moved_by : (attempt : Attempt) (moment : ℕ) (reply : NodeReply) (again : Bool) →
    Moved attempt (cond {A = Attempt} again (record { restarts = attempt.restarts + 1; steps = [] }) (record { restarts = attempt.restarts; steps = attempt.steps ++ record { moment = moment; outcome = Replied reply } ∷ [] }))
moved_by attempt moment reply true = Again refl refl
moved_by attempt moment reply false =
    let step : LogStep = record { moment = moment; outcome = Replied reply } in
    Further refl (ap length (replies-push attempt.steps step) ∙ length-append (replies_of attempt.steps) (reply ∷ []))

moved : (config : TenantConfig) (s : Session) (context : ℕ) (keys : List (List ℕ)) (log : List LogStep) (moment : ℕ) (outcome : Outcome) →
    Moved (attempt_of (Fetch keys) log) (attempt_of (Fetch keys) (log ++ record { moment = moment; outcome = outcome } ∷ []))
moved config s context keys log moment Late =
    subst (Moved (attempt_of (Fetch keys) log)) (sym (attempt-push config s.dc (obs_of context s) keys log (record { moment = moment; outcome = Late }))) (Again refl refl)
moved config s context keys log moment (Replied reply) =
    let attempt = attempt_of (Fetch keys) log in
    subst (Moved attempt) (sym (attempt-push config s.dc (obs_of context s) keys log (record { moment = moment; outcome = Replied reply }))) (moved_by attempt moment reply (begins_again (Fetch keys) (length attempt.steps) (Replied reply)))

fewer_left : (most n : ℕ) (before after : Attempt) → most * 65 + 64 ≤ n + (before.restarts * 65 + length (replies_of before.steps)) → before.restarts ≤ most → length (replies_of before.steps) < 64 → after.restarts ≤ most →
    Moved before after → (m : ℕ) × (n ≡ suc m) × (most * 65 + 64 ≤ m + (after.restarts * 65 + length (replies_of after.steps)))
fewer_left most zero before after left within few later is = absurd (omega arith)
fewer_left most (suc m) before after left within few later (Further same more) = (m, refl, omega arith)
fewer_left most (suc m) before after left within few later (Again more none) = (m, refl, omega arith)

module _ (config : TenantConfig) (some : 0 < config.shards) (c : SoloCluster) (ts : List Traced) (inv : IsSound config c ts) (limits : IsWithinLimits config c ts) where
  -- ---- sessions

  module _ (name : List ℕ) (s : Session) (found : find_actor name c ≡ Some (OfSession s)) (n : ℕ) where
    in_sessions : find_session name c ≡ Some s
    in_sessions = ap (option_and_then session_in) found

    -- a step after which there is no answer leaves one step fewer
    open_left : (number context : ℕ) (action : Action) (log : List LogStep) (moment : ℕ) (outcome : Outcome) → s.running ≡ Some (run number context action log) → IsRunning config ts s (run number context action log) → IsLeft config action log n →
        answer config (request_of s (run number context action log)) (log ++ record { moment = moment; outcome = outcome } ∷ []) ≡ None → IsTakenBy outcome action →
        Fewer config (IsLeft config action (log ++ record { moment = moment; outcome = outcome } ∷ [])) n
    open_left number context (Write key value) log moment (Replied reply) runs is left open_still taken =
        let ends = put-ends config s.dc (obs_of context s) key value moment 0 reply in
        let at_start = subst (λ l. answer config (request_of s (run number context (Write key value) l)) (l ++ record { moment = moment; outcome = Replied reply } ∷ []) ≡ None) is.replies_are open_still in
        absurd (let both : Some ends.0 ≡ None = sym ends.2 ∙ at_start in cc)
    open_left number context (Write key value) log moment Late runs is left open_still taken = absurd taken
    open_left number context (Fetch keys) log moment outcome runs is left open_still taken =
        let after = log ++ record { moment = moment; outcome = outcome } ∷ [] in
        let obs = obs_of context s in
        let within = unspent config s.dc obs keys log is.unanswered in
        let later = unspent config s.dc obs keys after open_still in
        let calls = unanswered-within config s.dc obs keys log is.unanswered in
        let two = gets-few keys (replies_in keys log) in
        let few : length keys ≤ 32 = (room config some c ts inv limits name s in_sessions).running (run number context (Fetch keys) log) runs in
        fewer_left config.restarts n (attempt_of (Fetch keys) log) (attempt_of (Fetch keys) after) left within (omega arith) later (moved config s context keys log moment outcome)

    -- so is then the session
    kept_left : (running : Running) (step : LogStep) (o : Option Answer) (restarted : Bool) (times m : ℕ) → o ≡ None → IsLeft config running.action (running.log ++ step ∷ []) m →
        IsActorLeft config (Some (OfSession (session_after s running step (shown o restarted times)))) m
    kept_left running step (Some a) restarted times m e left = cc
    kept_left running step None true times m e left = only_runs (λ (r : Running). IsLeft config r.action r.log m) (record running { log = running.log ++ step ∷ [] }) left
    kept_left running step None false times m e left = only_runs (λ (r : Running). IsLeft config r.action r.log m) (record running { log = running.log ++ step ∷ [] }) left

    stepped_left : (running : Running) (moment : ℕ) (outcome : Outcome) (next : SoloCluster) → find_actor name next ≡ Some (OfSession s) → s.running ≡ Some running → IsLeft config running.action running.log n → IsTakenBy outcome running.action →
        let turn = session_stepped config name s running (record { moment = moment; outcome = outcome }) next in
        goes_on turn.reply ≡ true → Fewer config (IsActorLeft config (find_actor name turn.after)) n
    stepped_left running moment outcome next still runs left taken goes =
        let step : LogStep = record { moment = moment; outcome = outcome } in
        let ends = answer config (request_of s running) (running.log ++ step ∷ []) in
        let restarted = has_restarted running.action running.log step in
        let times = (attempt_of running.action (running.log ++ step ∷ [])).restarts in
        let open_still = open_shown ends restarted times goes in
        let fewer = open_left running.number running.context running.action running.log moment outcome runs ((session_of config c ts inv.traced name s in_sessions).running_is running runs) left open_still taken in
        let after = OfSession (session_after s running step (shown ends restarted times)) in
        (fewer.0, fewer.1, subst (λ a. IsActorLeft config a fewer.0) (sym (find_actor-with_actor name after (OfSession s) next still)) (kept_left running step ends restarted times fewer.0 open_still fewer.2))

    late_taken : (running : Running) (moment : ℕ) → s.running ≡ Some running → request.next config (request_of s running) running.log moment ≡ Restart → IsTakenBy Late running.action
    late_taken = by_late config ts name s (session_of config c ts inv.traced name s in_sessions) (λ running moment. IsTakenBy Late running.action) (λ number context keys log moment runs is. tt)

  -- ---- carriers

  -- what a carrier pulled has few near pairs
  carrier_near : (name : List ℕ) (k : Carrier) → find_actor name c ≡ Some (OfCarrier k) → length (near_in (carrier_replies k.log)) ≤ config.quota.deps
  carrier_near name k found = by_replies (carrier_replies k.log) (actor_found (OnStream config c) c name (OfCarrier k) inv.flowing.carriers found)
    where
      by_replies : (rs : List NodeReply) → Zipped (Delivered config c k.stream) (stream_calls config.shards k.stream rs) rs → length (near_in rs) ≤ config.quota.deps
      by_replies [] z = omega arith
      by_replies (Pulled e ∷ rs) z = (offered_few config some c ts inv limits k.stream e z.0).0
      by_replies (r ∷ rs) z = omega arith

-- one more reply leaves one call fewer
near_same : (r : NodeReply) (xs ys : List NodeReply) → near_in (r ∷ xs) ≡ near_in (r ∷ ys)
near_same (Pulled e) xs ys = refl
near_same r xs ys = refl

carrier_fewer : (config : TenantConfig) (rs : List NodeReply) (r : NodeReply) (n : ℕ) → IsCarrierLeft config rs n → length rs < length (near_in rs) + 3 → length (near_in (rs ++ r ∷ [])) ≤ config.quota.deps → Fewer config (IsCarrierLeft config (rs ++ r ∷ [])) n
carrier_fewer config [] r zero left room near = absurd (omega arith)
carrier_fewer config [] r (suc m) left room near = (m, refl, omega arith)
carrier_fewer config (q ∷ rs) r zero left room near = absurd (omega arith)
carrier_fewer config (q ∷ rs) r (suc m) left room near =
    let same : length (near_in (q ∷ (rs ++ r ∷ []))) ≡ length (near_in (q ∷ rs)) = ap length (near_same q (rs ++ r ∷ []) rs) in
    let more : length (rs ++ r ∷ []) ≡ length rs + 1 = length-append rs (r ∷ []) in
    (m, refl, omega arith)

-- what a carrier of the name has pulled then has few near pairs
abbrev HasFewAfter : TenantConfig → List ℕ → SoloCluster → Type 0
HasFewAfter config name after = (next : Carrier) → find_actor name after ≡ Some (OfCarrier next) → length (near_in (carrier_replies next.log)) ≤ config.quota.deps

module _ (config : TenantConfig) (c : SoloCluster) (name : List ℕ) (k : Carrier) (found : find_actor name c ≡ Some (OfCarrier k)) (n : ℕ) (left : IsCarrierLeft config (carrier_replies k.log) n) where
  carried_left : (moment : ℕ) (directed : Directed) (reply : NodeReply) (after : SoloCluster) (shown : CarrierProgress) → carrier.carrier_next config.shards k.stream k.log ≡ Call directed → find_actor name after ≡ Some (OfCarrier k) →
      let turn = carrier_stepped name (carrier_after k (record { moment = moment; outcome = Replied reply })) shown after in
      HasFewAfter config name turn.after → goes_on turn.reply ≡ true → Fewer config (IsActorLeft config (find_actor name turn.after)) n
  carried_left moment directed reply after carrier_progress.Working is still few goes =
      let step : LogStep = record { moment = moment; outcome = Replied reply } in
      let next = carrier_after k step in
      let there = find_actor-with_actor name (OfCarrier next) (OfCarrier k) after still in
      let more : carrier_replies (k.log ++ step ∷ []) ≡ carrier_replies k.log ++ reply ∷ [] = replies-push k.log step in
      let near = subst (λ rs. length (near_in rs) ≤ config.quota.deps) more (few next there) in
      let fewer = carrier_fewer config (carrier_replies k.log) reply n left (call-within config.shards k.stream k.log directed is) near in
      (fewer.0, fewer.1, subst (λ a. IsActorLeft config a fewer.0) (sym there) (subst (λ rs. IsCarrierLeft config rs fewer.0) (sym more) fewer.2))
  carried_left moment directed reply after (carrier_progress.Done ending) is still few goes = absurd (delivery_ends ending goes)

  -- a carrier calls or has ended
  never_waits : carrier.carrier_next config.shards k.stream k.log ≡ Restart → ⊥
  never_waits is =
      let rs = carrier_replies k.log in
      never-restarts (first_end config.shards k.stream (stream_calls config.shards k.stream rs) rs) (slice_get (stream_calls config.shards k.stream rs) (length rs)) (finished_delivery rs) is

-- ---- runs

module _ (config : TenantConfig) (some : 0 < config.shards) where
  abbrev pub Bounded : SoloCluster → List Traced → Type 0
  Bounded = Both (IsSound config) (IsWithinLimits config)

  pub bounded_kept : IsKept config Bounded
  bounded_kept = kept_both (sound_kept config some) (limits_kept config some)

  -- a step of any actor that goes on leaves one fewer
  step_left : (c : SoloCluster) (ts : List Traced) (inv : Bounded c ts) (name : List ℕ) (moment n : ℕ) → IsActorLeft config (find_actor name c) n → goes_on (actor_step config name moment c).reply ≡ true →
      Fewer config (IsActorLeft config (find_actor name (actor_step config name moment c).after)) n
  step_left c ts inv name moment n left = by_step config name moment c
      (λ turn. HasFewAfter config name turn.after → goes_on turn.reply ≡ true → Fewer config (IsActorLeft config (find_actor name turn.after)) n) (record {
        unknown = λ few goes. cc;
        idle = λ few goes. cc;
        called = λ s running directed found runs is few goes.
            let call = call_node config directed.node (moment_at moment s) directed.call c in
            stepped_left config some c ts inv.0 inv.1 name s found n running (moment_at moment s) (Replied call.reply) call.after found runs (subst (λ a. IsActorLeft config a n) found left running runs) tt goes;
        late = λ s running found runs is few goes.
            stepped_left config some c ts inv.0 inv.1 name s found n running (moment_at moment s) Late c found runs (subst (λ a. IsActorLeft config a n) found left running runs)
            (late_taken config some c ts inv.0 inv.1 name s found n running (moment_at moment s) runs is) goes;
        ended = λ s running a found runs is few goes. absurd (answer_ends a goes);
        carrier_called = λ k directed found is few goes.
            let call = call_node config directed.node (max k.moment moment) directed.call c in
            carried_left config c name k found n (subst (λ a. IsActorLeft config a n) found left) (max k.moment moment) directed call.reply call.after
            (carrier.delivery_progress config.shards k (record { moment = max k.moment moment; outcome = Replied call.reply })) is found few goes;
        carrier_waits = λ k found is few goes. absurd (never_waits config c name k found n (subst (λ a. IsActorLeft config a n) found left) is);
        carrier_ended = λ k ending found is few goes. absurd (delivery_ends ending goes);
      })
      (let next = actor_step_keeps bounded_kept c ts name moment inv in λ later there. carrier_near config some _ _ next.0 next.1 name later there)

  steps_end : (more : ℕ) (c : SoloCluster) (ts : List Traced) → Bounded c ts → (name : List ℕ) (moment : ℕ) → IsActorLeft config (find_actor name c) more → goes_on (actor_steps more config name moment c).reply ≡ false
  steps_end zero c ts inv name moment left = by_goes (goes_on step.reply) refl
    where
      step : ActEffect
      step = actor_step config name moment c

      by_goes : (b : Bool) → goes_on step.reply ≡ b → b ≡ false
      by_goes false goes = refl
      by_goes true goes = let fewer = step_left c ts inv name moment 0 left goes in let never : 0 ≡ suc fewer.0 = fewer.1 in absurd (omega arith)
  steps_end (suc more) c ts inv name moment left =
      let step = actor_step config name moment c in
      either_ends (goes_on step.reply) refl (actor_steps more config name moment step.after)
      (λ goes.
      let fewer = step_left c ts inv name moment (suc more) left goes in
      let same : more ≡ fewer.0 = (let e : suc more ≡ suc fewer.0 = fewer.1 in omega arith) in
      steps_end more step.after (history_after ts c name step.reply) (actor_step_keeps bounded_kept c ts name moment inv) name moment (subst (IsActorLeft config (find_actor name step.after)) (sym same) fewer.2))
    where
      either_ends : (b : Bool) → goes_on (actor_step config name moment c).reply ≡ b → (rest : ActEffect) → (goes_on (actor_step config name moment c).reply ≡ true → goes_on rest.reply ≡ false) →
          goes_on (let turn : ActEffect = elim b [ true ↦ rest | false ↦ actor_step config name moment c ] in turn.reply) ≡ false
      either_ends true goes rest ends = ends goes
      either_ends false goes rest ends = goes

  -- no request and no carrier has more left than `done` takes
  left_at_first : (c : SoloCluster) (ts : List Traced) → Bounded c ts → (name : List ℕ) (found : Option Actor) → find_actor name c ≡ found → IsActorLeft config found (most_steps config)
  left_at_first c ts inv name (Some (OfSession s)) found = λ running runs. by_action running.action running.log
    where
      by_action : (action : Action) (log : List LogStep) → IsLeft config action log (most_steps config)
      by_action (Write key value) log = omega arith
      by_action (Fetch keys) log = omega arith
  left_at_first c ts inv name (Some (OfCarrier k)) found = by_replies (carrier_replies k.log) (carrier_near config some c ts inv.0 inv.1 name k found)
    where
      by_replies : (rs : List NodeReply) → length (near_in rs) ≤ config.quota.deps → IsCarrierLeft config rs (most_steps config)
      by_replies [] near = omega arith
      by_replies (r ∷ rs) near = omega arith
  left_at_first c ts inv name None found = tt

  -- from any cluster within the limits
  pub ends_at : (c : SoloCluster) (ts : List Traced) → Bounded c ts → (name : List ℕ) (moment : ℕ) → goes_on (actor_steps (most_steps config) config name moment c).reply ≡ false
  ends_at c ts inv name moment = steps_end (most_steps config) c ts inv name moment (left_at_first c ts inv name (find_actor name c) refl)

  pub bounded_at_first : Bounded (new_cluster config) []
  bounded_at_first = (sound_at_first config some, limits_at_first config)
