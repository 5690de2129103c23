-- A request makes at most two calls for each key in each attempt, the one that brings its answer among them.
use Rattle.std.proofs.Common.{◌≡◌, ℕ, ◌+◌, ◌*◌, ◌≤◌, ◌<◌, Bool, true, false, cond, List, [], ◌∷◌, ◌++◌, length, refl, sym, ◌∙◌, ap, subst, arith, append-nil, append_assoc, length-append}
use Rattle.std.specs.Prelude.{Some, None, MatchResult, Result, Ok, Err}
use Rattle.std.specs.List.{cons_option}
use Rattle.std.specs.declared.alloc.AllocError.{AllocError}
use Rattle.std.proofs.Math.Nat.{add-mul, mul-le-mul_right}
use Rattle.cops_types.specs.declared.faults.Fault.{Fault}
use Rattle.cops_types.specs.Context.{Observation}
use Rattle.cops_types.specs.declared.request_errors.RequestError.{RequestError}
use Rattle.cops_types.specs.TenantConfig.{TenantConfig}
use Rattle.cops_model.specs.declared.calls.NodeReply.{NodeReply}
use Rattle.cops_model.specs.declared.requests.Answer.{Answer}
use Rattle.cops_model.specs.declared.requests.Progress.{Progress}
use Rattle.cops_model.specs.declared.requests.Progress.TheVariants.{Done, Restarted, Working}
use Rattle.cops_model.specs.Log.{Call, Ended, Late, LogStep, Next, Outcome, Replied, Restart, replies_of, reply_in}
use Rattle.cops_model.specs.Request.{Action, Attempt, Fetch, Request, Write, answer, answer_in, attempt_of, begins_again, call_after, is_late, next, unless_late}
use Rattle.cops_model.specs.Session.{Running, Session, moment_at, request_of, session_after}
use Rattle.cops_node.specs.Taken.{IsTaken}
use Rattle.cops_session.specs.Bounds.{IsLogAfter, IsLogOf}
use Rattle.cops_session.specs.Kept.{KeptSession}
use Rattle.cops_session.specs.SessionStands.{SessionStandsFor}
use Rattle.cops_session.specs.Stepping.{HasTold, StepsFrom, TellsNext, told_step}
use Rattle.cops_session.proofs.ReplyCounts.{attempt-push, call-within, is_bounded, replies-push}
use Rattle.cops_session.proofs.RequestReplies.{get_request, put_request, unspent}
use Rattle.cops_causal.specs.CallBounds.{GoesOnTo, MakesFewCalls, SteppedAt, StepsMake, most_calls}

-- ---- one more step

-- what comes next is no answer, so there is none yet
unanswered : (late : Bool) (n : Next Answer) (outcome : Outcome) → IsTaken (unless_late late n) outcome → answer_in n ≡ None
unanswered late (Call directed) outcome taken = refl
unanswered late Restart outcome taken = refl
unanswered true (Ended a) outcome taken = absurd taken
unanswered false (Ended a) outcome taken = absurd taken

unanswered_before : (config : TenantConfig) (request : Request) (log : List LogStep) (step : LogStep) → IsTaken (next config request log step.moment) step.outcome → answer config request log ≡ None
unanswered_before config request log step taken =
    let attempt = attempt_of request.action log in
    unanswered (is_late config.trans_time request.action attempt.steps step.moment) (call_after config request attempt) step.outcome taken

pub log-push : (config : TenantConfig) (request : Request) (log later : List LogStep) (step : LogStep) → IsLogAfter config request log later → IsTaken (next config request (log ++ later) step.moment) step.outcome →
    IsLogAfter config request log (later ++ step ∷ [])
log-push config request log [] step are taken = (subst (λ l. IsTaken (next config request l step.moment) step.outcome) (append-nil log) taken, tt)
log-push config request log (first ∷ later) step are taken =
    (are.0, log-push config request (log ++ first ∷ []) later step are.1 (subst (λ l. IsTaken (next config request l step.moment) step.outcome) (sym (append_assoc log (first ∷ []) later)) taken))

-- ---- a transaction

module _ (config : TenantConfig) (dc : ℕ) (obs : List Observation) (keys : List (List ℕ)) where
  abbrev request : Request
  request = get_request dc obs keys

  abbrev top : ℕ
  top = 2 * length keys

  abbrev bound : ℕ
  bound = (config.restarts + 1) * top

  abbrev count : List LogStep → ℕ
  count log = length (replies_of log)

  -- no more than those in each attempt that ended, and no more in the present one
  abbrev Within : ℕ → Attempt → Type 0
  Within n attempt = (n ≤ attempt.restarts * top + length (replies_of attempt.steps)) × (length (replies_of attempt.steps) ≤ top)

  restarted : (restarts n here : ℕ) → n ≤ restarts * top + here → here ≤ top → n ≤ (restarts + 1) * top + 0
  restarted restarts n here all within = let split = add-mul restarts 1 (top) in omega arith

  replied : (attempt : Attempt) (n moment : ℕ) (reply : NodeReply) → Within n attempt → length (replies_of attempt.steps) < top → (again : Bool) →
      Within (n + 1) (cond {A = Attempt} again (record { restarts = attempt.restarts + 1; steps = [] }) (record { restarts = attempt.restarts; steps = attempt.steps ++ record { moment = moment; outcome = Replied reply } ∷ [] }))
  replied attempt n moment reply is room true = (restarted attempt.restarts (n + 1) (length (replies_of attempt.steps) + 1) (let a = is.0 in omega arith) (omega arith), omega arith)
  replied attempt n moment reply is room false =
      let step : LogStep = record { moment = moment; outcome = Replied reply } in
      let more : length (replies_of (attempt.steps ++ step ∷ [])) ≡ length (replies_of attempt.steps) + 1 = ap length (replies-push attempt.steps step) ∙ length-append (replies_of attempt.steps) (reply ∷ []) in
      ((let a = is.0 in omega arith), omega arith)

  -- what holds of a log of own steps, also with its answer
  record Counted (log : List LogStep) : Type 0 where
    pub within : Within (count log) (attempt_of (Fetch keys) log)
    pub few : count log ≤ bound

  counted_step : (log : List LogStep) (moment : ℕ) (outcome : Outcome) → Counted log → (n : Next Answer) → next config request log moment ≡ n → IsTaken n outcome → Counted (log ++ record { moment = moment; outcome = outcome } ∷ [])
  counted_step log moment (Replied reply) counted (Call directed) is taken =
      let step : LogStep = record { moment = moment; outcome = Replied reply } in
      let attempt = attempt_of (Fetch keys) log in
      let more : count (log ++ step ∷ []) ≡ count log + 1 = ap length (replies-push log step) ∙ length-append (replies_of log) (reply ∷ []) in
      let room = call-within config dc obs keys log moment directed is in
      let now = subst (Within (count log + 1)) (sym (attempt-push config dc obs keys log step)) (replied attempt (count log) moment reply counted.within room (begins_again (Fetch keys) (length attempt.steps) (Replied reply))) in
      let open_still = unanswered_before config request log step (subst (λ m. IsTaken m (Replied reply)) (sym is) taken) in
      let low = unspent config dc obs keys log open_still in
      let grown : attempt.restarts * top ≤ config.restarts * top = mul-le-mul_right (top) low in
      let split = add-mul config.restarts 1 (top) in
      let all = counted.within.0 in
      record { within = subst (λ n. Within n (attempt_of (Fetch keys) (log ++ step ∷ []))) (sym more) now; few = omega arith }
  counted_step log moment Late counted Restart is taken =
      let step : LogStep = record { moment = moment; outcome = Late } in
      let attempt = attempt_of (Fetch keys) log in
      let same : count (log ++ step ∷ []) ≡ count log = ap length (replies-push log step ∙ append-nil (replies_of log)) in
      let again : Within (count log) (record { restarts = attempt.restarts + 1; steps = [] }) = (restarted attempt.restarts (count log) (length (replies_of attempt.steps)) counted.within.0 counted.within.1, omega arith) in
      let few = counted.few in
      record { within = subst (λ n. Within n (attempt_of (Fetch keys) (log ++ step ∷ []))) (sym same) (subst (Within (count log)) (sym (attempt-push config dc obs keys log step)) again); few = omega arith }
  counted_step log moment Late counted (Call directed) is taken = absurd taken
  counted_step log moment Late counted (Ended a) is taken = absurd taken
  counted_step log moment (Replied reply) counted Restart is taken = absurd taken
  counted_step log moment (Replied reply) counted (Ended a) is taken = absurd taken

  counted_after : (log later : List LogStep) → Counted log → IsLogAfter config request log later → Counted (log ++ later)
  counted_after log [] counted are = subst Counted (sym (append-nil log)) counted
  counted_after log (step ∷ later) counted are =
      subst Counted (append_assoc log (step ∷ []) later)
      (counted_after (log ++ step ∷ []) later (counted_step log step.moment step.outcome counted (next config request log step.moment) refl are.0) are.1)

  few_calls : (log : List LogStep) → IsLogOf config request log → count log ≤ bound
  few_calls log are = (counted_after [] log (record { within = (omega arith, omega arith); few = omega arith }) are).few

-- ---- a put

module _ (config : TenantConfig) (dc : ℕ) (obs : List Observation) (key value : List ℕ) where
  -- before each step no reply has come
  put_calls : (log later : List LogStep) → IsLogOf config (put_request dc obs key value) log → length (replies_of log) ≤ 1 → IsLogAfter config (put_request dc obs key value) log later → length (replies_of (log ++ later)) ≤ 1
  put_calls log [] are few more = subst (λ l. length (replies_of l) ≤ 1) (sym (append-nil log)) few
  put_calls log (step ∷ later) are few more =
      let none : replies_of log ≡ [] = is_bounded config (put_request dc obs key value) log are (unanswered_before config (put_request dc obs key value) log step more.0) in
      let now : length (replies_of (log ++ step ∷ [])) ≤ 1 = subst (λ rs. length rs ≤ 1) (sym (replies-push log step ∙ ap (λ rs. rs ++ cons_option (reply_in step.outcome) []) none)) (one step.outcome) in
      subst (λ l. length (replies_of l) ≤ 1) (append_assoc log (step ∷ []) later) (put_calls (log ++ step ∷ []) later (log-push config (put_request dc obs key value) [] log step are more.0) now more.1)
    where
      one : (outcome : Outcome) → length (cons_option (reply_in outcome) []) ≤ 1
      one Late = omega arith
      one (Replied reply) = omega arith

pub makes_few_calls : (config : TenantConfig) (request : Request) (log : List LogStep) → MakesFewCalls config request log
makes_few_calls config request log = by_action request.dc request.obs request.action
  where
    by_action : (dc : ℕ) (obs : List Observation) (action : Action) → MakesFewCalls config (record { dc = dc; obs = obs; action = action }) log
    by_action dc obs (Fetch keys) are = few_calls config dc obs keys log are
    by_action dc obs (Write key value) are = put_calls config dc obs key value [] log tt (omega arith) are

-- ---- a run of `Session::step`

module _ (config : TenantConfig) where
  abbrev calls_in : Running → ℕ
  calls_in running = length (replies_of running.log)

  -- the request with one more step
  abbrev stepped_to : Running → LogStep → Running
  stepped_to running step = record running { log = running.log ++ step ∷ [] }

  -- what a step with this outcome leaves: a log of own steps, and a session that stands for it if the request goes on
  record Leaves (session : Session) (running : Running) (steps : List SteppedAt) (after : KeptSession) (made : ℕ) : Type 0 where
    pub step : LogStep
    pub own : IsLogOf config (request_of session running) (running.log ++ step ∷ [])
    pub counts : calls_in (stepped_to running step) ≡ calls_in running + made
    pub next_session : Session
    pub same_request : request_of next_session (stepped_to running step) ≡ request_of session running
    pub stands : (first : SteppedAt) (more : List SteppedAt) → steps ≡ first ∷ more → SessionStandsFor config after next_session × (next_session.running ≡ Some (stepped_to running step))

  counts_call : (running : Running) (moment : ℕ) (reply : NodeReply) (made : ℕ) → made ≡ 1 → calls_in (stepped_to running (record { moment = moment; outcome = Replied reply })) ≡ calls_in running + made
  counts_call running moment reply made is =
      ap length (replies-push running.log (record { moment = moment; outcome = Replied reply })) ∙ length-append (replies_of running.log) (reply ∷ []) ∙ ap (λ n. calls_in running + n) (sym is)

  counts_late : (running : Running) (moment : ℕ) (made : ℕ) → made ≡ 0 → calls_in (stepped_to running (record { moment = moment; outcome = Late })) ≡ calls_in running + made
  counts_late running moment made is =
      ap length (replies-push running.log (record { moment = moment; outcome = Late }) ∙ append-nil (replies_of running.log)) ∙ (let none = is in omega arith)

  -- a session that goes on with its request
  goes_on : (session : Session) (running : Running) (steps : List SteppedAt) (result : Result Progress RequestError) (told : Result Progress AllocError) (after : KeptSession) (made : ℕ) (step : LogStep) →
      told_step result ≡ Ok told → GoesOnTo steps result → HasTold config session running step told after → IsLogOf config (request_of session running) (running.log ++ step ∷ []) → calls_in (stepped_to running step) ≡ calls_in running + made →
      Leaves session running steps after made
  goes_on session running steps (Ok Working) told after made step is goes has own counts =
      let shows : Ok Working ≡ told = cc in
      record { step = step; own = own; counts = counts; next_session = session_after session running step Working; same_request = refl; stands = λ first more e. ((subst (λ t. HasTold config session running step t after) (sym shows) has).stepped.stands, refl) }
  goes_on session running steps (Ok (Restarted times)) told after made step is goes has own counts =
      let shows : Ok (Restarted times) ≡ told = cc in
      record { step = step; own = own; counts = counts; next_session = session_after session running step (Restarted times); same_request = refl; stands = λ first more e. ((subst (λ t. HasTold config session running step t after) (sym shows) has).stepped.stands, refl) }
  goes_on session running [] result told after made step is goes has own counts =
      record { step = step; own = own; counts = counts; next_session = session_after session running step Working; same_request = refl; stands = λ first more e. cc }
  goes_on session running (first ∷ steps) (Ok (Done a)) told after made step is goes has own counts = absurd goes
  goes_on session running (first ∷ steps) (Err error) told after made step is goes has own counts = absurd goes

  -- a step of the contract
  step_leaves : (session : Session) (running : Running) (old : KeptSession) (step : SteppedAt) (steps : List SteppedAt) (after : KeptSession) (made : ℕ) →
      SessionStandsFor config old session → session.running ≡ Some running → IsLogOf config (request_of session running) running.log →
      StepsFrom (λ id at call reply. made ≡ 1) (made ≡ 0) old step.moment step.result after → GoesOnTo steps step.result → Leaves session running steps after made
  step_leaves session running old step steps after made stands runs own makes goes =
      by_told (told_step step.result) refl (makes config session running stands runs)
    where
      at : ℕ
      at = moment_at step.moment session

      pushed : (outcome : Outcome) → IsTaken (next config (request_of session running) running.log at) outcome → IsLogOf config (request_of session running) (running.log ++ record { moment = at; outcome = outcome } ∷ [])
      pushed outcome taken = log-push config (request_of session running) [] running.log (record { moment = at; outcome = outcome }) own taken

      by_next : (told : Result Progress AllocError) → told_step step.result ≡ Ok told → (n : Next Answer) → next config (request_of session running) running.log at ≡ n →
          TellsNext (λ id call reply. made ≡ 1) (made ≡ 0) config session running at told after n → Leaves session running steps after made
      by_next told is (Call directed) e (reply, one, has) =
          goes_on session running steps step.result told after made (record { moment = at; outcome = Replied reply }) is goes has (pushed (Replied reply) (subst (λ n. IsTaken n (Replied reply)) (sym e) tt)) (counts_call running at reply made one)
      by_next told is Restart e (none, has) =
          goes_on session running steps step.result told after made (record { moment = at; outcome = Late }) is goes has (pushed Late (subst (λ n. IsTaken n Late) (sym e) tt)) (counts_late running at made none)
      by_next told is (Ended a) e never = absurd never

      by_told : (r : Result (Result Progress AllocError) Fault) → told_step step.result ≡ r →
          MatchResult r (λ told. TellsNext (λ id call reply. made ≡ 1) (made ≡ 0) config session running at told after (next config (request_of session running) running.log at)) (λ _. ⊥) → Leaves session running steps after made
      by_told (Ok told) is tells = by_next told is (next config (request_of session running) running.log at) refl tells
      by_told (Err fault) is never = absurd never

  steps_few : (steps : List SteppedAt) (session : Session) (running : Running) (old : KeptSession) (calls : ℕ) → SessionStandsFor config old session → session.running ≡ Some running →
      IsLogOf config (request_of session running) running.log → StepsMake old steps calls → calls_in running + calls ≤ most_calls config running.action
  steps_few [] session running old calls stands runs own none = let few = makes_few_calls config (request_of session running) running.log own in (let zero = none in omega arith)
  steps_few (step ∷ []) session running old calls stands runs own (after, made, later, makes, goes, sum, rest) =
      let leaves = step_leaves session running old step [] after made stands runs own makes goes in
      let few = makes_few_calls config (request_of session running) (running.log ++ leaves.step ∷ []) leaves.own in
      let counts = leaves.counts in
      omega arith
  steps_few (step ∷ first ∷ steps) session running old calls stands runs own (after, made, later, makes, goes, sum, rest) =
      let leaves = step_leaves session running old step (first ∷ steps) after made stands runs own makes goes in
      let on = leaves.stands first steps refl in
      let counts = leaves.counts in
      let few = steps_few (first ∷ steps) leaves.next_session (stepped_to running leaves.step) after later on.0 on.1
      (subst (λ r. IsLogOf config r (running.log ++ leaves.step ∷ [])) (sym leaves.same_request) leaves.own) rest in
      omega arith

  -- from its beginning
  pub run_makes_few : (steps : List SteppedAt) (session : Session) (running : Running) (old : KeptSession) (calls : ℕ) → SessionStandsFor config old session → session.running ≡ Some running → running.log ≡ [] →
      StepsMake old steps calls → calls ≤ most_calls config running.action
  run_makes_few steps session running old calls stands runs begun makes =
      let few = steps_few steps session running old calls stands runs (subst (IsLogOf config (request_of session running)) (sym begun) tt) makes in
      let none : calls_in running ≡ 0 = ap (λ (l : List LogStep). length (replies_of l)) begun in
      omega arith
