-- A session stands for that of the definitions after each step.
use Rattle.std.proofs.Common.{◌≡◌, ℕ, true, false, List, [], ◌∷◌, ◌++◌, refl, sym, ◌∙◌, ap, subst, arith, ◌⊎◌, inl, inr}
use Rattle.std.specs.Prelude.{Option, Some, None, max, nat_lt, Result, Ok, Err, IfOk, if◌then◌else◌}
use Rattle.std.specs.declared.alloc.AllocError.{AllocError}
use Rattle.std.proofs.lemmas.Bool.Decides.{nat_tests}
use Rattle.cops_types.specs.declared.faults.Fault.{Fault}
use Rattle.cops_types.specs.declared.faults.Fault.TheVariants.{OutOfMemory}
use Rattle.cops_types.specs.declared.request_errors.RequestError.{RequestError}
use Rattle.cops_types.specs.declared.request_errors.RequestError.TheVariants as error
use Rattle.cops_types.specs.RequestErrors.{fault_told}
use Rattle.cops_types.specs.Context.{Observation, all_of, near_of}
use Rattle.cops_types.specs.Key.{shard_of}
use Rattle.cops_types.specs.TenantConfig.{TenantConfig}
use Rattle.cops_model.specs.declared.calls.NodeCall.{NodeCall}
use Rattle.cops_model.specs.declared.calls.NodeCall.TheVariants as call
use Rattle.cops_model.specs.declared.calls.NodeId.{NodeId}
use Rattle.cops_model.specs.declared.calls.NodeReply.{NodeReply}
use Rattle.cops_model.specs.declared.calls.NodeReply.TheVariants as reply
use Rattle.cops_model.specs.Log.{LogStep, Replied, Next, Call, Restart, Ended}
use Rattle.cops_model.specs.declared.requests.Answer.{Answer}
use Rattle.cops_model.specs.declared.requests.Answer.TheVariants as answer
use Rattle.cops_model.specs.declared.requests.Progress.{Progress}
use Rattle.cops_model.specs.declared.requests.Progress.TheVariants.{Working, Restarted, Done}
use Rattle.cops_session.specs.declared.ongoing.Ongoing.{Ongoing}
use Rattle.cops_session.specs.declared.ongoing.Reading.{Reading}
use Rattle.cops_session.specs.declared.ongoing.Work.TheVariants.{Put, Get}
use Rattle.cops_session.specs.declared.ongoing.PendingPut.{PendingPut}
use Rattle.cops_session.specs.declared.reading.ReadStep.{ReadStep}
use Rattle.cops_session.specs.declared.reading.ReadStep.TheVariants as read_step
use Rattle.cops_session.specs.declared.settings.Setting.{Setting}
use Rattle.cops_session.specs.Kept.{KeptSession, is_running}
use Rattle.cops_session.specs.Reading.{IsReading}
use Rattle.cops_model.specs.Request.{Fetch, Request, Write, key_home, next, values_or_full}
use Rattle.cops_model.specs.Session.{OpenContext, Running, Session, context_extended, has_restarted, moment_after, moment_at, obs_of, progress, raised, request_of, seen_in, session_after}
use Rattle.cops_session.specs.SessionStands.{ContextsStandFor, IsSettingOf, IsWriting, RunningStandsFor, SessionStandsFor, obs_in}
use Rattle.cops_session.specs.Stepping.{DoesNext, HasStepped, HasTold, TellsNext, end_by_error, told_shown, told_step}
use Rattle.cops_session.specs.Turns.{HasTurned, TurnsFrom, TurnsNext}
use Rattle.cops_model.specs.Lacks.{EndsRound}
use Rattle.cops_session.specs.Wants.{WantsMemory}
use Rattle.cops_session.specs.Writing.{answer_to_put}
use Rattle.cops_session.proofs.ContextRows.{context_extended-nothing}
use Rattle.cops_session.proofs.SessionLaws.{has_running, is_number}

-- ---- the result of a step

-- the step by its result does what comes next
pub as_told : (called : NodeId → NodeCall → NodeReply → Type 0) (stays : Type 0) (config : TenantConfig) (session : Session) (running : Running) (moment : ℕ) (told : Result Progress AllocError) (after : KeptSession) (n : Next Answer) →
    TellsNext called stays config session running moment told after n → DoesNext called stays config session running moment (told_shown told) after n
as_told called stays config session running moment told after (Call directed) tells = (tells.0, tells.1, tells.2.stepped)
as_told called stays config session running moment told after Restart tells = (tells.0, tells.1.stepped)
as_told called stays config session running moment told after (Ended answer) tells = tells

-- a result that is the definition's is so if it is shown
exactly : (told : Result Progress AllocError) (shown : Progress) → told_shown told ≡ shown → IfOk told (λ s. s ≡ shown)
exactly (Ok s) shown is = is
exactly (Err error) shown is = tt

-- the result of a step whose error ends the request
abbrev pub told_end : RequestError → Result Progress AllocError
told_end (error.Refused fault) = Ok (Done (answer.Refused fault))
told_end error.OutOfMemory = Err (record {})

pub told_ended : (failed : RequestError) → told_step (end_by_error failed) ≡ Ok (told_end failed)
told_ended (error.Refused fault) = refl
told_ended error.OutOfMemory = refl

pub told_end_is : (failed : RequestError) → told_shown (told_end failed) ≡ Done (answer.Refused (fault_told failed))
told_end_is (error.Refused fault) = refl
told_end_is error.OutOfMemory = refl

-- ---- the request has ended

pub done_stands : (config : TenantConfig) (kept after : KeptSession) (session : Session) (running : Running) (step : LogStep) (ended : Answer) → SessionStandsFor config kept session →
    after.setting ≡ kept.setting → after.moment ≡ moment_after running step → ContextsStandFor after.contexts.rows (context_extended running.context (seen_in ended) session.contexts) →
    after.contexts.limit ≡ kept.contexts.limit → after.contexts.next ≡ kept.contexts.next → after.next_request ≡ kept.next_request → after.running ≡ None →
    SessionStandsFor config after (session_after session running step (Done ended))
done_stands config kept after session running step ended stands setting moment contexts limit next_context next_request idle =
    record {
      setting_is = subst (λ (s : Setting). IsSettingOf config s) (sym setting) stands.setting_is;
      dc_is = ap (λ s. s.dc) setting ∙ stands.dc_is;
      moment_is = moment;
      contexts_are = contexts;
      limit_is = limit ∙ stands.limit_is;
      next_context_is = next_context ∙ stands.next_context_is;
      next_request_is = next_request ∙ stands.next_request_is;
      running_is = subst (λ (r : Option Ongoing). RunningStandsFor config (session_after session running step (Done ended)) r None) (sym idle) tt;
    }

-- ---- a put

none_restarted : (config : TenantConfig) → nat_lt config.restarts 0 ≡ false
none_restarted config = grind (arith, nat_tests)

put_next : (config : TenantConfig) (dc : ℕ) (obs : List Observation) (key value : List ℕ) (moment : ℕ) →
    next config (record { dc = dc; obs = obs; action = Write key value }) [] moment ≡ Call (record { node = key_home config dc key; call = call.Put key value (all_of obs) (near_of obs) })
put_next config dc obs key value moment = rw (none_restarted config) refl

put_progress : (config : TenantConfig) (dc : ℕ) (obs : List Observation) (key value : List ℕ) (moment : ℕ) (r : NodeReply) →
    progress config (record { dc = dc; obs = obs; action = Write key value }) [] (record { moment = moment; outcome = Replied r }) ≡ Done (answer_to_put key r)
put_progress config dc obs key value moment (reply.Stored version) = rw (none_restarted config) refl
put_progress config dc obs key value moment (reply.Refused fault) = rw (none_restarted config) refl
put_progress config dc obs key value moment _ = rw (none_restarted config) refl

-- only the node's own refusal
put_wants : (key : List ℕ) (r : NodeReply) → answer_to_put key r ≡ answer.Refused OutOfMemory → r ≡ reply.Refused OutOfMemory
put_wants key (reply.Stored version) is = cc
put_wants key (reply.Refused fault) is = let same : fault ≡ OutOfMemory = cc in ap reply.Refused same
put_wants key _ is = cc

ended_of : (ended : Answer) → Done ended ≡ Done (answer.Refused OutOfMemory) → ended ≡ answer.Refused OutOfMemory
ended_of ended is = cc

module _ (config : TenantConfig) (kept after : KeptSession) (session : Session) (running : Running) (number context : ℕ) where
  abbrev with_put : PendingPut → KeptSession
  with_put writing = record kept { running = Some (record { number = number; context = context; work = Put writing }) }

  abbrev with_get : Reading → KeptSession
  with_get reading = record kept { running = Some (record { number = number; context = context; work = Get reading }) }

  pub put_steps : (called : ℕ → NodeId → NodeCall → NodeReply → Type 0) (stays : Type 0) (writing : PendingPut) (moment now : ℕ) (r : NodeReply) (ended : Answer) (told : Result Progress AllocError) → told_shown told ≡ Done ended →
      SessionStandsFor config (with_put writing) session → session.running ≡ Some running → now ≡ max kept.moment moment →
      called now (record { dc = kept.setting.dc; shard = shard_of writing.key kept.setting.shards }) (call.Put writing.key writing.value writing.deps writing.near) r → ended ≡ answer_to_put writing.key r →
      after.setting ≡ kept.setting → after.moment ≡ now → ContextsStandFor after.contexts.rows (context_extended context (seen_in ended) session.contexts) →
      after.contexts.limit ≡ kept.contexts.limit → after.contexts.next ≡ kept.contexts.next → after.next_request ≡ kept.next_request → after.running ≡ None →
      TellsNext (called (moment_at moment session)) stays config session running (moment_at moment session) told after (next config (request_of session running) running.log (moment_at moment session))
  put_steps called stays writing moment now r ended told told_is stands is now_is answers ended_is setting moment_is contexts limit next_context next_request idle =
      let at = moment_at moment session in
      let own : (number ≡ running.number) × (context ≡ running.context) × IsWriting (request_of session running) running.log writing =
      subst (λ (b : Option Running). RunningStandsFor config session (Some (record { number = number; context = context; work = Put writing })) b) is stands.running_is in
      let w = own.2 in
      let key = writing.key in
      let obs = obs_of running.context session in
      let step : LogStep = record { moment = at; outcome = Replied r } in
      let req : request_of session running ≡ record { dc = session.dc; obs = obs; action = Write key writing.value } = λ i. record { dc = session.dc; obs = obs; action = w.action_is i } in
      let at_is : now ≡ at = now_is ∙ ap (λ t. max t moment) stands.moment_is in
      let calls : next config (request_of session running) running.log at ≡ Call (record { node = key_home config session.dc key; call = call.Put key writing.value (all_of obs) (near_of obs) }) =
      (λ i. next config (req i) (w.no_step i) at) ∙ put_next config session.dc obs key writing.value at in
      let shows : progress config (request_of session running) running.log step ≡ Done (answer_to_put key r) =
      (λ i. progress config (req i) (w.no_step i) step) ∙ put_progress config session.dc obs key writing.value at r in
      let made : called at (key_home config session.dc key) (call.Put key writing.value (all_of obs) (near_of obs)) r =
      subst (λ (t : ℕ). called t (key_home config session.dc key) (call.Put key writing.value (all_of obs) (near_of obs)) r) at_is
      (subst (λ (d : ℕ). called now (record { dc = d; shard = shard_of key config.shards }) (call.Put key writing.value (all_of obs) (near_of obs)) r) stands.dc_is
      (subst (λ (s : ℕ). called now (record { dc = kept.setting.dc; shard = shard_of key s }) (call.Put key writing.value (all_of obs) (near_of obs)) r) stands.setting_is.shards
      (subst (λ ps. called now (record { dc = kept.setting.dc; shard = shard_of key kept.setting.shards }) (call.Put key writing.value ps (near_of obs)) r) w.deps_are
      (subst (λ ps. called now (record { dc = kept.setting.dc; shard = shard_of key kept.setting.shards }) (call.Put key writing.value writing.deps ps) r) w.near_are answers)))) in
      let same : has_restarted running.action running.log step ≡ false = ap (λ a. has_restarted a running.log step) w.action_is in
      let has : HasStepped config session running step (Done ended) after = record {
        shown_is = inl (ap Done ended_is ∙ sym shows);
        wants = λ memory. subst (WantsMemory config (request_of session running) running.log step) (sym w.action_is) (ap Replied (put_wants key r (sym ended_is ∙ ended_of ended memory)));
        stands =
            done_stands config (with_put writing) after session running step ended stands setting (moment_is ∙ at_is ∙ sym (ap (λ b. if b then raised at (Replied r) else at) same))
            (subst (λ (n : ℕ). ContextsStandFor after.contexts.rows (context_extended n (seen_in ended) session.contexts)) own.1 contexts) limit next_context next_request idle;
      } in
      subst (λ (n : Next Answer). TellsNext (called at) stays config session running at told after n) (sym calls) (
        r,
        made,
        record {
          stepped = subst (λ (s : Progress). HasStepped config session running step s after) (sym told_is) has;
          exact = exactly told (progress config (request_of session running) running.log step) (told_is ∙ ap Done ended_is ∙ sym shows);
        },
      )

  -- ---- a get transaction

  turns_as : (called : NodeId → NodeCall → NodeReply → Type 0) (stays : Type 0) (keys : List (List ℕ)) (moment : ℕ) (next_reading : Reading) (later : ℕ) (turned : Result ReadStep RequestError) (told : Result Progress AllocError) (n : Next Answer) →
      ((step : LogStep) → HasTurned config (request_of session running) keys running.log step next_reading later turned → HasTold config session running step told after) →
      TurnsNext called stays config (request_of session running) keys running.log moment next_reading later turned n → TellsNext called stays config session running moment told after n
  turns_as called stays keys moment next_reading later turned told (Call directed) steps h = (h.0, h.1, steps _ h.2)
  turns_as called stays keys moment next_reading later turned told Restart steps h = (h.0, steps _ h.1)
  turns_as called stays keys moment next_reading later turned told (Ended ended) steps h = h

  pub get_steps : (called : ℕ → NodeId → NodeCall → NodeReply → Type 0) (stays : Type 0) (reading : Reading) (moment now : ℕ) (next_reading : Reading) (later : ℕ) (turned : Result ReadStep RequestError) (told : Result Progress AllocError) →
      SessionStandsFor config (with_get reading) session → session.running ≡ Some running → now ≡ max kept.moment moment →
      ((config : TenantConfig) (obs : List Observation) (keys : List (List ℕ)) (log : List LogStep) → IsSettingOf config kept.setting →
      IsReading config (record { dc = kept.setting.dc; obs = obs; action = Fetch keys }) keys log reading →
      TurnsNext (called now) stays config (record { dc = kept.setting.dc; obs = obs; action = Fetch keys }) keys log now next_reading later turned (next config (record { dc = kept.setting.dc; obs = obs; action = Fetch keys }) log now)) →
      ((keys : List (List ℕ)) (step : LogStep) → context ≡ running.context → number ≡ running.number → running.action ≡ Fetch keys → HasTurned config (request_of session running) keys running.log step next_reading later turned →
      HasTold config session running step told after) →
      TellsNext (called (moment_at moment session)) stays config session running (moment_at moment session) told after (next config (request_of session running) running.log (moment_at moment session))
  get_steps called stays reading moment now next_reading later turned told stands is now_is turns steps =
      let own : (number ≡ running.number) × (context ≡ running.context) × ((keys : List (List ℕ)) × (running.action ≡ Fetch keys) × IsReading config (request_of session running) keys running.log reading) =
      subst (λ (b : Option Running). RunningStandsFor config session (Some (record { number = number; context = context; work = Get reading })) b) is stands.running_is in
      let keys = own.2.0 in
      let action = own.2.1 in
      let obs = obs_of running.context session in
      let at_is : now ≡ moment_at moment session = now_is ∙ ap (λ t. max t moment) stands.moment_is in
      let req : request_of session running ≡ record { dc = kept.setting.dc; obs = obs; action = Fetch keys } = λ i. record { dc = sym stands.dc_is i; obs = obs; action = action i } in
      let read = subst (λ (r : Request). IsReading config r keys running.log reading) req own.2.2 in
      let next_turns : TurnsNext (called (moment_at moment session)) stays config (request_of session running) keys running.log (moment_at moment session) next_reading later turned (next config (request_of session running) running.log (moment_at moment session)) =
      subst (λ (t : ℕ). TurnsNext (called t) stays config (request_of session running) keys running.log t next_reading later turned (next config (request_of session running) running.log t)) at_is
      (subst (λ (r : Request). TurnsNext (called now) stays config r keys running.log now next_reading later turned (next config r running.log now)) (sym req) (turns config obs keys running.log stands.setting_is read)) in
      turns_as (called (moment_at moment session)) stays keys (moment_at moment session) next_reading later turned told (next config (request_of session running) running.log (moment_at moment session)) (λ step. steps keys step own.1 own.0 action) next_turns

  -- the timestamp after the step
  moment_turned : (keys : List (List ℕ)) (step : LogStep) (next_reading : Reading) (later : ℕ) (turned : Result ReadStep RequestError) → running.action ≡ Fetch keys → HasTurned config (request_of session running) keys running.log step next_reading later turned →
      later ≡ moment_after running step
  moment_turned keys step next_reading later turned action has = has.moment_is ∙ ap (λ a. if has_restarted a running.log step then raised step.moment step.outcome else step.moment) (sym action)

  -- the session goes on with the same request
  goes_on : (reading next_reading : Reading) (later : ℕ) (keys : List (List ℕ)) (step : LogStep) → SessionStandsFor config (with_get reading) session → after ≡ record (with_get next_reading) { moment = later } →
      context ≡ running.context → number ≡ running.number → running.action ≡ Fetch keys → later ≡ moment_after running step →
      IsReading config (request_of session running) keys (running.log ++ step ∷ []) next_reading →
      SessionStandsFor config after (record session { moment = moment_after running step; running = Some (record running { log = running.log ++ step ∷ [] }) })
  goes_on reading next_reading later keys step stands after_is same_context same_number action moment_is read =
      let next_session : Session = record session { moment = moment_after running step; running = Some (record running { log = running.log ++ step ∷ [] }) } in
      subst (λ (k : KeptSession). SessionStandsFor config k next_session) (sym after_is) (record {
        setting_is = stands.setting_is;
        dc_is = stands.dc_is;
        moment_is = moment_is;
        contexts_are = stands.contexts_are;
        limit_is = stands.limit_is;
        next_context_is = stands.next_context_is;
        next_request_is = stands.next_request_is;
        running_is = (same_number, same_context, (keys, action, read));
      })

  pub works : (reading next_reading : Reading) (later : ℕ) (keys : List (List ℕ)) (step : LogStep) → SessionStandsFor config (with_get reading) session → after ≡ record (with_get next_reading) { moment = later } →
      context ≡ running.context → number ≡ running.number → running.action ≡ Fetch keys → HasTurned config (request_of session running) keys running.log step next_reading later (Ok read_step.Working) → HasTold config session running step (Ok Working) after
  works reading next_reading later keys step stands after_is same_context same_number action has =
      let here = has.came_is in
      record {
        stepped = record {
          shown_is = inl (sym here.0);
          wants = λ memory. cc;
          stands = goes_on reading next_reading later keys step stands after_is same_context same_number action (moment_turned keys step next_reading later (Ok read_step.Working) action has) here.1;
        };
        exact = sym here.0;
      }

  pub restarts : (reading next_reading : Reading) (later : ℕ) (keys : List (List ℕ)) (step : LogStep) → SessionStandsFor config (with_get reading) session → after ≡ record (with_get next_reading) { moment = later } →
      context ≡ running.context → number ≡ running.number → running.action ≡ Fetch keys → HasTurned config (request_of session running) keys running.log step next_reading later (Ok read_step.Restarted) →
      HasTold config session running step (Ok (Restarted next_reading.restarts)) after
  restarts reading next_reading later keys step stands after_is same_context same_number action has =
      let here = has.came_is in
      record {
        stepped = record {
          shown_is = inl (sym here.0);
          wants = λ memory. cc;
          stands = goes_on reading next_reading later keys step stands after_is same_context same_number action (moment_turned keys step next_reading later (Ok read_step.Restarted) action has) here.1;
        };
        exact = sym here.0;
      }

  -- the request has ended with a refusal, and its context has seen no more
  refused_stands : (reading : Reading) (fault : Fault) (later : ℕ) (step : LogStep) → SessionStandsFor config (with_get reading) session → after ≡ record kept { moment = later; running = None } →
      later ≡ moment_after running step → SessionStandsFor config after (session_after session running step (Done (answer.Refused fault)))
  refused_stands reading fault later step stands after_is moment_is =
      subst (λ (k : KeptSession). SessionStandsFor config k (session_after session running step (Done (answer.Refused fault)))) (sym after_is)
      (done_stands config (with_get reading) (record kept { moment = later; running = None }) session running step (answer.Refused fault) stands refl moment_is
      (subst (λ (cs : List OpenContext). ContextsStandFor kept.contexts.rows cs) (sym (context_extended-nothing running.context session.contexts)) stands.contexts_are) refl refl refl refl)

  lacked : (reading : Reading) (lack : AllocError) (later : ℕ) (keys : List (List ℕ)) (step : LogStep) → SessionStandsFor config (with_get reading) session → after ≡ record kept { moment = later; running = None } →
      later ≡ moment_after running step → running.action ≡ Fetch keys → (step.outcome ≡ Replied (reply.Refused OutOfMemory)) ⊎ EndsRound config (request_of session running) keys running.log step →
      HasTold config session running step (Err lack) after
  lacked reading lack later keys step stands after_is moment_is action wants =
      record {
        stepped = record {
          shown_is = inr refl;
          wants = λ memory. subst (WantsMemory config (request_of session running) running.log step) (sym action) wants;
          stands = refused_stands reading OutOfMemory later step stands after_is moment_is;
        };
        exact = tt;
      }

  pub fails : (reading next_reading : Reading) (later : ℕ) (failed : RequestError) (keys : List (List ℕ)) (step : LogStep) → SessionStandsFor config (with_get reading) session → after ≡ record kept { moment = later; running = None } →
      running.action ≡ Fetch keys → HasTurned config (request_of session running) keys running.log step next_reading later (Err failed) → HasTold config session running step (told_end failed) after
  fails reading next_reading later (error.Refused fault) keys step stands after_is action has =
      let here = has.came_is in
      record {
        stepped = record {
          shown_is = inl (sym here.0);
          wants = λ memory.
              let same : fault ≡ OutOfMemory = cc in
              subst (WantsMemory config (request_of session running) running.log step) (sym action) (inl (here.1 same));
          stands = refused_stands reading fault later step stands after_is (moment_turned keys step next_reading later (Err (error.Refused fault)) action has);
        };
        exact = sym here.0;
      }
  fails reading next_reading later error.OutOfMemory keys step stands after_is action has =
      lacked reading (record {}) later keys step stands after_is (moment_turned keys step next_reading later (Err error.OutOfMemory) action has) action has.came_is.1

  -- memory ran out for what the context sees
  pub lacks_reads : (reading next_reading : Reading) (lack : AllocError) (later : ℕ) (keys : List (List ℕ)) (step : LogStep) → SessionStandsFor config (with_get reading) session →
      after ≡ record kept { moment = later; running = None } → running.action ≡ Fetch keys → HasTurned config (request_of session running) keys running.log step next_reading later (Ok read_step.Complete) → HasTold config session running step (Err lack) after
  lacks_reads reading next_reading lack later keys step stands after_is action has =
      let here = has.came_is in
      lacked reading lack later keys step stands after_is (moment_turned keys step next_reading later (Ok read_step.Complete) action has) action (inr (record { same_attempt = here.0; is_read = inr (next_reading.rounds.reads, here.1) }))

  pub completes : (reading next_reading : Reading) (later : ℕ) (ended : Answer) (keys : List (List ℕ)) (step : LogStep) → SessionStandsFor config (with_get reading) session →
      ended ≡ values_or_full kept.setting.deps (obs_in context session.contexts) next_reading.rounds.reads →
      ContextsStandFor after.contexts.rows (context_extended context (seen_in ended) session.contexts) →
      after ≡ record kept { moment = later; contexts = record kept.contexts { rows = after.contexts.rows }; running = None } → context ≡ running.context →
      running.action ≡ Fetch keys → HasTurned config (request_of session running) keys running.log step next_reading later (Ok read_step.Complete) → HasTold config session running step (Ok (Done ended)) after
  completes reading next_reading later ended keys step stands ended_is contexts after_is same_context action has =
      let here = has.came_is in
      let reads = next_reading.rounds.reads in
      let shows : Done ended ≡ progress config (request_of session running) running.log step =
      ap Done (ended_is ∙ (λ i. values_or_full (stands.setting_is.deps i) (obs_in (same_context i) session.contexts) reads)) ∙ sym here.1 in
      record {
        stepped = record {
          shown_is = inl shows;
          wants = λ memory. subst (WantsMemory config (request_of session running) running.log step) (sym action) (inr (record { same_attempt = here.0; is_read = inr (reads, here.1) }));
          stands =
              done_stands config (with_get reading) after session running step ended stands (ap (λ k. k.setting) after_is) (ap (λ k. k.moment) after_is ∙ moment_turned keys step next_reading later (Ok read_step.Complete) action has)
              (subst (λ (n : ℕ). ContextsStandFor after.contexts.rows (context_extended n (seen_in ended) session.contexts)) same_context contexts)
              (ap (λ k. k.contexts.limit) after_is) (ap (λ k. k.contexts.next) after_is) (ap (λ k. k.next_request) after_is) (ap (λ k. k.running) after_is);
        };
        exact = shows;
      }

-- ---- a step of the session whose running request is a get transaction

module _ (config : TenantConfig) (kept after : KeptSession) (session : Session) (ongoing : Ongoing) (reading : Reading) where
  abbrev with_reading : KeptSession
  with_reading = record kept { running = Some (record { number = ongoing.number; context = ongoing.context; work = Get reading }) }

  -- the session is seen as another names it
  pub get_told : (viewed : KeptSession) → kept ≡ viewed → (handle : ℕ) → kept.running ≡ Some ongoing → ongoing.work ≡ Get reading → is_running handle viewed.running ≡ true → SessionStandsFor config viewed session →
      (called : ℕ → ℕ → NodeId → NodeCall → NodeReply → Type 0) (stays : Type 0) (moment now : ℕ) (next_reading : Reading) (later : ℕ) (result turned : Result ReadStep RequestError) (told : Result Progress AllocError) → now ≡ max kept.moment moment →
      TurnsFrom (called kept.setting.slot now) stays kept.setting reading now next_reading later result → result ≡ turned →
      ((running : Running) → SessionStandsFor config with_reading session → (keys : List (List ℕ)) (step : LogStep) → ongoing.context ≡ running.context → ongoing.number ≡ running.number → running.action ≡ Fetch keys →
      HasTurned config (request_of session running) keys running.log step next_reading later turned → HasTold config session running step told after) →
      (running : Running) × (session.running ≡ Some running) × (running.number ≡ handle)
      × TellsNext (called viewed.setting.slot (moment_at moment session)) stays config session running (moment_at moment session) told after (next config (request_of session running) running.log (moment_at moment session))
  get_told viewed view_is handle runs get asked stand called stays moment now next_reading later result turned told now_is turns result_is steps =
      let kept_stands = subst (λ (k : KeptSession). SessionStandsFor config k session) (sym view_is) stand in
      let found = has_running config session ongoing session.running (subst (λ (r : Option Ongoing). RunningStandsFor config session r session.running) runs kept_stands.running_is) in
      let own : ongoing.number ≡ handle = is_number ongoing.number handle (sym (ap (is_running handle) runs) ∙ ap (λ (k : KeptSession). is_running handle k.running) view_is ∙ asked) in
      let whole = runs ∙ ap (λ w. Some (record { number = ongoing.number; context = ongoing.context; work = w })) get in
      let stands : SessionStandsFor config with_reading session = subst (λ (r : Option Ongoing). SessionStandsFor config (record kept { running = r }) session) whole kept_stands in (
        found.0,
        found.1,
        sym found.2 ∙ own,
        subst
            (λ (k : KeptSession). TellsNext (called k.setting.slot (moment_at moment session)) stays config session found.0 (moment_at moment session) told after (next config (request_of session found.0) found.0.log (moment_at moment session)))
            view_is
            (get_steps config kept after session found.0 ongoing.number ongoing.context (called kept.setting.slot) stays reading moment now next_reading later turned told stands found.1 now_is
            (subst (λ (r : Result ReadStep RequestError). TurnsFrom (called kept.setting.slot now) stays kept.setting reading now next_reading later r) result_is turns) (steps found.0 stands)),
      )
