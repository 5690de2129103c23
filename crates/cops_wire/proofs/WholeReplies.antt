-- A reply gives all of an answer if the tenant's lists have at most 1,024 pairs.
use Rattle.std.proofs.Common.{◌≡◌, ◌⊎◌, ℕ, ◌≤◌, Bool, true, false, cond, List, [], ◌∷◌, ◌++◌, length, zero, suc, inl, inr, refl, subst}
use Rattle.std.specs.Prelude.{Option, Some, None, nat_lt, slice_get}
use Rattle.cops_types.specs.declared.contexts.ReadParts.{ReadParts as Read}
use Rattle.cops_types.specs.declared.faults.Fault.{Fault}
use Rattle.cops_types.specs.declared.faults.Fault.TheVariants.{OutOfMemory, Overrun}
use Rattle.cops_types.specs.Context.{Observation}
use Rattle.cops_types.specs.TenantConfig.{TenantConfig}
use Rattle.cops_model.specs.declared.calls.NodeCall.{NodeCall}
use Rattle.cops_model.specs.declared.calls.NodeId.{NodeId}
use Rattle.cops_model.specs.declared.calls.NodeReply.{NodeReply}
use Rattle.cops_model.specs.declared.calls.NodeReply.TheVariants as node_reply
use Rattle.cops_model.specs.declared.requests.Answer.{Answer}
use Rattle.cops_model.specs.declared.requests.Answer.TheVariants as answer_is
use Rattle.cops_model.specs.declared.requests.Progress.TheVariants.{Done}
use Rattle.cops_model.specs.Log.{Call, Directed, Ended, Late, LogStep, Next, Replied, Restart, call_or, first_fault, replies_of}
use Rattle.cops_model.specs.Request.{Action, Fetch, Request, Write, answer, answer_in, attempt_of, complete, next, request_calls, unless_fault}
use Rattle.cops_model.specs.Session.{Running, Session, moment_at, obs_of, progress, request_of, shown}
use Rattle.cops_wire.specs.Limits.{IsHeldOrTyped}
use Rattle.cops_wire.specs.Requests.{Backend, DoesNext, EndsAfter, message_of_answer, whole_message}
use Rattle.cops_wire.specs.Running.{HasFewKeys}
use Rattle.cops_wire.proofs.FoundLimits.{taken_fit}
use Rattle.cops_wire.proofs.StepLemmas.{logged, same_running}

-- the answer is what a log of the request gives
pub record IsLogged (config : TenantConfig) (action : Action) (ended : Answer) : Type 0 where
  pub dc : ℕ
  pub obs : List Observation
  pub log : List LogStep
  pub is : answer config (record { dc = dc; obs = obs; action = action }) log ≡ Some ended

abbrev pub IsGiven : TenantConfig → Action → Answer → Type 0
IsGiven config action ended = IsLogged config action ended ⊎ (ended ≡ answer_is.Refused OutOfMemory)

shown_answer : (ended : Answer) (given : Option Answer) (restarted : Bool) (times : ℕ) → Done ended ≡ shown given restarted times → given ≡ Some ended
shown_answer ended (Some a) restarted times e = cc
shown_answer ended None true times e = cc
shown_answer ended None false times e = cc

module _ {N M : Type 0} (Calls : N → NodeId → ℕ → ℕ → NodeCall → NodeReply → N → Type 0) (GivesMoment : M → ℕ → M → Type 0) (config : TenantConfig) (slot : ℕ) where
  by_shown : (session : Session) (running : Running) (ended : Answer) (step : LogStep)
      → (Done ended ≡ progress config (request_of session running) running.log step) ⊎ (Done ended ≡ Done (answer_is.Refused OutOfMemory)) → IsGiven config running.action ended
  by_shown session running ended step (inl e) = inl (record {
    dc = session.dc;
    obs = obs_of running.context session;
    log = running.log ++ step ∷ [];
    is = shown_answer ended (answer config (request_of session running) (running.log ++ step ∷ [])) _ _ e;
  })
  by_shown session running ended step (inr e) = inr cc

  last_step : (session : Session) (running : Running) (moment : ℕ) (old new : N) (ended : Answer) (after : Session) (n : Next Answer)
      → DoesNext Calls GivesMoment config slot session running moment old n (Done ended) after new → IsGiven config running.action ended
  last_step session running moment old new ended after (Call directed) d = by_shown session running ended (record { moment = moment; outcome = Replied d.0 }) d.2.shown_is
  last_step session running moment old new ended after Restart d = by_shown session running ended (record { moment = moment; outcome = Late }) d.1.shown_is
  last_step session running moment old new ended after (Ended other) d = absurd d

  -- a request ends with what its log gives
  pub ends_logged : (steps : ℕ) (old : Backend Session N M) (ended : Answer) (new : Backend Session N M) (running : Running) → old.session.running ≡ Some running
      → EndsAfter Calls GivesMoment config slot steps old ended new → IsGiven config running.action ended
  ends_logged zero old ended new running runs s =
      let same : s.running ≡ running = same_running Calls GivesMoment config slot s.running running old.session.running s.runs runs in
      subst (λ (r : Running). IsGiven config r.action ended) same
      (last_step old.session s.running (moment_at s.given old.session) old.nodes new.nodes ended new.session (next config (request_of old.session s.running) s.running.log (moment_at s.given old.session)) s.does)
  ends_logged (suc steps) old ended new running runs h =
      let s = h.2 in
      let same : s.running ≡ running = same_running Calls GivesMoment config slot s.running running old.session.running s.runs runs in
      let more = logged Calls GivesMoment config slot old.session s.running (moment_at s.given old.session) old.nodes h.1.nodes h.0 h.1.session (next config (request_of old.session s.running) s.running.log (moment_at s.given old.session)) h.3 s.does in
      subst (λ (r : Running). IsGiven config r.action ended) same (ends_logged steps h.1 ended new _ more.1 h.4)

-- ---- a put reads nothing

abbrev IsNoRead : Answer → Type 0
IsNoRead ended = (reads : List Read) → ended ≡ answer_is.Values reads → ⊥

stored_or_torn : (config : TenantConfig) (request : Request) (key value : List ℕ) (replies : List NodeReply) → IsNoRead (complete config request replies (Write key value))
stored_or_torn config request key value [] reads e = cc
stored_or_torn config request key value (node_reply.Stored version ∷ replies) reads e = cc
stored_or_torn config request key value (reply ∷ replies) reads e = cc

no_read : (spent : Bool) (fault : Option Fault) (found : Option Directed) (ended : Answer) (reads : List Read) → IsNoRead ended
    → answer_in (cond spent (Ended (answer_is.Refused Overrun)) (unless_fault fault (call_or found ended))) ≡ Some (answer_is.Values reads) → ⊥
no_read true fault found ended reads none e = cc
no_read false (Some fault) found ended reads none e = cc
no_read false None (Some call) ended reads none e = cc
no_read false None None ended reads none e = none reads cc

put_reads_nothing : (config : TenantConfig) (dc : ℕ) (obs : List Observation) (key value : List ℕ) (log : List LogStep) (reads : List Read)
    → answer config (record { dc = dc; obs = obs; action = Write key value }) log ≡ Some (answer_is.Values reads) → ⊥
put_reads_nothing config dc obs key value log reads e =
    let request : Request = record { dc = dc; obs = obs; action = Write key value } in
    let attempt = attempt_of (Write key value) log in
    let replies = replies_of attempt.steps in
    let calls = request_calls config request replies (Write key value) in
    no_read (nat_lt config.restarts attempt.restarts) (first_fault calls replies) (slice_get calls (length replies)) (complete config request replies (Write key value)) reads (stored_or_torn config request key value replies) e

-- ---- replies

-- what was read is as its types allow, unless a frame holds it; and a context takes few dependencies
pub whole_so : (config : TenantConfig) (action : Action) (ended : Answer) → HasFewKeys action → IsHeldOrTyped ended → config.quota.deps ≤ 1024 → IsGiven config action ended → message_of_answer ended ≡ whole_message ended
whole_so config action (answer_is.Stored pair) few typed small given = refl
whole_so config action (answer_is.Refused fault) few typed small given = refl
whole_so config action (answer_is.Values reads) few (inl held) small given = rw held refl
whole_so config (Write key value) (answer_is.Values reads) few (inr typed) small (inl is) = absurd (put_reads_nothing config is.dc is.obs key value is.log reads is.is)
whole_so config (Fetch keys) (answer_is.Values reads) few (inr typed) small (inl is) = taken_fit config is.dc is.obs keys is.log reads small few typed is.is
whole_so config action (answer_is.Values reads) few (inr typed) small (inr lack) = cc
