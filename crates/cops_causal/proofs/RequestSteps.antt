-- A step of a session's request, taken apart once for every layer: what it calls, and what it leaves by its answer.
use Rattle.std.proofs.Common.{◌≡◌, ℕ, Bool, true, false, List, [], ◌∷◌, ◌++◌, length, refl, sym, ◌∙◌, ap, subst}
use Rattle.std.specs.Prelude.{Option, Some, None, slice_get}
use Rattle.std.specs.Option.{option_map, option_and_then}
use Rattle.cops_types.specs.declared.contexts.ReadParts.{ReadParts as Read}
use Rattle.cops_types.specs.declared.faults.Fault.{Fault}
use Rattle.cops_types.specs.declared.records.EntryParts.{EntryParts as Entry}
use Rattle.cops_types.specs.Context.{all_of, near_of}
use Rattle.cops_types.specs.TenantConfig.{TenantConfig}
use Rattle.cops_types.proofs.PairSets.{at}
use Rattle.cops_model.specs.declared.calls.NodeCall.TheVariants as node_call
use Rattle.cops_model.specs.declared.calls.NodeReply.{NodeReply}
use Rattle.cops_model.specs.declared.calls.NodeReply.TheVariants as node_reply
use Rattle.cops_model.specs.Log.{LogStep, Replied, Directed, Next, Call, Restart, Ended}
use Rattle.cops_model.specs.Place.{node_number, place_of}
use Rattle.cops_model.specs.declared.requests.Answer.{Answer}
use Rattle.cops_model.specs.declared.requests.Answer.TheVariants as answer_is
use Rattle.cops_model.specs.declared.requests.Progress.TheVariants as session_progress
use Rattle.cops_model.specs.Request.{Action, Write, Fetch, answer, answer_in, unless_late, attempt_of, call_after, is_late, key_home, next}
use Rattle.cops_model.specs.Session.{Running, Session, has_restarted, obs_of, request_of, session_after, shown}
use Rattle.cops_model.specs.Transaction.{ReadRequest, gets}
use Rattle.cops_model.specs.Causal.{Traced, Operation, Effect, Wrote, Returned, past_after}
use Rattle.cops_model.specs.Cluster.{SoloCluster, OfSession, find_session, with_actor, reply_of_answer, reply_of_progress, session_stepped}
use Rattle.cops_node.proofs.NodeTurns.{entries, Change, IsRefused, Answers, Joined, Taken, Stores}
use Rattle.cops_session.proofs.RequestReplies.{Follows, call_of, get-answer, get-next, put-next, put-refused, put-stored, replies_in}
use Rattle.cops_causal.proofs.Moves.{history_after, with_operation}
use Rattle.cops_causal.proofs.NodeEffects.{node_of, Called}
use Rattle.cops_causal.proofs.Provenance.{IsRunning, IsSession}
use Rattle.cops_causal.proofs.EndedOperations.{operation_by}

-- a running request, by its parts
abbrev pub run : ℕ → ℕ → Action → List LogStep → Running
run number context action log = record { number = number; context = context; action = action; log = log }

-- what is said of the one request that runs
pub only_runs : (R : Running → Type 0) (r : Running) → R r → (running : Running) → Some r ≡ Some running → R running
only_runs R r is running runs = let same : r ≡ running = cc in subst R same is

-- all is true of the request of a session that has none
pub none_runs : (R : Running → Type 0) (o : Option Running) → o ≡ None → (running : Running) → o ≡ Some running → R running
none_runs R o idle running runs = absurd (let both : None ≡ Some running = sym idle ∙ runs in cc)

-- ---- what a request calls

-- the call of a put, with the lists of its context
abbrev pub put_sent : TenantConfig → Session → ℕ → List ℕ → List ℕ → Directed
put_sent config s context key value = record { node = key_home config s.dc key; call = node_call.Put key value (all_of (obs_of context s)) (near_of (obs_of context s)) }

-- a running request without an answer has not ended
not_ended : (late : Bool) (n : Next Answer) (a : Answer) → answer_in n ≡ None → unless_late late n ≡ Ended a → ⊥
not_ended true (Call call) a open_still e = cc
not_ended false (Call call) a open_still e = cc
not_ended true Restart a open_still e = cc
not_ended false Restart a open_still e = cc
not_ended late (Ended b) a open_still e = cc

-- what calls is not late
called_late : (n : Next Answer) {directed : Directed} → n ≡ Call directed → n ≡ Restart → ⊥
called_late n is late = cc

module _ (config : TenantConfig) (ts : List Traced) (name : List ℕ) (s : Session) (this : IsSession config ts name s) where
  -- what holds of each call: of a put's, before any step, and of the next that a transaction asks for
  pub by_call : (G : Running → ℕ → Directed → Type 0) →
      ((number context : ℕ) (key value : List ℕ) (moment : ℕ) → let put = run number context (Write key value) [] in
      s.running ≡ Some put → IsRunning config ts s put → G put moment (put_sent config s context key value)) →
      ((number context : ℕ) (keys : List (List ℕ)) (log : List LogStep) (moment : ℕ) (q : ReadRequest) → let get = run number context (Fetch keys) log in
      s.running ≡ Some get → IsRunning config ts s get → slice_get (gets keys (replies_in keys log)) (length (replies_in keys log)) ≡ Some q →
      next config (request_of s get) log moment ≡ Call (call_of config s.dc q) → G get moment (call_of config s.dc q)) →
      (running : Running) (moment : ℕ) (directed : Directed) → s.running ≡ Some running → next config (request_of s running) running.log moment ≡ Call directed → G running moment directed
  by_call G put get running moment directed runs e = by_action running.number running.context running.action running.log runs (this.running_is running runs) e
    where
      put_called : (number context : ℕ) (key value : List ℕ) → let first = run number context (Write key value) [] in
          s.running ≡ Some first → IsRunning config ts s first → next config (request_of s first) [] moment ≡ Call directed → G first moment directed
      put_called number context key value runs is e =
          let sent = put_sent config s context key value in
          let same : sent ≡ directed = (let both : Call sent ≡ Call directed = sym (put-next config s.dc (obs_of context s) key value moment) ∙ e in cc) in
          subst (G (run number context (Write key value) []) moment) same (put number context key value moment runs is)

      by_action : (number context : ℕ) (action : Action) (log : List LogStep) → s.running ≡ Some (run number context action log) → IsRunning config ts s (run number context action log) →
          next config (request_of s (run number context action log)) log moment ≡ Call directed → G (run number context action log) moment directed
      by_action number context (Write key value) log runs is e =
          subst (λ l. let first = run number context (Write key value) l in s.running ≡ Some first → IsRunning config ts s first → next config (request_of s first) l moment ≡ Call directed → G first moment directed)
          (sym is.replies_are) (put_called number context key value) runs is e
      by_action number context (Fetch keys) log runs is e =
          let chosen = get-next config s.dc (obs_of context s) keys log moment directed e in
          subst (G (run number context (Fetch keys) log) moment) (sym chosen.call) (get number context keys log moment chosen.asked runs is chosen.at (e ∙ ap Call chosen.call))

  -- only a transaction is late
  pub by_late : (G : Running → ℕ → Type 0) →
      ((number context : ℕ) (keys : List (List ℕ)) (log : List LogStep) (moment : ℕ) → let get = run number context (Fetch keys) log in s.running ≡ Some get → IsRunning config ts s get → G get moment) →
      (running : Running) (moment : ℕ) → s.running ≡ Some running → next config (request_of s running) running.log moment ≡ Restart → G running moment
  by_late G get running moment runs e = by_action running.number running.context running.action running.log runs (this.running_is running runs) e
    where
      by_action : (number context : ℕ) (action : Action) (log : List LogStep) → s.running ≡ Some (run number context action log) → IsRunning config ts s (run number context action log) →
          next config (request_of s (run number context action log)) log moment ≡ Restart → G (run number context action log) moment
      by_action number context (Write key value) log runs is e =
          let at_start = subst (λ l. next config (request_of s (run number context (Write key value) l)) l moment ≡ Restart) is.replies_are e in
          absurd (called_late (next config (request_of s (run number context (Write key value) [])) [] moment) (put-next config s.dc (obs_of context s) key value moment) at_start)
      by_action number context (Fetch keys) log runs is e = get number context keys log moment runs is

  -- none that runs has ended
  pub never_ended : (running : Running) (moment : ℕ) (a : Answer) → s.running ≡ Some running → next config (request_of s running) running.log moment ≡ Ended a → ⊥
  never_ended running moment a runs e =
      let attempt = attempt_of running.action running.log in
      not_ended (is_late config.trans_time running.action attempt.steps moment) (call_after config (request_of s running) attempt) a (this.running_is running runs).unanswered e

-- ---- what a step leaves

-- the operation that joins the history
abbrev pub joining : List Traced → List ℕ → ℕ → Effect → Traced
joining ts name context effect = let o : Operation = record { session = name; context = context; effect = effect } in record { operation = o; past = past_after ts o }

-- the history after a request of the context ended with this answer
abbrev pub history_with : List Traced → List ℕ → ℕ → Answer → List Traced
history_with ts name context (answer_is.Stored pair) = ts ++ joining ts name context (Wrote pair) ∷ []
history_with ts name context (answer_is.Values reads) = ts ++ joining ts name context (Returned reads) ∷ []
history_with ts name context (answer_is.Refused fault) = ts

module _ (config : TenantConfig) (ts : List Traced) (name : List ℕ) (s : Session) (T : Session → List Traced → Type 0) where
  -- what holds of the session and the history after a step, as the request goes on or ends
  pub record StepLeaves (running : Running) (step : LogStep) : Type 0 where
    pub goes_on : answer config (request_of s running) (running.log ++ step ∷ []) ≡ None → T (session_after s running step session_progress.Working) ts
    pub ends : (a : Answer) → answer config (request_of s running) (running.log ++ step ∷ []) ≡ Some a → T (session_after s running step (session_progress.Done a)) (history_with ts name running.context a)

  -- of a transaction: it goes on, was refused, or returned what follows from its replies
  pub get_leaves : (number context : ℕ) (keys : List (List ℕ)) (log : List LogStep) (step : LogStep) → let get = run number context (Fetch keys) log in
      (answer config (request_of s get) (log ++ step ∷ []) ≡ None → T (session_after s get step session_progress.Working) ts) →
      ((fault : Fault) → T (session_after s get step (session_progress.Done (answer_is.Refused fault))) ts) →
      ((reads : List Read) → Follows config s.dc (obs_of context s) keys (replies_in keys (log ++ step ∷ [])) (answer_is.Values reads) →
      T (session_after s get step (session_progress.Done (answer_is.Values reads))) (ts ++ joining ts name context (Returned reads) ∷ [])) →
      StepLeaves get step
  get_leaves number context keys log step goes_on refused values = record { goes_on = goes_on; ends = by_answer }
    where
      by_answer : (a : Answer) → let get = run number context (Fetch keys) log in
          answer config (request_of s get) (log ++ step ∷ []) ≡ Some a → T (session_after s get step (session_progress.Done a)) (history_with ts name context a)
      by_answer (answer_is.Refused fault) e = refused fault
      by_answer (answer_is.Stored pair) e = absurd (get-answer config s.dc (obs_of context s) keys (log ++ step ∷ []) (answer_is.Stored pair) e)
      by_answer (answer_is.Values reads) e = values reads (get-answer config s.dc (obs_of context s) keys (log ++ step ∷ []) (answer_is.Values reads) e)

  -- of a put: its node refused it, or stored an entry
  pub put_leaves : (c after : SoloCluster) (number context : ℕ) (key value : List ℕ) (moment : ℕ) (reply : NodeReply) →
      let put = run number context (Write key value) [] in
      let step : LogStep = record { moment = moment; outcome = Replied reply } in
      let sent = put_sent config s context key value in
      let n = node_number config.shards sent.node in
      Called config c sent.node sent.call reply after →
      ((fault : Fault) → reply ≡ node_reply.Refused fault → T (session_after s put step (session_progress.Done (answer_is.Refused fault))) ts) →
      ((e : Entry) → entries (node_of config after n) ≡ entries (node_of config c n) ++ e ∷ [] → (stores : Stores (place_of config sent.node) sent.call (node_of config c n) reply e) →
      T (session_after s put step (session_progress.Done (answer_is.Stored (at key stores.0)))) (ts ++ joining ts name context (Wrote (at key stores.0)) ∷ [])) →
      StepLeaves put step
  put_leaves c after number context key value moment reply called refused stored = by_change called.change
    where
      put : Running
      put = run number context (Write key value) []

      step : LogStep
      step = record { moment = moment; outcome = Replied reply }

      sent : Directed
      sent = put_sent config s context key value

      n : ℕ
      n = node_number config.shards sent.node

      answer_to : NodeReply → Option Answer
      answer_to r = answer config (request_of s put) (record { moment = moment; outcome = Replied r } ∷ [])

      -- the one answer
      ending : (a : Answer) → answer_to reply ≡ Some a → T (session_after s put step (session_progress.Done a)) (history_with ts name context a) → StepLeaves put step
      ending a is so =
          record {
            goes_on = λ none. absurd (let both : None ≡ Some a = sym none ∙ is in cc);
            ends = λ b e. let same : a ≡ b = (let both : Some a ≡ Some b = sym is ∙ e in cc) in subst (λ x. T (session_after s put step (session_progress.Done x)) (history_with ts name context x)) same so;
          }

      by_change : Change (place_of config sent.node) sent.call (node_of config c n) reply (node_of config after n) → StepLeaves put step
      by_change (IsRefused same acked is) = ending (answer_is.Refused is.0) (ap answer_to is.1 ∙ put-refused config s.dc (obs_of context s) key value moment is.0) (refused is.0 is.1)
      by_change (Answers same acked is) = absurd is
      by_change (Joined e more acked is) = ending (answer_is.Stored (at key is.0)) (ap answer_to is.1 ∙ put-stored config s.dc (obs_of context s) key value moment is.0) (stored e more is)
      by_change (Taken same is) = absurd is

-- the operation that a running request ends as
ended_as : (c : SoloCluster) (name : List ℕ) (s : Session) (running : Running) (effect : Effect) → find_session name c ≡ Some s → s.running ≡ Some running →
    operation_by c effect name ≡ Some (record { session = name; context = running.context; effect = effect })
ended_as c name s running effect found runs =
    ap (λ o. option_map (λ (r : Running). record { session = name; context = r.context; effect = effect }) (option_and_then (λ (s : Session). s.running) o)) found
    ∙ ap (option_map (λ (r : Running). record { session = name; context = r.context; effect = effect })) runs

-- what a step leaves of its session is left in the cluster
pub step_leads : (config : TenantConfig) (P : SoloCluster → List Traced → Type 0) (c : SoloCluster) (ts : List Traced) (name : List ℕ) (s : Session) → find_session name c ≡ Some s → (running : Running) (step : LogStep) → s.running ≡ Some running →
    StepLeaves config ts name s (λ next us. P (with_actor name (OfSession next) c) us) running step →
    let turn = session_stepped config name s running step c in P turn.after (history_after ts c name turn.reply)
step_leads config P c ts name s found running step runs leaves =
    by_answer (answer config (request_of s running) (running.log ++ step ∷ [])) (has_restarted running.action running.log step) (attempt_of running.action (running.log ++ step ∷ [])).restarts refl
  where
    ended_with : (a : Answer) → history_after ts c name (reply_of_answer a) ≡ history_with ts name running.context a
    ended_with (answer_is.Stored pair) = ap (with_operation ts) (ended_as c name s running (Wrote pair) found runs)
    ended_with (answer_is.Values reads) = ap (with_operation ts) (ended_as c name s running (Returned reads) found runs)
    ended_with (answer_is.Refused fault) = refl

    by_answer : (o : Option Answer) (restarted : Bool) (times : ℕ) → answer config (request_of s running) (running.log ++ step ∷ []) ≡ o →
        P (with_actor name (OfSession (session_after s running step (shown o restarted times))) c) (history_after ts c name (reply_of_progress (shown o restarted times)))
    by_answer None true times open_still = leaves.goes_on open_still
    by_answer None false times open_still = leaves.goes_on open_still
    by_answer (Some a) restarted times ended = subst (P (with_actor name (OfSession (session_after s running step (session_progress.Done a))) c)) (sym (ended_with a)) (leaves.ends a ended)
