-- A request whose call a node refuses ends with the node's fault.
use Rattle.std.proofs.Common.{◌≡◌, ℕ, Bool, true, false, List, [], ◌∷◌, ◌++◌, map, length, refl, sym, ◌∙◌, ap, true≢false, arith}
use Rattle.std.specs.Prelude.{Option, Some, None, slice_get, nat_lt}
use Rattle.std.proofs.lemmas.List.{length-map}
use Rattle.std.proofs.lemmas.List.Elements.{filter_map-append}
use Rattle.std.proofs.lemmas.Option.{slice_get_within}
use Rattle.cops_types.specs.declared.faults.Fault.{Fault}
use Rattle.cops_types.specs.declared.faults.Fault.TheVariants.{Overrun}
use Rattle.cops_types.specs.TenantConfig.{TenantConfig}
use Rattle.cops_model.specs.declared.calls.NodeCall.TheVariants.{Get}
use Rattle.cops_model.specs.declared.calls.NodeReply.{NodeReply}
use Rattle.cops_model.specs.declared.calls.NodeReply.TheVariants as node_reply
use Rattle.cops_model.specs.Log.{Call, Directed, Ended, LogStep, Next, Replied, Restart, call_or, first_fault, replies_of, reply_in}
use Rattle.cops_model.specs.declared.requests.Answer.{Answer}
use Rattle.cops_model.specs.declared.requests.Answer.TheVariants.{Refused}
use Rattle.cops_model.specs.declared.requests.Progress.TheVariants as progress
use Rattle.cops_model.specs.Request.{Action, Attempt, Fetch, Request, Write, answer_in, attempt_of, begins_again, call_after, complete, is_late, key_home, next, request_calls, unless_fault, unless_late}
use Rattle.cops_model.specs.Session.{progress, has_restarted}
use Rattle.cops_model.specs.Session as session
use Rattle.cops_model.specs.Transaction.{ReadRequest, gets}
use Rattle.cops_session.proofs.Faults.{first_fault-push, fault_of_next, attempt_of-push}

not_late : (late : Bool) (n : Next Answer) (d : Directed) → unless_late late n ≡ Call d → n ≡ Call d
not_late true (Call c) d e = cc
not_late true Restart d e = e
not_late true (Ended a) d e = e
not_late false n d e = e

asks : (fault : Option Fault) (o : Option Directed) (a : Answer) (d : Directed) → unless_fault fault (call_or o a) ≡ Call d → (fault ≡ None) × (o ≡ Some d)
asks None None a d e = cc
asks None (Some c) a d e = (refl, let same : c ≡ d = cc in ap Some same)
asks (Some x) o a d e = cc

stays_in_attempt : (action : Action) (n : ℕ) (fault : Fault) → begins_again action n (Replied (node_reply.Refused fault)) ≡ false
stays_in_attempt (Write key value) n fault = refl
stays_in_attempt (Fetch keys) n fault = refl

abbrev is_call : Next Answer → Bool
is_call (Call d) = true
is_call Restart = false
is_call (Ended a) = false

-- the fault of one more reply that refuses
refused_fault : (config : TenantConfig) (request : Request) (replies : List NodeReply) (d : Directed) (fault : Fault) (action : Action) →
    first_fault (request_calls config request replies action) replies ≡ None → slice_get (request_calls config request replies action) (length replies) ≡ Some d →
    first_fault (request_calls config request (replies ++ node_reply.Refused fault ∷ []) action) (replies ++ node_reply.Refused fault ∷ []) ≡ Some fault
refused_fault config request replies d fault (Write key value) none at = first_fault-push (request_calls config request replies (Write key value)) replies d (node_reply.Refused fault) none at
refused_fault config request replies d fault (Fetch keys) none at =
    let direct : ReadRequest → Directed = λ g. record { node = key_home config request.dc g.key; call = Get g.key g.wanted } in
    let within = slice_get_within (map direct (gets keys replies)) (length replies) d at in
    fault_of_next config request keys replies d (node_reply.Refused fault) none at (let size = length-map {A = ReadRequest} {B = Directed} (gets keys replies) direct in omega (arith, within, size))

-- a request whose call is refused has ended
pub request_refused : (config : TenantConfig) (request : Request) (log : List LogStep) (at moment : ℕ) (d : Directed) (fault : Fault) → next config request log at ≡ Call d →
    progress config request log (record { moment = moment; outcome = Replied (node_reply.Refused fault) }) ≡ progress.Done (Refused fault)
request_refused config request log at moment d fault e = by_restarts (nat_lt config.restarts attempt.restarts) refl (not_late (is_late config.trans_time request.action attempt.steps at) (call_after config request attempt) d e)
  where
    attempt : Attempt
    attempt = attempt_of request.action log

    replies : List NodeReply
    replies = replies_of attempt.steps

    step : LogStep
    step = record { moment = moment; outcome = Replied (node_reply.Refused fault) }

    later : Attempt
    later = record { restarts = attempt.restarts; steps = attempt.steps ++ step ∷ [] }

    attempt_is : attempt_of request.action (log ++ step ∷ []) ≡ later
    attempt_is = attempt_of-push request.action log step ∙ rw (stays_in_attempt request.action (length attempt.steps) fault) refl

    replies_are : replies_of (attempt.steps ++ step ∷ []) ≡ replies ++ node_reply.Refused fault ∷ []
    replies_are = filter_map-append (λ (s : LogStep). reply_in s.outcome) attempt.steps (step ∷ [])

    over : nat_lt config.restarts attempt.restarts ≡ true → call_after config request attempt ≡ Ended (Refused Overrun)
    over many = rw many refl

    ends : nat_lt config.restarts attempt.restarts ≡ false → first_fault (request_calls config request replies request.action) replies ≡ None → slice_get (request_calls config request replies request.action) (length replies) ≡ Some d →
        call_after config request later ≡ Ended (Refused fault)
    ends few none there =
        rw few (ap (λ rs. unless_fault (first_fault (request_calls config request rs request.action) rs) (call_or (slice_get (request_calls config request rs request.action) (length rs)) (complete config request rs request.action))) replies_are
        ∙ ap (λ f. unless_fault f (call_or (slice_get (request_calls config request more request.action) (length more)) (complete config request more request.action))) (refused_fault config request replies d fault request.action none there))
      where
        more : List NodeReply
        more = replies ++ node_reply.Refused fault ∷ []

    by_restarts : (t : Bool) → nat_lt config.restarts attempt.restarts ≡ t → call_after config request attempt ≡ Call d → progress config request log step ≡ progress.Done (Refused fault)
    by_restarts true many e = absurd (true≢false (sym (ap is_call (sym (over many) ∙ e))))
    by_restarts false few e =
        let parts = asks (first_fault (request_calls config request replies request.action) replies) (slice_get (request_calls config request replies request.action) (length replies)) (complete config request replies request.action) d (sym (rw few refl) ∙ e) in
        let ended : call_after config request (attempt_of request.action (log ++ step ∷ [])) ≡ Ended (Refused fault) = ap (call_after config request) attempt_is ∙ ends few parts.0 parts.1 in
        ap (λ n. session.shown (answer_in n) (has_restarted request.action log step) (attempt_of request.action (log ++ step ∷ [])).restarts) ended
