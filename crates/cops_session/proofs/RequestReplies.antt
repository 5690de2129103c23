-- What a put and a transaction do next, and how they end, from the replies so far.
use Rattle.std.proofs.Common.{◌≡◌, ℕ, ◌+◌, ◌≤◌, ◌<◌, Bool, true, false, cond, List, [], ◌∷◌, ◌++◌, map, length, refl, sym, ◌∙◌, ap, subst, arith}
use Rattle.std.specs.Prelude.{Option, Some, None, zero, suc, nat_lt, slice_get}
use Rattle.std.specs.List.{cons_option}
use Rattle.std.proofs.lemmas.List.{length-map}
use Rattle.std.proofs.lemmas.Bool.Decides.{nat_tests}
use Rattle.std.proofs.lemmas.List.Elements.{filter_map-append}
use Rattle.cops_types.specs.declared.contexts.ReadParts.{ReadParts as Read}
use Rattle.cops_types.specs.declared.faults.Fault.{Fault}
use Rattle.cops_types.specs.declared.faults.Fault.TheVariants.{Overrun, DependenciesFull, Torn}
use Rattle.cops_types.specs.Context.{Observation, all_of, near_of, observations_of, can_observe}
use Rattle.cops_types.specs.TenantConfig.{TenantConfig}
use Rattle.cops_types.specs.Version.{Timestamp}
use Rattle.cops_model.specs.declared.calls.NodeCall.TheVariants.{Get, Put}
use Rattle.cops_model.specs.declared.calls.NodeReply.{NodeReply}
use Rattle.cops_model.specs.declared.calls.NodeReply.TheVariants as node_reply
use Rattle.cops_model.specs.Log.{Call, Directed, Ended, Late, LogStep, Next, Outcome, Replied, call_or, first_fault, replies_of, reply_in}
use Rattle.cops_model.specs.declared.requests.Answer.{Answer}
use Rattle.cops_model.specs.declared.requests.Answer.TheVariants.{Stored, Values, Refused}
use Rattle.cops_model.specs.Request.{Attempt, Fetch, Request, Write, answer, answer_in, attempt_after, attempt_of, begins_again, is_late, key_home, next, unless_fault, unless_late, values_or_full}
use Rattle.cops_model.specs.Transaction.{ReadRequest, gets, first_round, second_round, reads_of, final_reads}
use Rattle.cops_types.proofs.Elements.{fold-push, slice_get-within}
use Rattle.cops_types.proofs.PairSets.{at}
use Rattle.cops_types.proofs.Zipped.{Zipped}
use Rattle.cops_session.proofs.ReplyRounds.{Zipped-gets, length-first_round}

never_less : (n : ℕ) → nat_lt n 0 ≡ false
never_less n = grind (arith, nat_tests)

-- ---- a put

abbrev pub put_request : ℕ → List Observation → List ℕ → List ℕ → Request
put_request dc obs key value = record { dc = dc; obs = obs; action = Write key value }

pub put-next : (config : TenantConfig) (dc : ℕ) (obs : List Observation) (key value : List ℕ) (moment : ℕ) →
    next config (put_request dc obs key value) [] moment ≡ Call (record { node = key_home config dc key; call = Put key value (all_of obs) (near_of obs) })
put-next config dc obs key value moment = rw (never_less config.restarts) refl

pub put-open : (config : TenantConfig) (dc : ℕ) (obs : List Observation) (key value : List ℕ) → answer config (put_request dc obs key value) [] ≡ None
put-open config dc obs key value = rw (never_less config.restarts) refl

pub put-stored : (config : TenantConfig) (dc : ℕ) (obs : List Observation) (key value : List ℕ) (moment : ℕ) (version : Timestamp) →
    answer config (put_request dc obs key value) (record { moment = moment; outcome = Replied (node_reply.Stored version) } ∷ []) ≡ Some (Stored (at key version))
put-stored config dc obs key value moment version = rw (never_less config.restarts) refl

pub put-refused : (config : TenantConfig) (dc : ℕ) (obs : List Observation) (key value : List ℕ) (moment : ℕ) (fault : Fault) →
    answer config (put_request dc obs key value) (record { moment = moment; outcome = Replied (node_reply.Refused fault) } ∷ []) ≡ Some (Refused fault)
put-refused config dc obs key value moment fault = rw (never_less config.restarts) refl

-- with any reply it ends
pub put-ends : (config : TenantConfig) (dc : ℕ) (obs : List Observation) (key value : List ℕ) (moment now : ℕ) (reply : NodeReply) →
    let log : List LogStep = record { moment = moment; outcome = Replied reply } ∷ [] in
    (a : Answer) × (next config (put_request dc obs key value) log now ≡ Ended a) × (answer config (put_request dc obs key value) log ≡ Some a) × ((reads : List Read) → a ≡ Values reads → ⊥)
put-ends config dc obs key value moment now (node_reply.Stored version) = (Stored (at key version), rw (never_less config.restarts) refl, rw (never_less config.restarts) refl, λ reads e. cc)
put-ends config dc obs key value moment now (node_reply.Refused fault) = (Refused fault, rw (never_less config.restarts) refl, rw (never_less config.restarts) refl, λ reads e. cc)
put-ends config dc obs key value moment now reply = (Refused Torn, rw (never_less config.restarts) refl, rw (never_less config.restarts) refl, λ reads e. cc)

-- a late step gives no answer
pub put-late : (config : TenantConfig) (dc : ℕ) (obs : List Observation) (key value : List ℕ) (moment : ℕ) (a : Answer) → answer config (put_request dc obs key value) (record { moment = moment; outcome = Late } ∷ []) ≡ Some a → ⊥
put-late config dc obs key value moment a e = let none : answer config (put_request dc obs key value) (record { moment = moment; outcome = Late } ∷ []) ≡ None = (rw (never_less config.restarts) refl) in let both = sym none ∙ e in cc

-- ---- a transaction

abbrev pub get_request : ℕ → List Observation → List (List ℕ) → Request
get_request dc obs keys = record { dc = dc; obs = obs; action = Fetch keys }

-- the replies of its present attempt
abbrev pub replies_in : List (List ℕ) → List LogStep → List NodeReply
replies_in keys log = replies_of (attempt_of (Fetch keys) log).steps

abbrev pub call_of : TenantConfig → ℕ → ReadRequest → Directed
call_of config dc q = record { node = key_home config dc q.key; call = Get q.key q.wanted }

slice_get-map : {A B : Type 0} (f : A → B) (xs : List A) (i : ℕ) (y : B) → slice_get (map f xs) i ≡ Some y → (x : A) × (slice_get xs i ≡ Some x) × (y ≡ f x)
slice_get-map f [] i y e = cc
slice_get-map f (x ∷ xs) zero y e = (x, refl, cc)
slice_get-map f (x ∷ xs) (suc i) y e = slice_get-map f xs i y e

pub slice_get-none : {A : Type 0} (xs : List A) (i : ℕ) → slice_get xs i ≡ None → length xs ≤ i
slice_get-none [] i e = omega arith
slice_get-none (x ∷ xs) zero e = cc
slice_get-none (x ∷ xs) (suc i) e = let later = slice_get-none xs i e in omega arith

-- what comes next of the calls, for a transaction
abbrev chosen : TenantConfig → ℕ → List Observation → List (List ℕ) → List NodeReply → Bool → Option Fault → Option Directed → Next Answer
chosen config dc obs keys rs spent fault found =
    cond spent (Ended (Refused Overrun)) (unless_fault fault (call_or found (values_or_full config.quota.deps obs (final_reads keys rs))))

module _ (config : TenantConfig) (dc : ℕ) (obs : List Observation) (keys : List (List ℕ)) where
  abbrev faults_in : List NodeReply → Option Fault
  faults_in rs = first_fault (map (call_of config dc) (gets keys rs)) rs

  -- the call that comes next is the next of those asked for, and no reply so far was a fault
  pub record NextCall (rs : List NodeReply) (directed : Directed) : Type 0 where
    pub asked : ReadRequest
    pub at : slice_get (gets keys rs) (length rs) ≡ Some asked
    pub call : directed ≡ call_of config dc asked
    pub no_fault : faults_in rs ≡ None

  ended_late : (late : Bool) (a : Answer) → unless_late late (Ended a) ≡ Ended a
  ended_late true a = refl
  ended_late false a = refl

  call_chosen : (rs : List NodeReply) (spent late : Bool) (fault : Option Fault) (found : Option Directed) (directed : Directed) →
      faults_in rs ≡ fault → slice_get (map (call_of config dc) (gets keys rs)) (length rs) ≡ found →
      unless_late late (chosen config dc obs keys rs spent fault found) ≡ Call directed → NextCall rs directed
  call_chosen rs true late fault found directed f is e = let contrary = sym (ended_late late (Refused Overrun)) ∙ e in cc
  call_chosen rs false late (Some fault) found directed f is e = let contrary = sym (ended_late late (Refused fault)) ∙ e in cc
  call_chosen rs false late None None directed f is e = let contrary = sym (ended_late late (values_or_full config.quota.deps obs (final_reads keys rs))) ∙ e in cc
  call_chosen rs false true None (Some call) directed f is e = cc
  call_chosen rs false false None (Some call) directed f is e =
      let found = slice_get-map (call_of config dc) (gets keys rs) (length rs) call is in
      let same : call ≡ directed = cc in
      record { asked = found.0; at = found.1; call = sym same ∙ found.2; no_fault = f }

  pub get-next : (log : List LogStep) (moment : ℕ) (directed : Directed) → next config (get_request dc obs keys) log moment ≡ Call directed → NextCall (replies_in keys log) directed
  get-next log moment directed e =
      let attempt = attempt_of (Fetch keys) log in
      let rs = replies_of attempt.steps in
      call_chosen rs (nat_lt config.restarts attempt.restarts) (is_late config.trans_time (Fetch keys) attempt.steps moment) (faults_in rs) (slice_get (map (call_of config dc) (gets keys rs)) (length rs)) directed refl refl e

  -- without an answer there is a call to be made
  to_be_called : (rs : List NodeReply) (spent : Bool) (fault : Option Fault) (found : Option Directed) → slice_get (map (call_of config dc) (gets keys rs)) (length rs) ≡ found →
      answer_in (chosen config dc obs keys rs spent fault found) ≡ None → length rs < length (gets keys rs)
  to_be_called rs true fault found is e = cc
  to_be_called rs false (Some fault) found is e = cc
  to_be_called rs false None None is e = cc
  to_be_called rs false None (Some call) is e =
      let found = slice_get-map (call_of config dc) (gets keys rs) (length rs) call is in slice_get-within (gets keys rs) (length rs) found.0 found.1

  pub unanswered-within : (log : List LogStep) → answer config (get_request dc obs keys) log ≡ None → length (replies_in keys log) < length (gets keys (replies_in keys log))
  unanswered-within log e =
      let attempt = attempt_of (Fetch keys) log in
      let rs = replies_of attempt.steps in
      to_be_called rs (nat_lt config.restarts attempt.restarts) (faults_in rs) (slice_get (map (call_of config dc) (gets keys rs)) (length rs)) refl e

  -- and there were no more restarts than may be
  still_open : (rs : List NodeReply) (spent : Bool) (fault : Option Fault) (found : Option Directed) → answer_in (chosen config dc obs keys rs spent fault found) ≡ None → spent ≡ false
  still_open rs true fault found e = cc
  still_open rs false fault found e = refl

  pub unspent : (log : List LogStep) → answer config (get_request dc obs keys) log ≡ None → (attempt_of (Fetch keys) log).restarts ≤ config.restarts
  unspent log e =
      let attempt = attempt_of (Fetch keys) log in
      let rs = replies_of attempt.steps in
      let within = still_open rs (nat_lt config.restarts attempt.restarts) (faults_in rs) (slice_get (map (call_of config dc) (gets keys rs)) (length rs)) e in
      grind (arith, nat_tests)

  -- how an answer follows from the replies
  abbrev pub Follows : List NodeReply → Answer → Type 0
  Follows rs (Stored pair) = ⊥
  Follows rs (Values reads) =
      (reads ≡ final_reads keys rs) × (nat_lt (length rs) (length keys) ≡ false) × (faults_in rs ≡ None) × (slice_get (map (call_of config dc) (gets keys rs)) (length rs) ≡ None)
      × (can_observe config.quota.deps obs (observations_of reads) ≡ true)
  Follows rs (Refused fault) = Unit {0}

  all_answered : (rs : List NodeReply) → slice_get (map (call_of config dc) (gets keys rs)) (length rs) ≡ None → nat_lt (length rs) (length keys) ≡ false
  all_answered rs none = by_more (nat_lt (length rs) (length keys)) refl
    where
      by_more : (b : Bool) → nat_lt (length rs) (length keys) ≡ b → b ≡ false
      by_more false is = refl
      by_more true is =
          let there = subst (λ b. slice_get (map (call_of config dc) (cond b (first_round keys) (first_round keys ++ second_round (reads_of keys rs)))) (length rs) ≡ None) is none in
          let past = slice_get-none (map (call_of config dc) (first_round keys)) (length rs) there in
          let counted : length (map (call_of config dc) (first_round keys)) ≡ length keys = length-map (first_round keys) (call_of config dc) ∙ length-first_round keys in
          absurd (grind (arith, nat_tests))

  answer_chosen : (rs : List NodeReply) (spent : Bool) (fault : Option Fault) (found : Option Directed) (a : Answer) →
      faults_in rs ≡ fault → slice_get (map (call_of config dc) (gets keys rs)) (length rs) ≡ found →
      answer_in (chosen config dc obs keys rs spent fault found) ≡ Some a → Follows rs a
  answer_chosen rs true fault found a f is e = let same : Refused Overrun ≡ a = cc in subst (Follows rs) same tt
  answer_chosen rs false (Some fault) found a f is e = let same : Refused fault ≡ a = cc in subst (Follows rs) same tt
  answer_chosen rs false None (Some call) a f is e = cc
  answer_chosen rs false None None a f is e =
      let same : values_or_full config.quota.deps obs (final_reads keys rs) ≡ a = cc in
      subst (Follows rs) same (by_room (can_observe config.quota.deps obs (observations_of (final_reads keys rs))) refl)
    where
      by_room : (b : Bool) → can_observe config.quota.deps obs (observations_of (final_reads keys rs)) ≡ b → Follows rs (cond b (Values (final_reads keys rs)) (Refused DependenciesFull))
      by_room true room = (refl, all_answered rs is, f, is, room)
      by_room false room = tt

  pub get-answer : (log : List LogStep) (a : Answer) → answer config (get_request dc obs keys) log ≡ Some a → Follows (replies_in keys log) a
  get-answer log a e =
      let attempt = attempt_of (Fetch keys) log in
      let rs = replies_of attempt.steps in
      answer_chosen rs (nat_lt config.restarts attempt.restarts) (faults_in rs) (slice_get (map (call_of config dc) (gets keys rs)) (length rs)) a refl refl e

-- no more replies than steps
pub fewer_replies : (steps : List LogStep) → length (replies_of steps) ≤ length steps
fewer_replies [] = omega arith
fewer_replies (s ∷ steps) = by_outcome s.outcome (fewer_replies steps)
  where
    by_outcome : (o : Outcome) → length (replies_of steps) ≤ length steps → length (cons_option (reply_in o) (replies_of steps)) ≤ length (s ∷ steps)
    by_outcome Late fewer = omega arith
    by_outcome (Replied r) fewer = omega arith

-- ---- one more step

module _ (R : ReadRequest → NodeReply → Type 0) (keys : List (List ℕ)) where
  unasked : (qs : List ReadRequest) → Zipped R qs []
  unasked [] = tt
  unasked (q ∷ qs) = tt

  -- at first there are no replies
  pub get-begun : Zipped R (gets keys (replies_in keys [])) (replies_in keys [])
  get-begun = unasked (gets keys [])

  after_step : (attempt : Attempt) (again : Bool) (step : LogStep) (q : ReadRequest) (reply : NodeReply) → step.outcome ≡ Replied reply →
      Zipped R (gets keys (replies_of attempt.steps)) (replies_of attempt.steps) →
      slice_get (gets keys (replies_of attempt.steps)) (length (replies_of attempt.steps)) ≡ Some q → (again ≡ false → R q reply) →
      let steps = (cond {A = Attempt} again (record { restarts = attempt.restarts + 1; steps = [] }) (record { restarts = attempt.restarts; steps = attempt.steps ++ step ∷ [] })).steps in
      Zipped R (gets keys (replies_of steps)) (replies_of steps)
  after_step attempt true step q reply is z next new = unasked (gets keys [])
  after_step attempt false step q reply is z next new =
      let one : replies_of (attempt.steps ++ step ∷ []) ≡ replies_of attempt.steps ++ reply ∷ [] =
      filter_map-append (λ (s : LogStep). reply_in s.outcome) attempt.steps (step ∷ []) ∙ ap (λ o. replies_of attempt.steps ++ cons_option (reply_in o) []) is in
      subst (λ rs. Zipped R (gets keys rs) rs) (sym one) (Zipped-gets R keys (replies_of attempt.steps) q reply z next (new refl))

  -- a reply joins those of the attempt, or the next attempt has none
  pub get-stepped_if : (log : List LogStep) (moment : ℕ) (reply : NodeReply) (q : ReadRequest) → Zipped R (gets keys (replies_in keys log)) (replies_in keys log) →
      slice_get (gets keys (replies_in keys log)) (length (replies_in keys log)) ≡ Some q → (begins_again (Fetch keys) (length (attempt_of (Fetch keys) log).steps) (Replied reply) ≡ false → R q reply) →
      let rs = replies_in keys (log ++ record { moment = moment; outcome = Replied reply } ∷ []) in Zipped R (gets keys rs) rs
  get-stepped_if log moment reply q z next new =
      let step : LogStep = record { moment = moment; outcome = Replied reply } in
      let attempt = attempt_of (Fetch keys) log in
      subst (λ (a : Attempt). Zipped R (gets keys (replies_of a.steps)) (replies_of a.steps)) (sym (fold-push (attempt_after (Fetch keys)) (record { restarts = 0; steps = [] }) log step))
      (after_step attempt (begins_again (Fetch keys) (length attempt.steps) step.outcome) step q reply refl z next new)

  pub get-stepped : (log : List LogStep) (moment : ℕ) (reply : NodeReply) (q : ReadRequest) → Zipped R (gets keys (replies_in keys log)) (replies_in keys log) →
      slice_get (gets keys (replies_in keys log)) (length (replies_in keys log)) ≡ Some q → R q reply →
      let rs = replies_in keys (log ++ record { moment = moment; outcome = Replied reply } ∷ []) in Zipped R (gets keys rs) rs
  get-stepped log moment reply q z next new = get-stepped_if log moment reply q z next (λ goes_on. new)

  pub get-late : (log : List LogStep) (moment : ℕ) → let rs = replies_in keys (log ++ record { moment = moment; outcome = Late } ∷ []) in Zipped R (gets keys rs) rs
  get-late log moment =
      let step : LogStep = record { moment = moment; outcome = Late } in
      subst (λ (a : Attempt). Zipped R (gets keys (replies_of a.steps)) (replies_of a.steps)) (sym (fold-push (attempt_after (Fetch keys)) (record { restarts = 0; steps = [] }) log step)) (unasked (gets keys []))

-- a transaction over some key begins with a call
pub get-open : (config : TenantConfig) (dc : ℕ) (obs : List Observation) (keys : List (List ℕ)) → nat_lt (length keys) 1 ≡ false → answer config (get_request dc obs keys) [] ≡ None
get-open config dc obs [] some = let none : nat_lt 0 1 ≡ true = refl in let both : true ≡ false = sym none ∙ some in cc
get-open config dc obs (key ∷ keys) some = rw (never_less config.restarts) (by_more (nat_lt 0 (length (key ∷ keys))))
  where
    by_more : (b : Bool) →
        let asked = cond b (first_round (key ∷ keys)) (first_round (key ∷ keys) ++ second_round (reads_of (key ∷ keys) [])) in
        answer_in (unless_fault (first_fault (map (call_of config dc) asked) []) (call_or (slice_get (map (call_of config dc) asked) 0) (values_or_full config.quota.deps obs (final_reads (key ∷ keys) [])))) ≡ None
    by_more true = refl
    by_more false = refl
