-- How many node replies a request has had: at most two for each key in each attempt.
use Rattle.std.proofs.Common.{◌≡◌, ℕ, ◌+◌, ◌*◌, ◌≤◌, ◌<◌, Bool, true, false, cond, List, [], ◌∷◌, ◌++◌, length, refl, sym, ◌∙◌, ap, subst, arith, append-nil, append_assoc, length-append}
use Rattle.std.specs.Prelude.{Some, None, filter, nat_lt}
use Rattle.std.specs.List.{cons_option}
use Rattle.std.proofs.lemmas.List.{length-map}
use Rattle.std.proofs.lemmas.List.Elements.{filter_map-append}
use Rattle.std.proofs.Math.Nat.{add-mul, mul-le-mul_right}
use Rattle.cops_types.specs.Context.{Observation}
use Rattle.cops_types.specs.TenantConfig.{TenantConfig}
use Rattle.cops_types.specs.Version.{version_lt}
use Rattle.cops_types.proofs.Elements.{fold-push, slice_get-within}
use Rattle.cops_model.specs.declared.calls.NodeReply.{NodeReply}
use Rattle.cops_model.specs.Log.{Call, Directed, Ended, Late, LogStep, Next, Outcome, Replied, Restart, replies_of, reply_in}
use Rattle.cops_node.specs.Taken.{IsTaken}
use Rattle.cops_model.specs.declared.requests.Answer.{Answer}
use Rattle.cops_session.specs.Bounds.{IsLogAfter, IsLogOf, HasFewReplies, IsBounded}
use Rattle.cops_model.specs.Request.{Action, Write, Fetch, Request, Attempt, begins_again, attempt_after, attempt_of, next, answer}
use Rattle.cops_model.specs.Transaction.{gets, first_round, second_round, wanted_version, outdated, reads_of}
use Rattle.cops_session.proofs.ReplyRounds.{length-first_round}
use Rattle.cops_session.proofs.RequestReplies.{get_request, put_request, put-next, put-ends, get-next, replies_in, unspent}
use Rattle.cops_session.proofs.WantedVersions.{asked_exactly}

-- ---- at most two calls for each key

filter-shorter : {A : Type 0} (test : A → Bool) (xs : List A) → length (filter test xs) ≤ length xs
filter-shorter test [] = omega arith
filter-shorter test (x ∷ xs) =
    let later = filter-shorter test xs in
    elim (test x) as (λ b. length (cond b (x ∷ filter test xs) (filter test xs)) ≤ length (x ∷ xs)) [ true ↦ omega arith | false ↦ omega arith ]

reads-shorter : (keys : List (List ℕ)) (rs : List NodeReply) → length (reads_of keys rs) ≤ length keys
reads-shorter [] rs = omega arith
reads-shorter (key ∷ keys) [] = omega arith
reads-shorter (key ∷ keys) (r ∷ rs) = let later = reads-shorter keys rs in omega arith

pub gets-few : (keys : List (List ℕ)) (rs : List NodeReply) → length (gets keys rs) ≤ 2 * length keys
gets-few keys rs = by_more (nat_lt (length rs) (length keys))
  where
    firsts : length (first_round keys) ≡ length keys
    firsts = length-first_round keys

    by_more : (b : Bool) → length (cond b (first_round keys) (first_round keys ++ second_round (reads_of keys rs))) ≤ 2 * length keys
    by_more true = let one = firsts in omega arith
    by_more false =
        let one = firsts in
        let reads = reads_of keys rs in
        let both : length (first_round keys ++ second_round reads) ≡ length (first_round keys) + length (second_round reads) = length-append (first_round keys) (second_round reads) in
        let two : length (second_round reads) ≡ length (outdated reads) = length-map (outdated reads) (asked_exactly reads) in
        let three = filter-shorter (λ read. version_lt read.version (wanted_version reads read)) reads in
        let four = reads-shorter keys rs in
        omega arith

-- ---- a transaction

pub replies-push : (log : List LogStep) (step : LogStep) → replies_of (log ++ step ∷ []) ≡ replies_of log ++ cons_option (reply_in step.outcome) []
replies-push log step = filter_map-append (λ (s : LogStep). reply_in s.outcome) log (step ∷ [])

module _ (config : TenantConfig) (dc : ℕ) (obs : List Observation) (keys : List (List ℕ)) where
  abbrev pub most : ℕ
  most = 2 * length keys

  -- in each attempt that ended no more than those, and no more in the present one
  record IsCounted (log : List LogStep) : Type 0 where
    pub all : length (replies_of log) ≤ (attempt_of (Fetch keys) log).restarts * most + length (replies_in keys log)
    pub here : length (replies_in keys log) ≤ most

  -- the attempt after a step
  pub attempt-push : (log : List LogStep) (step : LogStep) → attempt_of (Fetch keys) (log ++ step ∷ []) ≡ attempt_after (Fetch keys) (attempt_of (Fetch keys) log) step
  attempt-push log step = fold-push (attempt_after (Fetch keys)) (record { restarts = 0; steps = [] }) log step

  -- a call leaves room for its reply
  pub call-within : (log : List LogStep) (moment : ℕ) (directed : Directed) → next config (get_request dc obs keys) log moment ≡ Call directed → length (replies_in keys log) < most
  call-within log moment directed e =
      let chosen = get-next config dc obs keys log moment directed e in
      let within = slice_get-within (gets keys (replies_in keys log)) (length (replies_in keys log)) chosen.asked chosen.at in
      let few = gets-few keys (replies_in keys log) in
      omega arith

  -- by what comes of the attempt
  abbrev CountedAs : ℕ → Attempt → Type 0
  CountedAs count attempt = (count ≤ attempt.restarts * most + length (replies_of attempt.steps)) × (length (replies_of attempt.steps) ≤ most)

  restarted : (restarts count here : ℕ) → count ≤ restarts * most + here → here ≤ most → count ≤ (restarts + 1) * most + 0
  restarted restarts count here all within = let split = add-mul restarts 1 most in omega arith

  count_reply : (attempt : Attempt) (count moment : ℕ) (reply : NodeReply) → CountedAs count attempt → length (replies_of attempt.steps) < most →
      (again : Bool) → CountedAs (count + 1) (cond {A = Attempt} again (record { restarts = attempt.restarts + 1; steps = [] }) (record { restarts = attempt.restarts; steps = attempt.steps ++ record { moment = moment; outcome = Replied reply } ∷ [] }))
  count_reply attempt count moment reply is room true = (restarted attempt.restarts (count + 1) (length (replies_of attempt.steps) + 1) (let a = is.0 in omega arith) (omega arith), omega arith)
  count_reply attempt count moment reply is room false =
      let step : LogStep = record { moment = moment; outcome = Replied reply } in
      let more : length (replies_of (attempt.steps ++ step ∷ [])) ≡ length (replies_of attempt.steps) + 1 = ap length (replies-push attempt.steps step) ∙ length-append (replies_of attempt.steps) (reply ∷ []) in
      ((let a = is.0 in omega arith), omega arith)

  count_step : (log : List LogStep) (moment : ℕ) (outcome : Outcome) → IsCounted log → (n : Next Answer) → next config (get_request dc obs keys) log moment ≡ n → IsTaken n outcome → IsCounted (log ++ record { moment = moment; outcome = outcome } ∷ [])
  count_step log moment (Replied reply) counted (Call directed) is taken =
      let step : LogStep = record { moment = moment; outcome = Replied reply } in
      let attempt = attempt_of (Fetch keys) log in
      let more : length (replies_of (log ++ step ∷ [])) ≡ length (replies_of log) + 1 = ap length (replies-push log step) ∙ length-append (replies_of log) (reply ∷ []) in
      let next = count_reply attempt (length (replies_of log)) moment reply (counted.all, counted.here) (call-within log moment directed is) (begins_again (Fetch keys) (length attempt.steps) (Replied reply)) in
      let now = subst (CountedAs (length (replies_of log) + 1)) (sym (attempt-push log step)) next in
      record { all = subst (λ n. n ≤ (attempt_of (Fetch keys) (log ++ step ∷ [])).restarts * most + length (replies_in keys (log ++ step ∷ []))) (sym more) now.0; here = now.1 }
  count_step log moment Late counted Restart is taken =
      let step : LogStep = record { moment = moment; outcome = Late } in
      let attempt = attempt_of (Fetch keys) log in
      let same : replies_of (log ++ step ∷ []) ≡ replies_of log = replies-push log step ∙ append-nil (replies_of log) in
      let again : CountedAs (length (replies_of log)) (record { restarts = attempt.restarts + 1; steps = [] }) = (restarted attempt.restarts (length (replies_of log)) (length (replies_in keys log)) counted.all counted.here, omega arith) in
      let now = subst (CountedAs (length (replies_of log))) (sym (attempt-push log step)) again in
      record { all = subst (λ rs. length rs ≤ (attempt_of (Fetch keys) (log ++ step ∷ [])).restarts * most + length (replies_in keys (log ++ step ∷ []))) (sym same) now.0; here = now.1 }
  count_step log moment Late counted (Call directed) is taken = absurd taken
  count_step log moment Late counted (Ended a) is taken = absurd taken
  count_step log moment (Replied reply) counted Restart is taken = absurd taken
  count_step log moment (Replied reply) counted (Ended a) is taken = absurd taken

  count_after : (log later : List LogStep) → IsCounted log → IsLogAfter config (get_request dc obs keys) log later → IsCounted (log ++ later)
  count_after log [] counted are = subst IsCounted (sym (append-nil log)) counted
  count_after log (step ∷ later) counted are =
      subst IsCounted (append_assoc log (step ∷ []) later)
      (count_after (log ++ step ∷ []) later (count_step log step.moment step.outcome counted (next config (get_request dc obs keys) log step.moment) refl are.0) are.1)

  pub few_replies : (log : List LogStep) → IsLogOf config (get_request dc obs keys) log → answer config (get_request dc obs keys) log ≡ None → HasFewReplies config log (Fetch keys)
  few_replies log are open_still =
      let counted = count_after [] log (record { all = omega arith; here = omega arith }) are in
      let restarts = (attempt_of (Fetch keys) log).restarts in
      let within = unspent config dc obs keys log open_still in
      let grown : restarts * most ≤ config.restarts * most = mul-le-mul_right most within in
      let split = add-mul config.restarts 1 most in
      let all = counted.all in
      let here = counted.here in
      omega arith

-- ---- a put

module _ (config : TenantConfig) (dc : ℕ) (obs : List Observation) (key value : List ℕ) where
  abbrev request : Request
  request = put_request dc obs key value

  -- with the reply it ends, so that nothing comes later
  replied_once : (moment : ℕ) (reply : NodeReply) (later : List LogStep) → let step : LogStep = record { moment = moment; outcome = Replied reply } in
      IsLogAfter config request (step ∷ []) later → answer config request (step ∷ later) ≡ None → ⊥
  replied_once moment reply [] are open_still = let ends = put-ends config dc obs key value moment 0 reply in let both : Some ends.0 ≡ None = sym ends.2 ∙ open_still in cc
  replied_once moment reply (next ∷ later) are open_still =
      let ends = put-ends config dc obs key value moment next.moment reply in subst (λ n. IsTaken n next.outcome) ends.1 are.0

  no_step : (moment : ℕ) (outcome : Outcome) (later : List LogStep) → let step : LogStep = record { moment = moment; outcome = outcome } in
      IsLogAfter config request [] (step ∷ later) → answer config request (step ∷ later) ≡ None → ⊥
  no_step moment Late later are open_still = subst (λ n. IsTaken n Late) (put-next config dc obs key value moment) are.0
  no_step moment (Replied reply) later are open_still = replied_once moment reply later are.1 open_still

  put_unreplied : (log : List LogStep) → IsLogOf config request log → answer config request log ≡ None → replies_of log ≡ []
  put_unreplied [] are open_still = refl
  put_unreplied (step ∷ later) are open_still = absurd (no_step step.moment step.outcome later are open_still)

pub is_bounded : (config : TenantConfig) (request : Request) (log : List LogStep) → IsBounded config request log
is_bounded config request log = by_action request.dc request.obs request.action
  where
    by_action : (dc : ℕ) (obs : List Observation) (action : Action) → IsBounded config (record { dc = dc; obs = obs; action = action }) log
    by_action dc obs (Fetch keys) = few_replies config dc obs keys log
    by_action dc obs (Write key value) = put_unreplied config dc obs key value log
