-- A get transaction that runs stands for its log: after each step too.
use Rattle.std.proofs.Common.{◌≡◌, ℕ, suc, zero, ◌+◌, ◌<◌, ◌≤◌, Bool, true, false, List, [], ◌∷◌, ◌++◌, map, length, inl, inr, refl, sym, ◌∙◌, ap, subst, arith}
use Rattle.std.specs.Prelude.{Option, Some, None, slice_get, nat_lt, nat_le, unwrap_or, if◌then◌else◌}
use Rattle.std.proofs.lemmas.Bool.Decides.{nat_tests}
use Rattle.std.proofs.lemmas.List.Elements.{filter_map-append}
use Rattle.cops_types.specs.declared.contexts.ReadParts.{ReadParts as Read}
use Rattle.cops_types.specs.declared.faults.Fault.{Fault}
use Rattle.cops_types.specs.declared.faults.Fault.TheVariants.{Overrun, OutOfMemory, Torn}
use Rattle.cops_types.specs.Context.{Observation}
use Rattle.cops_types.specs.TenantConfig.{TenantConfig}
use Rattle.cops_model.specs.declared.calls.NodeCall.{NodeCall}
use Rattle.cops_model.specs.declared.calls.NodeCall.TheVariants.{Get}
use Rattle.cops_model.specs.declared.calls.NodeReply.{NodeReply}
use Rattle.cops_model.specs.declared.calls.NodeReply.TheVariants.{Gone, Refused}
use Rattle.cops_model.specs.declared.calls.Wanted.TheVariants.{Exactly}
use Rattle.cops_model.specs.Log.{Call, Directed, Ended, LogStep, Replied, Restart, call_or, fault_in, first_fault, is_asked, replies_of, reply_in}
use Rattle.cops_model.specs.declared.requests.Answer.{Answer}
use Rattle.cops_model.specs.declared.requests.Answer.TheVariants as ended
use Rattle.cops_model.specs.declared.requests.Progress.TheVariants as shows
use Rattle.cops_session.specs.declared.ongoing.Reading.{Reading}
use Rattle.cops_session.specs.declared.asking.GetReply.TheVariants.{Found}
use Rattle.cops_session.specs.declared.rounds.Wish.{Wish}
use Rattle.cops_types.specs.declared.founds.FoundParts.{FoundParts}
use Rattle.cops_types.specs.Reads.{read_in}
use Rattle.cops_types.specs.Version.{Timestamp}
use Rattle.cops_session.specs.Reading.{IsOfAttempt, IsReading, first_moment, is_gone, is_past, node_reply_of}
use Rattle.cops_model.specs.Request.{Attempt, Fetch, Request, answer_in, attempt_of, begins_again, call_after, complete, is_late, key_home, next, request_calls, unless_fault, unless_late, values_or_full}
use Rattle.cops_session.specs.Rounds.{SecondReads, first_wish_or_key, next_read}
use Rattle.cops_model.specs.Session.{has_restarted, progress, shown}
use Rattle.cops_session.specs.Stands.{IsOver, RoundsStandFor}
use Rattle.cops_model.specs.Transaction.{ReadRequest, gets, read_of}
use Rattle.cops_session.proofs.Faults.{attempt_of-push, ended_by_fault, ended_with_reads, fault_of_next}
use Rattle.cops_session.proofs.RoundsStand.{length-push, next_asked}

-- ---- replies that begin no other attempt

pub found_stays : (found : Option FoundParts) → is_gone (node_reply_of (Found found)) ≡ false
found_stays (Some found) = refl
found_stays None = refl

-- what was found is what the reply gives
pub found_read : (key : List ℕ) (found : Option FoundParts) (read : Read) (reply : NodeReply) → read ≡ read_in key found → reply ≡ node_reply_of (Found found) → read ≡ read_of read.key reply
found_read key found read reply is gives = is ∙ by found ∙ (λ i. read_of (sym (ap (λ (r : Read). r.key) is ∙ key_of found) i) (sym gives i))
  where
    by : (found : Option FoundParts) → read_in key found ≡ read_of key (node_reply_of (Found found))
    by (Some f) = refl
    by None = refl

    key_of : (found : Option FoundParts) → (read_in key found).key ≡ key
    key_of (Some f) = refl
    key_of None = refl

not_gone_of_faulty : (key : List ℕ) (version : Timestamp) (reply : NodeReply) (fault : Fault) → fault_in (Get key (Exactly version)) reply ≡ Some fault → is_gone reply ≡ false
not_gone_of_faulty key version (Gone now) fault some = cc
not_gone_of_faulty key version _ fault some = refl

-- only a node's own refusal is out of memory
none_is_torn : (asked : Bool) → (if asked then None else Some Torn) ≡ Some OutOfMemory → ⊥
none_is_torn true is = cc
none_is_torn false is = cc

pub refused_for_memory : (call : NodeCall) (reply : NodeReply) → fault_in call reply ≡ Some OutOfMemory → reply ≡ Refused OutOfMemory
refused_for_memory call (Refused fault) some = let same : fault ≡ OutOfMemory = cc in ap Refused same
refused_for_memory call reply some = absurd (none_is_torn (is_asked call reply) some)

pub goes_on_unless_gone : (keys : List (List ℕ)) (n : ℕ) (reply : NodeReply) → is_gone reply ≡ false → begins_again (Fetch keys) n (Replied reply) ≡ false
goes_on_unless_gone keys n (Gone now) not = cc
goes_on_unless_gone keys n _ not = refl

goes_on_in_first : (keys : List (List ℕ)) (n : ℕ) (reply : NodeReply) → n < length keys → begins_again (Fetch keys) n (Replied reply) ≡ false
goes_on_in_first keys n (Gone now) fewer = let test : nat_le (length keys) n ≡ false = grind (arith, nat_tests) in test
goes_on_in_first keys n _ fewer = refl

again_in_second : (keys : List (List ℕ)) (n : ℕ) (now : ℕ) → length keys ≤ n → begins_again (Fetch keys) n (Replied (Gone now)) ≡ true
again_in_second keys n now past = let test : nat_le (length keys) n ≡ true = grind (arith, nat_tests) in test

-- a reply that gives a fault begins no other attempt
pub stays_with_fault : (keys : List (List ℕ)) (replies : List NodeReply) (rounds : SecondReads) (n : ℕ) (reply : NodeReply) (fault : Fault) → RoundsStandFor keys replies rounds → length replies ≡ n →
    fault_in (Get (next_read rounds).key (next_read rounds).wanted) reply ≡ Some fault → begins_again (Fetch keys) n (Replied reply) ≡ false
stays_with_fault keys replies rounds n reply fault (inl first) is some = goes_on_in_first keys n reply (omega (arith, is, first.stands.unfinished))
stays_with_fault keys replies rounds n reply fault (inr second) is some = goes_on_unless_gone keys n reply (by rounds.left refl some)
  where
    by : (left : List Wish) → rounds.left ≡ left → fault_in (Get (first_wish_or_key left rounds).key (first_wish_or_key left rounds).wanted) reply ≡ Some fault → is_gone reply ≡ false
    by [] none some = absurd (omega (arith, ap length none, second.unfinished))
    by (wish ∷ left) is some = not_gone_of_faulty wish.key wish.version reply fault some

-- a version that was collected has been requested in the second round
pub again_if_gone : (keys : List (List ℕ)) (replies : List NodeReply) (rounds : SecondReads) (n now : ℕ) → RoundsStandFor keys replies rounds → length replies ≡ n →
    fault_in (Get (next_read rounds).key (next_read rounds).wanted) (Gone now) ≡ None → begins_again (Fetch keys) n (Replied (Gone now)) ≡ true
again_if_gone keys replies rounds n now (inl first) is none = absurd (by rounds.left first.none_left none)
  where
    by : (left : List Wish) → left ≡ [] → fault_in (Get (first_wish_or_key left rounds).key (first_wish_or_key left rounds).wanted) (Gone now) ≡ None → ⊥
    by [] is none = cc
    by (wish ∷ left) is none = cc
again_if_gone keys replies rounds n now (inr second) is none = again_in_second keys n now (omega (arith, is, second.past_first))

-- ---- lists

slice_get-map : {A B : Type 0} (f : A → B) (xs : List A) (n : ℕ) (x : A) → slice_get xs n ≡ Some x → slice_get (map f xs) n ≡ Some (f x)
slice_get-map f [] n x is = cc
slice_get-map f (y ∷ xs) zero x is = let same : y ≡ x = cc in ap (λ z. Some (f z)) same
slice_get-map f (y ∷ xs) (suc n) x is = slice_get-map f xs n x is

replies_of-push : (steps : List LogStep) (moment : ℕ) (reply : NodeReply) → replies_of (steps ++ record { moment = moment; outcome = Replied reply } ∷ []) ≡ replies_of steps ++ reply ∷ []
replies_of-push steps moment reply = filter_map-append (λ (s : LogStep). reply_in s.outcome) steps (record { moment = moment; outcome = Replied reply } ∷ [])

first_moment-push : (steps : List LogStep) (start : Option ℕ) (step : LogStep) → start ≡ first_moment steps → Some (unwrap_or start step.moment) ≡ first_moment (steps ++ step ∷ [])
first_moment-push [] start step is = ap (λ s. Some (unwrap_or s step.moment)) is
first_moment-push (first ∷ steps) start step is = ap (λ s. Some (unwrap_or s step.moment)) is

late_is : (trans_time : ℕ) (keys : List (List ℕ)) (steps : List LogStep) (moment : ℕ) → is_late trans_time (Fetch keys) steps moment ≡ is_past trans_time (first_moment steps) moment
late_is trans_time keys [] moment = refl
late_is trans_time keys (first ∷ steps) moment = refl

some_within : {A : Type 0} (xs : List A) (n : ℕ) (x : A) → slice_get xs n ≡ Some x → n < length xs
some_within [] n x is = cc
some_within (y ∷ xs) zero x is = omega arith
some_within (y ∷ xs) (suc n) x is = let h = some_within xs n x is in omega arith

-- ---- one step

module _ (config : TenantConfig) (dc : ℕ) (obs : List Observation) (keys : List (List ℕ)) where
  abbrev of_keys : Request
  of_keys = record { dc = dc; obs = obs; action = Fetch keys }

  -- an attempt with no fault makes the next call
  calls_next : (attempt : Attempt) (asked : ReadRequest) → nat_lt config.restarts attempt.restarts ≡ false →
      first_fault (request_calls config of_keys (replies_of attempt.steps) (Fetch keys)) (replies_of attempt.steps) ≡ None →
      slice_get (gets keys (replies_of attempt.steps)) (length (replies_of attempt.steps)) ≡ Some asked →
      call_after config of_keys attempt ≡ Call (record { node = key_home config dc asked.key; call = Get asked.key asked.wanted })
  calls_next attempt asked few none is =
      let replies = replies_of attempt.steps in
      let direct : ReadRequest → Directed = λ g. record { node = key_home config dc g.key; call = Get g.key g.wanted } in
      let calls = request_calls config of_keys replies (Fetch keys) in
      rw few (ap (λ f. unless_fault f (call_or (slice_get calls (length replies)) (complete config of_keys replies (Fetch keys)))) none
      ∙ ap (λ c. call_or c (complete config of_keys replies (Fetch keys))) (slice_get-map direct (gets keys replies) (length replies) asked is))

  module _ (log : List LogStep) (reading : Reading) (stands : IsReading config of_keys keys log reading) where
    abbrev attempt : Attempt
    attempt = attempt_of (Fetch keys) log

    abbrev replies : List NodeReply
    replies = replies_of attempt.steps

    abbrev replied : ℕ → NodeReply → LogStep
    replied moment reply = record { moment = moment; outcome = Replied reply }

    late-as_kept : (trans_time moment : ℕ) → is_late trans_time (Fetch keys) attempt.steps moment ≡ is_past trans_time reading.start moment
    late-as_kept trans_time moment = late_is trans_time keys attempt.steps moment ∙ ap (λ start. is_past trans_time start moment) (sym stands.start_is)

    pub next_call : (moment : ℕ) (asked : ReadRequest) → is_past config.trans_time reading.start moment ≡ false → slice_get (gets keys replies) (length replies) ≡ Some asked →
        next config of_keys log moment ≡ Call (record { node = key_home config dc asked.key; call = Get asked.key asked.wanted })
    next_call moment asked in_time is =
        ap (λ late. unless_late late (call_after config of_keys attempt)) (late-as_kept config.trans_time moment ∙ in_time) ∙ calls_next attempt asked stands.few_restarts stands.no_fault is

    pub next_late : (moment : ℕ) → is_past config.trans_time reading.start moment ≡ true → next config of_keys log moment ≡ Restart
    next_late moment late =
        let asked = next_asked keys replies reading.rounds stands.rounds_are in
        (λ i. unless_late ((late-as_kept config.trans_time moment ∙ late) i) (calls_next attempt (next_read reading.rounds) stands.few_restarts stands.no_fault asked i))

    module _ (moment : ℕ) (asked : ReadRequest) (reply : NodeReply) (is : slice_get (gets keys replies) (length replies) ≡ Some asked)
        (stays : begins_again (Fetch keys) (length attempt.steps) (Replied reply) ≡ false) where
      abbrev step : LogStep
      step = replied moment reply

      abbrev longer : Attempt
      longer = record { restarts = attempt.restarts; steps = attempt.steps ++ step ∷ [] }

      attempt_is : attempt_of (Fetch keys) (log ++ step ∷ []) ≡ longer
      attempt_is = attempt_of-push (Fetch keys) log step ∙ rw stays refl

      fault_is : first_fault (request_calls config of_keys (replies_of longer.steps) (Fetch keys)) (replies_of longer.steps) ≡ fault_in (Get asked.key asked.wanted) reply
      fault_is =
          let direct : ReadRequest → Directed = λ g. record { node = key_home config dc g.key; call = Get g.key g.wanted } in
          ap (λ rs. first_fault (request_calls config of_keys rs (Fetch keys)) rs) (replies_of-push attempt.steps moment reply)
          ∙ fault_of_next config of_keys keys replies (direct asked) reply stands.no_fault (slice_get-map direct (gets keys replies) (length replies) asked is)
          (some_within (gets keys replies) (length replies) asked is)

      -- the answer shows
      ends : (given : Answer) → call_after config of_keys longer ≡ Ended given → progress config of_keys log step ≡ shows.Done given
      ends given e =
          λ i. shown ((ap (λ a. answer_in (call_after config of_keys a)) attempt_is ∙ ap answer_in e) i) (has_restarted (Fetch keys) log step) (attempt_of (Fetch keys) (log ++ step ∷ [])).restarts

      pub ends_with_fault : (fault : Fault) → fault_in (Get asked.key asked.wanted) reply ≡ Some fault → progress config of_keys log step ≡ shows.Done (ended.Refused fault)
      ends_with_fault fault brings = ends (ended.Refused fault) (ended_by_fault config of_keys keys longer fault refl stands.few_restarts (fault_is ∙ brings))

      pub ends_with_reads : (reads : List Read) → fault_in (Get asked.key asked.wanted) reply ≡ None → IsOver keys (replies ++ reply ∷ []) reads →
          progress config of_keys log step ≡ shows.Done (values_or_full config.quota.deps obs reads)
      ends_with_reads reads brings over =
          ends (values_or_full config.quota.deps obs reads) (ended_with_reads config of_keys keys longer reads refl stands.few_restarts (fault_is ∙ brings)
          (subst (λ (rs : List NodeReply). IsOver keys rs reads) (sym (replies_of-push attempt.steps moment reply)) over))

      pub goes_on : (rounds : SecondReads) → fault_in (Get asked.key asked.wanted) reply ≡ None → RoundsStandFor keys (replies ++ reply ∷ []) rounds →
          (progress config of_keys log step ≡ shows.Working) × IsReading config of_keys keys (log ++ step ∷ []) (record { restarts = reading.restarts; start = Some (unwrap_or reading.start moment); rounds = rounds })
      goes_on rounds brings stand =
          let now : RoundsStandFor keys (replies_of longer.steps) rounds = subst (λ (rs : List NodeReply). RoundsStandFor keys rs rounds) (sym (replies_of-push attempt.steps moment reply)) stand in
          let call = calls_next longer (next_read rounds) stands.few_restarts (fault_is ∙ brings) (next_asked keys (replies_of longer.steps) rounds now) in
          let after : Reading = record { restarts = reading.restarts; start = Some (unwrap_or reading.start moment); rounds = rounds } in (
            λ i. shown ((ap (λ a. answer_in (call_after config of_keys a)) attempt_is ∙ ap answer_in call) i) (stays i) (attempt_of (Fetch keys) (log ++ step ∷ [])).restarts,
            subst (λ (a : Attempt). IsOfAttempt config of_keys keys a after) (sym attempt_is) (record {
              distinct = stands.distinct;
              restarts_are = stands.restarts_are;
              few_restarts = stands.few_restarts;
              start_is = first_moment-push attempt.steps reading.start step stands.start_is;
              all_replied = ap length (replies_of-push attempt.steps moment reply) ∙ length-push replies reply ∙ ap (λ n. n + 1) stands.all_replied ∙ sym (length-push attempt.steps step);
              no_fault = fault_is ∙ brings;
              rounds_are = now;
            }),
          )

    module _ (step : LogStep) (again : has_restarted (Fetch keys) log step ≡ true) where
      abbrev anew : Attempt
      anew = record { restarts = attempt.restarts + 1; steps = [] }

      anew_is : attempt_of (Fetch keys) (log ++ step ∷ []) ≡ anew
      anew_is = attempt_of-push (Fetch keys) log step ∙ rw again refl

      -- one restart too many
      pub overruns : nat_lt reading.restarts config.restarts ≡ false → progress config of_keys log step ≡ shows.Done (ended.Refused Overrun)
      overruns spent =
          let over : nat_lt config.restarts (attempt.restarts + 1) ≡ true = let h = ap (λ r. nat_lt r config.restarts) (sym stands.restarts_are) ∙ spent in grind (arith, nat_tests) in
          let call : call_after config of_keys anew ≡ Ended (ended.Refused Overrun) = rw over refl in
          λ i. shown ((ap (λ a. answer_in (call_after config of_keys a)) anew_is ∙ ap answer_in call) i) (has_restarted (Fetch keys) log step) (attempt_of (Fetch keys) (log ++ step ∷ [])).restarts

      pub restarts : (rounds : SecondReads) → nat_lt reading.restarts config.restarts ≡ true → RoundsStandFor keys [] rounds →
          (progress config of_keys log step ≡ shows.Restarted (reading.restarts + 1)) × IsReading config of_keys keys (log ++ step ∷ []) (record { restarts = reading.restarts + 1; start = None; rounds = rounds })
      restarts rounds left begun =
          let few : nat_lt config.restarts (attempt.restarts + 1) ≡ false = let h = ap (λ r. nat_lt r config.restarts) (sym stands.restarts_are) ∙ left in grind (arith, nat_tests) in
          let none : first_fault (request_calls config of_keys [] (Fetch keys)) [] ≡ None = no_replies (request_calls config of_keys [] (Fetch keys)) in
          let call = calls_next anew (next_read rounds) few none (next_asked keys [] rounds begun) in
          let after : Reading = record { restarts = reading.restarts + 1; start = None; rounds = rounds } in (
            λ i. shown ((ap (λ a. answer_in (call_after config of_keys a)) anew_is ∙ ap answer_in call) i) (again i) ((ap (λ (a : Attempt). a.restarts) anew_is ∙ ap (λ n. n + 1) (sym stands.restarts_are)) i),
            subst (λ (a : Attempt). IsOfAttempt config of_keys keys a after) (sym anew_is) (record {
              distinct = stands.distinct;
              restarts_are = ap (λ n. n + 1) stands.restarts_are;
              few_restarts = few;
              start_is = refl;
              all_replied = refl;
              no_fault = none;
              rounds_are = begun;
            }),
          )
        where
          no_replies : (calls : List Directed) → first_fault calls [] ≡ None
          no_replies [] = refl
          no_replies (c ∷ calls) = refl
