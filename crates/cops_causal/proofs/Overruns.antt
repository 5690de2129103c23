-- That a request ran out of attempts is said of transactions that begin again, and of nothing else.
use Rattle.std.proofs.Common.{◌≡◌, ℕ, ◌+◌, Bool, true, false, cond, List, [], ◌∷◌, ◌++◌, map, length, inl, inr, ◌⊎◌, refl, sym, ◌∙◌, ap, subst, arith}
use Rattle.std.specs.Prelude.{Option, Some, None, nat_lt, slice_get}
use Rattle.std.specs.Option.{option_map, option_or}
use Rattle.std.proofs.lemmas.Bool.Decides.{nat_tests}
use Rattle.cops_types.specs.declared.faults.Fault.{Fault}
use Rattle.cops_types.specs.declared.faults.Fault.TheVariants.{Overrun, DependenciesFull, Torn}
use Rattle.cops_types.specs.Context.{Observation, all_of, near_of, observations_of, can_observe}
use Rattle.cops_types.specs.TenantConfig.{TenantConfig}
use Rattle.cops_types.proofs.PairSets.{at}
use Rattle.cops_types.proofs.Zipped.{Zipped}
use Rattle.cops_model.specs.declared.calls.NodeCall.{NodeCall}
use Rattle.cops_model.specs.declared.calls.NodeCall.TheVariants.{Get, DepCheck, Pull, Commit}
use Rattle.cops_model.specs.declared.calls.NodeCall.TheVariants as node_call
use Rattle.cops_model.specs.declared.calls.NodeReply.{NodeReply}
use Rattle.cops_model.specs.declared.calls.NodeReply.TheVariants as node_reply
use Rattle.cops_model.specs.Log.{LogStep, Replied, Directed, Call, Ended, call_or, is_asked, fault_in, first_fault}
use Rattle.cops_model.specs.Place.{place_of}
use Rattle.cops_model.specs.SoloNode.{SoloNode}
use Rattle.cops_node.proofs.NodeTurns.{Change, IsRefused, Answers, Joined, Taken, IsRefusal, is_node_fault}
use Rattle.cops_model.specs.declared.requests.Answer.{Answer}
use Rattle.cops_model.specs.declared.requests.Answer.TheVariants as answer_is
use Rattle.cops_model.specs.Request.{Attempt, Fetch, answer, answer_in, attempt_of, begins_again, key_home, next, unless_fault, values_or_full}
use Rattle.cops_model.specs.Session.{shown}
use Rattle.cops_model.specs.Transaction.{ReadRequest, gets, final_reads}
use Rattle.cops_session.proofs.ReplyCounts.{attempt-push}
use Rattle.cops_session.proofs.RequestReplies.{replies_in, get_request, put_request, call_of, get-next, get-stepped, put-stored, put-refused, unspent}
use Rattle.cops_model.specs.declared.deliveries.Delivery.{Delivery}
use Rattle.cops_model.specs.declared.deliveries.Delivery.TheVariants as delivery
use Rattle.cops_model.specs.Carrier.{Stream, end_by, end_of, finished_delivery, first_end, is_foreign, stream_calls, unless_end}
use Rattle.cops_model.specs.Carrier as carrier
use Rattle.cops_repl.proofs.CarrierCalls.{carrier_replies, carrier-next}
use Rattle.cops_repl.proofs.CarrierStages.{carrier-stepped}
use Rattle.cops_model.specs.declared.replies.Reply.TheVariants.{Refused}
use Rattle.cops_model.specs.Cluster.{reply_of_progress, reply_of_delivery}
use Rattle.cops_model.specs.Restarts.{ends_attempt}
use Rattle.cops_causal.proofs.NodeAnswers.{asked_faultless}

-- ---- faults

pub overrun_is : (fault : Fault) → ends_attempt (Refused fault) ≡ true → fault ≡ Overrun
overrun_is Overrun e = refl
overrun_is fault e = cc

-- no fault, or another
abbrev pub IsOther : Option Fault → Type 0
IsOther (Some Overrun) = ⊥
IsOther o = Unit {0}

node_fault_other : (fault : Fault) → is_node_fault fault ≡ true → IsOther (Some fault)
node_fault_other Overrun is = cc
node_fault_other fault is = tt

-- a reply that was asked for brings no fault, and a node refuses with others
pub fault_other : (call : NodeCall) (reply : NodeReply) → IsRefusal reply ⊎ (is_asked call reply ≡ true) → IsOther (fault_in call reply)
fault_other call reply (inl refused) = subst (λ r. IsOther (fault_in call r)) (sym refused.1) (node_fault_other refused.0 refused.2)
fault_other call reply (inr asked) = subst IsOther (sym (asked_faultless call reply asked)) tt

-- the first of two
or_none : {A : Type 0} (a b : Option A) → option_or a b ≡ None → (a ≡ None) × (b ≡ None)
or_none None b e = (refl, e)
or_none (Some x) b e = cc

or_other : (a b : Option Fault) → IsOther a → IsOther b → IsOther (option_or a b)
or_other None b first second = second
or_other (Some fault) b first second = first

-- ---- transactions

-- the reply to what was asked is no fault; or none that says that attempts ran out
abbrev pub IsFaultless : ReadRequest → NodeReply → Type 0
IsFaultless q reply = fault_in (Get q.key q.wanted) reply ≡ None

abbrev IsOtherReply : ReadRequest → NodeReply → Type 0
IsOtherReply q reply = IsOther (fault_in (Get q.key q.wanted) reply)

module _ (config : TenantConfig) (dc : ℕ) where
  pub all_faultless : (asked : List ReadRequest) (rs : List NodeReply) → first_fault (map (call_of config dc) asked) rs ≡ None → Zipped IsFaultless asked rs
  all_faultless [] rs none = tt
  all_faultless (q ∷ asked) [] none = tt
  all_faultless (q ∷ asked) (r ∷ rs) none =
      let both = or_none (fault_in (Get q.key q.wanted) r) (first_fault (map (call_of config dc) asked) rs) none in (both.0, all_faultless asked rs both.1)

  faultless_other : (asked : List ReadRequest) (rs : List NodeReply) → Zipped IsFaultless asked rs → Zipped IsOtherReply asked rs
  faultless_other [] rs z = tt
  faultless_other (q ∷ asked) [] z = tt
  faultless_other (q ∷ asked) (r ∷ rs) z = (subst IsOther (sym z.0) tt, faultless_other asked rs z.1)

  first_other : (asked : List ReadRequest) (rs : List NodeReply) → Zipped IsOtherReply asked rs → IsOther (first_fault (map (call_of config dc) asked) rs)
  first_other [] rs z = tt
  first_other (q ∷ asked) [] z = tt
  first_other (q ∷ asked) (r ∷ rs) z = or_other (fault_in (Get q.key q.wanted) r) (first_fault (map (call_of config dc) asked) rs) z.0 (first_other asked rs z.1)

  module _ (obs : List Observation) (keys : List (List ℕ)) where
    answer_other : (rs : List NodeReply) (fault : Option Fault) (found : Option Directed) → IsOther fault →
        answer_in (unless_fault fault (call_or found (values_or_full config.quota.deps obs (final_reads keys rs)))) ≡ Some (answer_is.Refused Overrun) → ⊥
    answer_other rs (Some fault) found other e = let same : fault ≡ Overrun = cc in subst (λ f. IsOther (Some f)) same other
    answer_other rs None (Some call) other e = cc
    answer_other rs None None other e = by_room (can_observe config.quota.deps obs (observations_of (final_reads keys rs))) e
      where
        by_room : (b : Bool) → Some (cond b (answer_is.Values (final_reads keys rs)) (answer_is.Refused DependenciesFull)) ≡ Some (answer_is.Refused Overrun) → ⊥
        by_room true e = cc
        by_room false e = cc

    -- a reply that does not make it begin again does not use up the attempts
    pub get_goes_on : (log : List LogStep) (moment : ℕ) (directed : Directed) (reply : NodeReply) → answer config (get_request dc obs keys) log ≡ None → next config (get_request dc obs keys) log moment ≡ Call directed →
        IsOther (fault_in directed.call reply) → begins_again (Fetch keys) (length (attempt_of (Fetch keys) log).steps) (Replied reply) ≡ false →
        answer config (get_request dc obs keys) (log ++ record { moment = moment; outcome = Replied reply } ∷ []) ≡ Some (answer_is.Refused Overrun) → ⊥
    get_goes_on log moment directed reply open_still e other stays overrun =
        answer_other rs (first_fault (map (call_of config dc) (gets keys rs)) rs) (slice_get (map (call_of config dc) (gets keys rs)) (length rs)) (first_other (gets keys rs) rs are)
        (subst (λ b. answer_in (cond b (Ended (answer_is.Refused Overrun)) (unless_fault (first_fault (map (call_of config dc) (gets keys rs)) rs) (call_or (slice_get (map (call_of config dc) (gets keys rs)) (length rs)) (values_or_full config.quota.deps obs (final_reads keys rs)))))
        ≡ Some (answer_is.Refused Overrun)) within overrun)
      where
        step : LogStep
        step = record { moment = moment; outcome = Replied reply }

        rs : List NodeReply
        rs = replies_in keys (log ++ step ∷ [])

        chosen : (q : ReadRequest) × (slice_get (gets keys (replies_in keys log)) (length (replies_in keys log)) ≡ Some q) × (directed ≡ call_of config dc q) × Zipped IsFaultless (gets keys (replies_in keys log)) (replies_in keys log)
        chosen = let n = get-next config dc obs keys log moment directed e in (n.asked, n.at, n.call, all_faultless (gets keys (replies_in keys log)) (replies_in keys log) n.no_fault)

        are : Zipped IsOtherReply (gets keys rs) rs
        are = get-stepped IsOtherReply keys log moment reply chosen.0 (faultless_other (gets keys (replies_in keys log)) (replies_in keys log) chosen.3) chosen.1 (subst (λ (d : Directed). IsOther (fault_in d.call reply)) chosen.2 other)

        same_restarts : (attempt_of (Fetch keys) (log ++ step ∷ [])).restarts ≡ (attempt_of (Fetch keys) log).restarts
        same_restarts =
            let attempt = attempt_of (Fetch keys) log in
            ap (λ (a : Attempt). a.restarts) (attempt-push config dc obs keys log step)
            ∙ ap (λ b. (cond {A = Attempt} b (record { restarts = attempt.restarts + 1; steps = [] }) (record { restarts = attempt.restarts; steps = attempt.steps ++ step ∷ [] })).restarts) stays

        within : nat_lt config.restarts (attempt_of (Fetch keys) (log ++ step ∷ [])).restarts ≡ false
        within = let few = unspent config dc obs keys log open_still in let same = same_restarts in grind (arith, nat_tests)

-- ---- puts

pub put_other : (config : TenantConfig) (dc : ℕ) (obs : List Observation) (key value : List ℕ) (moment : ℕ) (solo after : SoloNode) (reply : NodeReply) →
    Change (place_of config (key_home config dc key)) (node_call.Put key value (all_of obs) (near_of obs)) solo reply after →
    answer config (put_request dc obs key value) (record { moment = moment; outcome = Replied reply } ∷ []) ≡ Some (answer_is.Refused Overrun) → ⊥
put_other config dc obs key value moment solo after reply change e = by_change change
  where
    answer_to : NodeReply → Option Answer
    answer_to r = answer config (put_request dc obs key value) (record { moment = moment; outcome = Replied r } ∷ [])

    by_change : Change (place_of config (key_home config dc key)) (node_call.Put key value (all_of obs) (near_of obs)) solo reply after → ⊥
    by_change (IsRefused same acked is) =
        let both : Some (answer_is.Refused is.0) ≡ Some (answer_is.Refused Overrun) = sym (put-refused config dc obs key value moment is.0) ∙ sym (ap answer_to is.1) ∙ e in
        let fault : is.0 ≡ Overrun = cc in
        subst (λ f. IsOther (Some f)) fault (node_fault_other is.0 is.2)
    by_change (Joined f more acked is) =
        let both : Some (answer_is.Stored (at key is.0)) ≡ Some (answer_is.Refused Overrun) = sym (put-stored config dc obs key value moment is.0) ∙ sym (ap answer_to is.1) ∙ e in cc
    by_change (Answers same acked is) = absurd is
    by_change (Taken same is) = absurd is

-- ---- what a step of a session shows

-- a step that ends an attempt began another, or used them up
pub ends_how : (o : Option Answer) (again : Bool) (times : ℕ) → ends_attempt (reply_of_progress (shown o again times)) ≡ true → (again ≡ true) ⊎ (o ≡ Some (answer_is.Refused Overrun))
ends_how None true times e = inl refl
ends_how None false times e = cc
ends_how (Some (answer_is.Stored pair)) again times e = cc
ends_how (Some (answer_is.Values reads)) again times e = cc
ends_how (Some (answer_is.Refused fault)) again times e = inr (ap (λ f. Some (answer_is.Refused f)) (overrun_is fault e))

-- ---- carriers

-- no end, or one that does not say that attempts ran out
abbrev IsOtherEnd : Option Delivery → Type 0
IsOtherEnd (Some (delivery.Refused Overrun)) = ⊥
IsOtherEnd o = Unit {0}

or_other_end : (a b : Option Delivery) → IsOtherEnd a → IsOtherEnd b → IsOtherEnd (option_or a b)
or_other_end None b first second = second
or_other_end (Some ending) b first second = first

module _ (shards : ℕ) (stream : Stream) where
  abbrev end_of_reply : NodeCall → NodeReply → Option Delivery
  end_of_reply call reply = end_of shards stream call reply

  own_end_other : (call : NodeCall) (reply : NodeReply) → IsOtherEnd (end_by shards stream call reply)
  own_end_other (Pull dc) node_reply.Nothing = tt
  own_end_other (Pull dc) (node_reply.Pulled e) = by_foreign (is_foreign shards stream e)
    where
      by_foreign : (b : Bool) → IsOtherEnd (cond b (Some (delivery.Refused Torn)) None)
      by_foreign true = tt
      by_foreign false = tt
  own_end_other (DepCheck key version) (node_reply.Checked true) = tt
  own_end_other (DepCheck key version) (node_reply.Checked false) = tt
  own_end_other (Commit e) (node_reply.OutOfOrder mark) = tt
  own_end_other call reply = tt

  fault_end_other : (fault : Fault) → IsOther (Some fault) → IsOtherEnd (Some (delivery.Refused fault))
  fault_end_other Overrun other = other
  fault_end_other fault other = tt

  end_other : (call : NodeCall) (reply : NodeReply) → IsOther (fault_in call reply) → IsOtherEnd (end_of_reply call reply)
  end_other call reply other = by_fault (fault_in call reply) other
    where
      by_fault : (o : Option Fault) → IsOther o → IsOtherEnd (option_or (option_map delivery.Refused o) (end_by shards stream call reply))
      by_fault (Some fault) other = fault_end_other fault other
      by_fault None other = own_end_other call reply

  abbrev IsOtherStep : Directed → NodeReply → Type 0
  IsOtherStep directed reply = IsOtherEnd (end_of_reply directed.call reply)

  endless_other : (calls : List Directed) (rs : List NodeReply) → first_end shards stream calls rs ≡ None → Zipped IsOtherStep calls rs
  endless_other [] rs none = tt
  endless_other (d ∷ calls) [] none = tt
  endless_other (d ∷ calls) (r ∷ rs) none =
      let both = or_none (end_of_reply d.call r) (first_end shards stream calls rs) none in (subst IsOtherEnd (sym both.0) tt, endless_other calls rs both.1)

  first_end_other : (calls : List Directed) (rs : List NodeReply) → Zipped IsOtherStep calls rs → IsOtherEnd (first_end shards stream calls rs)
  first_end_other [] rs z = tt
  first_end_other (d ∷ calls) [] z = tt
  first_end_other (d ∷ calls) (r ∷ rs) z = or_other_end (end_of_reply d.call r) (first_end shards stream calls rs) z.0 (first_end_other calls rs z.1)

  complete_other : (rs : List NodeReply) → IsOtherEnd (Some (finished_delivery rs))
  complete_other [] = tt
  complete_other (node_reply.Pulled e ∷ rs) = tt
  complete_other (r ∷ rs) = tt

  ending_other : (log : List LogStep) (ending : Delivery) → Zipped IsOtherStep (stream_calls shards stream (carrier_replies log)) (carrier_replies log) → carrier.carrier_next shards stream log ≡ Ended ending → IsOtherEnd (Some ending)
  ending_other log ending z e =
      let rs = carrier_replies log in
      chosen (first_end shards stream (stream_calls shards stream rs) rs) (slice_get (stream_calls shards stream rs) (length rs)) (first_end_other (stream_calls shards stream rs) rs z) e
    where
      chosen : (ends : Option Delivery) (found : Option Directed) → IsOtherEnd ends → unless_end ends (call_or found (finished_delivery (carrier_replies log))) ≡ Ended ending → IsOtherEnd (Some ending)
      chosen (Some d) found other e = let same : d ≡ ending = cc in subst (λ x. IsOtherEnd (Some x)) same other
      chosen None (Some call) other e = cc
      chosen None None other e = let same : finished_delivery (carrier_replies log) ≡ ending = cc in subst (λ x. IsOtherEnd (Some x)) same (complete_other (carrier_replies log))

  delivery_other : (ending : Delivery) → IsOtherEnd (Some ending) → ends_attempt (reply_of_delivery ending) ≡ true → ⊥
  delivery_other (delivery.Refused fault) other e = subst (λ f. IsOtherEnd (Some (delivery.Refused f))) (overrun_is fault e) other
  delivery_other delivery.Nothing other e = cc
  delivery_other (delivery.Waits pair) other e = cc
  delivery_other (delivery.Carried pair fresh acked) other e = cc
  delivery_other (delivery.OutOfOrder mark) other e = cc

  -- a step of a carrier never ends an attempt
  pub carrier_other : (log : List LogStep) (moment : ℕ) (directed : Directed) (reply : NodeReply) → carrier.carrier_next shards stream log ≡ Call directed → IsOther (fault_in directed.call reply) → (ending : Delivery) →
      carrier.carrier_next shards stream (log ++ record { moment = moment; outcome = Replied reply } ∷ []) ≡ Ended ending → ends_attempt (reply_of_delivery ending) ≡ true → ⊥
  carrier_other log moment directed reply e other ending ends overrun =
      let n = carrier-next shards stream log directed e in
      let old = endless_other (stream_calls shards stream (carrier_replies log)) (carrier_replies log) n.no_end in
      let are = carrier-stepped IsOtherStep shards stream log moment directed reply old n (end_other directed.call reply other) in
      delivery_other ending (ending_other (log ++ record { moment = moment; outcome = Replied reply } ∷ []) ending are ends) overrun
