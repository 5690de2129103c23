-- The replies of requests and carriers so far bring no unexpected end.
use Rattle.std.proofs.Common.{◌≡◌, ℕ, Bool, true, false, cond, List, [], ◌∷◌, map, length, ◌⊎◌, inl, inr, refl, sym, ◌∙◌, subst}
use Rattle.std.specs.Prelude.{Option, Some, None, nat_lt, slice_get}
use Rattle.std.specs.Option.{option_map, option_or}
use Rattle.cops_types.specs.declared.faults.Fault.{Fault}
use Rattle.cops_types.specs.declared.faults.Fault.TheVariants.{Overrun, DependenciesFull}
use Rattle.cops_types.specs.declared.records.EntryParts.{EntryParts as Entry}
use Rattle.cops_types.specs.Context.{Observation, observations_of, can_observe}
use Rattle.cops_types.specs.TenantConfig.{TenantConfig}
use Rattle.cops_model.specs.declared.calls.NodeCall.{NodeCall}
use Rattle.cops_model.specs.declared.calls.NodeCall.TheVariants.{Get, DepCheck, Pull, Commit}
use Rattle.cops_model.specs.declared.calls.NodeReply.{NodeReply}
use Rattle.cops_model.specs.declared.calls.NodeReply.TheVariants as node_reply
use Rattle.cops_model.specs.Log.{Directed, Ended, LogStep, Next, call_or, fault_in, first_fault, is_asked, replies_of}
use Rattle.cops_model.specs.declared.requests.Answer.{Answer}
use Rattle.cops_model.specs.declared.requests.Answer.TheVariants as answer_is
use Rattle.cops_model.specs.Request.{Action, Write, Fetch, attempt_of, values_or_full, unless_fault, answer_in, answer}
use Rattle.cops_model.specs.Session.{shown}
use Rattle.cops_model.specs.Transaction.{ReadRequest, gets, final_reads}
use Rattle.cops_model.specs.declared.deliveries.Delivery.{Delivery}
use Rattle.cops_model.specs.declared.deliveries.Delivery.TheVariants as delivery
use Rattle.cops_model.specs.declared.deliveries.Progress.{Progress as CarrierProgress}
use Rattle.cops_model.specs.declared.deliveries.Progress.TheVariants as carrier_progress
use Rattle.cops_model.specs.Carrier.{Stream, carrier_next, end_by, end_of, finished_delivery, first_end, is_foreign, stream_calls, unless_end}
use Rattle.cops_model.specs.Carrier as carrier
use Rattle.cops_model.specs.Cluster.{reply_of_answer, reply_of_progress, reply_of_delivery}
use Rattle.cops_model.specs.Laws.{is_expected_of_node}
use Rattle.cops_repl.proofs.CarrierCalls.{carrier_replies}
use Rattle.cops_repl.proofs.CarrierStages.{no_end_first}
use Rattle.cops_causal.proofs.NodeAnswers.{IsFineFault, asked_faultless, is_usual, node_fault_usual}
use Rattle.cops_node.proofs.NodeTurns.{IsRefusal}
use Rattle.cops_session.proofs.RequestReplies.{replies_in, get_request, call_of}
use Rattle.cops_types.proofs.Zipped.{Zipped}

-- ---- transactions

-- the reply to what was asked is no unexpected fault
abbrev pub IsFineReply : ReadRequest → NodeReply → Type 0
IsFineReply q reply = IsFineFault (fault_in (Get q.key q.wanted) reply)

abbrev pub RepliesAreFine : Action → List LogStep → Type 0
RepliesAreFine (Write key value) log = Unit {0}
RepliesAreFine (Fetch keys) log = Zipped IsFineReply (gets keys (replies_in keys log)) (replies_in keys log)

or_fine : (a b : Option Fault) → IsFineFault a → IsFineFault b → IsFineFault (option_or a b)
or_fine None b first second = second
or_fine (Some fault) b first second = first

first_fault_fine : (config : TenantConfig) (dc : ℕ) (asked : List ReadRequest) (rs : List NodeReply) → Zipped IsFineReply asked rs → IsFineFault (first_fault (map (call_of config dc) asked) rs)
first_fault_fine config dc [] rs z = tt
first_fault_fine config dc (q ∷ asked) [] z = tt
first_fault_fine config dc (q ∷ asked) (r ∷ rs) z =
    or_fine (fault_in (Get q.key q.wanted) r) (first_fault (map (call_of config dc) asked) rs) z.0 (first_fault_fine config dc asked rs z.1)

abbrev pub IsFineAnswer : Answer → Type 0
IsFineAnswer a = is_usual (reply_of_answer a) ≡ true

module _ (config : TenantConfig) (dc : ℕ) (obs : List Observation) (keys : List (List ℕ)) where
  chosen_fine : (rs : List NodeReply) (spent : Bool) (fault : Option Fault) (found : Option Directed) (a : Answer) → IsFineFault fault →
      answer_in (cond spent (Ended (answer_is.Refused Overrun)) (unless_fault fault (call_or found (values_or_full config.quota.deps obs (final_reads keys rs))))) ≡ Some a → IsFineAnswer a
  chosen_fine rs true fault found a fine e = let same : answer_is.Refused Overrun ≡ a = cc in subst IsFineAnswer same refl
  chosen_fine rs false (Some fault) found a fine e = let same : answer_is.Refused fault ≡ a = cc in subst IsFineAnswer same fine
  chosen_fine rs false None (Some call) a fine e = cc
  chosen_fine rs false None None a fine e =
      let same : values_or_full config.quota.deps obs (final_reads keys rs) ≡ a = cc in
      subst IsFineAnswer same (by_room (can_observe config.quota.deps obs (observations_of (final_reads keys rs))))
    where
      by_room : (b : Bool) → IsFineAnswer (cond b (answer_is.Values (final_reads keys rs)) (answer_is.Refused DependenciesFull))
      by_room true = refl
      by_room false = refl

  -- so is then the answer
  pub answer_fine : (log : List LogStep) (a : Answer) → RepliesAreFine (Fetch keys) log → answer config (get_request dc obs keys) log ≡ Some a → IsFineAnswer a
  answer_fine log a are e =
      let attempt = attempt_of (Fetch keys) log in
      let rs = replies_of attempt.steps in
      chosen_fine rs (nat_lt config.restarts attempt.restarts) (first_fault (map (call_of config dc) (gets keys rs)) rs) (slice_get (map (call_of config dc) (gets keys rs)) (length rs)) a
      (first_fault_fine config dc (gets keys rs) rs are) e

pub shown_fine : (o : Option Answer) (restarted : Bool) (times : ℕ) → ((a : Answer) → o ≡ Some a → IsFineAnswer a) → is_usual (reply_of_progress (shown o restarted times)) ≡ true
shown_fine (Some a) restarted times fine = fine a refl
shown_fine None true times fine = refl
shown_fine None false times fine = refl

-- ---- carriers

abbrev pub IsFineDelivery : Delivery → Type 0
IsFineDelivery d = is_usual (reply_of_delivery d) ≡ true

abbrev pub IsFineEnd : Option Delivery → Type 0
IsFineEnd None = Unit {0}
IsFineEnd (Some d) = IsFineDelivery d

module _ (shards : ℕ) (stream : Stream) where
  abbrev end_of_reply : NodeCall → NodeReply → Option Delivery
  end_of_reply call reply = end_of shards stream call reply

  -- the reply brings no end, or an expected one
  abbrev pub IsFineStep : Directed → NodeReply → Type 0
  IsFineStep directed reply = IsFineEnd (end_of_reply directed.call reply)

  -- what is pulled is of the stream
  abbrev pub IsOwn : NodeCall → NodeReply → Type 0
  IsOwn (Pull dc) (node_reply.Pulled e) = is_foreign shards stream e ≡ false
  IsOwn call reply = Unit {0}

  end_fine : (call : NodeCall) (reply : NodeReply) → is_expected_of_node reply ≡ true → IsOwn call reply → IsFineEnd (end_by shards stream call reply)
  end_fine (Pull dc) node_reply.Nothing expected own = refl
  end_fine (Pull dc) (node_reply.Pulled e) expected own = rw own tt
  end_fine (DepCheck key version) (node_reply.Checked true) expected own = tt
  end_fine (DepCheck key version) (node_reply.Checked false) expected own = refl
  end_fine (Commit e) (node_reply.OutOfOrder mark) expected own = cc
  end_fine call reply expected own = tt

  pub step_fine : (call : NodeCall) (reply : NodeReply) → IsRefusal reply ⊎ (is_asked call reply ≡ true) → is_expected_of_node reply ≡ true → IsOwn call reply → IsFineEnd (end_of_reply call reply)
  step_fine call reply (inl is) expected own = subst (λ r. IsFineEnd (end_of_reply call r)) (sym is.1) (node_fault_usual is.0 is.2)
  step_fine call reply (inr is) expected own = subst (λ fault. IsFineEnd (option_or (option_map delivery.Refused fault) (end_by shards stream call reply))) (sym (asked_faultless call reply is)) (end_fine call reply expected own)

  or_end_fine : (a b : Option Delivery) → IsFineEnd a → IsFineEnd b → IsFineEnd (option_or a b)
  or_end_fine None b first second = second
  or_end_fine (Some d) b first second = first

  first_end_fine : (calls : List Directed) (rs : List NodeReply) → Zipped IsFineStep calls rs → IsFineEnd (first_end shards stream calls rs)
  first_end_fine [] rs z = tt
  first_end_fine (d ∷ calls) [] z = tt
  first_end_fine (d ∷ calls) (r ∷ rs) z = or_end_fine (end_of_reply d.call r) (first_end shards stream calls rs) z.0 (first_end_fine calls rs z.1)

  -- a pull that brings no end brings an entry
  pulled_or_ends : (dc : ℕ) (reply : NodeReply) → end_of_reply (Pull dc) reply ≡ None → (e : Entry) × (reply ≡ node_reply.Pulled e)
  pulled_or_ends dc (node_reply.Pulled e) none = (e, refl)
  pulled_or_ends dc node_reply.Nothing none = cc
  pulled_or_ends dc (node_reply.Refused fault) none = cc
  pulled_or_ends dc reply none = cc

  complete_fine : (rs : List NodeReply) → first_end shards stream (stream_calls shards stream rs) rs ≡ None → slice_get (stream_calls shards stream rs) (length rs) ≡ None → IsFineDelivery (finished_delivery rs)
  complete_fine [] none past = cc
  complete_fine (node_reply.Pulled e ∷ rs) none past = refl
  complete_fine (r ∷ rs) none past = let pulled = pulled_or_ends stream.to_dc r (no_end_first (end_of_reply (Pull stream.to_dc) r) None none) in cc

  -- so is then the end
  pub ended_fine : (log : List LogStep) (ending : Delivery) → Zipped IsFineStep (stream_calls shards stream (carrier_replies log)) (carrier_replies log) → carrier_next shards stream log ≡ Ended ending → IsFineDelivery ending
  ended_fine log ending z e =
      let rs = carrier_replies log in
      chosen (first_end shards stream (stream_calls shards stream rs) rs) (slice_get (stream_calls shards stream rs) (length rs)) refl refl (first_end_fine (stream_calls shards stream rs) rs z) e
    where
      chosen : (ends : Option Delivery) (found : Option Directed) → first_end shards stream (stream_calls shards stream (carrier_replies log)) (carrier_replies log) ≡ ends →
          slice_get (stream_calls shards stream (carrier_replies log)) (length (carrier_replies log)) ≡ found → IsFineEnd ends → unless_end ends (call_or found (finished_delivery (carrier_replies log))) ≡ Ended ending → IsFineDelivery ending
      chosen (Some d) found ends is fine e = let same : d ≡ ending = cc in subst IsFineDelivery same fine
      chosen None (Some call) ends is fine e = cc
      chosen None None ends is fine e = let same : finished_delivery (carrier_replies log) ≡ ending = cc in subst IsFineDelivery same (complete_fine (carrier_replies log) ends is)

  pub carrier_shown_fine : (n : Next Delivery) → ((ending : Delivery) → n ≡ Ended ending → IsFineDelivery ending) → (reply : CarrierProgress) → carrier.progress_of n ≡ reply → (d : Delivery) → reply ≡ carrier_progress.Done d → IsFineDelivery d
  carrier_shown_fine (Ended ending) fine reply is d e = let same : carrier_progress.Done ending ≡ carrier_progress.Done d = is ∙ e in let ends : ending ≡ d = cc in subst IsFineDelivery ends (fine ending refl)
  carrier_shown_fine n fine reply is d e = let same = is ∙ e in cc
