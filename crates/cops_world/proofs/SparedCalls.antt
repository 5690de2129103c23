-- A carrier of the definition replies that memory ran out only if its node does.
use Rattle.std.proofs.Common.{◌≡◌, ℕ, Bool, true, false, cond, List, [], ◌∷◌, ◌++◌, length, refl, ◌∙◌, ap, max}
use Rattle.std.specs.Prelude.{Option, Some, None, slice_get, nat_lt}
use Rattle.std.specs.Option.{option_map, option_or}
use Rattle.std.proofs.lemmas.List.Elements.{filter_map-append}
use Rattle.cops_types.specs.declared.faults.Fault.TheVariants.{Torn}
use Rattle.cops_types.specs.declared.pairs.Pair.{Pair}
use Rattle.cops_model.specs.declared.calls.NodeCall.{NodeCall}
use Rattle.cops_model.specs.declared.calls.NodeCall.TheVariants.{Get, Put, DepCheck, Pull, Commit, Ack, Collect}
use Rattle.cops_model.specs.declared.calls.NodeReply.{NodeReply}
use Rattle.cops_model.specs.declared.calls.NodeReply.TheVariants as node_reply
use Rattle.cops_model.specs.Log.{LogStep, Replied, call_or, replies_of, reply_in, Directed, Next, Call, is_asked}
use Rattle.cops_model.specs.declared.deliveries.Delivery.{Delivery}
use Rattle.cops_model.specs.declared.deliveries.Delivery.TheVariants as delivery
use Rattle.cops_model.specs.Carrier.{Stream, end_by, end_of, finished_delivery, first_end, is_foreign, next_after, progress_of, unless_end}
use Rattle.cops_model.specs.Carrier as carrier
use Rattle.cops_model.specs.declared.replies.Reply.TheVariants.{Refused}
use Rattle.cops_model.specs.Cluster.{reply_of_delivery}
use Rattle.cops_model.specs.Events.{is_out_of_memory}
use Rattle.cops_session.proofs.SparedNodes.{lacks}
use Rattle.cops_world.specs.ActorsStand.{reply_of_carrying}

abbrev lacks_end : Option Delivery → Bool
lacks_end (Some ending) = is_out_of_memory (reply_of_delivery ending)
lacks_end None = false

abbrev pub lacks_next : Next Delivery → Bool
lacks_next n = is_out_of_memory (reply_of_carrying (progress_of n))

module _ (shards : ℕ) (stream : Stream) where
  foreign_spared : (b : Bool) → lacks_end (cond b (Some (delivery.Refused Torn)) None) ≡ false
  foreign_spared true = refl
  foreign_spared false = refl

  end_by_spared : (call : NodeCall) (reply : NodeReply) → lacks_end (end_by shards stream call reply) ≡ false
  end_by_spared (Pull dc) node_reply.Nothing = refl
  end_by_spared (Pull dc) (node_reply.Pulled entry) = foreign_spared (is_foreign shards stream entry)
  end_by_spared (DepCheck key version) (node_reply.Checked false) = refl
  end_by_spared (Commit entry) (node_reply.OutOfOrder mark) = refl
  end_by_spared call reply = refl

  torn_or_end : (call : NodeCall) (reply : NodeReply) (b : Bool) → lacks_end (option_or (option_map delivery.Refused (cond b None (Some Torn))) (end_by shards stream call reply)) ≡ false
  torn_or_end call reply true = end_by_spared call reply
  torn_or_end call reply false = refl

  end_spared : (call : NodeCall) (reply : NodeReply) → lacks reply ≡ false → lacks_end (end_of shards stream call reply) ≡ false
  end_spared call (node_reply.Refused fault) spared = spared
  end_spared call reply spared = torn_or_end call reply (is_asked call reply)

  none_yet : (calls : List Directed) → first_end shards stream calls [] ≡ None
  none_yet [] = refl
  none_yet (c ∷ calls) = refl

  or_none : (o : Option Delivery) → option_or o None ≡ o
  or_none None = refl
  or_none (Some x) = refl

  none_of : (a b : Option Delivery) → option_or a b ≡ None → (a ≡ None) × (b ≡ None)
  none_of None b e = (refl, e)
  none_of (Some x) b e = cc

  -- the reply to the next call brings the first end, if it brings one
  first_end-push : (calls : List Directed) (replies : List NodeReply) (d : Directed) (reply : NodeReply) → first_end shards stream calls replies ≡ None → slice_get calls (length replies) ≡ Some d →
      first_end shards stream calls (replies ++ reply ∷ []) ≡ end_of shards stream d.call reply
  first_end-push [] replies d reply none at = cc
  first_end-push (c ∷ calls) [] d reply none at =
      let same : c ≡ d = cc in
      ap (option_or (end_of shards stream c.call reply)) (none_yet calls) ∙ or_none (end_of shards stream c.call reply) ∙ ap (λ (e : Directed). end_of shards stream e.call reply) same
  first_end-push (c ∷ calls) (r ∷ replies) d reply none at =
      let parts = none_of (end_of shards stream c.call r) (first_end shards stream calls replies) none in
      ap (λ x. option_or x (first_end shards stream calls (replies ++ reply ∷ []))) parts.0 ∙ first_end-push calls replies d reply parts.1 at

  finished_spared : (replies : List NodeReply) → is_out_of_memory (reply_of_delivery (finished_delivery replies)) ≡ false
  finished_spared [] = refl
  finished_spared (node_reply.Pulled entry ∷ replies) = refl
  finished_spared (reply ∷ replies) = refl

  call_spared : (ending : Option Delivery) (o : Option Directed) (last : Delivery) → lacks_end ending ≡ false → is_out_of_memory (reply_of_delivery last) ≡ false → lacks_next (unless_end ending (call_or o last)) ≡ false
  call_spared (Some ending) o last spared finished = spared
  call_spared None (Some c) last spared finished = refl
  call_spared None None last spared finished = finished

  goes_on : (ending : Option Delivery) (o : Option Directed) (last : Delivery) (d : Directed) → unless_end ending (call_or o last) ≡ Call d → (ending ≡ None) × (o ≡ Some d)
  goes_on None None last d e = cc
  goes_on None (Some c) last d e = (refl, let same : c ≡ d = cc in ap Some same)
  goes_on (Some x) o last d e = cc

  after_spared : (replies : List NodeReply) (d : Directed) (reply : NodeReply) → next_after shards stream replies ≡ Call d → lacks reply ≡ false → lacks_next (next_after shards stream (replies ++ reply ∷ [])) ≡ false
  after_spared [] d reply e spared =
      let calls = carrier.stream_calls shards stream (reply ∷ []) in
      call_spared (first_end shards stream calls (reply ∷ [])) (slice_get calls 1) (finished_delivery (reply ∷ [])) (first_spared reply spared) (finished_spared (reply ∷ []))
    where
      first_spared : (reply : NodeReply) → lacks reply ≡ false → lacks_end (first_end shards stream (carrier.stream_calls shards stream (reply ∷ [])) (reply ∷ [])) ≡ false
      first_spared (node_reply.Pulled entry) spared =
          ap lacks_end (first_end-push (carrier.stream_calls shards stream (node_reply.Pulled entry ∷ [])) [] (carrier.pull stream) (node_reply.Pulled entry) refl refl) ∙ end_spared (Pull stream.to_dc) (node_reply.Pulled entry) refl
      first_spared reply spared = ap lacks_end (first_end-push (carrier.pull stream ∷ []) [] (carrier.pull stream) reply refl refl) ∙ end_spared (Pull stream.to_dc) reply spared
  after_spared (node_reply.Pulled entry ∷ rest) d reply e spared =
      let replies = node_reply.Pulled entry ∷ rest in
      let calls = carrier.stream_calls shards stream replies in
      let parts = goes_on (first_end shards stream calls replies) (slice_get calls (length replies)) (finished_delivery replies) d e in
      call_spared (first_end shards stream calls (replies ++ reply ∷ [])) (slice_get calls (length (replies ++ reply ∷ []))) (finished_delivery (replies ++ reply ∷ []))
      (ap lacks_end (first_end-push calls replies d reply parts.0 parts.1) ∙ end_spared d.call reply spared) refl
  after_spared (r ∷ rest) d reply e spared =
      let parts = goes_on (first_end shards stream (carrier.pull stream ∷ []) (r ∷ rest)) (slice_get (carrier.pull stream ∷ []) (length (r ∷ rest))) (finished_delivery (r ∷ rest)) d e in
      absurd (let never : None ≡ Some d = parts.1 in cc)

  -- a carrier whose call is answered otherwise doesn't end so
  pub carrier_spared : (log : List LogStep) (d : Directed) (moment : ℕ) (reply : NodeReply) → carrier.carrier_next shards stream log ≡ Call d → lacks reply ≡ false →
      lacks_next (carrier.carrier_next shards stream (log ++ record { moment = moment; outcome = Replied reply } ∷ [])) ≡ false
  carrier_spared log d moment reply e spared =
      ap (λ rs. lacks_next (next_after shards stream rs)) (filter_map-append (λ (s : LogStep). reply_in s.outcome) log (record { moment = moment; outcome = Replied reply } ∷ []))
      ∙ after_spared (replies_of log) d reply e spared
