-- A carrier whose call a node refuses ends with the node's fault.
use Rattle.std.proofs.Common.{◌≡◌, ℕ, List, [], ◌∷◌, ◌++◌, length, refl, ◌∙◌, ap}
use Rattle.std.specs.Prelude.{Option, Some, None, slice_get}
use Rattle.std.specs.Option.{option_or}
use Rattle.std.proofs.lemmas.List.Elements.{filter_map-append}
use Rattle.cops_types.specs.declared.faults.Fault.{Fault}
use Rattle.cops_model.specs.declared.calls.NodeReply.{NodeReply}
use Rattle.cops_model.specs.declared.calls.NodeReply.TheVariants as node_reply
use Rattle.cops_model.specs.declared.calls.NodeReply.TheVariants.{Pulled}
use Rattle.cops_model.specs.Log.{LogStep, Replied, call_or, replies_of, reply_in, Directed, Call, Ended}
use Rattle.cops_model.specs.declared.deliveries.Delivery.{Delivery}
use Rattle.cops_model.specs.declared.deliveries.Delivery.TheVariants as delivery
use Rattle.cops_model.specs.Carrier.{Stream, end_of, first_end, next_after, unless_end}
use Rattle.cops_model.specs.Carrier as carrier

calls_same : (shards : ℕ) (stream : Stream) (replies : List NodeReply) (fault : Fault) → carrier.stream_calls shards stream (replies ++ node_reply.Refused fault ∷ []) ≡ carrier.stream_calls shards stream replies
calls_same shards stream [] fault = refl
calls_same shards stream (Pulled entry ∷ replies) fault = refl
calls_same shards stream (reply ∷ replies) fault = refl

goes_on : (ending : Option Delivery) (o : Option Directed) (last : Delivery) (d : Directed) → unless_end ending (call_or o last) ≡ Call d → (ending ≡ None) × (o ≡ Some d)
goes_on None None last d e = cc
goes_on None (Some c) last d e = (refl, let same : c ≡ d = cc in ap Some same)
goes_on (Some x) o last d e = cc

none_of : (a b : Option Delivery) → option_or a b ≡ None → (a ≡ None) × (b ≡ None)
none_of None b e = (refl, e)
none_of (Some x) b e = cc

first_end-push : (shards : ℕ) (stream : Stream) (calls : List Directed) (replies : List NodeReply) (d : Directed) (fault : Fault) → first_end shards stream calls replies ≡ None → slice_get calls (length replies) ≡ Some d →
    first_end shards stream calls (replies ++ node_reply.Refused fault ∷ []) ≡ Some (delivery.Refused fault)
first_end-push shards stream [] replies d fault none at = cc
first_end-push shards stream (c ∷ calls) [] d fault none at = refl
first_end-push shards stream (c ∷ calls) (r ∷ replies) d fault none at =
    let parts = none_of (end_of shards stream c.call r) (first_end shards stream calls replies) none in
    ap (λ x. option_or x (first_end shards stream calls (replies ++ node_reply.Refused fault ∷ []))) parts.0 ∙ first_end-push shards stream calls replies d fault parts.1 at

-- a carrier whose call is refused has ended
pub carrier_refused : (shards : ℕ) (stream : Stream) (log : List LogStep) (d : Directed) (moment : ℕ) (fault : Fault) → carrier.carrier_next shards stream log ≡ Call d →
    carrier.carrier_next shards stream (log ++ record { moment = moment; outcome = Replied (node_reply.Refused fault) } ∷ []) ≡ Ended (delivery.Refused fault)
carrier_refused shards stream log d moment fault e =
    let replies = replies_of log in
    let calls = carrier.stream_calls shards stream replies in
    let parts = goes_on (first_end shards stream calls replies) (slice_get calls (length replies)) (carrier.finished_delivery replies) d e in
    let more = replies ++ node_reply.Refused fault ∷ [] in
    ap (next_after shards stream) (filter_map-append (λ (s : LogStep). reply_in s.outcome) log (record { moment = moment; outcome = Replied (node_reply.Refused fault) } ∷ []))
    ∙ ap (λ cs. unless_end (first_end shards stream cs more) (call_or (slice_get cs (length more)) (carrier.finished_delivery more))) (calls_same shards stream replies fault)
    ∙ ap (λ x. unless_end x (call_or (slice_get calls (length more)) (carrier.finished_delivery more))) (first_end-push shards stream calls replies d fault parts.0 parts.1)
