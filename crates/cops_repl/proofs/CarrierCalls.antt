-- What a carrier calls carrier_next, from the replies so far.
use Rattle.std.proofs.Common.{◌≡◌, ℕ, List, [], ◌∷◌, ◌++◌, map, inl, inr, refl, sym, ◌∙◌, ap, subst}
use Rattle.std.specs.Prelude.{Option, Some, None, filter_map, length, slice_get}
use Rattle.std.specs.List.{AllByRecursion, cons_option}
use Rattle.cops_types.specs.declared.pairs.Pair.{Pair}
use Rattle.cops_types.specs.declared.records.EntryParts.{EntryParts as Entry}
use Rattle.cops_model.specs.declared.calls.NodeReply.{NodeReply}
use Rattle.cops_model.specs.declared.calls.NodeReply.TheVariants.{Pulled}
use Rattle.cops_model.specs.Log.{LogStep, Outcome, Late, Replied, call_or, reply_in, Directed, Call}
use Rattle.cops_model.specs.declared.deliveries.Delivery.{Delivery}
use Rattle.cops_model.specs.Carrier.{Stream, ack_call, carrier_next, check, commit_call, finished_delivery, first_end, pull, stream_calls, unless_end}
use Rattle.cops_types.proofs.Elements.{Among, Among-cases, map-Among, slice_get-Among}

abbrev pub carrier_replies : List LogStep → List NodeReply
carrier_replies log = filter_map (λ s. reply_in s.outcome) log

-- the carrier_next call is the carrier_next one of those to be made, and no reply so far ended the carrier
pub record NextOf (shards : ℕ) (stream : Stream) (log : List LogStep) (directed : Directed) : Type 0 where
  pub place : slice_get (stream_calls shards stream (carrier_replies log)) (length (carrier_replies log)) ≡ Some directed
  pub no_end : first_end shards stream (stream_calls shards stream (carrier_replies log)) (carrier_replies log) ≡ None

pub carrier-next : (shards : ℕ) (stream : Stream) (log : List LogStep) (directed : Directed) → carrier_next shards stream log ≡ Call directed → NextOf shards stream log directed
carrier-next shards stream log directed e =
    chosen (first_end shards stream (stream_calls shards stream (carrier_replies log)) (carrier_replies log)) (slice_get (stream_calls shards stream (carrier_replies log)) (length (carrier_replies log))) refl refl e
  where
    chosen : (ends : Option Delivery) (found : Option Directed) → first_end shards stream (stream_calls shards stream (carrier_replies log)) (carrier_replies log) ≡ ends →
        slice_get (stream_calls shards stream (carrier_replies log)) (length (carrier_replies log)) ≡ found → unless_end ends (call_or found (finished_delivery (carrier_replies log))) ≡ Call directed → NextOf shards stream log directed
    chosen (Some ending) found ends is e = cc
    chosen None None ends is e = cc
    chosen None (Some call) ends is e = let same : call ≡ directed = cc in record { place = is ∙ ap Some same; no_end = ends }

-- what a carrier may call: the pull, and with an entry its checks, its commit_call and its acknowledgement
pub data IsCallOf (shards : ℕ) (stream : Stream) (replies : List NodeReply) (directed : Directed) : Type 0 where
  IsPull : directed ≡ pull stream → IsCallOf shards stream replies directed
  IsCheck : (e : Entry) (near : Pair) → Among (Pulled e) replies → Among near e.near → directed ≡ check shards stream near → IsCallOf shards stream replies directed
  IsCommit : (e : Entry) → Among (Pulled e) replies → directed ≡ commit_call stream e → IsCallOf shards stream replies directed
  IsAck : (e : Entry) → Among (Pulled e) replies → directed ≡ ack_call stream e → IsCallOf shards stream replies directed

pull_only : (shards : ℕ) (stream : Stream) (replies : List NodeReply) (directed : Directed) → Among directed (pull stream ∷ []) → IsCallOf shards stream replies directed
pull_only shards stream replies directed (inl is) = IsPull (sym is)
pull_only shards stream replies directed (inr never) = absurd never

-- the calls for one entry
abbrev pub delivery : ℕ → Stream → Entry → List Directed
delivery shards stream entry = map (check shards stream) entry.near ++ commit_call stream entry ∷ ack_call stream entry ∷ []

with_entry : (shards : ℕ) (stream : Stream) (e : Entry) (replies : List NodeReply) (directed : Directed) → Among directed (pull stream ∷ delivery shards stream e) → IsCallOf shards stream (Pulled e ∷ replies) directed
with_entry shards stream e replies directed (inl is) = IsPull (sym is)
with_entry shards stream e replies directed (inr there) =
    elim (Among-cases directed (map (check shards stream) e.near) (commit_call stream e ∷ ack_call stream e ∷ []) there) [
      | inl checks ↦ let found = map-Among (check shards stream) directed e.near checks in IsCheck e found.0 (inl refl) found.1 (sym found.2)
      | inr last ↦ elim last [
        | inl is ↦ IsCommit e (inl refl) (sym is)
        | inr more ↦ elim more [ inl is ↦ IsAck e (inl refl) (sym is) | inr never ↦ absurd never ]
      ]
    ]

call_is : (shards : ℕ) (stream : Stream) (replies : List NodeReply) (directed : Directed) → Among directed (stream_calls shards stream replies) → IsCallOf shards stream replies directed
call_is shards stream [] directed there = pull_only shards stream [] directed there
call_is shards stream (Pulled e ∷ replies) directed there = with_entry shards stream e replies directed there
call_is shards stream (reply ∷ replies) directed there = pull_only shards stream (reply ∷ replies) directed there

pub carrier_call : (shards : ℕ) (stream : Stream) (log : List LogStep) (directed : Directed) → carrier_next shards stream log ≡ Call directed → IsCallOf shards stream (carrier_replies log) directed
carrier_call shards stream log directed e =
    let is = carrier-next shards stream log directed e in
    call_is shards stream (carrier_replies log) directed (slice_get-Among (stream_calls shards stream (carrier_replies log)) (length (carrier_replies log)) directed is.place)

-- what holds of each outcome holds of each reply
pub each_reply : (P : Outcome → Type 0) (log : List LogStep) → AllByRecursion (λ s. P s.outcome) log → (r : NodeReply) → Among r (carrier_replies log) → P (Replied r)
each_reply P [] each r there = absurd there
each_reply P (s ∷ log) each r there = by_outcome s.outcome each.0 there (each_reply P log each.1 r)
  where
    by_outcome : (o : Outcome) → P o → Among r (cons_option (reply_in o) (carrier_replies log)) → (Among r (carrier_replies log) → P (Replied r)) → P (Replied r)
    by_outcome Late p there later = later there
    by_outcome (Replied q) p there later = elim there [ inl same ↦ subst (λ x. P (Replied x)) same p | inr more ↦ later more ]
