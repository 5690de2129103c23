-- How many replies a carrier gets before its answer.
use Rattle.std.proofs.Common.{◌≡◌, ℕ, ◌+◌, ◌≤◌, false, List, [], ◌∷◌, map, length, refl, arith}
use Rattle.std.specs.Prelude.{Option, Some, None, slice_get}
use Rattle.std.proofs.lemmas.List.{length-append, length-map}
use Rattle.std.proofs.lemmas.Option.{slice_get_within}
use Rattle.cops_types.specs.declared.pairs.Pair.{Pair}
use Rattle.cops_model.specs.declared.calls.NodeReply.{NodeReply}
use Rattle.cops_model.specs.declared.calls.NodeReply.TheVariants.{Pulled}
use Rattle.cops_model.specs.Log.{Directed, LogStep, call_or, replies_of}
use Rattle.cops_model.specs.declared.deliveries.Delivery.{Delivery}
use Rattle.cops_model.specs.Carrier.{Stream, ack_call, carrier_next, check, commit_call, finished_delivery, first_end, has_answer, near_pairs, stream_calls, unless_end}

-- a carrier without an answer has a call left
unanswered : (ending : Option Delivery) (call : Option Directed) (answer : Delivery) → has_answer (unless_end ending (call_or call answer)) ≡ false → (d : Directed) × (call ≡ Some d)
unanswered (Some ending) call answer none = cc
unanswered None (Some d) answer none = (d, refl)
unanswered None None answer none = cc

calls_count : (shards : ℕ) (stream : Stream) (replies : List NodeReply) → length (stream_calls shards stream replies) ≤ near_pairs replies + 3
calls_count shards stream (Pulled entry ∷ replies) =
    let last = commit_call stream entry ∷ ack_call stream entry ∷ [] in
    omega (arith, length-append (map (check shards stream) entry.near) last, length-map {A = Pair} {B = Directed} entry.near (check shards stream))
calls_count shards stream [] = omega arith
calls_count shards stream (reply ∷ replies) = omega arith

pub few_replies : (shards : ℕ) (stream : Stream) (log : List LogStep) → has_answer (carrier_next shards stream log) ≡ false → length (replies_of log) ≤ near_pairs (replies_of log) + 2
few_replies shards stream log none =
    let replies = replies_of log in
    let calls = stream_calls shards stream replies in
    let left = unanswered (first_end shards stream calls replies) (slice_get calls (length replies)) (finished_delivery replies) none in
    omega (arith, slice_get_within calls (length replies) left.0 left.1, calls_count shards stream replies)
