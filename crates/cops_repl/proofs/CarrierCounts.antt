-- How many node replies a carrier has had: one for each near pair, and three more.
use Rattle.std.proofs.Common.{◌≡◌, ℕ, ◌+◌, ◌≤◌, ◌<◌, List, [], ◌∷◌, map, length, refl, arith, length-append}
use Rattle.std.specs.Prelude.{Option, Some, None, slice_get}
use Rattle.std.proofs.lemmas.List.{length-map}
use Rattle.cops_types.proofs.Elements.{slice_get-within}
use Rattle.cops_model.specs.declared.calls.NodeReply.{NodeReply}
use Rattle.cops_model.specs.declared.calls.NodeReply.TheVariants.{Pulled}
use Rattle.cops_model.specs.Log.{LogStep, Directed, Next, Call, Restart, Ended, call_or}
use Rattle.cops_model.specs.declared.deliveries.Delivery.{Delivery}
use Rattle.cops_model.specs.declared.deliveries.Progress.TheVariants.{Working}
use Rattle.cops_repl.specs.Bounds.{IsDeliveryBounded, near_in}
use Rattle.cops_model.specs.Carrier.{Stream, ack_call, carrier_next, check, commit_call, finished_delivery, first_end, progress_of, stream_calls, unless_end}
use Rattle.cops_repl.proofs.CarrierCalls.{carrier_replies, carrier-next, delivery}

calls-few : (shards : ℕ) (stream : Stream) (rs : List NodeReply) → length (stream_calls shards stream rs) ≤ length (near_in rs) + 3
calls-few shards stream [] = omega arith
calls-few shards stream (Pulled entry ∷ rs) =
    let checks : length (map (check shards stream) entry.near) ≡ length entry.near = length-map entry.near (check shards stream) in
    let all : length (delivery shards stream entry) ≡ length (map (check shards stream) entry.near) + 2 = length-append (map (check shards stream) entry.near) (commit_call stream entry ∷ ack_call stream entry ∷ []) in
    omega arith
calls-few shards stream (r ∷ rs) = omega arith

-- a call leaves room for its reply
pub call-within : (shards : ℕ) (stream : Stream) (log : List LogStep) (directed : Directed) → carrier_next shards stream log ≡ Call directed → length (carrier_replies log) < length (near_in (carrier_replies log)) + 3
call-within shards stream log directed e =
    let is = carrier-next shards stream log directed e in
    let within = slice_get-within (stream_calls shards stream (carrier_replies log)) (length (carrier_replies log)) directed is.place in
    let few = calls-few shards stream (carrier_replies log) in
    omega arith

-- a carrier never restarts
pub never-restarts : (ends : Option Delivery) (found : Option Directed) (last : Delivery) → unless_end ends (call_or found last) ≡ Restart → ⊥
never-restarts (Some ending) found last e = cc
never-restarts None (Some call) last e = cc
never-restarts None None last e = cc

pub is_bounded : (shards : ℕ) (stream : Stream) (log : List LogStep) → IsDeliveryBounded shards stream log
is_bounded shards stream log = by_next (carrier_next shards stream log) refl
  where
    by_next : (n : Next Delivery) → carrier_next shards stream log ≡ n → progress_of n ≡ Working → length (carrier_replies log) ≤ length (near_in (carrier_replies log)) + 3
    by_next (Call directed) is working = let within = call-within shards stream log directed is in omega arith
    by_next Restart is working =
        let rs = carrier_replies log in
        absurd (never-restarts (first_end shards stream (stream_calls shards stream rs) rs) (slice_get (stream_calls shards stream rs) (length rs)) (finished_delivery rs) is)
    by_next (Ended ending) is working = cc
